pub mod Texts
pub mod Code
pub mod Crews
pub mod Lines
pub mod Ends
pub mod Reporting
pub mod Runs
pub mod Parts
