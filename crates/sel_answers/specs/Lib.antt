pub mod Output
pub mod Summing
pub mod Reported
pub mod Laws
