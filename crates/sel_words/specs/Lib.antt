pub mod Split
pub mod Settings
pub mod Registers
pub mod Words
pub mod Names
pub mod CommandLine
pub mod Found
