pub mod Lines
pub mod Rv64i
pub mod Aarch64
pub mod X8664
pub mod TargetText
