pub mod Asking
pub mod Closings
pub mod Laws
pub mod SnapshotTables
pub mod Untabled
