pub mod Lives
pub mod Scans
pub mod Assignments
pub mod Laws
pub mod Living
pub mod Beginning
pub mod Freeing
pub mod Scanning
