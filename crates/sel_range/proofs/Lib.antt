pub mod Counting
pub mod Deciding
pub mod Examples
pub mod Occurring
pub mod Sorting
