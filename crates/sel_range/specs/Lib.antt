pub mod Classes
pub mod Laws
pub mod Limits
pub mod SortedCuts
