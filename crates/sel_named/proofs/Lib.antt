pub mod Cuts
pub mod NamePutting
pub mod Outcomes
pub mod BestCovers
