pub mod CostLimits
pub mod Goals
pub mod Labelled
