pub mod Weights
pub mod BestKids
pub mod GoalLaws
pub mod Pushing
pub mod Tops
pub mod Reducing
pub mod Answer
