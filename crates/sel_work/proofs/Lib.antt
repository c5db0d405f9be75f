pub mod OneAnswer
pub mod BestAnswers
pub mod Kept
pub mod SomeAnswer
