pub mod LineReading
pub mod Loading
pub mod LoadLaws
