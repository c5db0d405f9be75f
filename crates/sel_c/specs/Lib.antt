pub mod Answers
pub mod Codes
pub mod Held
pub mod Openings
pub mod Operators
pub mod Rooms
pub mod Rules
pub mod Usable
