pub mod Answers
pub mod Keys
pub mod Meanings
pub mod Parked
pub mod Sets
pub mod TableChanges
pub mod Tables
