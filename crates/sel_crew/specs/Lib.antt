pub mod Answers
pub mod Batches
pub mod Crews
pub mod Gathering
pub mod Options
pub mod Reports
pub mod Seats
pub mod Tasks
