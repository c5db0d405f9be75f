pub mod Sums
pub mod Tickets
pub mod Rule
