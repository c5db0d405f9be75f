pub mod Reductions
pub mod Steps
pub mod Running
pub mod Expanding
pub mod Values
pub mod Sheets
pub mod Printing
pub mod Pieces
