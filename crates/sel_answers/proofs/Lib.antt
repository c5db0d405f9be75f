pub mod Answering
pub mod MoreSums
pub mod Naming
pub mod TableTexts
pub mod TreeLists
pub mod Digits
