-- Lemmas for the proofs of the crates above.
pub mod Bettering
pub mod Choices
pub mod Digits
