-- The contract of `least` cites sel_grammar and sel_forest alone, and that of `table` NodeCosts: the others are words of the functions below them.
pub mod CostBounds
pub mod Rows
pub mod Kinds
pub mod Offers
pub mod BestRows
pub mod Bettering
pub mod Writing
pub mod NodeCosts
