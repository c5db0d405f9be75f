mod Sums
mod Moves
mod Drawing
