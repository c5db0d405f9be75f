pub mod Sizes
pub mod Made
pub mod Lowering
pub mod Drawing
pub mod Growing
pub mod Maker
pub mod Laws
