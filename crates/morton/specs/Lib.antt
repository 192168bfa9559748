pub mod Code
pub mod Power
pub mod Spreads
pub mod Block
pub mod Laws
