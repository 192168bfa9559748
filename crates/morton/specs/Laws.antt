pub mod Code
pub mod Cell
pub mod Spread
pub mod Square
pub mod Quarter
pub mod Power
pub mod Block
