pub mod Table
pub mod Settling
pub mod Blocks
pub mod Tiles
pub mod Views
