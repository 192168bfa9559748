pub mod Store
pub mod Codes
pub mod Tiles
pub mod Listing
