pub mod Tile
pub mod Decoding
pub mod Listing
pub mod Laws
