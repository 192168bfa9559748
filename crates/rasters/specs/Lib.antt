pub mod Raster
pub mod Listing
pub mod Blocks
pub mod Laws
