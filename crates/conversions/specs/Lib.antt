pub mod Rasters
pub mod Allowed
pub mod Laws
