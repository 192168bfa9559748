pub mod Pixel
pub mod Places
pub mod Blocks
pub mod RoundTrip
