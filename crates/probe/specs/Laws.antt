pub mod Search
pub mod Corners
pub mod Leaf
pub mod Biased
pub mod About
