pub mod Search
pub mod Seen
pub mod Biased
pub mod Asked
pub mod Laws
