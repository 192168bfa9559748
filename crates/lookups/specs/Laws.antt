pub mod Ways
pub mod Away
pub mod Exactly
