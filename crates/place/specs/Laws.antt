pub mod Scaling
pub mod Integers
pub mod Readings
pub mod Meaning
pub mod Exactly
