pub mod Text
pub mod Header
pub mod Picture
pub mod Exactly
