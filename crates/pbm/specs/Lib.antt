pub mod Bytes
pub mod Picture
pub mod Reading
pub mod Steps
pub mod Answers
pub mod Demands
pub mod Laws
