pub mod Starred
pub mod Cases
