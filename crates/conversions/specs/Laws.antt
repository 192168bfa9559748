pub mod Ways
pub mod Cells
pub mod Promises
