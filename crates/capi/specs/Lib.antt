pub mod Code
pub mod Below
pub mod Demands
pub mod Laws
