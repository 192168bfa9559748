pub mod Lines
pub mod Written
pub mod Demands
pub mod Cases
pub mod Laws
