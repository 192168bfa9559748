pub mod Shortest
pub mod Demand
pub mod Part
pub mod Coded
pub mod Outcome
pub mod Written
pub mod Walk
pub mod Laws
