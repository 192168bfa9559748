pub mod Placing
pub mod Allowed
pub mod Cases
pub mod Laws
