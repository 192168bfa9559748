pub mod Lists
pub mod Neighbour
pub mod Allowed
pub mod Laws
