pub mod Leaf
pub mod WellFormed
pub mod IsMap
pub mod Map
pub mod Check
pub mod Judged
pub mod Laws
