pub mod Tests
pub mod Leaf
pub mod Run
pub mod Colour
pub mod Check
pub mod Signed
