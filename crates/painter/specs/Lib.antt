pub mod Operation
pub mod Known
pub mod Scene
pub mod Tiled
pub mod Painting
pub mod View
pub mod Windowed
pub mod Laws
