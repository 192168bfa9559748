pub mod Overlay
pub mod Scenes
pub mod Allowed
pub mod Laws
