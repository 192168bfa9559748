pub mod Checks
pub mod Scenes
pub mod Windows
pub mod Overlays
pub mod Promises
