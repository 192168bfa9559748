pub mod Below
pub mod Names
