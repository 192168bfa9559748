pub mod Walk
pub mod FirstWrong
