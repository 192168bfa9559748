pub mod Rules
pub mod Answer
pub mod Judged
pub mod Read
pub mod Laws
