pub mod Answer
pub mod Stated
