pub mod Face
pub mod Stated
