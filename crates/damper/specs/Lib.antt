pub mod Face
pub mod Sharp
pub mod Behind
