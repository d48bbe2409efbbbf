pub mod Face
pub mod Carried
pub mod Sharp
