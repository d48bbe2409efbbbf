pub mod Face
pub mod Copies
pub mod Made
pub mod Local
