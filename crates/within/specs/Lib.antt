pub mod Walk
pub mod Answer
pub mod Counted
pub mod Local
