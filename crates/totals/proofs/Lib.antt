pub mod Counted
pub mod Raise
pub mod Empty
pub mod Marks
pub mod Bound
pub mod Most
