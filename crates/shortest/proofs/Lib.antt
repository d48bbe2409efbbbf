pub mod Given
pub mod Proved
pub mod Answered
pub mod Leaf
pub mod Found
pub mod Room
pub mod Worked
