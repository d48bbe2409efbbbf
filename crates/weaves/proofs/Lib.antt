pub mod Steps
pub mod Joined
pub mod Enough
pub mod Fed
pub mod Example
