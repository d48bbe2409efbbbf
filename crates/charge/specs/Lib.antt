pub mod Calls
pub mod Room
pub mod Search
pub mod Steps
pub mod Code
