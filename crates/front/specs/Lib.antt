pub mod Place
pub mod Front
pub mod Runs
pub mod Seen
pub mod Worked
