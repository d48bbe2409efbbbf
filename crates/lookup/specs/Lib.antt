pub mod Walk
pub mod Ended
pub mod Path
pub mod Tied
pub mod Level
pub mod Longest
pub mod Ranges
