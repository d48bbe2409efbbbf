pub mod Found
pub mod Winning
pub mod Views
pub mod Hung
pub mod WordSet
pub mod Gather
pub mod Counted
