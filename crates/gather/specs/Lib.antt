pub mod Gather
pub mod Found
pub mod Winning
pub mod Views
pub mod WordSet
pub mod Counted
pub mod Hung
