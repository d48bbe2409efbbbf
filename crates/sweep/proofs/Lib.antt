pub mod Steps
pub mod Seats
pub mod Looked
pub mod Kept
pub mod Records
pub mod Spreads
