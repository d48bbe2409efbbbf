pub mod Walk
pub mod Slot
pub mod Sets
pub mod Spread
pub mod Stored
pub mod Whole
pub mod Asked
pub mod Bound
