pub mod Won
pub mod Lowest
pub mod Updates
pub mod Counted
