pub mod Prefixes
pub mod Pairs
pub mod Choosing
pub mod Mask
pub mod Exact
