pub mod Answer
pub mod Reach
pub mod Filling
pub mod Best
pub mod Fill
pub mod Build
pub mod Sharp
