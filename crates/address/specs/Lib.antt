pub mod Address
pub mod Parts
