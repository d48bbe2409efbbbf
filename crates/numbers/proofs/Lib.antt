pub mod Number
pub mod Back
