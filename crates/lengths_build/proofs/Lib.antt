pub mod Words
pub mod Entry
pub mod Making
pub mod Whole
pub mod Sharp
