pub mod Tests
pub mod Counting
pub mod Written
