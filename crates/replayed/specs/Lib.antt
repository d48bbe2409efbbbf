pub mod Taken
pub mod Shortened
pub mod Fed
pub mod Card
