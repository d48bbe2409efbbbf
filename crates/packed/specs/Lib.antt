pub mod Over
pub mod Byte
pub mod Layout
pub mod Ended
pub mod Laid
pub mod Walked
