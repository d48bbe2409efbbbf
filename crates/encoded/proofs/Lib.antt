pub mod Taken
pub mod Encoded
pub mod Round
