pub mod Turns
pub mod Taken
pub mod Encoded
pub mod Replies
pub mod Round
