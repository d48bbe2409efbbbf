pub mod Probing
pub mod Searching
pub mod Laid
pub mod Entries
pub mod Held
pub mod Finds
