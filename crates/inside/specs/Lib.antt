pub mod Inside
pub mod Seen
pub mod Held
pub mod Below
pub mod Changed
pub mod Worked
