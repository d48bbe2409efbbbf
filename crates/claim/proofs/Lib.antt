pub mod Proved
pub mod Ninth
