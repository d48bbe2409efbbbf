pub mod Below
pub mod Held
