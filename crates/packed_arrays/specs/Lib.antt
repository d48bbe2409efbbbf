pub mod Flags
pub mod Mapped
pub mod Filled
pub mod Laying
