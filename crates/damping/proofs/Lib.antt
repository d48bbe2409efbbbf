pub mod Behind
pub mod Ticks
pub mod Frame
