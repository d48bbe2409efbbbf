pub mod Need
pub mod Worked
pub mod Sums
pub mod Listed
pub mod Answer
pub mod Laying
pub mod Sharp
