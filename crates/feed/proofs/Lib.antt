pub mod Answers
pub mod Loop
