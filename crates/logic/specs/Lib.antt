pub mod Every
pub mod Cases
pub mod Bools
pub mod Reflects
pub mod Ors
pub mod Nonzero
