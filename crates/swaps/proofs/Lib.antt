pub mod Fourth
pub mod Any
