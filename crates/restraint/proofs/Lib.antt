pub mod Fed
pub mod Ended
pub mod Ticks
pub mod Alone
pub mod Installed
pub mod Through
