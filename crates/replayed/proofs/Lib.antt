pub mod Fed
pub mod Card
