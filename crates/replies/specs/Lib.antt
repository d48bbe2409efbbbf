pub mod Said
pub mod Put
