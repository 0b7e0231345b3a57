pub mod Fields
pub mod Head
pub mod Writing
