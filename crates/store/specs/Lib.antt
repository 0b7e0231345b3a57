pub mod Overlay
pub mod Meaning
