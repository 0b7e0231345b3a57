pub mod Classes
pub mod Refusals
pub mod Limits
pub mod Bound
