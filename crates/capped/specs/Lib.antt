pub mod Capping
pub mod CappingLaw
