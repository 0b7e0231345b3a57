pub mod Timing
pub mod FourNumbers
pub mod FixedLaw
pub mod OwnCaps
