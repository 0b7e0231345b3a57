pub mod Alternation
pub mod AlternationLaw
