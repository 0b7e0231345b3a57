pub mod PerLine
pub mod PerLineLaw
