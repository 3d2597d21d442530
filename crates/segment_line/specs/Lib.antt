pub mod Opening
pub mod Fits
pub mod SegmentLine
pub mod Spelled
