pub mod RowsLines
pub mod Fitting
pub mod Digits
pub mod Numerals
