pub mod Base
pub mod BaseMaps
pub mod Faults
pub mod RowsFaults
pub mod Insertion
pub mod Removal
