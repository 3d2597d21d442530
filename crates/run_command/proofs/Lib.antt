pub mod Running
pub mod RowsStops
