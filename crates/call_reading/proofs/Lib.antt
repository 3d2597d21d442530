pub mod RowsForms
pub mod Seen
pub mod Quick
pub mod Fields
pub mod Made
