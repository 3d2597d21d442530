pub mod Fields
pub mod PlainValues
pub mod Items
pub mod Things
pub mod UsualParts
pub mod FormRows
pub mod RowsForms
pub mod RowsBursts
