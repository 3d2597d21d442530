pub mod Element
pub mod DecodeFault
pub mod WireMap
pub mod MapFault
