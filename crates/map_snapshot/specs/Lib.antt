pub mod Laws
pub mod Maps
pub mod Rules
