pub mod Line
pub mod Meaning
pub mod Page
pub mod Framed
