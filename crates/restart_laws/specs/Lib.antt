pub mod Carried
pub mod Restart
