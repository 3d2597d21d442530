pub mod Events
pub mod Portions
pub mod Desk
pub mod Build
pub mod Calls
pub mod Handing
pub mod Closed
