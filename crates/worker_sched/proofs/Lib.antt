pub mod Turned
pub mod Opened
pub mod Seats
pub mod First
pub mod Ended
