pub mod Refusals
pub mod Replies
pub mod Recorded
pub mod Usual
pub mod Key
pub mod Spelled
