pub mod Drawn
pub mod Turning
pub mod FrameLists
pub mod Rows
pub mod Meetings
pub mod Parts
pub mod Taken
pub mod Under
