pub mod Standing
pub mod Taking
pub mod Journal
pub mod Next
pub mod End
pub mod Unjudged
pub mod Judging
