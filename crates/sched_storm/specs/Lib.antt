pub mod Made
pub mod Work
pub mod Jobs
pub mod Storm
pub mod StormLines
pub mod StormRun
