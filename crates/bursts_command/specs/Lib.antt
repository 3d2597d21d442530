pub mod Channel
pub mod Numbers
pub mod Text
pub mod Table
pub mod Json
pub mod Command
