pub mod Range
pub mod Form
pub mod Report
pub mod Journal
pub mod Series
pub mod Parts
pub mod HistorySeries
pub mod JournalSeries
