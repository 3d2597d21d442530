pub mod HistoryTold
mod FaultFound
mod Failing
mod Fronts
mod FirstLines
mod Openings
mod Behind
mod Talks
mod Lives
mod Files
mod ReadJournals
