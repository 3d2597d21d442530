pub mod ReadAgain
pub mod LawfulHistory
pub mod JournalAgain
pub mod CutJournal
pub mod ResumedJournal
pub mod Agree
pub mod Judged
pub mod Waiting
