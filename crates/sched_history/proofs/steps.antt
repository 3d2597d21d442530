-- Steps of a legal history: what each has passed, what it changes, and what holds after every one.
pub mod Steps
pub mod Passed
pub mod LegalHistories
pub mod EntryChanges
pub mod EachFlow
pub mod LegalBounds
pub mod Bounded
