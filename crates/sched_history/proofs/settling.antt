-- The changes of the UCD count in a history, and which MAPs settle by them.
pub mod Heads
pub mod SettlingAfter
pub mod SettlesNext
pub mod LastAcks
