pub mod Verdict
pub mod VerdictJson
pub mod JournalAudit
