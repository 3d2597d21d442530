-- The live flows and placements after one call more, by its kind.
pub mod Refused
pub mod FlowCalls
pub mod Admissions
pub mod MapGrants
pub mod BuildCall
pub mod ReplaceCall
pub mod RestCalls
pub mod ChangeCall
pub mod Quiet
pub mod Waiting
