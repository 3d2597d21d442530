-- What is live after a history: the life of each SID, and the live flows and placements, found among all SIDs.
pub mod LivesAfter
pub mod Finding
pub mod FlowsAfter
pub mod Left
pub mod LiveFlows
