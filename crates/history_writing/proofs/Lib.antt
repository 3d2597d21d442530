mod BurstTokens
mod ConfigTokens
mod FlowTokens
pub mod JsonNumbers
pub mod JsonTokens
pub mod RowsBursts
pub mod RowsHistory
pub mod RowsJournal
mod RowsLimits
