-- Steps of situations of one state.
pub mod Granted
pub mod Refusals
pub mod Demands
pub mod Answers
pub mod FlowsAfter
pub mod Step
