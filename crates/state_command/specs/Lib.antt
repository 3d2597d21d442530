pub mod States
pub mod Kind
pub mod Script
pub mod History
pub mod Journal
