pub use Rattle.minislots.specs.Config
pub use Rattle.minislots.specs.Units
pub use Rattle.map_codec.specs.WireMap
pub mod Amount
pub mod FlowSpec
pub mod Header
pub mod Reply
pub mod Sids
