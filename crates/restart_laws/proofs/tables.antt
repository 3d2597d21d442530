-- Tables of placements that have one state.
pub mod Alike
pub mod Carried
