-- The allocations of a frame: where they begin, how many there are, and what their grants keep.
pub mod PlanOffsets
pub mod Fronts
pub mod SoundPlans
