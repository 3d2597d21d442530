-- The next frame, the progress of receivers and the acknowledge time of a history.
pub mod TimeAfter
pub mod FirstStarts
pub mod NextFrames
pub mod AckTimes
