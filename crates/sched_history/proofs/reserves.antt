-- The Reserves of a history, which MAPs meet, and the header of the next MAP.
pub mod Aging
pub mod Lapsing
pub mod Lapsed
pub mod ReservesAfter
pub mod HeaderAfter
pub mod GoodReserves
pub mod Places
pub mod Idle
pub mod Standing
pub mod MetPlaces
pub mod Rooms
pub mod Counting
pub mod Waited
pub mod Sums
pub mod Losing
pub mod MetAfter
