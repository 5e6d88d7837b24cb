-- What private functions alone speak of. No public contract rests on it.
pub mod Opened
pub mod Saved
pub mod Works
pub mod Rooms
pub mod FlatWithin
pub mod Refused
pub mod PairFiles
pub mod Replaying
pub mod GraphCounted
pub mod Certifying
pub mod Shown
