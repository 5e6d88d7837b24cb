-- What private functions alone speak of. No public contract rests on it.
pub mod Bodies
pub mod ByPlace
pub mod Found
pub mod LoopFaults
pub mod TableReads
pub mod Wired
