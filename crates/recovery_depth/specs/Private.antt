pub mod Vertices
pub mod Copied
pub mod LastRegisters
pub mod Ranks
pub mod Reaching
pub mod Settled
pub mod ChainEnds
pub mod Uncut
