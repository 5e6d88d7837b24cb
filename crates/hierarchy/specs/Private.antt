-- Definitions that private functions and their proofs alone cite: no public call speaks of them.
pub mod Alone
pub mod Bindings
pub mod Walk
pub mod Naming
pub mod Stages
pub mod Countable
