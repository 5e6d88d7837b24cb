pub mod Inner
pub mod Registers
pub mod Components
pub mod Cut
pub mod Private
