pub mod FirstByte
pub mod NextLine
pub mod TokenSteps
