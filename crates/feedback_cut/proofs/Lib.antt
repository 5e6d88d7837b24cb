pub mod InnerLaws
pub mod CutLaws
pub mod GatherLaws
pub mod GroupLaws
pub mod LoopLaws
pub mod ComponentLaws
pub mod TableLoops
pub mod SelfLaws
