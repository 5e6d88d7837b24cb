pub mod ContentsLemmas
pub mod FailedCallLemmas
pub mod MemoryLemmas
pub mod PieceLemmas
pub mod PlanLemmas
pub mod ReadingLemmas
pub mod WritingLemmas
