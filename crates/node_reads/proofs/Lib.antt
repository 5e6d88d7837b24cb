pub mod Numbers
pub mod NotingLaws
pub mod PinLaws
pub mod SourceLaws
pub mod WideRows
pub mod LoggedLaws
pub mod DealtLaws
