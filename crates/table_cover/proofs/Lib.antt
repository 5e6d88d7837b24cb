pub mod RowLaws
pub mod CoverLaws
pub mod WordLaws
