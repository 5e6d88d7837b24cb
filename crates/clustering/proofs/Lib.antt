pub mod SettleLaws
pub mod RowLaws
