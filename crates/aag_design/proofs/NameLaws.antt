-- A letter and a number are a name.
pub use Rattle.tmr_base.proofs.NameLaws.{numbered_name}
