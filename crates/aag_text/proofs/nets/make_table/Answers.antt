use Rattle.std.proofs.Common.{arith, ◌∙◌, ℕ, subst}
use Rattle.aag_text.specs.Private.Gates.{Grows}
use Rattle.aag_text.proofs.Making.{made}
use Rattle.aag_text.proofs.Rows.{cover_rows, cover_takes}
use Rattle.aag_text.proofs.nets.make_table.Goals as goal

pub table_literal-requires-clause-room : goal.table_literal-requires-clause-room
table_literal-requires-clause-room c = let rows = cover_rows _ _ c.cover-cover.ensures.cover in omega (arith, rows, c.requires.room)

pub returns-clause-made : goal.returns-clause-made
returns-clause-made c =
    made c.args.n.now.net c.args.x.0 c.args.literals.now c.in_ok-own.own c.table_literal.new.gates c.cover-cover.result.now c.deref.result.now
    (omega (arith, c.requires.range, c.requires.long)) c.requires.table c.cover-cover.ensures.cover (c.deref.ensures.value ∙ c.in_ok-pins.ensures.pins) c.in_ok-own.ensures.value

pub returns-clause-grows : goal.returns-clause-grows
returns-clause-grows c = subst (λ (count : ℕ). Grows count c.args.gates.now c.table_literal.new.gates) (cover_rows _ _ c.cover-cover.ensures.cover) c.in_ok-own.ensures.grows

pub returns-clause-count : goal.returns-clause-count
returns-clause-count c = let takes = cover_takes _ _ c.cover-cover.ensures.cover in omega (arith, takes, c.in_ok-own.ensures.count)
