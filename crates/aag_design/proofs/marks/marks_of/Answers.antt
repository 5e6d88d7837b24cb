use Rattle.std.proofs.Common.{◌∙◌, ◌++◌, ℕ, List, false, length, map, replicate, ap}
use Rattle.aag_text.specs.declared.aig.Latch.{Latch}
use Rattle.aag_text.specs.Aig.{plain_aig}
use Rattle.aag_design.specs.Draft.{starts_free}
use Rattle.aag_design.proofs.MarkLists.{marks_join}
use Rattle.aag_design.proofs.marks.marks_of.Goals as goal

pub returns : goal.returns
returns c =
    marks_join (plain_aig c.args.a.now) c.new-marks.result.items c.push.new.self.items c.push_latches.new.marks.items c.push_tables.new.marks.items c.push_tables-2.new.marks.items c.push_tables-3.new.marks.items
    c.new-marks.ensures.items
    c.in_ok-push.ensures.items
    (c.in_ok-push_latches.ensures ∙ ap (λ (ls : List Latch). c.push.new.self.items ++ map (λ (l : Latch). starts_free l.start) ls) c.deref.ensures.value)
    (c.in_ok-push_tables.ensures ∙ ap (λ (n : ℕ). c.push_latches.new.marks.items ++ replicate n false) (ap length c.as_slice.ensures.value))
    (c.in_ok-push_tables-2.ensures ∙ ap (λ (n : ℕ). c.push_tables.new.marks.items ++ replicate n false) (ap length c.as_slice-2.ensures.value))
    (c.in_ok-push_tables-3.ensures ∙ ap (λ (n : ℕ). c.push_tables-2.new.marks.items ++ replicate n false) (ap length c.as_slice-3.ensures.value))
