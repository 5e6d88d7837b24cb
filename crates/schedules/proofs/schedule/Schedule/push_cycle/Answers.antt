use Rattle.std.proofs.Common.{◌≡◌, ◌<◌, ◌∙◌, ◌++◌, ◌∷◌, [], List, Bool, length, ap, sym, subst, arith}
use Rattle.table_cover.proofs.RowLaws.{length-cut_rows}
use Rattle.table_cover.specs.Rows.{cut_rows}
use Rattle.schedules.specs.Schedule.{PlainSchedule, IsPlainSchedule}
use Rattle.schedules.specs.View.{schedule_of}
use Rattle.schedules.proofs.Kept.{cycle_more, rows_more, long_more}
use Rattle.schedules.proofs.schedule.Schedule.push_cycle.Goals as goal

pub overflow_add-self : goal.overflow_add-self
overflow_add-self c =
    let few : length (cut_rows c.self.inside.inputs c.self.inside.cycles c.self.inside.bits.items) < 1048576 = subst (λ (s : PlainSchedule). length s.rows < 1048576) (sym c.self.view_is) c.requires.room in
    let count = length-cut_rows c.self.inside.inputs c.self.inside.cycles c.self.inside.bits.items in
    omega (arith, few, count)

pub invariant_of-self : goal.invariant_of-self
invariant_of-self c =
    let s : PlainSchedule = schedule_of c.self.inside in
    let few : length s.rows < 1048576 = subst (λ (s : PlainSchedule). length s.rows < 1048576) (sym c.self.view_is) c.requires.room in
    let wide : length c.args.ins.now ≡ c.self.inside.inputs = subst (λ (s : PlainSchedule). length c.args.ins.now ≡ s.inputs) (sym c.self.view_is) c.requires.width in
    let items : c.extend_from_slice.new.self.items ≡ c.self.inside.bits.items ++ c.args.ins.now = c.in-Ok.ensures.items in
    let more = rows_more c.self.inside.inputs c.self.inside.cycles c.self.inside.bits.items c.extend_from_slice.new.self.items c.args.ins.now c.self.invariant.long wide items in
    record {
      long = long_more c.self.inside.inputs c.self.inside.cycles c.self.inside.bits.items c.extend_from_slice.new.self.items c.args.ins.now c.self.invariant.long wide items;
      plain = subst (λ (rows : List (List Bool)). IsPlainSchedule (record s { rows = rows })) (sym more) (cycle_more s c.args.ins.now c.self.invariant.plain wide few);
    }

pub returns-in-Ok-clause-ok : goal.returns-in-Ok-clause-ok
returns-in-Ok-clause-ok c =
    let s : PlainSchedule = schedule_of c.self.inside in
    let wide : length c.args.ins.now ≡ c.self.inside.inputs = subst (λ (s : PlainSchedule). length c.args.ins.now ≡ s.inputs) (sym c.self.view_is) c.requires.width in
    let items : c.extend_from_slice.new.self.items ≡ c.self.inside.bits.items ++ c.args.ins.now = c.in-Ok.ensures.items in
    let more = rows_more c.self.inside.inputs c.self.inside.cycles c.self.inside.bits.items c.extend_from_slice.new.self.items c.args.ins.now c.self.invariant.long wide items in
    ap (λ (rows : List (List Bool)). let t : PlainSchedule = record s { rows = rows } in t) more ∙ ap (λ (s : PlainSchedule). let t : PlainSchedule = record s { rows = s.rows ++ c.args.ins.now ∷ [] } in t) c.self.view_is
