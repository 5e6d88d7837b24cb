use Rattle.std.proofs.Common.{◌≡◌, ◌+◌, ℕ, suc, List, [], ◌∷◌, ◌++◌, length, sym, ap, ◌∙◌, arith, append-nil}
use Rattle.std.specs.Prelude.{slice_index}
use Rattle.std.proofs.lemmas.List.{append_assoc}
use Rattle.node_reads.specs.Private.Logged.{row_of, rows_of, start_in}
use Rattle.node_reads.proofs.LoggedLaws.{start_none, start_more, row_within, row_cut, rows_more}
use Rattle.node_reads.proofs.notes.cut_rows.Goals as goal

pub loop-x-init : goal.loop-x-init
loop-x-init c = record { rows = sym (append-nil c.args.rows.now); from = sym (start_none c.args.log.now) }

pub part-requires-clause-order : goal.part-requires-clause-order
part-requires-clause-order c = omega (arith, c.requires.ends.each c.loop-x.x c.loop-x-test.true, c.loop-x.invariant.from, start_more c.args.log.now c.loop-x.x)

pub part-requires-clause-end : goal.part-requires-clause-end
part-requires-clause-end c =
    omega (arith, c.requires.ends.each c.loop-x.x c.loop-x-test.true, start_more c.args.log.now c.loop-x.x, row_within (length c.args.ends.now) c.args.log.now c.loop-x.x c.requires.rows c.loop-x-test.true, c.requires.laid.long)

pub loop-x-preserved : goal.loop-x-preserved
loop-x-preserved c =
    let more : suc c.loop-x.x ≡ c.loop-x.x + 1 = omega arith in
    let row : c.part.result.now ≡ row_of c.args.log.now c.loop-x.x = c.part.ensures ∙ row_cut (length c.args.ends.now) c.args.log.now c.args.flat.now c.loop-x.x c.loop-x.from (slice_index c.args.ends.now c.loop-x.x) c.requires.rows c.requires.laid c.loop-x-test.true c.loop-x.invariant.from (c.requires.ends.each c.loop-x.x c.loop-x-test.true) in
    record {
      rows = c.in_ok-push.ensures
          ∙ (ap (λ (r : List ℕ). c.loop-x.rows ++ r ∷ []) row
          ∙ (ap (λ (rs : List (List ℕ)). rs ++ row_of c.args.log.now c.loop-x.x ∷ []) c.loop-x.invariant.rows
          ∙ (append_assoc c.args.rows.now (rows_of c.loop-x.x c.args.log.now) (row_of c.args.log.now c.loop-x.x ∷ [])
          ∙ ap (λ (rs : List (List ℕ)). c.args.rows.now ++ rs) (sym (rows_more c.args.log.now c.loop-x.x)))));
      from = c.requires.ends.each c.loop-x.x c.loop-x-test.true ∙ ap (λ (k : ℕ). start_in c.args.log.now k) more;
    }
