use Rattle.std.proofs.Common.{◌≡◌, ℕ, ◌<◌, length, map, get_or, sym, ◌∙◌, subst, arith}
use Rattle.std.specs.List.{range_with_len}
use Rattle.feedback_cut.specs.Inner.{inner_rows}
use Rattle.recovery_depth.specs.Private.Vertices.{IsReachIn}
use Rattle.recovery_depth.specs.Private.Uncut.{uncut_rows}
use Rattle.recovery_depth.specs.Depths.{is_register_at, IsDepth}
use Rattle.recovery_depth.proofs.UncutLaws.{label_reach}
use Rattle.recovery_depth.proofs.depth_table.depths.Goals as goal

pub reaches-requires-clause-count : goal.reaches-requires-clause-count
reaches-requires-clause-count c = c.nodes_of-count.ensures.count ∙ sym c.in_ok-rest.ensures.nodes

pub returns : goal.returns
returns c =
    let valid = c.nodes_of-count.ensures.design.valid in
    let bits : c.as_slice.result.now ≡ map (is_register_at c.args.n.now.net) (range_with_len 0 (length c.args.n.now.net.nodes)) = c.as_slice.ensures.value ∙ c.in_ok-is_register.ensures in
    let each : (x : ℕ) → x < length c.args.n.now.net.nodes → IsReachIn (uncut_rows (inner_rows c.args.n.now.net c.args.parts.now) c.args.cut.now) c.as_slice.result.now x (get_or c.in_ok-labels.labels.items x 0) =
    λ x l. subst (λ g. IsReachIn g c.as_slice.result.now x (get_or c.in_ok-labels.labels.items x 0)) c.in_ok-rest.ensures.rows (c.in_ok-labels.ensures.each x (omega (arith, c.nodes_of-count.ensures.count, l))) in
    record {
      nodes = c.in_ok-labels.ensures.long ∙ c.nodes_of-count.ensures.count;
      parts_long = c.in_ok-depths.ensures.long;
      labels = λ x l. label_reach c.args.n.now.net c.args.parts.now c.args.cut.now valid c.requires.cut c.as_slice.result.now bits x (get_or c.in_ok-labels.labels.items x 0) (each x l);
      depths = λ p l. subst (λ (k : ℕ). IsDepth c.args.parts.now c.in_ok-labels.labels.items k p (get_or c.in_ok-depths.depths.items p 0)) c.requires.parts (subst (λ ls. IsDepth c.args.parts.now ls (length c.args.parts.now.of) p (get_or c.in_ok-depths.depths.items p 0)) c.as_slice-2.ensures.value (c.in_ok-depths.ensures.each p l));
    }
