use Rattle.std.proofs.Common.{◌≡◌, ℕ, ◌<◌, Bool, List, length, map, get_or, sym, ◌∙◌, ap, subst, arith}
use Rattle.std.specs.List.{range_with_len}
use Rattle.graph.specs.Rows.{row}
use Rattle.tmr_base.specs.Parts.{PlainParts}
use Rattle.flat_net.specs.Net.{Net}
use Rattle.feedback_cut.proofs.InnerLaws.{inner_long}
use Rattle.recovery_depth.proofs.UncutLaws.{shape, few_places, uncut_long}
use Rattle.feedback_cut.specs.Inner.{inner_rows}
use Rattle.recovery_depth.specs.Private.Vertices.{IsOrdered}
use Rattle.recovery_depth.specs.Private.Uncut.{uncut_rows}
use Rattle.recovery_depth.specs.Depths.{is_register_at, IsDepth}
use Rattle.recovery_depth.specs.Private.Settled.{AreSettled}
use Rattle.recovery_depth.specs.Extra.{AreExtra}
use Rattle.recovery_depth.proofs.ExtraLaws.{are_extra, none_extra}
use Rattle.recovery_depth.proofs.extra.bound_over.Goals as goal

pub bounded_labels-requires-clause-vertices : goal.bounded_labels-requires-clause-vertices
bounded_labels-requires-clause-vertices c =
    c.requires.cut.nodes ∙ sym (ap length c.requires.graph ∙ inner_long c.args.n.now.net c.args.parts.now)

pub bounded_labels-requires-clause-places : goal.bounded_labels-requires-clause-places
bounded_labels-requires-clause-places c = λ y l.
    shape c.args.n.now.net c.args.parts.now c.args.cut.now c.nodes_of-count.ensures.design.valid c.requires.cut y ∙ sym (ap (λ g. length (row g y)) c.requires.graph)

pub bounded_labels-requires-clause-few : goal.bounded_labels-requires-clause-few
bounded_labels-requires-clause-few c = λ y l.
    let within : y < length c.args.n.now.net.nodes = omega (arith, ap length c.requires.graph, inner_long c.args.n.now.net c.args.parts.now, l) in
    subst (λ g. length (row g y) < 4294967296) (sym c.requires.graph) (few_places c.args.n.now.net c.args.parts.now c.nodes_of-count.ensures.design.valid y within)

pub bounded_labels-requires-clause-count : goal.bounded_labels-requires-clause-count
bounded_labels-requires-clause-count c =
    c.nodes_of-count.ensures.count ∙ sym (ap length c.requires.graph ∙ inner_long c.args.n.now.net c.args.parts.now)

pub bounded_labels-requires-clause-ordered : goal.bounded_labels-requires-clause-ordered
bounded_labels-requires-clause-ordered c = subst (λ g. IsOrdered (uncut_rows g c.args.cut.now) c.args.order.now) (sym c.requires.graph) c.requires.order

nodes_long : (n : Net) (parts : PlainParts) (cut : List (List Bool)) (rows : List (List ℕ)) → rows ≡ inner_rows n parts → length (uncut_rows rows cut) ≡ length n.nodes
nodes_long n parts cut rows same = uncut_long rows cut ∙ (ap length same ∙ inner_long n parts)

pub greatest_labels-requires : goal.greatest_labels-requires
greatest_labels-requires c = ap length c.deref-2.ensures.value ∙ (c.in_ok-found.ensures.long ∙ (nodes_long c.args.n.now.net c.args.parts.now c.args.cut.now c.args.graph.now c.requires.graph ∙ sym c.requires.parts))

pub returns-clause-marks : goal.returns-clause-marks
returns-clause-marks c = c.in_ok-found.ensures.marks_long ∙ nodes_long c.args.n.now.net c.args.parts.now c.args.cut.now c.args.graph.now c.requires.graph

pub returns-clause-extra : goal.returns-clause-extra
returns-clause-extra c =
    let bits : c.deref.result.now ≡ map (is_register_at c.args.n.now.net) (range_with_len 0 (length c.args.n.now.net.nodes)) = c.deref.ensures.value ∙ c.in_ok-is_register.ensures in
    let order : IsOrdered (uncut_rows (inner_rows c.args.n.now.net c.args.parts.now) c.args.cut.now) c.args.order.now = c.requires.order in
    let settled : AreSettled (uncut_rows (inner_rows c.args.n.now.net c.args.parts.now) c.args.cut.now) c.deref.result.now c.in_ok-found.found.marks.items c.in_ok-found.found.labels.items c.args.most = subst (λ g. AreSettled (uncut_rows g c.args.cut.now) c.deref.result.now c.in_ok-found.found.marks.items c.in_ok-found.found.labels.items c.args.most) c.requires.graph c.in_ok-found.ensures in
    let depths : (p : ℕ) → p < c.args.parts.now.count → IsDepth c.args.parts.now c.in_ok-found.found.labels.items (length c.args.n.now.net.nodes) p (get_or c.in_ok-depths.depths.items p 0) = λ p l. subst (λ (k : ℕ). IsDepth c.args.parts.now c.in_ok-found.found.labels.items k p (get_or c.in_ok-depths.depths.items p 0)) c.requires.parts (subst (λ ls. IsDepth c.args.parts.now ls (length c.args.parts.now.of) p (get_or c.in_ok-depths.depths.items p 0)) c.deref-2.ensures.value (c.in_ok-depths.ensures.each p l)) in
    subst (λ t. AreExtra c.args.n.now.net c.args.parts.now c.args.cut.now c.args.most (record { marks = c.in_ok-found.found.marks.items; table = t })) (sym c.new-table.ensures)
    (are_extra c.args.n.now.net c.args.parts.now c.args.cut.now c.nodes_of-count.ensures.design.valid c.requires.cut c.deref.result.now bits c.in_ok-found.found.marks.items c.in_ok-found.found.labels.items c.args.order.now c.args.most c.requires.most order settled c.in_ok-depths.depths.items c.in_ok-depths.ensures.long depths)

pub returns-clause-none : goal.returns-clause-none
returns-clause-none c =
    let bits : c.deref.result.now ≡ map (is_register_at c.args.n.now.net) (range_with_len 0 (length c.args.n.now.net.nodes)) = c.deref.ensures.value ∙ c.in_ok-is_register.ensures in
    let order : IsOrdered (uncut_rows (inner_rows c.args.n.now.net c.args.parts.now) c.args.cut.now) c.args.order.now = c.requires.order in
    let settled : AreSettled (uncut_rows (inner_rows c.args.n.now.net c.args.parts.now) c.args.cut.now) c.deref.result.now c.in_ok-found.found.marks.items c.in_ok-found.found.labels.items c.args.most = subst (λ g. AreSettled (uncut_rows g c.args.cut.now) c.deref.result.now c.in_ok-found.found.marks.items c.in_ok-found.found.labels.items c.args.most) c.requires.graph c.in_ok-found.ensures in
    none_extra c.args.n.now.net c.args.parts.now c.args.cut.now c.nodes_of-count.ensures.design.valid c.requires.cut c.deref.result.now bits c.in_ok-found.found.marks.items c.in_ok-found.found.labels.items c.args.order.now c.args.most c.requires.most order settled
