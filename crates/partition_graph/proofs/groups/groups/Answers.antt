use Rattle.std.proofs.Common.{◌≡◌, ◌+◌, ◌<◌, ◌&&◌, ℕ, List, length, map, slice_index, sym, ap, ◌∙◌, arith}
use Rattle.std.specs.Prelude.{◌==◌}
use Rattle.std.specs.List.{range_with_len}
use Rattle.std.proofs.lemmas.List.{get_or_default}
use Rattle.std.proofs.lemmas.List.FromFn.{length-map-range_with_len}
use Rattle.partitioner.specs.Below.{count_below}
use Rattle.partition_graph.specs.Groups.{path_of, path_count}
use Rattle.partition_graph.specs.Private.Leading.{lead_at, has_lead, node_path}
use Rattle.partition_graph.proofs.CountLaws.{told_count}
use Rattle.partition_graph.proofs.GroupLaws.{agree_count, agreed_within, group_is, groups_more}
use Rattle.partition_graph.proofs.groups.groups.Goals as goal

pub tally-requires-clause-bits : goal.tally-requires-clause-bits
tally-requires-clause-bits c =
    ap length (c.deref-3.ensures.value ∙ c.in_ok-bits.ensures) ∙ (length-map-range_with_len _ 0 (length c.args.c.now.part) ∙ ap length (sym (c.deref-2.ensures.value ∙ c.in_ok-of.ensures)))

pub group-requires-clause-node : goal.group-requires-clause-node
group-requires-clause-node c =
    let n = c.args.n.now.net in
    let k = c.args.c.now in
    let h : c.loop-p.p < length c.args.c.now.depth = omega (arith, c.loop-p-test.true, c.parts-count.ensures.count) in
    let was : c.index.result.now ≡ lead_at c.in_ok-leads.leads.items c.loop-p.p = c.index.ensures ∙ get_or_default c.in_ok-leads.leads.items c.loop-p.p c.index.result.now (record { node = 0; by = 0 }) (omega (arith, h, c.in_ok-leads.ensures.long)) in
    let part : c.deref-2.result.now ≡ c.args.c.now.part = c.deref-2.ensures.value ∙ c.in_ok-of.ensures in
    let bits : c.deref-3.result.now ≡ map (has_lead c.args.n.now.net c.args.c.now c.in_ok-leads.leads.items) (range_with_len 0 (length c.deref-2.result.now)) =
    c.deref-3.ensures.value ∙ (c.in_ok-bits.ensures ∙ (ap (λ ls. map (has_lead c.args.n.now.net c.args.c.now ls) (range_with_len 0 (length c.args.c.now.part))) c.deref.ensures.value
    ∙ ap (λ (xs : List ℕ). map (has_lead c.args.n.now.net c.args.c.now c.in_ok-leads.leads.items) (range_with_len 0 (length xs))) (sym part))) in
    let agreed : c.index-in-loop-p.result.now ≡ path_count c.args.n.now.net c.args.c.now c.loop-p.p (node_path c.args.n.now.net c.args.c.now (lead_at c.in_ok-leads.leads.items c.loop-p.p).node) =
    c.index-in-loop-p.ensures ∙ (get_or_default c.in_ok-agree.agree.items c.loop-p.p c.index-in-loop-p.result.now 0 (omega (arith, c.loop-p-test.true, c.in_ok-agree.ensures.long))
    ∙ (c.in_ok-agree.ensures.counts c.loop-p.p c.loop-p-test.true ∙ (told_count c.deref-2.result.now c.deref-3.result.now (has_lead c.args.n.now.net c.args.c.now c.in_ok-leads.leads.items) c.loop-p.p bits
    ∙ (ap (λ (xs : List ℕ). count_below (length xs) (λ x. slice_index xs x == c.loop-p.p && has_lead c.args.n.now.net c.args.c.now c.in_ok-leads.leads.items x)) part ∙ agree_count c.args.n.now.net c.args.c.now c.in_ok-leads.leads.items c.loop-p.p)))) in
    λ more. let e = agreed_within c.args.n.now.net c.args.c.now c.in_ok-leads.leads.items c.loop-p.p _ c.index-in-loop-p.result.now c.in_ok-leads.ensures h agreed more in omega (arith, e, ap (λ l. l.node) was, c.requires.nodes)

pub loop-p-preserved : goal.loop-p-preserved
loop-p-preserved c =
    let h : c.loop-p.p < length c.args.c.now.depth = omega (arith, c.loop-p-test.true, c.parts-count.ensures.count) in
    let was : c.index.result.now ≡ lead_at c.in_ok-leads.leads.items c.loop-p.p = c.index.ensures ∙ get_or_default c.in_ok-leads.leads.items c.loop-p.p c.index.result.now (record { node = 0; by = 0 }) (omega (arith, h, c.in_ok-leads.ensures.long)) in
    let part : c.deref-2.result.now ≡ c.args.c.now.part = c.deref-2.ensures.value ∙ c.in_ok-of.ensures in
    let bits : c.deref-3.result.now ≡ map (has_lead c.args.n.now.net c.args.c.now c.in_ok-leads.leads.items) (range_with_len 0 (length c.deref-2.result.now)) =
    c.deref-3.ensures.value ∙ (c.in_ok-bits.ensures ∙ (ap (λ ls. map (has_lead c.args.n.now.net c.args.c.now ls) (range_with_len 0 (length c.args.c.now.part))) c.deref.ensures.value
    ∙ ap (λ (xs : List ℕ). map (has_lead c.args.n.now.net c.args.c.now c.in_ok-leads.leads.items) (range_with_len 0 (length xs))) (sym part))) in
    let agreed : c.index-in-loop-p.result.now ≡ path_count c.args.n.now.net c.args.c.now c.loop-p.p (node_path c.args.n.now.net c.args.c.now (lead_at c.in_ok-leads.leads.items c.loop-p.p).node) =
    c.index-in-loop-p.ensures ∙ (get_or_default c.in_ok-agree.agree.items c.loop-p.p c.index-in-loop-p.result.now 0 (omega (arith, c.loop-p-test.true, c.in_ok-agree.ensures.long))
    ∙ (c.in_ok-agree.ensures.counts c.loop-p.p c.loop-p-test.true ∙ (told_count c.deref-2.result.now c.deref-3.result.now (has_lead c.args.n.now.net c.args.c.now c.in_ok-leads.leads.items) c.loop-p.p bits
    ∙ (ap (λ (xs : List ℕ). count_below (length xs) (λ x. slice_index xs x == c.loop-p.p && has_lead c.args.n.now.net c.args.c.now c.in_ok-leads.leads.items x)) part ∙ agree_count c.args.n.now.net c.args.c.now c.in_ok-leads.leads.items c.loop-p.p)))) in
    let lead : path_of c.args.n.now.net (c.input_count-inputs.result + c.index.result.now.node) ≡ node_path c.args.n.now.net c.args.c.now (lead_at c.in_ok-leads.leads.items c.loop-p.p).node =
    ap (λ (m : ℕ). path_of c.args.n.now.net (m + c.index.result.now.node)) (c.input_count-inputs.ensures.count ∙ sym c.requires.inputs) ∙ ap (λ l. node_path c.args.n.now.net c.args.c.now l.node) was in
    let more = groups_more c.args.n.now.net c.args.c.now c.loop-p.groups.items c.push.new.self.items c.group.result c.loop-p.p c.in_ok-push.ensures.items c.loop-p.invariant.long c.loop-p.invariant.each
    (group_is c.args.n.now.net c.args.c.now c.in_ok-leads.leads.items c.loop-p.p (slice_index c.args.nodes.now c.loop-p.p) c.index-in-loop-p.result.now c.group.result.now c.in_ok-leads.ensures h (c.requires.counts.each c.loop-p.p h) agreed
    (λ h. c.group.ensures.most h ∙ lead) c.group.ensures.none) in
    record { long = more.0; each = more.1 }
