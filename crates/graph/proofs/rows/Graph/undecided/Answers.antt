use Rattle.std.proofs.Common.{◌≡◌, [], length, map, replicate, sym, ◌∙◌, ap, subst, arith}
use Rattle.graph.specs.Private.Packed.{span_in, emptied_from, room_in, ArePacked}
use Rattle.graph.proofs.EndLaws.{length-rows_from, emptied_packed, emptied_rows, emptied_room}
use Rattle.graph.proofs.rows.Graph.undecided.Goals as goal

pub new-requires : goal.new-requires
new-requires c =
    let spans : c.in_ok-spans.spans ≡ emptied_from 0 c.self.inside.ends = c.in_ok-spans.ensures in
    let long : length c.self.inside.reads.items ≡ length c.in_ok-bits.bits.items = (let e = c.len-2.ensures in let f = c.in_ok-bits.ensures.len in omega arith) in
    rw spans (subst (ArePacked 0 (emptied_from 0 c.self.inside.ends)) long (emptied_packed 0 c.self.inside.ends (length c.self.inside.reads.items) c.self.invariant))

pub returns-clause-rows : goal.returns-clause-rows
returns-clause-rows c =
    let spans : c.in_ok-spans.spans ≡ emptied_from 0 c.self.inside.ends = c.in_ok-spans.ensures in
    c.new.ensures.rows ∙ (ap (map (span_in c.in_ok-bits.bits.items)) spans
    ∙ (emptied_rows c.in_ok-bits.bits.items 0 c.self.inside.ends
    ∙ ap (λ k. replicate k []) (sym (length-rows_from 0 c.self.inside.ends c.self.inside.reads.items) ∙ ap length c.self.view_is)))

pub returns-clause-room : goal.returns-clause-room
returns-clause-room c =
    let spans : c.in_ok-spans.spans ≡ emptied_from 0 c.self.inside.ends = c.in_ok-spans.ensures in
    c.new.ensures.room ∙ (ap (map room_in) spans ∙ (emptied_room 0 c.self.inside.ends c.self.inside.reads.items c.self.invariant ∙ ap (map length) c.self.view_is))
