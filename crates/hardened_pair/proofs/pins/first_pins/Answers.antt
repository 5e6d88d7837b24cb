use Rattle.std.proofs.Common.{◌++◌, [], ◌∷◌, ℕ, List, sym, ap, ◌∙◌, arith}
use Rattle.std.specs.Prelude.{slice_index}
use Rattle.std.proofs.lemmas.List.FromFn.{map-range_with_len_more}
use Rattle.tmr_base.specs.declared.copies.CopyNo.TheVariants.{First}
use Rattle.feedback_cut.specs.Inner.{node_pins}
use Rattle.hardened_pair.specs.Private.Layouts.{net_of, partitions, voted, first_pins_to}
use Rattle.triplicate.specs.Construction.{pin_net}
use Rattle.hardened_pair.proofs.pins.first_pins.Goals as goal

pub loop-j-preserved : goal.loop-j-preserved
loop-j-preserved c =
    let f : ℕ → ℕ = λ j. pin_net (net_of c.args.layout.now) (partitions c.args.layout.now) (voted c.args.layout.now) c.args.y First j (slice_index (node_pins (net_of c.args.layout.now) c.args.y) j) in
    c.in_ok-push.ensures.items ∙ (ap (λ (xs : List ℕ). xs ++ c.first_pin.result ∷ []) c.loop-j.invariant
    ∙ (ap (λ v. first_pins_to c.args.layout.now c.args.y c.loop-j.j ++ v ∷ []) c.first_pin.ensures
    ∙ sym (map-range_with_len_more f 0 c.loop-j.j c.loop-j.j (omega arith))))
