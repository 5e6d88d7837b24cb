use Rattle.std.proofs.Common.{◌+◌, ◌++◌, [], ◌∷◌, ℕ, List, map, take, get_or, sym, ap, ◌∙◌, arith}
use Rattle.std.proofs.lemmas.List.{take_all, take_more, map-append}
use Rattle.flat_net.specs.Nodes.{number_of}
use Rattle.hardened_pair.proofs.tripling.shift.Goals as goal

pub loop-pin-preserved : goal.loop-pin-preserved
loop-pin-preserved c =
    let f : ℕ → ℕ = λ p. p + c.number-behind.result in
    ap (map number_of) c.in_ok-push.ensures.items ∙ (map-append number_of c.loop-pin.room.items _
    ∙ (ap (λ (xs : List ℕ). xs ++ f (get_or c.args.pins.now c.loop-pin.pin-index 0) ∷ []) c.loop-pin.invariant
    ∙ (sym (map-append f (take c.loop-pin.pin-index c.args.pins.now) (get_or c.args.pins.now c.loop-pin.pin-index 0 ∷ []))
    ∙ ap (map f) (sym (take_more c.args.pins.now c.loop-pin.pin-index 0 c.loop-pin-test.true)))))

pub returns : goal.returns
returns c =
    c.loop-pin.invariant ∙ (ap (λ (xs : List ℕ). map (λ p. p + c.number-behind.result) xs) (take_all c.loop-pin.pin-index c.args.pins.now (omega arith)) ∙ ap (λ k. map (λ p. p + k) c.args.pins.now) c.number-behind.ensures)
