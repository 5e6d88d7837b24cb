use Rattle.std.proofs.Common.{◌≡◌, ◌+◌, ◌++◌, ◌∷◌, [], ℕ, List, sym, ap, ◌∙◌, refl, arith}
use Rattle.std.specs.List.{range_with_len}
use Rattle.dwc.proofs.Lists.{pushed, range_more}
use Rattle.dwc.proofs.comparing.numbers_from.Goals as goal

pub loop-k-preserved : goal.loop-k-preserved
loop-k-preserved c =
    pushed c.loop-k.numbers.items c.push.new.self.items _ (c.args.first + c.loop-k.k) c.in_ok-push.ensures.items refl
    ∙ (ap (λ (xs : List ℕ). xs ++ (c.args.first + c.loop-k.k) ∷ []) c.loop-k.invariant ∙ sym (range_more c.args.first c.loop-k.k))

pub returns : goal.returns
returns c = let e : c.loop-k.k ≡ c.args.count = omega arith in c.loop-k.invariant ∙ ap (range_with_len c.args.first) e
