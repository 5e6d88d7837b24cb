use Rattle.std.proofs.Common.{◌≡◌, ◌+◌, ◌-◌, ◌*◌, ℕ, min, length, take, drop, sym, ap, ◌∙◌, arith}
use Rattle.std.proofs.lemmas.List.{length-drop, take_min}
use Rattle.node_reads.proofs.dealing.block_tallies.Goals as goal

pub returns : goal.returns
returns c =
    let rest = drop (c.args.b * 16384) c.args.tallies.now in
    let count : c.min-count.result ≡ min 16384 (length rest) = c.min-count.ensures ∙ ap (min 16384) (sym (length-drop (c.args.b * 16384) c.args.tallies.now)) in
    let same : c.args.b * 16384 + c.min-count.result - c.args.b * 16384 ≡ c.min-count.result = omega arith in
    ap (λ (k : ℕ). take k rest) (same ∙ count) ∙ take_min 16384 rest
