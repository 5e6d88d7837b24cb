use Rattle.std.proofs.Common.{ℕ, List, ◌≡◌, ◌∙◌, length, sym, ap, subst, arith}
use Rattle.std.proofs.lemmas.List.FromFn.{length-map-range_with_len}
use Rattle.flat_net.specs.Net.{net_count}
use Rattle.graph.specs.Readers.{AreReaders}
use Rattle.net_simulator.specs.Beside.{net_row, AreReadersOf}
use Rattle.net_simulator.proofs.TwinLaws.{readers_are}
use Rattle.net_simulator.proofs.twins.net_readers.Goals as goal

pub readers_of-requires : goal.readers_of-requires
readers_of-requires c =
    let h = c.args.h.now.net in
    let long : length c.in_ok-reads.reads ≡ net_count h = ap length c.in_ok-reads.ensures ∙ length-map-range_with_len (net_row h) 0 (net_count h) in
    omega (arith, long)

pub returns-clause-long : goal.returns-clause-long
returns-clause-long c =
    let h = c.args.h.now.net in
    ap length c.in_ok-packed.ensures ∙ (c.in_ok-readers.ensures.long ∙ (ap length c.in_ok-reads.ensures ∙ length-map-range_with_len (net_row h) 0 (net_count h)))

pub returns-clause-readers : goal.returns-clause-readers
returns-clause-readers c =
    let h = c.args.h.now.net in
    subst (λ (rs : List (List ℕ)). AreReadersOf h rs) (sym c.in_ok-packed.ensures)
    (readers_are h c.in_ok-readers.readers c.input_count.ensures.design.valid (subst (λ (rows : List (List ℕ)). AreReaders rows c.in_ok-readers.readers) c.in_ok-reads.ensures c.in_ok-readers.ensures))
