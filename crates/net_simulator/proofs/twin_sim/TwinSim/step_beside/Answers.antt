use Rattle.std.proofs.Common.{ℕ, List, Bool, Option, ◌≡◌, ◌++◌, ◌∙◌, subst, sym, ap, map, take, drop, length, arith}
use Rattle.std.specs.Prelude.{option_map}
use Rattle.std.proofs.lemmas.List.{take_at}
use Rattle.table_cover.specs.Words.{bits_of}
use Rattle.flat_net.specs.Net.{Net}
use Rattle.flat_net.specs.Nodes.{number_of}
use Rattle.net_simulator.specs.Cycle.{IsCycle, forced_in}
use Rattle.net_simulator.specs.Settled.{last_of}
use Rattle.net_simulator.specs.Twins.{TwinRun, AreTablesMet, AreWordsBut}
use Rattle.net_simulator.proofs.TwinLaws.{of_words, for_words, last_bits}
use Rattle.net_simulator.proofs.twin_sim.TwinSim.step_beside.Goals as goal

pub returns-clause-cycle : goal.returns-clause-cycle
returns-clause-cycle c = λ j l.
    let n : Net = c.self.inside.original.now.net in
    let original : c.args.original.now.net ≡ n = c.requires.original ∙ ap (λ (s : TwinRun). s.original) (sym c.self.view_is) in
    let met : AreTablesMet n (bits_of j c.words.result.now) =
    subst (λ (m : Net). AreTablesMet m (bits_of j c.words.result.now)) original
    (of_words c.args.original.now.last (λ (own : List ℕ). AreTablesMet c.args.original.now.net (bits_of j own)) c.words.result.now (c.requires.met j l) c.words.ensures) in
    let cycle = c.cycle_beside.ensures.cycle j n l c.self.invariant.twins met in
    let before : c.deref.result.now ≡ c.self.inside.words.items = c.deref.ensures.value ∙ ap (λ v. v.items) c.swap.ensures.y_after in
    let last : last_of c.self.inside.started (bits_of j c.deref.result.now) ≡ option_map (bits_of j) c.args.self.now.last =
    ap (λ (ws : List ℕ). last_of c.self.inside.started (bits_of j ws)) before ∙ (last_bits (bits_of j) c.self.inside.started c.self.inside.words.items ∙ ap (λ (s : TwinRun). option_map (bits_of j) s.last) c.self.view_is) in
    let wrote = take_at c.cycle_beside.new.now (drop (length c.cycle_beside.new.now) c.swap.new.x.items) c.swap.new.x.len (omega (arith, c.cycle_beside.ensures.long, c.deref_mut.ensures.len)) in
    subst (λ (m : Net). IsCycle m (option_map (bits_of j) c.args.self.now.last) (bits_of j c.args.ins.now) (forced_in j c.args.forced.now) (bits_of j (take c.swap.new.x.len (c.cycle_beside.new.now ++ drop (length c.cycle_beside.new.now) c.swap.new.x.items))))
    (ap (λ (s : TwinRun). s.net) c.self.view_is)
    (subst (λ (o : Option (List Bool)). IsCycle c.self.inside.layout.net.now.net o (bits_of j c.args.ins.now) (forced_in j c.args.forced.now) (bits_of j (take c.swap.new.x.len (c.cycle_beside.new.now ++ drop (length c.cycle_beside.new.now) c.swap.new.x.items)))) last
    (subst (λ (ws : List ℕ). IsCycle c.self.inside.layout.net.now.net (last_of c.self.inside.started (bits_of j c.deref.result.now)) (bits_of j c.args.ins.now) (forced_in j c.args.forced.now) (bits_of j ws)) (sym wrote) cycle))

pub returns-clause-alike : goal.returns-clause-alike
returns-clause-alike c =
    let wrote = take_at c.cycle_beside.new.now (drop (length c.cycle_beside.new.now) c.swap.new.x.items) c.swap.new.x.len (omega (arith, c.cycle_beside.ensures.long, c.deref_mut.ensures.len)) in
    let origins : List ℕ = map number_of c.self.inside.layout.twins.origins.items in
    for_words c.args.original.now.last (λ (own : List ℕ). AreTablesMet c.args.original.now.net (bits_of 0 own))
    (λ (own : List ℕ). AreWordsBut c.cycle_beside.new.changes.differing.items origins own (take c.swap.new.x.len (c.cycle_beside.new.now ++ drop (length c.cycle_beside.new.now) c.swap.new.x.items)))
    c.words.result.now (c.requires.met 0 (omega arith)) c.words.ensures
    (subst (λ (ws : List ℕ). AreWordsBut c.cycle_beside.new.changes.differing.items origins c.words.result.now ws) (sym wrote) (c.cycle_beside.ensures.alike c.self.invariant.twins.readers))
