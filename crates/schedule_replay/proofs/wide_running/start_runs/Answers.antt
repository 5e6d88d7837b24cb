use Rattle.std.proofs.Common.{◌<◌, ◌∙◌, ℕ, Bool, List, length, sym, ap, subst, arith}
use Rattle.std.proofs.lemmas.List.{length-map}
use Rattle.flat_net.specs.Nodes.{number_of}
use Rattle.schedule_replay.specs.Origins.{CopiesStandFor}
use Rattle.std.specs.Prelude.{All, option_map}
use Rattle.tmr_base.specs.declared.ids.NetId.{NetId}
use Rattle.table_cover.specs.Words.{bits_of}
use Rattle.flat_net.specs.Net.{net_count}
use Rattle.schedule_replay.specs.Starts.{forced_to}
use Rattle.schedule_replay.proofs.wide_running.start_runs.Goals as goal

pub returns-clause-ready : goal.returns-clause-ready
returns-clause-ready c = record {
  original = c.in_ok-original.ensures.net;
  hardened = c.in_ok-hardened.ensures.net;
  row = let e = c.in_ok-row.ensures in omega arith;
  spread = let e = c.in_ok-spread.ensures in omega arith;
  original_range = c.in_ok-original_starts.ensures.nets (net_count c.args.n.now.net) (subst (λ (fs : List (NetId × Bool)). All (λ f. f.0.0 < net_count c.args.n.now.net) fs) (sym c.deref.ensures.value) c.requires.original);
  hardened_range = c.in_ok-hardened_starts.ensures.nets (net_count c.args.h.now.net) (subst (λ (fs : List (NetId × Bool)). All (λ f. f.0.0 < net_count c.args.h.now.net) fs) (sym c.deref-2.ensures.value) c.requires.hardened);
  beside = record {
    original = c.in_ok-hardened.ensures.original;
    long = ap length c.in_ok-hardened.ensures.origins ∙ (length-map c.in_ok-origins.origins.items number_of ∙ c.in_ok-origins.ensures.long);
    copies = subst (λ (os : List ℕ). CopiesStandFor c.args.n.now.net c.args.c.now os) (sym c.in_ok-hardened.ensures.origins) c.in_ok-origins.ensures.copies;
  };
  registers = λ j x l table. c.in_ok-original_starts.ensures.forced j x l ∙ (ap (λ (fs : List (NetId × Bool)). forced_to fs x) c.deref.ensures.value ∙ c.requires.registers x table);
}

pub returns-clause-begun : goal.returns-clause-begun
returns-clause-begun c = λ j v small begin. record {
  original = ap (option_map (bits_of j)) c.in_ok-original.ensures.last;
  hardened = ap (option_map (bits_of j)) c.in_ok-hardened.ensures.last;
  original_starts = λ x l. c.in_ok-original_starts.ensures.forced j x small ∙ (ap (λ (fs : List (NetId × Bool)). forced_to fs x) c.deref.ensures.value ∙ begin.original x l);
  hardened_starts = λ x l. c.in_ok-hardened_starts.ensures.forced j x small ∙ (ap (λ (fs : List (NetId × Bool)). forced_to fs x) c.deref-2.ensures.value ∙ begin.hardened x l);
}
