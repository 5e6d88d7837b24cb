use Rattle.std.proofs.Common.{◌≡◌, ◌<◌, ◌∙◌, ◌++◌, ℕ, suc, ◌+◌, [], List, Some, length, sym, ap, subst, arith}
use Rattle.std.specs.Prelude.{IsSomeAnd, option_map}
use Rattle.flat_net.specs.Net.{Net, node_of, IsTable}
use Rattle.net_simulator.specs.Twins.{AreTablesMet}
use Rattle.schedule_replay.proofs.BesideLaws.{tables_met}
use Rattle.std.proofs.lemmas.List.{length-map, with_items_is}
use Rattle.std.proofs.lemmas.Option.{slice_get_within}
use Rattle.tmr_base.specs.declared.ids.NetId.{NetId}
use Rattle.table_cover.specs.Words.{bits_of}
use Rattle.net_meaning.specs.Meaning.{spread, spread_row, row_at}
use Rattle.net_meaning.proofs.Lists.{row_at-spread}
use Rattle.net_simulator.specs.Cycle.{forced_in}
use Rattle.schedule_replay.proofs.Starting.{step_row}
use Rattle.schedule_replay.proofs.Turns.{at_place}
use Rattle.schedule_replay.proofs.WideLaws.{rows_wide, both_forced, no_more_starts}
use Rattle.schedule_replay.proofs.WideOutcomes.{run_of, some_of}
use Rattle.schedule_replay.proofs.wide_running.advance_runs.Goals as goal

pub write_rows-requires-clause-plain : goal.write_rows-requires-clause-plain
write_rows-requires-clause-plain c = rows_wide c.args.list.now c.args.t c.input_count.result c.requires.plain (λ i d l. let same = c.requires.rows i d l in omega arith) c.requires.t

pub returns-clause-ran : goal.returns-clause-ran
returns-clause-ran c = λ j s v at is before.
    let n = c.args.n.now.net in
    let h = c.args.h.now.net in
    let t : ℕ = c.args.t in
    let list = c.args.list.now in
    let small : j < 64 = let l = slice_get_within list j s at in let few = c.requires.few in omega arith in
    let within : t < length s.rows = at_place (λ s. t < length s.rows) list j s c.requires.t at in
    let next : t + 1 ≡ suc t = omega arith in
    let row_len : length c.write_rows.new.row ≡ c.args.r.now.row.len = omega arith in
    let spread_len : length c.write_rows.new.spread ≡ c.args.r.now.spread.len = omega arith in
    let original : option_map (bits_of j) c.step.new.self.last ≡ Some (row_at v.original t) =
    step_row n v.marks v.starts is.marks [] v.original c.input_count.ensures.design.valid s.rows t is.original within _ _ (option_map (bits_of j) c.step.new.self.last) _ _ c.requires.ready.original before.original
    (ap (bits_of j) (c.deref-2.ensures.value ∙ with_items_is c.args.r.now.row c.write_rows.new.row row_len) ∙ c.write_rows.ensures.row j s at)
    (λ x l. ap (λ (fs : List (NetId × ℕ × ℕ)). forced_in j fs x) c.deref-3.ensures.value ∙ before.original_starts x l)
    (run_of _ j c.step.new.self.last (c.step.ensures.cycle j small)) in
    let long : t < length (spread s.rows) = let same = length-map s.rows spread_row in omega arith in
    let hardened : option_map (bits_of j) c.step_beside.new.self.last ≡ Some (row_at v.hardened t) =
    step_row h v.hardened_marks v.hardened_starts is.hardened_marks s.upsets v.hardened c.input_count-known.ensures.design.valid (spread s.rows) t is.hardened long _ _ (option_map (bits_of j) c.step_beside.new.self.last) _ _ c.requires.ready.hardened before.hardened
    (ap (bits_of j) (c.deref-4.ensures.value ∙ with_items_is c.args.r.now.spread c.write_rows.new.spread spread_len) ∙ (c.write_rows.ensures.spread j s at ∙ sym (row_at-spread s.rows t)))
    (both_forced h v.hardened_marks v.hardened_starts t j c.take_runs.new.struck.items c.args.r.now.hardened_starts.items c.deref-5.result.now s.upsets
    (c.deref-5.ensures.value ∙ (c.in_ok-add_starts.ensures ∙ ap (λ (fs : List (NetId × ℕ × ℕ)). c.take_runs.new.struck.items ++ fs) c.deref.ensures.value)) (λ x. c.in_ok-take_runs.ensures.struck j s x at) before.hardened_starts)
    (run_of _ j c.step_beside.new.self.last (c.step_beside.ensures.cycle j small)) in
    rw next (record {
      original = original;
      hardened = hardened;
      original_starts = no_more_starts n v.marks v.starts t j c.clear.new.self.items c.clear.ensures.items;
      hardened_starts = no_more_starts h v.hardened_marks v.hardened_starts t j c.clear-2.new.self.items c.clear-2.ensures.items;
    })

pub returns-clause-original : goal.returns-clause-original
returns-clause-original c = some_of _ c.step.new.self.last (let first : 0 < 64 = omega arith in c.step.ensures.cycle 0 first)

pub returns-clause-hardened : goal.returns-clause-hardened
returns-clause-hardened c = some_of _ c.step_beside.new.self.last (let first : 0 < 64 = omega arith in c.step_beside.ensures.cycle 0 first)

pub step_beside-requires-clause-met : goal.step_beside-requires-clause-met
step_beside-requires-clause-met c = λ j l.
    subst (λ (m : Net). IsSomeAnd c.step.new.self.last (λ (own : List ℕ). AreTablesMet m (bits_of j own))) (sym c.step.ensures.net)
    (tables_met c.args.r.now.original.net c.step.new.self.last j (option_map (bits_of j) c.args.r.now.original.last) (bits_of j c.deref-2.result.now) (forced_in j c.deref-3.result.now) (c.step.ensures.cycle j l)
    (λ x table. ap (λ (fs : List (NetId × ℕ × ℕ)). forced_in j fs x) c.deref-3.ensures.value ∙ c.requires.ready.registers j x l (subst (λ (m : Net). IsTable (node_of m x)) c.requires.ready.original table)))
