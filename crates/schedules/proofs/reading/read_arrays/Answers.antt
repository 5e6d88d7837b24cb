use Rattle.std.proofs.Common.{◌≡◌, ◌∙◌, ℕ, Bool, List, Ok, subst, length, map, sym, ap, arith}
use Rattle.std.specs.Prelude.{All}
use Rattle.std.specs.Map.{keys_of}
use Rattle.std.proofs.lemmas.List.{length-map}
use Rattle.toml.specs.View.{view, table_view}
use Rattle.schedules.specs.Schedule.{PlainSchedule}
use Rattle.schedules.specs.Document.{listed_rows, starts_of, starts_or_fault}
use Rattle.schedules.specs.Private.Reading.{ListsUpsets, CanBeStruck}
use Rattle.schedules.proofs.Places.{upsets_nets}
use Rattle.schedules.proofs.Listing.{all_read}
use Rattle.schedules.proofs.reading.read_arrays.Goals as goal

pub push_upsets-requires-clause-few : goal.push_upsets-requires-clause-few
push_upsets-requires-clause-few c =
    let same = ap length (c.deref.ensures.value ∙ c.in-Ok-entries_of.ensures) in
    let long = c.in-Ok-read_upsets.ensures.ok.long in
    omega (arith, same, long, length-map c.args.upsets.now view)

pub returns-in-Ok-push_upsets-clause-ok : goal.returns-in-Ok-push_upsets-clause-ok
returns-in-Ok-push_upsets-clause-ok c =
    let s : PlainSchedule = c.read_rows.new.s in
    all_read c.args.designs.now.version c.args.designs.now.original.now.net c.args.designs.now.hardened.now.net (starts_of c.args.designs.now.starts (table_view c.args.top.now)) (map view c.args.rows.now) (map view c.args.upsets.now)
    (omega (arith, length-map c.args.rows.now view)) (omega (arith, length-map c.args.upsets.now view))
    c.in-Ok-read_upsets.map c.deref.result.now s c.push_upsets.new.s
    (subst (λ (bits : List Bool). starts_or_fault (starts_of c.args.designs.now.starts (table_view c.args.top.now)) ≡ Ok bits) (sym c.in-Ok-read_rows.ensures.starts) c.in-Ok.ensures.starts)
    (subst (λ (w : ℕ). listed_rows w (map view c.args.rows.now) ≡ Ok s.rows) c.input_count-inputs.ensures.count c.in-Ok-read_rows.ensures.rows)
    (subst (λ (k : ℕ). ListsUpsets c.args.designs.now.version c.args.designs.now.hardened.now.net k (map view c.args.upsets.now) c.in-Ok-read_upsets.map) c.cycles.ensures.count c.in-Ok-read_upsets.ensures.ok)
    (c.deref.ensures.value ∙ c.in-Ok-entries_of.ensures) (c.in-Ok-read_rows.ensures.inputs ∙ c.input_count-inputs.ensures.count) c.in-Ok-push_upsets.ensures c.cycles-cycles.ensures.plain

pub returns-in-Ok-push_upsets-clause-struck : goal.returns-in-Ok-push_upsets-clause-struck
returns-in-Ok-push_upsets-clause-struck c =
    let es = c.deref.result.now in
    let same = c.deref.ensures.value ∙ c.in-Ok-entries_of.ensures in
    let nets = subst (λ (xs : List ((ℕ × ℕ) × Bool)). All (λ k. CanBeStruck c.args.designs.now.version c.args.designs.now.hardened.now.net k.1) (keys_of xs)) (sym same) c.in-Ok-read_upsets.ensures.ok.nets in
    subst (λ (s : PlainSchedule). All (λ u. CanBeStruck c.args.designs.now.version c.args.designs.now.hardened.now.net u.net.0) s.upsets) (sym c.in-Ok-push_upsets.ensures) (upsets_nets (CanBeStruck c.args.designs.now.version c.args.designs.now.hardened.now.net) es nets)
