use Rattle.std.proofs.Common.{◌≡◌, ◌<◌, ◌∙◌, Some, sym, arith}
use Rattle.schedules.specs.Document.{struck_named}
use Rattle.schedules.specs.Private.Entries.{plain_entry}
use Rattle.schedules.proofs.Places.{doubled, fresh}
use Rattle.schedules.proofs.reading.read_upset.Goals as goal

pub returns-then-contains_key-clause-upset : goal.returns-then-contains_key-clause-upset
returns-then-contains_key-clause-upset c = λ earlier holds.
    let below : c.in-Some.entry.cycle < c.args.cycles = omega arith in
    let named : Some c.in-Ok-Some.net.0 ≡ struck_named c.args.version c.args.h.now.net c.in-Some.entry.net.now = rw c.in-Ok-Some.field-0-is at c.in-Ok-Some.ensures.net in
    doubled c.args.version c.args.h.now.net c.args.cycles c.args.j earlier c.args.seen.now (plain_entry c.in-Some.entry) _ c.in-Ok-Some.net.0 (sym c.in-Some.ensures) (sym named) below holds (sym c.contains_key.ensures ∙ c.if-contains_key.true)

pub returns-else-contains_key-clause-upset : goal.returns-else-contains_key-clause-upset
returns-else-contains_key-clause-upset c = λ earlier holds.
    let below : c.in-Some.entry.cycle < c.args.cycles = omega arith in
    let named : Some c.in-Ok-Some.net.0 ≡ struck_named c.args.version c.args.h.now.net c.in-Some.entry.net.now = rw c.in-Ok-Some.field-0-is at c.in-Ok-Some.ensures.net in
    fresh c.args.version c.args.h.now.net c.args.cycles c.args.j earlier c.args.seen.now (plain_entry c.in-Some.entry) _ c.in-Ok-Some.net.0 (sym c.in-Some.ensures) (sym named) below holds (sym c.contains_key.ensures ∙ c.if-contains_key.false)
