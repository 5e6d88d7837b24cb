use Rattle.std.proofs.Common.{◌≡◌, ◌+◌, ◌<◌, ℕ, length, take}
use Rattle.std.specs.Prelude.{All}
use Rattle.net_meaning.specs.Meaning.{upset_at}
use Rattle.schedule_replay.specs.Starts.{forced_to}
use Rattle.schedule_replay.specs.Striking.{IsUpTo, AreLatest}
use Rattle.schedule_replay.proofs.striking.take_upsets.Given as goal

abbrev pub invariant-loop-j : goal.invariant-loop-j
invariant-loop-j l = record {
  next : l.next ≡ l.j;
  struck : (x : ℕ) → forced_to l.struck.items x ≡ upset_at (take l.j l.s.upsets) l.t x;
  nets : All (λ f. f.0.0 < l.c.hardened_inputs + length l.c.roles) l.struck.items;
  before : IsUpTo l.s.upsets l.t l.j;
  long : length l.lasts ≡ length l.c.depth;
  latest : AreLatest l.c l.s.upsets l.j l.lasts;
}
