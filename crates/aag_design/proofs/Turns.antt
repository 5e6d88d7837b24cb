-- A loop of gates, turned so that it begins with its least variable.
use Rattle.std.proofs.Common.{◌≢◌, ℕ, suc, ◌-◌, ◌<◌, List, length, get_or}
use Rattle.graph.specs.Turned.{IsTurned}
use Rattle.graph.proofs.CycleLaws.{is_round}
use Rattle.aag_text.specs.Aig.{PlainAig}
use Rattle.aag_design.specs.Loop.{ReadsGate, IsLoop}

pub turned_loop : (a : PlainAig) (numbers found : List ℕ) → 0 < length numbers → ((k : ℕ) → suc k < length numbers → ReadsGate a (get_or numbers k 0) (get_or numbers (suc k) 0)) → ReadsGate a (get_or numbers (length numbers - 1) 0) (get_or numbers 0 0)
    → ((j k : ℕ) → j < k → k < length numbers → get_or numbers j 0 ≢ get_or numbers k 0) → IsTurned numbers (get_or numbers 0 0) found → IsLoop a found
turned_loop a numbers found some next closed once turned =
    let round = is_round (ReadsGate a) numbers found (get_or numbers 0 0) next closed (record { apart = once }) turned in
    record {
      some = round.some;
      next = round.next;
      closed = round.closed;
      once = round.once.apart;
      least = round.least;
    }
