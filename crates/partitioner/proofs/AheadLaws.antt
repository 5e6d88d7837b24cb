-- What is read ahead are nodes of the design.
use Rattle.std.proofs.Common.{◌≡◌, ◌<◌, ℕ, List, [], length, get_or, sym, subst, IsPermutation}
use Rattle.flat_net.specs.Net.{Net}
use Rattle.node_reads.specs.Sources.{reads_other, other_sources}
use Rattle.node_reads.proofs.SourceLaws.{rows_below}
use Rattle.partitioner.specs.declared.counts.partitioning.Partitioning.{Partitioning}
use Rattle.partitioner.specs.Private.Tracking.{Tracks}
use Rattle.partitioner.proofs.LossLaws.{sources_below}

pub source_below : (n : Net) (p : Partitioning) (i j : ℕ) (row : List ℕ) → Tracks n p → i < length n.nodes → row ≡ get_or p.sources i [] → j < length row → get_or row j 0 < length n.nodes
source_below n p i j row tracks within at = sources_below n i row (subst (λ (xs : List ℕ). IsPermutation (other_sources n i) xs) (sym at) (tracks.sources i within)) j 0

pub reader_below : (n : Net) (p : Partitioning) (x j : ℕ) (row : List ℕ) → Tracks n p → x < length n.nodes → row ≡ get_or p.readers x [] → j < length row → get_or row j 0 < length n.nodes
reader_below n p x j row tracks within at =
    subst (λ (xs : List ℕ). j < length xs → get_or xs j 0 < length n.nodes) (sym at)
    (rows_below (reads_other n) (length n.nodes) (length n.nodes) p.readers x j tracks.readers within)
