-- The places of a picture, each of which is one box of it. k is the certificate of a hardened design. A partition that is drawn has its
-- own number as its place. Then come the place of all other partitions together, that of the inputs and that of the outputs.
use Rattle.std.specs.Prelude.{ℕ, zero, suc, ◌+◌, ◌==◌, Bool, ◌&&◌, nat_lt, length, slice_index, max, Option, Some, None, if◌then◌else◌}
use Rattle.certificate.specs.Cert.{PlainCert, part_of}
use Rattle.partitioner.specs.Below.{count_below}

-- how many nodes partition p has
unfoldable pub nodes_in : PlainCert → ℕ → ℕ
nodes_in k p = count_below (length k.part) (λ x. slice_index k.part x == p)

-- how many partitions come before p: those with more nodes and, of those with as many, the ones with a lesser number
unfoldable pub count_before : PlainCert → ℕ → ℕ
count_before k p = count_below (length k.depth) (λ q. nat_lt (nodes_in k p) (nodes_in k q)) + count_below p (λ q. nodes_in k q == nodes_in k p)

-- the 400 partitions with the most nodes are drawn, each as a box of its own
abbrev pub is_drawn : PlainCert → ℕ → Bool
is_drawn k p = nat_lt (count_before k p) 400

abbrev pub rest_place : PlainCert → ℕ
rest_place k = length k.depth

abbrev pub inputs_place : PlainCert → ℕ
inputs_place k = length k.depth + 1

abbrev pub outputs_place : PlainCert → ℕ
outputs_place k = length k.depth + 2

-- the place of partition p
unfoldable pub place_of : PlainCert → ℕ → ℕ
place_of k p = if is_drawn k p then p else rest_place k

-- the place of the nets of a partition; the inputs are in none
abbrev pub place_in : PlainCert → Option ℕ → ℕ
place_in k None = inputs_place k
place_in k (Some p) = place_of k p

-- the place of original net x
abbrev pub home : PlainCert → ℕ → ℕ
home k x = place_in k (part_of k x)

-- how many nets of place a pass a test
abbrev pub count_at : PlainCert → (ℕ → Bool) → ℕ → ℕ
count_at k test a = count_below (k.original_inputs + length k.part) (λ x. home k x == a && test x)

-- the greatest of f at the numbers below a bound, or 0 where there is none
unfoldable pub max_below : ℕ → (ℕ → ℕ) → ℕ
max_below zero f = 0
max_below (suc i) f = max (max_below i f) (f i)
