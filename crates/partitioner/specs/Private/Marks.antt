-- Rows of bits, one for each partition, in words of 64.
use Rattle.std.specs.Prelude.{◌≡◌, ℕ, ◌/◌, ◌%◌, Bool, true, List, [], slice_index_or}
use Rattle.table_cover.specs.Words.{word_bit}
use Rattle.partitioner.specs.declared.counts.rows.Level.{Level}
use Rattle.partitioner.specs.declared.counts.rows.Level.TheVariants.{Partitions, Blocks}

-- bit q of words; it is set where there is no such word
abbrev pub has_bit : List ℕ → ℕ → Bool
has_bit words q = word_bit (q % 64) (slice_index_or words (q / 64) 18446744073709551615)

-- bit q of row x is set
abbrev pub is_marked : List (List ℕ) → ℕ → ℕ → Bool
is_marked rows x q = has_bit (slice_index_or rows x []) q

-- where a bit of a word is set, the bit of the word is
abbrev pub Covers : List ℕ → List ℕ → Type 0
Covers blocks words = (q : ℕ) → has_bit words q ≡ true → has_bit blocks (q / 64) ≡ true

-- where partition q is counted: by itself, or with those of its block of 64
abbrev pub lane_of : Level → ℕ → ℕ
lane_of Partitions q = q
lane_of Blocks q = q / 64
