-- Words of 64 bits: bit j of each belongs to run j.
use Rattle.std.specs.Prelude.{ℕ, ◌/◌, ◌%◌, ◌^◌, Bool, nat_eq, List, map}

-- bit j of a word
unfoldable pub word_bit : ℕ → ℕ → Bool
word_bit j word = nat_eq (word / 2 ^ j % 2) 1

-- the bits j of some words
abbrev pub bits_of : ℕ → List ℕ → List Bool
bits_of j words = map (word_bit j) words
