-- One piece after another.
use Rattle.std.proofs.Common.{◌≡◌, ◌<◌, ◌≤◌, ◌+◌, ◌-◌, ◌++◌, ℕ, List, [], length, take, drop, Option, Some, None, IfSome, refl, subst, ap, sym, ◌∙◌, add-zero, zero-le, append_assoc, append-nil, length-append, arith}
use Rattle.std.specs.Io.KnownBytes.{Consumes, IsAtEnd}
use Rattle.std.proofs.KnownBytes.{Consumes-nil, Consumes-trans, Consumes-whole}
use Rattle.std.proofs.Math.Seq.{take-add, take-append_seam}
use Rattle.tmr_outside.specs.Pieces.{Takes, TakesFile}
use Rattle.tmr_outside.specs.Reading.{ReadsUpTo, MovesBytes, MovesFirst}

-- what was taken, and then a piece
pub Takes-then : {stood between stands : List ℕ → Type 0} {room mid left : ℕ} (xs ys : List ℕ) → Takes stood between room mid xs → ((given : List ℕ) → between given → stands (given ++ ys)) → left + length ys ≡ mid → Takes stood stands room left (xs ++ ys)
Takes-then {stands = stands} xs ys so_far appended room_left = record {
  appended = λ given h. subst stands (append_assoc given xs ys) (appended (given ++ xs) (so_far.appended given h));
  room_left = omega (arith, length-append xs ys, so_far.room_left);
}

-- where nothing was taken
Takes-none : {stands : List ℕ → Type 0} {room : ℕ} → Takes stands stands room room []
Takes-none {stands} {room} = record { appended = λ given h. subst stands (sym (append-nil given)) h; room_left = add-zero room }

-- where nothing was taken of a file that is not told
pub TakesFile-none : {stands : List ℕ → Type 0} {room : ℕ} (limit : ℕ) (name : List ℕ) {ok : Type 0} → TakesFile stands stands room room limit None name ok
TakesFile-none limit name = record { taken = []; takes = Takes-none; within = zero-le; first = tt; whole = λ ok. tt }

-- two pieces that were handed on, one after the other
pub MovesBytes-then : {unread between rest : Option (List ℕ)} {stood stands_between stands : List ℕ → Type 0} {room mid left : ℕ} (m n : ℕ) → MovesBytes unread between stood stands_between room mid m → MovesBytes between rest stands_between stands mid left n → MovesBytes unread rest stood stands room left (m + n)
MovesBytes-then m n first second = record {
  bytes = first.bytes ++ second.bytes;
  counted = omega (arith, length-append first.bytes second.bytes, first.counted, second.counted);
  read = Consumes-trans _ _ _ first.bytes second.bytes first.read second.read;
  takes = Takes-then first.bytes second.bytes first.takes second.takes.appended second.takes.room_left;
}

-- where nothing was handed on
pub MovesBytes-none : {unread : Option (List ℕ)} {stands : List ℕ → Type 0} {room : ℕ} → MovesBytes unread unread stands stands room room 0
MovesBytes-none {unread} {stands} {room} = record {
  bytes = [];
  counted = refl;
  read = Consumes-nil unread;
  takes = Takes-none;
}

-- the bytes that were handed on are the first ones of the file
first_of : (file rest : Option (List ℕ)) (bytes : List ℕ) → Consumes file rest bytes → IfSome file (λ all. take (length bytes) all ≡ bytes)
first_of None rest bytes read = tt
first_of (Some all) None bytes read = absurd read
first_of (Some all) (Some rest) bytes read = ap (take (length bytes)) read ∙ take-append_seam bytes rest

pub MovesFirst-from : {unread rest : Option (List ℕ)} {stood stands : List ℕ → Type 0} {room left : ℕ} (limit count : ℕ) {ok : Type 0} → MovesBytes unread rest stood stands room left count → count ≤ limit → (ok → IsAtEnd rest) → MovesFirst unread stood stands room left limit ok
MovesFirst-from {unread} {rest} limit count handed fits ended = record {
  bytes = handed.bytes;
  takes = handed.takes;
  within = omega (arith, handed.counted);
  first = first_of unread rest handed.bytes handed.read;
  whole = λ ok. Consumes-whole unread rest handed.bytes (λ all. all ≡ handed.bytes) handed.read (ended ok) refl;
}

-- what is handed on in all is read, and then some more
pub ReadsUpTo-after : {unread between rest : Option (List ℕ)} {stood stands : List ℕ → Type 0} {room left : ℕ} (count most limit : ℕ) → MovesBytes unread between stood stands room left count → ReadsUpTo between rest most → count + most ≤ limit → ReadsUpTo unread rest limit
ReadsUpTo-after count most limit handed more fits = record {
  bytes = handed.bytes ++ more.bytes;
  read = Consumes-trans _ _ _ handed.bytes more.bytes handed.read more.read;
  within = omega (arith, length-append handed.bytes more.bytes, handed.counted, more.within);
}

-- a file has more bytes than were handed on where its rest has more than may come
pub longer_than : (unread between : Option (List ℕ)) {stood stands : List ℕ → Type 0} {room left : ℕ} (count may limit : ℕ) → MovesBytes unread between stood stands room left count → IfSome between (λ rest. may < length rest) → count + may ≡ limit → IfSome unread (λ all. limit < length all)
longer_than None between count may limit handed more sum = tt
longer_than (Some all) None count may limit handed more sum = absurd handed.read
longer_than (Some all) (Some rest) count may limit handed more sum = omega (arith, ap length handed.read, length-append handed.bytes rest, handed.counted)

-- the first bytes, and the part behind them
pub take-part : (xs : List ℕ) (i j : ℕ) → i ≤ j → take i xs ++ take (j - i) (drop i xs) ≡ take j xs
take-part xs i j h = sym (take-add i (j - i) xs) ∙ ap (λ n. take n xs) (let e : i + (j - i) ≡ j = omega arith in e)
