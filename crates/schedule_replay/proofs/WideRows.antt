-- Inputs and upsets in words, of which each run has a bit.
use Rattle.std.proofs.Common.{◌≡◌, ◌≢◌, ℕ, zero, suc, ◌+◌, ◌*◌, ◌/◌, ◌<◌, ◌≤◌, ◌⊎◌, inl, inr, Bool, true, false, cond, ◌&&◌, ◌||◌, List, [], ◌∷◌, ◌++◌, length, take, get_or, slice_get, slice_index, slice_set, Option, Some, None, refl, sym, ◌∙◌, ap, subst, arith}
use Rattle.std.specs.Prelude.{nat_eq, All}
use Rattle.std.proofs.lemmas.Bool.{eq-eqb, ne_eqb}
use Rattle.std.proofs.lemmas.List.{get_or-set_same, get_or-set_other, ext_get_or}
use Rattle.std.proofs.lemmas.Option.{slice_get-get_or, slice_get_within, get_or_from_slice_get}
use Rattle.std.proofs.lemmas.List.Elements.{All-append}
use Rattle.std.proofs.Math.Seq.{take-suc}
use Rattle.tmr_base.specs.declared.ids.NetId.{NetId}
use Rattle.table_cover.specs.Words.{word_bit, bits_of}
use Rattle.net_meaning.specs.Meaning.{bit, row_at, value_at, spread_row}
use Rattle.net_simulator.specs.Cycle.{forced_in}
use Rattle.net_simulator.proofs.Lanes.{bit_of_words, length_bits}
use Rattle.schedules.specs.Schedule.{PlainSchedule}
use Rattle.schedule_replay.specs.Starts.{forced_to, or_else}
use Rattle.schedule_replay.proofs.Turns.{at_place}
use Rattle.schedule_replay.proofs.RunWords.{equal_or_not}
use Rattle.schedule_replay.proofs.Taking.{or_none, forced_to-append, spread_is}

own_bit : (b : Bool) → (false || (b && true)) ≡ b
own_bit true = refl
own_bit false = refl

other_bit : (a b : Bool) → (a || (b && false)) ≡ a
other_bit true true = refl
other_bit true false = refl
other_bit false true = refl
other_bit false false = refl

-- the bit of one run more
pub bit_done : (V : PlainSchedule → Bool) (list : List PlainSchedule) (word more j : ℕ) (r : PlainSchedule) (b : Bool) → j < length list → length list ≤ 64 → r ≡ get_or list j r → b ≡ V r
    → ((i : ℕ) → i < 64 → word_bit i more ≡ (word_bit i word || (b && nat_eq i j)))
    → ((i : ℕ) (s : PlainSchedule) → i < j → slice_get list i ≡ Some s → word_bit i word ≡ V s) → ((i : ℕ) → j ≤ i → i < 64 → word_bit i word ≡ false)
    → (i : ℕ) (s : PlainSchedule) → i < j + 1 → slice_get list i ≡ Some s → word_bit i more ≡ V s
bit_done V list word more j r b within few here is added done rest i s l at = go (equal_or_not i j)
  where
    small : i < 64
    small = let w = slice_get_within list i s at in omega arith

    go : (i ≡ j) ⊎ (i ≢ j) → word_bit i more ≡ V s
    go (inl e) =
        let there : slice_get list i ≡ Some r = subst (λ (k : ℕ). slice_get list k ≡ Some r) (sym e) (slice_get-get_or list j r within ∙ ap Some (sym here)) in
        let same : r ≡ s = cc in
        added i small
        ∙ (ap (λ (x : Bool). x || (b && nat_eq i j)) (rest i (omega arith) small)
        ∙ (ap (λ (x : Bool). false || (b && x)) (eq-eqb i j e) ∙ (own_bit b ∙ (is ∙ ap V same))))
    go (inr e) = added i small ∙ (ap (λ (x : Bool). word_bit i word || (b && x)) (ne_eqb i j e) ∙ (other_bit (word_bit i word) b ∙ done i s (omega arith) at))

pub bit_rest : (word more j : ℕ) (b : Bool) → ((i : ℕ) → i < 64 → word_bit i more ≡ (word_bit i word || (b && nat_eq i j))) → ((i : ℕ) → j ≤ i → i < 64 → word_bit i word ≡ false)
    → (i : ℕ) → j + 1 ≤ i → i < 64 → word_bit i more ≡ false
bit_rest word more j b added rest i l small =
    let apart : i ≢ j = omega arith in
    added i small ∙ (ap (λ (x : Bool). word_bit i word || (b && x)) (ne_eqb i j apart) ∙ (other_bit (word_bit i word) b ∙ rest i (omega arith) small))

-- one word more
pub word_done : (V : ℕ → Bool) (row : List ℕ) (i w j k : ℕ) → i < length row → word_bit j w ≡ V i → (k < i → word_bit j (slice_index row k) ≡ V k) → k < i + 1 → word_bit j (slice_index (slice_set row i w) k) ≡ V k
word_done V row i w j k within is before l = go (equal_or_not k i)
  where
    go : (k ≡ i) ⊎ (k ≢ i) → word_bit j (slice_index (slice_set row i w) k) ≡ V k
    go (inl e) = subst (λ (m : ℕ). word_bit j (slice_index (slice_set row i w) m) ≡ V m) (sym e) (ap (word_bit j) (get_or-set_same row i w 0 within) ∙ is)
    go (inr e) = ap (word_bit j) (get_or-set_other row i k w 0 e) ∙ before (omega arith)

-- the bits of run j are its row
pub row_words : (list : List PlainSchedule) (t j : ℕ) (s : PlainSchedule) (inputs : ℕ) (row : List ℕ) → slice_get list j ≡ Some s → All (λ s. length (row_at s.rows t) ≡ inputs) list → length row ≡ inputs → ((i : ℕ) → i < inputs → word_bit j (slice_index row i) ≡ value_at s.rows t i) → bits_of j row ≡ row_at s.rows t
row_words list t j s inputs row at plain long is =
    let wide : length (row_at s.rows t) ≡ inputs = at_place (λ s. length (row_at s.rows t) ≡ inputs) list j s plain at in
    ext_get_or false (bits_of j row) (row_at s.rows t) (length_bits j row ∙ (long ∙ sym wide)) (λ i h. bit_of_words j row i ∙ is i (let same = length_bits j row in omega arith))

-- words three times are bits three times
pub spread_words : (j : ℕ) (row spread : List ℕ) (bits : List Bool) → length spread ≡ 3 * length row → ((m : ℕ) → m < length spread → slice_index spread m ≡ slice_index row (m / 3)) → bits_of j row ≡ bits → bits_of j spread ≡ spread_row bits
spread_words j row spread bits long third same =
    spread_is bits (bits_of j spread) (length_bits j spread ∙ (long ∙ ap (λ (m : ℕ). 3 * m) wide)) (λ k h. at k (3 * k) (omega arith) (omega (arith, wide))) (λ k h. at k (3 * k + 1) (omega arith) (omega (arith, wide))) (λ k h. at k (3 * k + 2) (omega arith) (omega (arith, wide)))
  where
    wide : length row ≡ length bits
    wide = sym (length_bits j row) ∙ ap length same

    at : (k m : ℕ) → m / 3 ≡ k → m < length spread → get_or (bits_of j spread) m false ≡ bit bits k
    at k m e l =
        bit_of_words j spread m
        ∙ (ap (word_bit j) (third m l ∙ ap (slice_index row) e)
        ∙ (sym (bit_of_words j row k) ∙ ap (λ (bs : List Bool). bit bs k) same))

pub forced_in-append : (j : ℕ) (fs gs : List (NetId × ℕ × ℕ)) (x : ℕ) → forced_in j (fs ++ gs) x ≡ or_else (forced_in j fs x) (forced_in j gs x)
forced_in-append j [] gs x = refl
forced_in-append j (f ∷ fs) gs x = go (nat_eq f.0.0 x && word_bit j f.1) (forced_in-append j fs gs x)
  where
    go : (b : Bool) → forced_in j (fs ++ gs) x ≡ or_else (forced_in j fs x) (forced_in j gs x) → cond b (Some (word_bit j f.2)) (forced_in j (fs ++ gs) x) ≡ or_else (cond b (Some (word_bit j f.2)) (forced_in j fs x)) (forced_in j gs x)
    go true e = refl
    go false e = e

pub and_true : (p : Bool) → (p && true) ≡ p
and_true true = refl
and_true false = refl

and_false : (p : Bool) → (p && false) ≡ false
and_false true = refl
and_false false = refl

module _ (y : NetId) (mask word : ℕ) (old new : List (NetId × ℕ × ℕ)) (pushed : new ≡ old ++ (y, mask, word) ∷ []) where
  pushed_in : (j x : ℕ) → forced_in j new x ≡ or_else (forced_in j old x) (cond (nat_eq y.0 x && word_bit j mask) (Some (word_bit j word)) None)
  pushed_in j x = ap (λ (fs : List (NetId × ℕ × ℕ)). forced_in j fs x) pushed ∙ forced_in-append j old ((y, mask, word) ∷ []) x

  -- in other runs nothing more is forced
  pub other_run : (j x : ℕ) → word_bit j mask ≡ false → forced_in j new x ≡ forced_in j old x
  other_run j x e = pushed_in j x ∙ (ap (λ (b : Bool). or_else (forced_in j old x) (cond b (Some (word_bit j word)) None)) (ap (λ (b : Bool). nat_eq y.0 x && b) e ∙ and_false (nat_eq y.0 x)) ∙ or_none (forced_in j old x))

  -- and in its own run one pair more
  pub own_run : (j x : ℕ) (pairs : List (NetId × Bool)) (k : ℕ) (value : Bool) → slice_get pairs k ≡ Some (y, value) → word_bit j mask ≡ true → word_bit j word ≡ value
      → forced_in j old x ≡ forced_to (take k pairs) x → forced_in j new x ≡ forced_to (take (k + 1) pairs) x
  own_run j x pairs k value at e f is =
      let next : k + 1 ≡ suc k = omega arith in
      let within : k < length pairs = slice_get_within pairs k (y, value) at in
      let more : take (k + 1) pairs ≡ take k pairs ++ (y, value) ∷ [] = ap (λ (m : ℕ). take m pairs) next ∙ (take-suc pairs k (y, value) within ∙ ap (λ (g : NetId × Bool). take k pairs ++ g ∷ []) (get_or_from_slice_get pairs k (y, value) (y, value) at)) in
      pushed_in j x
      ∙ (ap (λ (b : Bool). or_else (forced_in j old x) (cond b (Some (word_bit j word)) None)) (ap (λ (b : Bool). nat_eq y.0 x && b) e ∙ and_true (nat_eq y.0 x))
      ∙ (ap (λ (b : Bool). or_else (forced_in j old x) (cond (nat_eq y.0 x) (Some b) None)) f
      ∙ (ap (λ (o : Option Bool). or_else o (cond (nat_eq y.0 x) (Some value) None)) is
      ∙ (sym (forced_to-append (take k pairs) ((y, value) ∷ []) x) ∙ ap (λ (fs : List (NetId × Bool)). forced_to fs x) (sym more)))))

one : {A : Type 0} (P : A → Type 0) (x : A) → P x → All P (x ∷ [])
one P x p zero d h = p
one P x p (suc i) d h = absurd (omega arith)

-- a net of the design more
pub triples_more : (high : ℕ) (fs new : List (NetId × ℕ × ℕ)) (f : NetId × ℕ × ℕ) → All (λ f. f.0.0 < high) fs → f.0.0 < high → new ≡ fs ++ f ∷ [] → All (λ f. f.0.0 < high) new
triples_more high fs new f all h e = subst (λ (gs : List (NetId × ℕ × ℕ)). All (λ f. f.0.0 < high) gs) (sym e) (All-append (λ f. f.0.0 < high) fs (f ∷ []) all (λ i d m. one (λ f. f.0.0 < high) f h i d m))

-- what is forced in one run more
pub struck_done : (U : PlainSchedule → Option Bool) (list : List PlainSchedule) (j : ℕ) (r : PlainSchedule) (old new : ℕ → Option Bool) → slice_get list j ≡ Some r → length list ≤ 64 → new j ≡ U r
    → ((i : ℕ) → i < 64 → i ≢ j → new i ≡ old i) → ((i : ℕ) (s : PlainSchedule) → i < j → slice_get list i ≡ Some s → old i ≡ U s)
    → (i : ℕ) (s : PlainSchedule) → i < j + 1 → slice_get list i ≡ Some s → new i ≡ U s
struck_done U list j r old new here few is others done i s l at = go (equal_or_not i j)
  where
    go : (i ≡ j) ⊎ (i ≢ j) → new i ≡ U s
    go (inl e) =
        let there : slice_get list j ≡ Some s = subst (λ (k : ℕ). slice_get list k ≡ Some s) e at in
        let same : r ≡ s = cc in
        ap new e ∙ (is ∙ ap U same)
    go (inr e) = others i (let w = slice_get_within list i s at in omega arith) e ∙ done i s (omega arith) at
