-- Entries of lists that have one for each node.
use Rattle.std.proofs.Common.{◌≡◌, ℕ, zero, suc, ◌+◌, ◌-◌, ◌<◌, ◌≤◌, ◌⊎◌, inl, inr, List, [], ◌∷◌, ◌++◌, length, map, slice_get, Some, refl, ap, ◌∙◌, arith, length-append}
use Rattle.std.specs.Option.{option_map}
use Rattle.std.proofs.lemmas.Bool.{cases_lt}
use Rattle.std.proofs.lemmas.List.{length-map}
use Rattle.std.proofs.lemmas.Option.{slice_get-map}
use Rattle.flat_net.proofs.Slots.{slice_get_there}
use Rattle.aag_text.specs.declared.aig.Literal.{Literal}
use Rattle.aag_text.specs.declared.aig.Latch.{Latch}
use Rattle.aag_text.specs.declared.aig.Gate.{Gate}
use Rattle.aag_text.specs.Aig.{PlainAig}
use Rattle.aag_design.specs.Draft.{map_from, each_node}

pub some_is : {A : Type 0} (x y : A) → Some x ≡ Some y → x ≡ y
some_is x y e = cc

-- ---- lists one behind the other

pub get_left : {A : Type 0} (xs ys : List A) (i : ℕ) (x : A) → slice_get xs i ≡ Some x → slice_get (xs ++ ys) i ≡ Some x
get_left [] ys i x e = absurd (cc)
get_left (y ∷ xs) ys zero x e = e
get_left (y ∷ xs) ys (suc i) x e = get_left xs ys i x e

pub get_right : {A : Type 0} (xs ys : List A) (i j : ℕ) → j ≡ length xs + i → slice_get (xs ++ ys) j ≡ slice_get ys i
get_right [] ys i j e = let q : j ≡ i = omega (arith, e) in ap (slice_get ys) q
get_right (x ∷ xs) ys i zero e = absurd (omega (arith, e))
get_right (x ∷ xs) ys i (suc j) e = get_right xs ys i j (omega (arith, e))

-- ---- entries with their numbers

pub length-map_from : {A B : Type 0} (f : ℕ → A → B) (k : ℕ) (xs : List A) → length (map_from f k xs) ≡ length xs
length-map_from f k [] = refl
length-map_from f k (x ∷ xs) = ap suc (length-map_from f (k + 1) xs)

pub map_from_get : {A B : Type 0} (f : ℕ → A → B) (k : ℕ) (xs : List A) (i : ℕ) (x : A) → slice_get xs i ≡ Some x → slice_get (map_from f k xs) i ≡ Some (f (k + i) x)
map_from_get f k [] i x e = absurd (cc)
map_from_get f k (y ∷ xs) zero x e =
    let s : y ≡ x = some_is y x e in
    let q : k ≡ k + 0 = omega arith in
    ap (λ (m : ℕ). Some (f m y)) q ∙ ap (λ z. Some (f (k + 0) z)) s
map_from_get f k (y ∷ xs) (suc i) x e =
    let q : (k + 1) + i ≡ k + suc i = omega arith in
    map_from_get f (k + 1) xs i x e ∙ ap (λ (m : ℕ). Some (f m x)) q

pub map_from_first : {A B : Type 0} (f : ℕ → A → B) (xs : List A) (i : ℕ) (x : A) → slice_get xs i ≡ Some x → slice_get (map_from f 0 xs) i ≡ Some (f i x)
map_from_first f xs i x e =
    let q : 0 + i ≡ i = omega arith in
    map_from_get f 0 xs i x e ∙ ap (λ (m : ℕ). Some (f m x)) q

pub map_get : {A B : Type 0} (f : A → B) (xs : List A) (i : ℕ) (x : A) → slice_get xs i ≡ Some x → slice_get (map f xs) i ≡ Some (f x)
map_get f xs i x e = slice_get-map f xs i ∙ ap (option_map f) e

-- ---- one entry for each node

-- how many nodes there are
abbrev pub node_total : PlainAig → ℕ
node_total a = 1 + length a.latches + length a.gates + length a.latches + length a.outputs

-- what node i stands for
pub data IsPlace (a : PlainAig) (i : ℕ) : Type 0 where
  AtZero : i ≡ 0 → IsPlace a i
  AtLatch : (j : ℕ) (l : Latch) → i ≡ 1 + j → slice_get a.latches j ≡ Some l → IsPlace a i
  AtGate : (k : ℕ) (g : Gate) → i ≡ 1 + length a.latches + k → slice_get a.gates k ≡ Some g → IsPlace a i
  AtNext : (j : ℕ) (l : Latch) → i ≡ 1 + length a.latches + length a.gates + j → slice_get a.latches j ≡ Some l → IsPlace a i
  AtOutput : (k : ℕ) (m : Literal) → i ≡ 1 + length a.latches + length a.gates + length a.latches + k → slice_get a.outputs k ≡ Some m → IsPlace a i

pub place_of : (a : PlainAig) (i : ℕ) → i < node_total a → IsPlace a i
place_of a i h = first (cases_lt i 1)
  where
    fourth : 1 + length a.latches + length a.gates ≤ i → (i < 1 + length a.latches + length a.gates + length a.latches) ⊎ (1 + length a.latches + length a.gates + length a.latches ≤ i) → IsPlace a i
    fourth low (inl l) =
        let (m, e) = slice_get_there a.latches (i - (1 + length a.latches + length a.gates)) (omega (arith, low, l)) in
        AtNext (i - (1 + length a.latches + length a.gates)) m (omega (arith, low)) e
    fourth low (inr g) =
        let (m, e) = slice_get_there a.outputs (i - (1 + length a.latches + length a.gates + length a.latches)) (omega (arith, g, h)) in
        AtOutput (i - (1 + length a.latches + length a.gates + length a.latches)) m (omega (arith, g)) e

    third : 1 + length a.latches ≤ i → (i < 1 + length a.latches + length a.gates) ⊎ (1 + length a.latches + length a.gates ≤ i) → IsPlace a i
    third low (inl l) =
        let (m, e) = slice_get_there a.gates (i - (1 + length a.latches)) (omega (arith, low, l)) in
        AtGate (i - (1 + length a.latches)) m (omega (arith, low)) e
    third low (inr g) = fourth g (cases_lt i (1 + length a.latches + length a.gates + length a.latches))

    second : 1 ≤ i → (i < 1 + length a.latches) ⊎ (1 + length a.latches ≤ i) → IsPlace a i
    second low (inl l) =
        let (m, e) = slice_get_there a.latches (i - 1) (omega (arith, low, l)) in
        AtLatch (i - 1) m (omega (arith, low)) e
    second low (inr g) = third g (cases_lt i (1 + length a.latches + length a.gates))

    first : (i < 1) ⊎ (1 ≤ i) → IsPlace a i
    first (inl l) = AtZero (omega (arith, l))
    first (inr g) = second g (cases_lt i (1 + length a.latches))

module _ {B : Type 0} (a : PlainAig) (z : B) (latch : ℕ → Latch → B) (gate : Gate → B) (next output : ℕ → Literal → B) where
  -- the entry of node i
  abbrev pub entry : (i : ℕ) → IsPlace a i → B
  entry i (AtZero e) = z
  entry i (AtLatch j l e at) = latch j l
  entry i (AtGate k g e at) = gate g
  entry i (AtNext j l e at) = next j l.next
  entry i (AtOutput k m e at) = output k m

  latches_long : length (map_from latch 0 a.latches) ≡ length a.latches
  latches_long = length-map_from latch 0 a.latches

  gates_long : length (map gate a.gates) ≡ length a.gates
  gates_long = length-map a.gates gate

  nexts_long : length (map_from next 0 (map (λ (l : Latch). l.next) a.latches)) ≡ length a.latches
  nexts_long = length-map_from next 0 (map (λ (l : Latch). l.next) a.latches) ∙ length-map a.latches (λ (l : Latch). l.next)

  outputs_long : length (map_from output 0 a.outputs) ≡ length a.outputs
  outputs_long = length-map_from output 0 a.outputs

  pub each_length : length (each_node a z latch gate next output) ≡ node_total a
  each_length =
      let s3 = length-append (map_from next 0 (map (λ (l : Latch). l.next) a.latches)) (map_from output 0 a.outputs) in
      let s2 = length-append (map gate a.gates) (map_from next 0 (map (λ (l : Latch). l.next) a.latches) ++ map_from output 0 a.outputs) in
      let s1 = length-append (map_from latch 0 a.latches) (map gate a.gates ++ (map_from next 0 (map (λ (l : Latch). l.next) a.latches) ++ map_from output 0 a.outputs)) in
      omega (arith, s1, s2, s3, latches_long, gates_long, nexts_long, outputs_long)

  behind_first : (i j : ℕ) → i ≡ 1 + j → slice_get (each_node a z latch gate next output) i ≡ slice_get (map_from latch 0 a.latches ++ (map gate a.gates ++ (map_from next 0 (map (λ (l : Latch). l.next) a.latches) ++ map_from output 0 a.outputs))) j
  behind_first i j e = get_right (z ∷ []) (map_from latch 0 a.latches ++ (map gate a.gates ++ (map_from next 0 (map (λ (l : Latch). l.next) a.latches) ++ map_from output 0 a.outputs))) j i (omega (arith, e))

  behind_latches : (i j : ℕ) → i ≡ 1 + length a.latches + j → slice_get (each_node a z latch gate next output) i ≡ slice_get (map gate a.gates ++ (map_from next 0 (map (λ (l : Latch). l.next) a.latches) ++ map_from output 0 a.outputs)) j
  behind_latches i j e =
      behind_first i (length a.latches + j) (omega (arith, e))
      ∙ get_right (map_from latch 0 a.latches) (map gate a.gates ++ (map_from next 0 (map (λ (l : Latch). l.next) a.latches) ++ map_from output 0 a.outputs)) j (length a.latches + j) (omega (arith, latches_long))

  behind_gates : (i j : ℕ) → i ≡ 1 + length a.latches + length a.gates + j → slice_get (each_node a z latch gate next output) i ≡ slice_get (map_from next 0 (map (λ (l : Latch). l.next) a.latches) ++ map_from output 0 a.outputs) j
  behind_gates i j e =
      behind_latches i (length a.gates + j) (omega (arith, e))
      ∙ get_right (map gate a.gates) (map_from next 0 (map (λ (l : Latch). l.next) a.latches) ++ map_from output 0 a.outputs) j (length a.gates + j) (omega (arith, gates_long))

  behind_nexts : (i j : ℕ) → i ≡ 1 + length a.latches + length a.gates + length a.latches + j → slice_get (each_node a z latch gate next output) i ≡ slice_get (map_from output 0 a.outputs) j
  behind_nexts i j e =
      behind_gates i (length a.latches + j) (omega (arith, e))
      ∙ get_right (map_from next 0 (map (λ (l : Latch). l.next) a.latches)) (map_from output 0 a.outputs) j (length a.latches + j) (omega (arith, nexts_long))

  pub each_get : (i : ℕ) (p : IsPlace a i) → slice_get (each_node a z latch gate next output) i ≡ Some (entry i p)
  each_get i (AtZero e) = ap (slice_get (each_node a z latch gate next output)) e
  each_get i (AtLatch j l e at) = behind_first i j e ∙ get_left (map_from latch 0 a.latches) _ j (latch j l) (map_from_first latch a.latches j l at)
  each_get i (AtGate k g e at) = behind_latches i k e ∙ get_left (map gate a.gates) _ k (gate g) (map_get gate a.gates k g at)
  each_get i (AtNext j l e at) =
      behind_gates i j e ∙ get_left (map_from next 0 (map (λ (l : Latch). l.next) a.latches)) _ j (next j l.next)
      (map_from_first next (map (λ (l : Latch). l.next) a.latches) j l.next (map_get (λ (l : Latch). l.next) a.latches j l at))
  each_get i (AtOutput k m e at) = behind_nexts i k e ∙ map_from_first output a.outputs k m at
