-- Marks of registers whose first value is free.
use Rattle.std.proofs.Common.{◌≡◌, ℕ, ◌+◌, ◌-◌, ◌<◌, ◌≤◌, Bool, true, false, List, [], ◌∷◌, ◌++◌, length, take, sym, ◌∙◌, ap, map, slice_get, arith, Option, Some, None, refl}
use Rattle.std.specs.Prelude.{nat_lt, if◌then◌else◌}
use Rattle.std.specs.Option.{unwrap_or, option_map}
use Rattle.std.proofs.lemmas.List.{take_more, take_all, map-append}
use Rattle.std.proofs.lemmas.Option.{slice_get-map, get_or_from_slice_get}
use Rattle.tmr_base.specs.declared.copies.CopyNo.{CopyNo}
use Rattle.flat_net.specs.Net.{slot}
use Rattle.flat_net.specs.Free.{node_bit}
use Rattle.flat_net.proofs.Slots.{slot_at, slot_within, slice_get_there}
use Rattle.certificate.specs.declared.role.Role.{Role}
use Rattle.certificate.specs.declared.role.Role.TheVariants.{Copy}
use Rattle.certificate.specs.Cert.{PlainCert, role_of}
use Rattle.certificate.specs.Starts.{role_start, spread_start}

pub node_bit_none : (start x : ℕ) → node_bit start [] x ≡ false
unfolding slot
node_bit_none start x = go (nat_lt x start)
  where
    go : (b : Bool) → unwrap_or (if b then None else slice_get [] (x - start)) false ≡ false
    go true = refl
    go false = refl

-- an entry, seen by f
pub slot_of_some : {A B : Type 0} (f : A → B) (start : ℕ) (xs : List A) (x : ℕ) (a : A) → slot start xs x ≡ Some a → slot start (map f xs) x ≡ Some (f a)
slot_of_some f start xs x a e =
    let within = slot_within start xs x a e in
    let there : slice_get xs (x - start) ≡ Some a = sym (slot_at start xs x within.0) ∙ e in
    slot_at start (map f xs) x within.0 ∙ (slice_get-map f xs (x - start) ∙ ap (option_map f) there)

-- a copy is marked where its node is
pub copy_marked : (k : PlainCert) (free : List Bool) (y x : ℕ) (c : CopyNo) → role_of k y ≡ Some (Copy (record { 0 = x }) c) → node_bit k.hardened_inputs (spread_start k free) y ≡ node_bit k.original_inputs free x
copy_marked k free y x c is = ap (λ (o : Option Bool). unwrap_or o false) (slot_of_some (role_start k free) k.hardened_inputs k.roles y (Copy (record { 0 = x }) c) is)

-- one hardened node more
pub marks_next : (k : PlainCert) (free : List Bool) (i h : ℕ) (old new : List Bool) (b : Bool) → i < length k.roles → h ≡ k.hardened_inputs + i → ((r : Role) → role_of k h ≡ Some r → b ≡ role_start k free r)
    → old ≡ map (role_start k free) (take i k.roles) → new ≡ old ++ b ∷ [] → new ≡ map (role_start k free) (take (i + 1) k.roles)
marks_next k free i h old new b within at is before more =
    let (r, there) = slice_get_there k.roles i within in
    let back : (k.hardened_inputs + i) - k.hardened_inputs ≡ i = omega arith in
    let role : role_of k (k.hardened_inputs + i) ≡ Some r = slot_at k.hardened_inputs k.roles (k.hardened_inputs + i) (omega arith) ∙ (ap (slice_get k.roles) back ∙ there) in
    let same : b ≡ role_start k free r = is r (ap (role_of k) at ∙ role) in
    let longer : take (i + 1) k.roles ≡ take i k.roles ++ r ∷ [] = take_more k.roles i r within ∙ ap (λ (s : Role). take i k.roles ++ s ∷ []) (get_or_from_slice_get k.roles i r r there) in
    more ∙ (ap (λ (xs : List Bool). xs ++ b ∷ []) before ∙ (ap (λ (x : Bool). map (role_start k free) (take i k.roles) ++ x ∷ []) same
    ∙ sym (ap (map (role_start k free)) longer ∙ map-append (role_start k free) (take i k.roles) (r ∷ []))))

pub marks_all : (k : PlainCert) (free : List Bool) (i : ℕ) (marks : List Bool) → length k.roles ≤ i → marks ≡ map (role_start k free) (take i k.roles) → marks ≡ spread_start k free
marks_all k free i marks all is = is ∙ ap (map (role_start k free)) (take_all i k.roles all)
