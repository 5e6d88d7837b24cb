-- Start values and marks.
use Rattle.std.proofs.Common.{◌≡◌, ℕ, ◌-◌, zero, suc, Bool, true, false, nat_lt, nat_eq, List, [], length, map, refl, sym, ◌∙◌, ap, subst, slice_get, Option, Some, None}
use Rattle.std.specs.Prelude.{if◌then◌else◌}
use Rattle.std.specs.Option.{unwrap_or, option_map}
use Rattle.std.proofs.lemmas.List.{length-map}
use Rattle.std.proofs.lemmas.Option.{slice_get-map}
use Rattle.tmr_base.specs.declared.copies.CopyNo.{CopyNo}
use Rattle.tmr_base.specs.declared.ids.Upset.{Upset}
use Rattle.flat_net.specs.Net.{Net, Node, Table, Register, slot, node_of, IsInitOf}
use Rattle.flat_net.specs.Free.{node_bit}
use Rattle.flat_net.proofs.Slots.{slot_at, slot_within, slot_none}
use Rattle.net_meaning.specs.Meaning.{upset_at, start_at, net_value, IsFaultTrace, IsFreeFaultTrace}
use Rattle.certificate.specs.declared.role.Role.{Role}
use Rattle.certificate.specs.declared.role.Role.TheVariants.{Copy, Voter}
use Rattle.certificate.specs.Cert.{PlainCert, role_of}
use Rattle.certificate.specs.Starts.{counted, role_start, spread_start}

-- an empty list has no true bit
pub node_bit_none : (start x : ℕ) → node_bit start [] x ≡ false
unfolding slot
node_bit_none start x = go (nat_lt x start)
  where
    go : (b : Bool) → unwrap_or (if b then None else slice_get [] (x - start)) false ≡ false
    go true = refl
    go false = refl

-- an entry, seen by f
slot_of_some : {A B : Type 0} (f : A → B) (start : ℕ) (xs : List A) (x : ℕ) (a : A) → slot start xs x ≡ Some a → slot start (map f xs) x ≡ Some (f a)
slot_of_some f start xs x a e =
    let within = slot_within start xs x a e in
    let there : slice_get xs (x - start) ≡ Some a = sym (slot_at start xs x within.0) ∙ e in
    slot_at start (map f xs) x within.0 ∙ (slice_get-map f xs (x - start) ∙ ap (option_map f) there)

-- a copy starts as its original does
pub copy_starts : (k : PlainCert) (w : List Bool) (y x : ℕ) (c : CopyNo) → role_of k y ≡ Some (Copy (record { 0 = x }) c) → node_bit k.hardened_inputs (spread_start k w) y ≡ node_bit k.original_inputs w x
copy_starts k w y x c is = ap (λ (o : Option Bool). unwrap_or o false) (slot_of_some (role_start k w) k.hardened_inputs k.roles y (Copy (record { 0 = x }) c) is)

-- where all originals start with false, so do all hardened nodes
pub none_starts : (k : PlainCert) (start y : ℕ) → node_bit start (spread_start k []) y ≡ false
none_starts k start y = go (slot start k.roles y) refl
  where
    each : (r : Role) → role_start k [] r ≡ false
    each (Copy x c) = node_bit_none k.original_inputs x.0
    each (Voter x p c) = refl

    go : (o : Option Role) → slot start k.roles y ≡ o → node_bit start (spread_start k []) y ≡ false
    go None e = ap (λ (o : Option Bool). unwrap_or o false) (slot_none start start k.roles (spread_start k []) y refl (sym (length-map k.roles (role_start k []))) e)
    go (Some r) e = ap (λ (o : Option Bool). unwrap_or o false) (slot_of_some (role_start k []) start k.roles y r e) ∙ each r

-- marked are only registers whose initial value is false
abbrev pub MarksFalse : Net → List Bool → Type 0
MarksFalse n free = (x : ℕ) → node_bit (length n.inputs) free x ≡ true → IsInitOf (node_of n x) false

pub nothing_marked : (n : Net) → MarksFalse n []
nothing_marked n x e = absurd (cc (node_bit_none (length n.inputs) x, e))

pub counted_marks : (n : Net) (free : List Bool) (k : PlainCert) → MarksFalse n free → MarksFalse n (counted k free)
counted_marks n free k marks = go (nat_eq k.version 1)
  where
    go : (b : Bool) → MarksFalse n (if b then [] else free)
    go true = nothing_marked n
    go false = marks

-- where all start values are false, marks change nothing
begins_alike : (n : Net) (free u : List Bool) → MarksFalse n free → ((x : ℕ) → node_bit (length n.inputs) u x ≡ false) → (x t : ℕ) (ins before v : List Bool) → net_value (node_of n x) (start_at n [] [] x) t ins before v x ≡ net_value (node_of n x) (start_at n free u x) t ins before v x
begins_alike n free u marks none x t ins before v = go (node_of n x) refl t
  where
    go : (o : Option Node) → node_of n x ≡ o → (t : ℕ) → net_value o (start_at n [] [] x) t ins before v x ≡ net_value o (start_at n free u x) t ins before v x
    go None e t = refl
    go (Some (Table name cover pins)) e t = refl
    go (Some (Register name init pin)) e (suc t) = refl
    go (Some (Register name init pin)) e zero = unmarked (node_bit (length n.inputs) [] x) (node_bit_none (length n.inputs) x) ∙ by_mark (node_bit (length n.inputs) free x) refl
      where
        unmarked : (b : Bool) → b ≡ false → unwrap_or (if b then Some (node_bit (length n.inputs) [] x) else None) init ≡ init
        unmarked b f = ap (λ (m : Bool). unwrap_or (if m then Some (node_bit (length n.inputs) [] x) else None) init) f

        by_mark : (b : Bool) → node_bit (length n.inputs) free x ≡ b → init ≡ unwrap_or (if b then Some (node_bit (length n.inputs) u x) else None) init
        by_mark true m = let is_false : init ≡ false = subst (λ (o : Option Node). IsInitOf o false) e (marks x m) in is_false ∙ sym (none x)
        by_mark false m = refl

pub plain_is_free : (n : Net) (free u : List Bool) (ins : List (List Bool)) (s : List Upset) (tr : List (List Bool)) → MarksFalse n free → ((x : ℕ) → node_bit (length n.inputs) u x ≡ false) → IsFaultTrace n ins s tr → IsFreeFaultTrace n free u ins s tr
plain_is_free n free u ins s tr marks none is = record {
  long = is.long;
  wide = is.wide;
  equations = λ t x l h. is.equations t x l h ∙ ap (unwrap_or (upset_at s t x)) (begins_alike n free u marks none x t _ _ _);
}
