-- A hardened design beside its original.
use Rattle.std.proofs.Common.{◌≡◌, ◌∙◌, ◌⊎◌, inl, inr, ℕ, ◌+◌, ◌<◌, ◌≤◌, Bool, false, List, [], ◌∷◌, ◌++◌, length, map, slice_index, Option, Some, None, sym, ap, subst, arith}
use Rattle.std.specs.Prelude.{IfSome, IsSomeAnd}
use Rattle.std.proofs.lemmas.List.{get_or_append_left, length-map, map-append}
use Rattle.std.proofs.Math.Seq.{get_or-append_seam}
use Rattle.tmr_base.specs.declared.copies.CopyNo.{CopyNo}
use Rattle.tmr_base.specs.declared.ids.NetId.{NetId}
use Rattle.table_cover.specs.Words.{bits_of}
use Rattle.flat_net.specs.Net.{Net, Node, Table, Register, net_count, node_of, IsTable, IsInitOf}
use Rattle.flat_net.specs.Nodes.{number_of}
use Rattle.flat_net.proofs.Ranges.{table_within}
use Rattle.flat_net.proofs.Slots.{slot_within}
use Rattle.net_meaning.specs.Meaning.{bit}
use Rattle.certificate.specs.Cert.{PlainCert, IsCert, Fits, RoleIsInRange, role_of, copy_of}
use Rattle.certificate.specs.declared.role.Role.{Role}
use Rattle.certificate.specs.declared.role.Role.TheVariants.{Copy, Voter}
use Rattle.net_simulator.specs.Cycle.{WideRun, IsCycle}
use Rattle.net_simulator.specs.Twins.{TwinRun, AreTablesMet, AreWordsBut}
use Rattle.net_simulator.proofs.TwinLaws.{cycle_meets_tables}
use Rattle.schedule_replay.specs.Origins.{role_net, CopiesStandFor, RunsBeside, IsCompared, NamesNoTable}
use Rattle.schedule_replay.specs.Starts.{MarksRegisters, AreStarts}
use Rattle.schedule_replay.proofs.Starting.{no_register}

-- a table has no initial value
no_init : (o : Option Node) → IsTable o → IsInitOf o false → ⊥
no_init None table is = table
no_init (Some (Table name cover pins)) table is = is
no_init (Some (Register name init pin)) table is = table

-- where registers alone are marked, no table begins with a start value
pub no_table_named : (n : Net) (free w : List Bool) (starts : List (NetId × Bool)) → MarksRegisters n free → AreStarts n free w 0 starts → NamesNoTable n starts
no_table_named n free w starts marks are x table = are x (table_within n x table).1 ∙ no_register n free w x marks (no_init (node_of n x) table)

-- in a run the tables of the original meet their equations
pub tables_met : (n : Net) (o : Option (List ℕ)) (j : ℕ) (last : Option (List Bool)) (ins : List Bool) (forced : ℕ → Option Bool) → IsSomeAnd o (λ (words : List ℕ). IsCycle n last ins forced (bits_of j words))
    → ((x : ℕ) → IsTable (node_of n x) → forced x ≡ None) → IsSomeAnd o (λ (words : List ℕ). AreTablesMet n (bits_of j words))
tables_met n None j last ins forced is none = is
tables_met n (Some words) j last ins forced is none = cycle_meets_tables n last ins forced (bits_of j words) is none

-- where a node is not marked, each copy has its word
pub copy_word : (n h : Net) (k : PlainCert) (original : WideRun) (hardened : TwinRun) (x : ℕ) (d : CopyNo) (word : ℕ) → IsCert k → Fits n h k → RunsBeside n h k hardened → IsCompared original hardened → length n.inputs ≤ x → x < net_count n
    → bit hardened.differing x ≡ false → IfSome original.last (λ (own : List ℕ). word ≡ slice_index own x) → IfSome hardened.last (λ (words : List ℕ). word ≡ slice_index words (copy_of k x d))
copy_word n h k original hardened x d word cert fits beside compared low high same is = go original.last hardened.last compared is
  where
    stands : slice_index hardened.origins (copy_of k x d) ≡ x
    stands = beside.copies x d low high

    within : copy_of k x d < length hardened.origins
    within =
        let (below, above) = slot_within k.hardened_inputs k.roles (copy_of k x d) (Copy (record { 0 = x }) d)
        (cert.copies_have_roles x d (let a = fits.original_inputs in omega (arith, a, low)) (let a = fits.original_inputs in let b = fits.original_nodes in omega (arith, a, b, high))) in
        omega (arith, above, fits.hardened_inputs, fits.hardened_nodes, beside.long)

    go : (o p : Option (List ℕ)) → IsSomeAnd o (λ (own : List ℕ). IsSomeAnd p (λ (words : List ℕ). AreWordsBut hardened.differing hardened.origins own words)) → IfSome o (λ (own : List ℕ). word ≡ slice_index own x)
        → IfSome p (λ (words : List ℕ). word ≡ slice_index words (copy_of k x d))
    go None p all is = absurd all
    go (Some own) None all is = absurd all
    go (Some own) (Some words) all is = is ∙ (ap (slice_index own) (sym stands) ∙ sym (all (copy_of k x d) within (ap (bit hardened.differing) stands ∙ same)))

below_or_last : (y k : ℕ) → y < k + 1 → (y < k) ⊎ (y ≡ k)
below_or_last y k h = grind arith

-- the copies among the first nets stand for what they copy
abbrev pub StandBelow : PlainCert → ℕ → List NetId → Type 0
StandBelow k count origins = (y x : ℕ) (d : CopyNo) → y < count → role_of k y ≡ Some (Copy (record { 0 = x }) d) → slice_index (map number_of origins) y ≡ x

pub one_origin_more : (k : PlainCert) (origins : List NetId) (count : ℕ) (o : NetId) → length origins ≡ count → StandBelow k count origins → ((x : ℕ) (d : CopyNo) → role_of k count ≡ Some (Copy (record { 0 = x }) d) → o.0 ≡ x)
    → StandBelow k (count + 1) (origins ++ o ∷ [])
one_origin_more k origins count o long earlier is y x d l role = go (below_or_last y count l)
  where
    pushed : map number_of (origins ++ o ∷ []) ≡ map number_of origins ++ o.0 ∷ []
    pushed = map-append number_of origins (o ∷ [])

    numbers : length (map number_of origins) ≡ length origins
    numbers = length-map origins number_of

    go : (y < count) ⊎ (y ≡ count) → slice_index (map number_of (origins ++ o ∷ [])) y ≡ x
    go (inl h) = ap (λ (ns : List ℕ). slice_index ns y) pushed ∙ (get_or_append_left (map number_of origins) (o.0 ∷ []) 0 y (omega (arith, h, long, numbers)) ∙ earlier y x d h role)
    go (inr e) =
        let at : y ≡ length (map number_of origins) = e ∙ (sym long ∙ sym numbers) in
        ap (λ (ns : List ℕ). slice_index ns y) pushed ∙ (ap (slice_index (map number_of origins ++ o.0 ∷ [])) at ∙ (get_or-append_seam (map number_of origins) o.0 [] 0
        ∙ is x d (subst (λ (z : ℕ). role_of k z ≡ Some (Copy (record { 0 = x }) d)) e role)))

-- all copies do
pub copies_stand : (n h : Net) (k : PlainCert) (origins : List NetId) (count : ℕ) → IsCert k → Fits n h k → net_count h ≤ count → StandBelow k count origins → CopiesStandFor n k (map number_of origins)
copies_stand n h k origins count cert fits all stand x d low high =
    let role = cert.copies_have_roles x d (let a = fits.original_inputs in omega (arith, a, low)) (let a = fits.original_inputs in let b = fits.original_nodes in omega (arith, a, b, high)) in
    let (below, above) = slot_within k.hardened_inputs k.roles (copy_of k x d) (Copy (record { 0 = x }) d) role in
    stand (copy_of k x d) x d (omega (arith, above, fits.hardened_inputs, fits.hardened_nodes, all)) role

pub role_net_within : (k : PlainCert) (r : Role) → RoleIsInRange k r → role_net r < k.original_inputs + length k.part
role_net_within k (Copy x c) range = range.1
role_net_within k (Voter x p c) range = range.1

pub role_net_of_copy : (k : PlainCert) (y x : ℕ) (d : CopyNo) (r : Role) → role_of k y ≡ Some r → role_of k y ≡ Some (Copy (record { 0 = x }) d) → role_net r ≡ x
role_net_of_copy k y x d r e f = let same : r ≡ Copy (record { 0 = x }) d = cc in ap role_net same

-- an input has no role
pub input_without_role : (k : PlainCert) (y x : ℕ) (d : CopyNo) → y < k.hardened_inputs → role_of k y ≡ Some (Copy (record { 0 = x }) d) → ⊥
input_without_role k y x d low role =
    let (below, above) = slot_within k.hardened_inputs k.roles y (Copy (record { 0 = x }) d) role in
    absurd (omega (arith, below, low))
