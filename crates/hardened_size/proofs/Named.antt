-- The names of hardened nets are at most thirteen bytes longer than those of the nets that they stand for.
use Rattle.std.proofs.Common.{◌≡◌, ℕ, ◌+◌, ◌-◌, ◌*◌, ◌<◌, ◌≤◌, ◌⊎◌, inl, inr, true, List, [], ◌∷◌, ◌++◌, length, map, slice_get, Option, Some, None, refl, sym, ap, ◌∙◌, subst, arith}
use Rattle.std.specs.List.{flat_map}
use Rattle.std.specs.Option.{option_map}
use Rattle.std.proofs.lemmas.Bool.{cases_lt, false≢true}
use Rattle.std.proofs.lemmas.List.{length-append}
use Rattle.std.proofs.lemmas.Option.{get_or_from_slice_get, slice_get-map, slice_get_within}
use Rattle.tmr_base.specs.declared.copies.CopyNo.{CopyNo}
use Rattle.tmr_base.specs.declared.ids.Edge.{Edge}
use Rattle.tmr_base.specs.Copies.{copy_number}
use Rattle.tmr_base.specs.Names.{is_name, copy_text}
use Rattle.flat_net.specs.Net.{Net, node_name, net_count, net_names, name_of, IsValid, IsClockOf}
use Rattle.flat_net.proofs.Slots.{slot_at, slot_below, slot_within, slice_get_there}
use Rattle.certificate.specs.declared.role.Role.{Role}
use Rattle.certificate.specs.declared.role.Role.TheVariants.{Copy, Voter}
use Rattle.certificate.specs.Cert.{PlainCert, IsCert, role_of, copy_of, three_or_input}
use Rattle.certificate.specs.Reads.{Reads, RoleReads}
use Rattle.blif_writer.proofs.Growth.{IsGrown, ClockGrown, copy_grown, voter_grown, clock_grown}
use Rattle.triplicate.specs.Blocks.{threefold, role_name, hardened_clock}
use Rattle.triplicate.specs.Form.{IsTripled}
use Rattle.triplicate.proofs.Lists.{get_before, get_after, threes_at}

name_is_some : (name : List ℕ) → is_name name ≡ true → 0 < length name
name_is_some [] e = absurd (false≢true e)
name_is_some (x ∷ xs) e = omega arith

-- no net has an empty name
pub some_name : (n : Net) (x : ℕ) → IsValid n → x < net_count n → 0 < length (name_of n x)
some_name n x valid l = name_is_some (name_of n x) (valid.unordered.names_are_names x l)

pub clock_grows : (n : Net) (c : Option (Edge × List ℕ)) → IsClockOf n c → ClockGrown c (hardened_clock c)
clock_grows n None is = tt
clock_grows n (Some (edge, name)) is = clock_grown name (name_is_some name is.0)

module _ (n h : Net) (k : PlainCert) (valid : IsValid n) (cert : IsCert k) (is : IsTripled n h k) where
  hardened_names : net_names h ≡ flat_map (λ name. threefold (copy_text name)) n.inputs ++ map (role_name n) k.roles
  hardened_names = ap (λ (xs : List (List ℕ)). xs ++ map node_name h.nodes) is.inputs ∙ ap (λ (xs : List (List ℕ)). flat_map (λ name. threefold (copy_text name)) n.inputs ++ xs) is.names

  -- a net with a role has the name that goes with it
  pub name_of_role : (g : ℕ) (r : Role) → role_of k g ≡ Some r → name_of h g ≡ role_name n r
  name_of_role g r e =
      let (low, high) = slot_within k.hardened_inputs k.roles g r e in
      let i : ℕ = g - k.hardened_inputs in
      let at : slice_get k.roles i ≡ Some r = sym (slot_at k.hardened_inputs k.roles g low) ∙ e in
      let place : g ≡ length h.inputs + i = omega (arith, is.fits.hardened_inputs, low) in
      let behind : slice_get (net_names h) (length h.inputs + i) ≡ slice_get (map node_name h.nodes) i = get_after h.inputs (map node_name h.nodes) i in
      let named : slice_get (map node_name h.nodes) i ≡ Some (role_name n r) = ap (λ (xs : List (List ℕ)). slice_get xs i) is.names ∙ (slice_get-map (role_name n) k.roles i ∙ ap (option_map (role_name n)) at) in
      ap (name_of h) place ∙ get_or_from_slice_get (net_names h) (length h.inputs + i) (role_name n r) [] (behind ∙ named)

  -- a copy of an input has its name with the copy's suffix
  input_copy_named : (x : ℕ) (c : CopyNo) → x < length n.inputs → name_of h (3 * x + copy_number c) ≡ copy_text (name_of n x) c
  input_copy_named x c l =
      let (name, there) = slice_get_there n.inputs x l in
      let own : name_of n x ≡ name = get_or_from_slice_get (net_names n) x name [] (get_before n.inputs (map node_name n.nodes) x l ∙ there) in
      let copies : List (List ℕ) = flat_map (λ y. threefold (copy_text y)) n.inputs in
      let at : slice_get copies (3 * x + copy_number c) ≡ Some (copy_text name c) = threes_at copy_text n.inputs x name c there in
      let within : 3 * x + copy_number c < length copies = slice_get_within copies (3 * x + copy_number c) (copy_text name c) at in
      let front : slice_get (net_names h) (3 * x + copy_number c) ≡ slice_get copies (3 * x + copy_number c) = ap (λ (xs : List (List ℕ)). slice_get xs (3 * x + copy_number c)) hardened_names ∙ get_before copies (map (role_name n) k.roles) (3 * x + copy_number c) within in
      get_or_from_slice_get (net_names h) (3 * x + copy_number c) (copy_text name c) [] (front ∙ at) ∙ ap (λ (name : List ℕ). copy_text name c) (sym own)

  -- and so has each copy of a net
  pub copy_named : (x : ℕ) (c : CopyNo) → x < net_count n → name_of h (copy_of k x c) ≡ copy_text (name_of n x) c
  copy_named x c l = go (cases_lt x (length n.inputs))
    where
      go : (x < length n.inputs) ⊎ (length n.inputs ≤ x) → name_of h (copy_of k x c) ≡ copy_text (name_of n x) c
      go (inl low) =
          let number : copy_of k x c ≡ 3 * x + copy_number c = ap (λ o. three_or_input o x c) (slot_below k.original_inputs k.copies x (omega (arith, is.fits.original_inputs, low))) in
          ap (name_of h) number ∙ input_copy_named x c low
      go (inr high) = name_of_role (copy_of k x c) (Copy (record { 0 = x }) c) (cert.copies_have_roles x c (omega (arith, is.fits.original_inputs, high)) (omega (arith, is.fits.original_inputs, is.fits.original_nodes, l)))

  pub copy_long : (x : ℕ) (c : CopyNo) → x < net_count n → length (name_of h (copy_of k x c)) ≡ length (name_of n x) + 2
  copy_long x c l = omega (arith, ap length (copy_named x c l), length-append (name_of n x) (126 ∷ (48 + copy_number c) ∷ []))

  -- partitions have numbers of 32 bits
  voter_in_range : (g y q : ℕ) (d : CopyNo) → role_of k g ≡ Some (Voter (record { 0 = y }) (record { 0 = q }) d) → q < 4294967296
  voter_in_range g y q d e = omega (arith, (cert.roles_in_range g (Voter (record { 0 = y }) (record { 0 = q }) d) e).2, cert.few_parts)

  pub voter_name_grown : (g y q : ℕ) (d : CopyNo) → y < net_count n → role_of k g ≡ Some (Voter (record { 0 = y }) (record { 0 = q }) d) → IsGrown (name_of n y) (name_of h g)
  voter_name_grown g y q d l e = subst (IsGrown (name_of n y)) (sym (name_of_role g (Voter (record { 0 = y }) (record { 0 = q }) d) e)) (voter_grown (name_of n y) q d (some_name n y valid l) (voter_in_range g y q d e))

  pub copy_name_grown : (g y : ℕ) (d : CopyNo) → y < net_count n → role_of k g ≡ Some (Copy (record { 0 = y }) d) → IsGrown (name_of n y) (name_of h g)
  copy_name_grown g y d l e = subst (IsGrown (name_of n y)) (sym (name_of_role g (Copy (record { 0 = y }) d) e)) (copy_grown (name_of n y) d (some_name n y valid l))

  -- what reads net x, whatever its role
  pub read_name_grown : (g x p : ℕ) (c : CopyNo) → x < net_count n → Reads k g x p c → IsGrown (name_of n x) (name_of h g)
  read_name_grown g x p c l reads = go (role_of k g) refl reads
    where
      go : (o : Option Role) → role_of k g ≡ o → RoleReads k o g x p c → IsGrown (name_of n x) (name_of h g)
      go None e r =
          let named : name_of h g ≡ copy_text (name_of n x) c = ap (name_of h) r.1.2 ∙ input_copy_named x c (omega (arith, is.fits.original_inputs, r.1.0)) in
          subst (IsGrown (name_of n x)) (sym named) (copy_grown (name_of n x) c (some_name n x valid l))
      go (Some (Copy y d)) e r = copy_name_grown g x d l (e ∙ ap (λ (z : ℕ). Some (Copy (record { 0 = z }) d)) r.0)
      go (Some (Voter y q d)) e r = voter_name_grown g x q.0 d l (e ∙ ap (λ (z : ℕ). Some (Voter (record { 0 = z }) q d)) r.0)
