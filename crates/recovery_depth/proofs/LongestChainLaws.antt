-- The chains that are read are longest chains, and no labels and depths that the rules admit are smaller.
use Rattle.std.proofs.Common.{◌≡◌, ◌≢◌, ℕ, zero, suc, ◌+◌, ◌<◌, ◌≤◌, ◌⊎◌, Bool, true, false, List, [], ◌∷◌, ◌++◌, length, get_or, map, refl, sym, ◌∙◌, ap, subst, inl, inr, arith, length-append}
use Rattle.std.specs.Prelude.{cond, ◌&&◌, Option, Some, None}
use Rattle.std.specs.List.{range_with_len}
use Rattle.std.proofs.lemmas.List.{length-map, map-append}
use Rattle.std.proofs.lemmas.List.FromFn.{get_or-map-range_with_len, length-map-range_with_len}
use Rattle.tmr_base.specs.Copies.{Three}
use Rattle.tmr_base.specs.declared.copies.CopyNo.{CopyNo}
use Rattle.table_cover.specs.Cover.{PlainCover}
use Rattle.flat_net.specs.Net.{Net, Node, Table, Register, node_of, pins_at, IsValid}
use Rattle.flat_net.specs.Nodes.{number_of}
use Rattle.flat_net.proofs.Slots.{slot_within, slot_there}
use Rattle.certificate.specs.declared.role.Role.{Role}
use Rattle.certificate.specs.declared.role.Role.TheVariants.{Copy, Voter}
use Rattle.certificate.specs.Cert.{PlainCert, IsCert, role_of, role_count, part_of, label_of, depth_of, Fits}
use Rattle.flat_net.specs.Free.{node_bit}
use Rattle.certificate.specs.Reads.{Reads, RoleReads}
use Rattle.certificate.specs.Rules.{AllHold, CopiesTable, CopiesRegister, PinsRead}
use Rattle.graph.specs.Rows.{Follows}
use Rattle.graph.specs.Lists.{Leads, alone, longer}
use Rattle.graph.proofs.Places.{leads_map}
use Rattle.graph.proofs.Decisions.{no_absurd}
use Rattle.recovery_depth.specs.declared.depth_and_chain.Deep.{Deep}
use Rattle.recovery_depth.specs.Walks.{Walk, starts, goes_on, IsReach, is_marked}
use Rattle.recovery_depth.specs.Private.Vertices.{IsReachIn, marked}
use Rattle.recovery_depth.specs.Depths.{is_some_register, IsDepth}
use Rattle.recovery_depth.specs.Hardened.{role_at, node_at, is_copy, IsCopyIn, ReadsCopy, ReadsWithin, original_of, own_original}
use Rattle.recovery_depth.specs.Private.Copied.{is_register_copy, copied_rows}
use Rattle.recovery_depth.specs.Chains.{HasWalk, IsDeep, relabeled, Admits}
use Rattle.recovery_depth.specs.Private.LastRegisters.{number_at, last_of, AreBefore}
use Rattle.recovery_depth.specs.Private.ChainEnds.{part_or_zero, place_of, place_at, places_of, original_in, original_at, originals_of, AreChainEnds, walked, IsRead}
use Rattle.recovery_depth.proofs.WalkLaws.{walk_map, reach_map}
use Rattle.recovery_depth.proofs.WalkedLaws.{length_walked, walked_walk}
use Rattle.recovery_depth.proofs.LastRegisterLaws.{IsLastOf, last_is}
use Rattle.recovery_depth.proofs.CopyLaws.{copied_long, node_with_role, reads_of_follows, follows_of_reads, bit_of, own_count, label_at, label_grows, label_own}

module _ (n h : Net) (k : PlainCert) (fits : Fits n h k) (valid_n : IsValid n) (valid_h : IsValid h) (corresponds : AllHold n [] h [] k) where
  -- what reads for partition p and copy c, and is a copy, is one there
  copy_there : (q f x p : ℕ) (c : CopyNo) → Reads k q x p c → q ≡ length h.inputs + f → is_copy (role_at h k f) ≡ true → IsCopyIn h k f p c
  copy_there q f x p c reads e t = go (role_at h k f) refl t (subst (λ (z : ℕ). RoleReads k (role_of k z) z x p c) e reads)
    where
      go : (o : Option Role) → role_at h k f ≡ o → is_copy o ≡ true → RoleReads k (role_at h k f) (length h.inputs + f) x p c → IsCopyIn h k f p c
      go None e t r = absurd (no_absurd (sym t))
      go (Some (Voter y q d)) e t r = absurd (no_absurd (sym t))
      go (Some (Copy y d)) e t r =
          let r' : RoleReads k (Some (Copy y d)) (length h.inputs + f) x p c = subst (λ o. RoleReads k o (length h.inputs + f) x p c) e r in
          record { original = y.0; role = e ∙ ap (λ m. Some (Copy y m)) r'.1; part = ap (part_of k) r'.0 ∙ r'.2 }

  -- what a copy reads is a copy of the same number, in the same partition
  pub same_domain : (f g p : ℕ) (c : CopyNo) → ReadsCopy h k f g → IsCopyIn h k g p c → IsCopyIn h k f p c
  same_domain f g p c r i = go (slot_there (length n.inputs) n.nodes i.original (let w = slot_within k.original_inputs k.part i.original p i.part in omega (arith, w.0, fits.original_inputs)) (let w = slot_within k.original_inputs k.part i.original p i.part in omega (arith, w.1, fits.original_inputs, fits.original_nodes)))
    where
      tables : CopiesTable k (node_of n i.original) (node_at h g) p c
      tables = (corresponds 3 g).tables refl i.original c p i.role i.part

      free : Bool
      free = node_bit (length n.inputs) [] i.original

      copy_free : Bool
      copy_free = node_bit (length h.inputs) [] (length h.inputs + g)

      registers : CopiesRegister k (node_of n i.original) free (node_at h g) copy_free p c
      registers = (corresponds 4 g).registers refl i.original c p i.role i.part

      go : (node : Node) × (node_of n i.original ≡ Some node) → IsCopyIn h k f p c
      go (node, e) = by node e (node_at h g) refl r.within r.is
        where
          by : (node : Node) → node_of n i.original ≡ Some node → (o : Option Node) → node_at h g ≡ o → r.pin < length (pins_at o) → get_or (pins_at o) r.pin 0 ≡ length h.inputs + f → IsCopyIn h k f p c
          by node e None d l is = absurd (omega arith)
          by (Table name cover pins) e (Some (Table hname hcover hpins)) d l is =
              let rule : (hcover ≡ cover) × PinsRead k hpins pins p c = subst (λ o. CopiesTable k o (Some (Table hname hcover hpins)) p c) e (subst (λ o. CopiesTable k (node_of n i.original) o p c) d tables) in
              let long : length hpins ≡ length pins = (valid_h.unordered.wired (length h.inputs + g) _ d).1 ∙ (ap (λ (w : PlainCover). w.width) rule.0 ∙ sym (valid_n.unordered.wired i.original _ e).1) in
              copy_there (get_or hpins r.pin 0) f (get_or pins r.pin 0) p c (rule.1 r.pin (omega (arith, long, l))) is r.read
          by (Table name cover pins) e (Some (Register hname hinit hpin)) d l is = absurd (subst (λ o. CopiesTable k o (Some (Register hname hinit hpin)) p c) e (subst (λ o. CopiesTable k (node_of n i.original) o p c) d tables))
          by (Register name init pin) e (Some (Table hname hcover hpins)) d l is = absurd (subst (λ o. CopiesRegister k o free (Some (Table hname hcover hpins)) copy_free p c) e (subst (λ o. CopiesRegister k (node_of n i.original) free o copy_free p c) d registers))
          by (Register name init pin) e (Some (Register hname hinit hpin)) d l is =
              let rule : (hinit ≡ init) × (copy_free ≡ free) × Reads k hpin pin p c = subst (λ o. CopiesRegister k o free (Some (Register hname hinit hpin)) copy_free p c) e (subst (λ o. CopiesRegister k (node_of n i.original) free o copy_free p c) d registers) in
              one r.pin l is rule.2
            where
              one : (j : ℕ) → j < length (hpin ∷ []) → get_or (hpin ∷ []) j 0 ≡ length h.inputs + f → Reads k hpin pin p c → IsCopyIn h k f p c
              one zero l is reads = copy_there hpin f pin p c reads is r.read
              one (suc j) l is reads = absurd (omega arith)

  down : (u g p : ℕ) (c : CopyNo) → Leads (ReadsCopy h k) u g → IsCopyIn h k g p c → IsCopyIn h k u p c
  down _ _ p c (alone a) i = i
  down u _ p c (longer a b d l next) i = down a b p c l (same_domain b d p c next i)

  inside : (p : ℕ) (c : CopyNo) (g : ℕ) (seen : List ℕ) → Walk (ReadsCopy h k) (own_original h k) g seen → IsCopyIn h k g p c → Walk (ReadsWithin h k p c) (own_original h k) g seen
  inside p c _ _ (starts g) i = starts g
  inside p c _ _ (goes_on f g seen w next) i = let j = same_domain f g p c next i in goes_on f g seen (inside p c f seen w j) (record { reads = next; reader_in = i; read_in = j })

  module _ (bits : List Bool) (originals : List ℕ) (bits_are : bits ≡ map (is_register_copy h k) (range_with_len 0 (length h.nodes))) (originals_are : originals ≡ originals_of h k) where
    original_is : (g : ℕ) → g < length h.nodes → number_at originals g ≡ original_at h k g
    original_is g l = ap (λ xs. get_or xs g 0) originals_are ∙ get_or-map-range_with_len (original_at h k) 0 (length h.nodes) g g 0 l (omega arith)

    own_is : (g : ℕ) → map (number_at originals) (marked bits g) ≡ own_original h k g
    own_is g = ap (λ b. map (number_at originals) (cond b (g ∷ []) [])) (bit_of n h k fits bits bits_are g) ∙ go (role_at h k g) refl (is_some_register (node_at h g))
      where
        go : (o : Option Role) → role_at h k g ≡ o → (b : Bool) → map (number_at originals) (cond (is_copy (role_at h k g) && b) (g ∷ []) []) ≡ original_of (role_at h k g) b
        go None e b = ap (λ o. map (number_at originals) (cond (is_copy o && b) (g ∷ []) [])) e ∙ sym (ap (λ o. original_of o b) e)
        go (Some (Voter x p c)) e b = ap (λ o. map (number_at originals) (cond (is_copy o && b) (g ∷ []) [])) e ∙ sym (ap (λ o. original_of o b) e)
        go (Some (Copy x c)) e true =
            let w = node_with_role n h k fits (length h.inputs + g) (ap is_copy e) in
            let at : number_at originals g ≡ x.0 = original_is g (omega (arith, w.1)) ∙ ap original_in e in
            ap (λ o. map (number_at originals) (cond (is_copy o && true) (g ∷ []) [])) e ∙ (ap (λ v. v ∷ []) at ∙ sym (ap (λ o. original_of o true) e))
        go (Some (Copy x c)) e false = ap (λ o. map (number_at originals) (cond (is_copy o && false) (g ∷ []) [])) e ∙ sym (ap (λ o. original_of o false) e)

    renamed : (g : ℕ) (seen : List ℕ) → Walk (Follows (copied_rows h k)) (marked bits) g seen → Walk (ReadsCopy h k) (own_original h k) g (map (number_at originals) seen)
    renamed _ _ (starts g) = subst (Walk (ReadsCopy h k) (own_original h k) g) (sym (own_is g)) (starts g)
    renamed _ _ (goes_on f g seen w next) = subst (Walk (ReadsCopy h k) (own_original h k) g) (ap (λ own. map (number_at originals) seen ++ own) (sym (own_is g)) ∙ sym (map-append (number_at originals) seen (marked bits g))) (goes_on f g (map (number_at originals) seen) (renamed f seen w) (reads_of_follows n h k fits f g next))

  -- the partition of a copy
  place_is : (g p : ℕ) (c : CopyNo) → IsCopyIn h k g p c → place_at h k g ≡ p
  place_is g p c i = ap (place_of k) i.role ∙ ap part_or_zero i.part

  listed_place : (g : ℕ) → g < length h.nodes → get_or (places_of h k) g 0 ≡ place_at h k g
  listed_place g l = get_or-map-range_with_len (place_at h k) 0 (length h.nodes) g g 0 l (omega arith)

  pub places_long : length (places_of h k) ≡ length h.nodes
  places_long = length-map-range_with_len (place_at h k) 0 (length h.nodes)

  copy_node : (g p : ℕ) (c : CopyNo) → IsCopyIn h k g p c → g < length h.nodes
  copy_node g p c i = let w = node_with_role n h k fits (length h.inputs + g) (ap is_copy i.role) in omega (arith, w.1)

  -- a copy stands in its partition
  copy_in : IsCert k → (g : ℕ) → is_copy (role_at h k g) ≡ true → (c : CopyNo) × IsCopyIn h k g (place_at h k g) c
  copy_in cert g t = go (role_at h k g) refl t
    where
      go : (o : Option Role) → role_at h k g ≡ o → is_copy o ≡ true → (c : CopyNo) × IsCopyIn h k g (place_at h k g) c
      go None e t = absurd (no_absurd (sym t))
      go (Some (Voter x p c)) e t = absurd (no_absurd (sym t))
      go (Some (Copy x c)) e t = found (let r = cert.roles_in_range (length h.inputs + g) (Copy x c) e in slot_there k.original_inputs k.part x.0 r.0 r.1)
        where
          found : (p : ℕ) × (part_of k x.0 ≡ Some p) → (c : CopyNo) × IsCopyIn h k g (place_at h k g) c
          found (p, s) = let here : IsCopyIn h k g p c = record { original = x.0; role = e; part = s } in (c, subst (λ (q : ℕ). IsCopyIn h k g q c) (sym (place_is g p c here)) here)

-- what was found of a hardened design
pub record IsFound (h : Net) (k : PlainCert) (bits : List Bool) (reaches before depths ends originals : List ℕ) (none : ℕ) : Type 0 where
  pub bits_are : bits ≡ map (is_register_copy h k) (range_with_len 0 (length h.nodes))
  pub long : length reaches ≡ length (copied_rows h k)
  pub reached : (g : ℕ) → g < length (copied_rows h k) → IsReachIn (copied_rows h k) bits g (number_at reaches g)
  pub before_are : AreBefore (copied_rows h k) bits reaches before
  pub depths_are : (p : ℕ) → p < length k.depth → IsDepth (record { count = length k.depth; of = places_of h k }) reaches (length (places_of h k)) p (number_at depths p)
  pub ends_are : AreChainEnds (record { count = length k.depth; of = places_of h k }) reaches depths bits before none (length (places_of h k)) ends
  pub none_is : none ≡ length (copied_rows h k)
  pub originals_are : originals ≡ originals_of h k

module _ (n h : Net) (k : PlainCert) (fits : Fits n h k) (valid_n : IsValid n) (valid_h : IsValid h) (corresponds : AllHold n [] h [] k) (cert : IsCert k) (bits : List Bool) (reaches before depths ends originals : List ℕ) (none : ℕ) (found : IsFound h k bits reaches before depths ends originals none) where
  most : (p : ℕ) → p < length k.depth → (g : ℕ) (c : CopyNo) (seen : List ℕ) → IsCopyIn h k g p c → Walk (ReadsCopy h k) (own_original h k) g seen → length seen ≤ number_at depths p
  most p pl g c seen i w = go (walk_map (ReadsCopy h k) (Follows (copied_rows h k)) (own_original h k) (marked bits) (follows_of_reads n h k fits) (λ z. sym (own_count n h k fits bits found.bits_are z)) g seen w)
    where
      node : g < length h.nodes
      node = copy_node n h k fits valid_n valid_h corresponds g p c i

      go : (other : List ℕ) × (Walk (Follows (copied_rows h k)) (marked bits) g other) × (length other ≡ length seen) → length seen ≤ number_at depths p
      go (other, v, e) =
          let up : length other ≤ number_at reaches g = (found.reached g (omega (arith, copied_long n h k fits, node))).most other v in
          let place : get_or (places_of h k) g 0 ≡ p = listed_place n h k fits valid_n valid_h corresponds g node ∙ place_is n h k fits valid_n valid_h corresponds g p c i in
          omega (arith, up, e, (found.depths_are p pl).most g (omega (arith, places_long n h k fits valid_n valid_h corresponds, node)) place)

  last_at : (g : ℕ) → g < length (places_of h k) → 0 < number_at reaches g → IsLastOf (copied_rows h k) bits reaches found.long found.reached g (last_of bits before g)
  last_at g l some =
      let v : g < length (copied_rows h k) = omega (arith, copied_long n h k fits, places_long n h k fits valid_n valid_h corresponds, l) in
      last_is (copied_rows h k) bits reaches found.long found.reached before g v some (found.before_are g v)

  walk_here : (p m : ℕ) → p < length k.depth → number_at depths p ≡ suc m → HasWalk h k p (map (number_at originals) (walked before (number_at depths p) (number_at ends p)))
  walk_here p m pl e = deepest (found.depths_are p pl).some
    where
      -- the top of the partition is the last register of a node there
      top : (g : ℕ) × (g < length (places_of h k)) × (get_or (places_of h k) g 0 ≡ p) × (number_at reaches g ≡ number_at depths p) × (last_of bits before g ≡ number_at ends p) → HasWalk h k p (map (number_at originals) (walked before (number_at depths p) (number_at ends p)))
      top (g, gl, place, reach, is) = here (subst (IsLastOf (copied_rows h k) bits reaches found.long found.reached g) is (last_at g gl (omega (arith, reach, e))))
        where
          here : IsLastOf (copied_rows h k) bits reaches found.long found.reached g (number_at ends p) → HasWalk h k p (map (number_at originals) (walked before (number_at depths p) (number_at ends p)))
          here last = made (copy_in n h k fits valid_n valid_h corresponds cert g (reader (number_at ends p) g last.register last.leads))
            where
              reader : (u v : ℕ) → is_marked bits u ≡ true → Leads (Follows (copied_rows h k)) u v → is_copy (role_at h k v) ≡ true
              reader _ _ mark (alone a) = by (is_copy (role_at h k a)) refl
                where
                  by : (b : Bool) → is_copy (role_at h k a) ≡ b → is_copy (role_at h k a) ≡ true
                  by true t = t
                  by false t = absurd (no_absurd (sym (sym (bit_of n h k fits bits found.bits_are a ∙ ap (λ b. b && is_some_register (node_at h a)) t) ∙ mark)))
              reader _ _ mark (longer a b d l next) = (reads_of_follows n h k fits b d next).reader

              made : (c : CopyNo) × IsCopyIn h k g (place_at h k g) c → HasWalk h k p (map (number_at originals) (walked before (number_at depths p) (number_at ends p)))
              made (c, i) =
                  let node : g < length h.nodes = omega (arith, places_long n h k fits valid_n valid_h corresponds, gl) in
                  let at : place_at h k g ≡ p = sym (listed_place n h k fits valid_n valid_h corresponds g node) ∙ place in
                  let i' : IsCopyIn h k g p c = subst (λ (q : ℕ). IsCopyIn h k g q c) at i in
                  let u : IsCopyIn h k (number_at ends p) p c = down n h k fits valid_n valid_h corresponds (number_at ends p) g p c (leads_map (Follows (copied_rows h k)) (ReadsCopy h k) (reads_of_follows n h k fits) (number_at ends p) g last.leads) i' in
                  let w : Walk (Follows (copied_rows h k)) (marked bits) (number_at ends p) (walked before (suc m) (number_at ends p)) = walked_walk (copied_rows h k) bits reaches before found.before_are m (number_at ends p) last.vertex last.register (last.reach ∙ (reach ∙ e)) in
                  let w' : Walk (Follows (copied_rows h k)) (marked bits) (number_at ends p) (walked before (number_at depths p) (number_at ends p)) = subst (λ (d : ℕ). Walk (Follows (copied_rows h k)) (marked bits) (number_at ends p) (walked before d (number_at ends p))) (sym e) w in
                  record {
                    copy = c;
                    last = number_at ends p;
                    last_in = u;
                    walk = inside n h k fits valid_n valid_h corresponds p c (number_at ends p) (map (number_at originals) (walked before (number_at depths p) (number_at ends p))) (renamed n h k fits valid_n valid_h corresponds bits originals found.bits_are found.originals_are (number_at ends p) (walked before (number_at depths p) (number_at ends p)) w') u;
                  }

      deepest : (number_at depths p ≡ 0) ⊎ ((g : ℕ) × (g < length (places_of h k)) × (get_or (places_of h k) g 0 ≡ p) × (get_or reaches g 0 ≡ number_at depths p)) → HasWalk h k p (map (number_at originals) (walked before (number_at depths p) (number_at ends p)))
      deepest (inl z) = absurd (omega (arith, z, e))
      deepest (inr (g, gl, place, reach)) =
          let last = last_at g gl (omega (arith, reach, e)) in
          let some : last_of bits before g ≢ none = λ z. (let v = last.vertex in omega (arith, v, z, found.none_is)) in
          let there : number_at reaches g ≡ number_at depths (get_or (places_of h k) g 0) = reach ∙ ap (number_at depths) (sym place) in
          let has : number_at ends p ≢ none = subst (λ (q : ℕ). number_at ends q ≢ none) place (found.ends_are.all g gl there some) in
          top (found.ends_are.some p pl has)

  pub is_deep : (p : ℕ) (d : Deep) → p < length k.depth → IsRead before originals ends depths p d → IsDeep h k p d.depth (map number_of d.chain.items)
  is_deep p d pl r = record {
    most = λ g c seen i w. omega (arith, most p pl g c seen i w, r.depth);
    long = omega (arith, ap length r.chain, length-map (walked before (number_at depths p) (number_at ends p)) (number_at originals), length_walked before (number_at depths p) (number_at ends p), r.depth);
    walks = go (number_at depths p) refl;
  }
    where
      go : (m : ℕ) → number_at depths p ≡ m → (map number_of d.chain.items ≡ []) ⊎ HasWalk h k p (map number_of d.chain.items)
      go zero e = inl (empty (map number_of d.chain.items) (omega (arith, ap length r.chain, length-map (walked before (number_at depths p) (number_at ends p)) (number_at originals), length_walked before (number_at depths p) (number_at ends p), e)))
        where
          empty : (xs : List ℕ) → length xs ≡ 0 → xs ≡ []
          empty [] l = refl
          empty (x ∷ xs) l = absurd (omega arith)
      go (suc m) e = inr (subst (HasWalk h k p) (sym r.chain) (walk_here p m pl e))

-- a walk of copies has no more registers than labels admit
walk_label : (h : Net) (k : PlainCert) (labels : List Three) (depths : List ℕ) → Admits h (relabeled k labels depths) → (p : ℕ) (c : CopyNo) (g : ℕ) (seen : List ℕ) → Walk (ReadsWithin h k p c) (own_original h k) g seen → length seen ≤ label_at h (relabeled k labels depths) g
walk_label h k labels depths a p c _ _ (starts g) = label_own h (relabeled k labels depths) (λ g. a.labels (length h.inputs + g)) g
walk_label h k labels depths a p c _ _ (goes_on f g seen w next) =
    let up = walk_label h k labels depths a p c f seen w in
    let grows = label_grows h (relabeled k labels depths) (λ g. a.labels (length h.inputs + g)) f g (record { pin = next.reads.pin; within = next.reads.within; is = next.reads.is; reader = next.reads.reader; read = next.reads.read }) in
    omega (arith, up, grows, length-append seen (own_original h k g))

pub is_least : (h : Net) (k : PlainCert) (p depth : ℕ) (chain : List ℕ) → IsDeep h k p depth chain → (labels : List Three) (depths : List ℕ) → Admits h (relabeled k labels depths) → depth ≤ get_or depths p 0
is_least h k p depth chain deep labels depths a = go deep.walks
  where
    go : (chain ≡ []) ⊎ HasWalk h k p chain → depth ≤ get_or depths p 0
    go (inl e) = omega (arith, deep.long, ap length e)
    go (inr w) =
        let up : length chain ≤ label_at h (relabeled k labels depths) w.last = walk_label h k labels depths a p w.copy w.last chain w.walk in
        let label : label_at h (relabeled k labels depths) w.last ≡ label_of (relabeled k labels depths) w.last_in.original w.copy = ap (role_count (relabeled k labels depths)) w.last_in.role in
        let most : label_of (relabeled k labels depths) w.last_in.original w.copy ≤ depth_of (relabeled k labels depths) p = a.depths (length h.inputs + w.last) w.last_in.original w.copy p w.last_in.role w.last_in.part in
        omega (arith, deep.long, up, label, most)

-- the reach of each copy, by what copies read
pub copy_reached : (n h : Net) (k : PlainCert) (fits : Fits n h k) (bits : List Bool) (reaches : List ℕ) → bits ≡ map (is_register_copy h k) (range_with_len 0 (length h.nodes)) → ((g : ℕ) → g < length (copied_rows h k) → IsReachIn (copied_rows h k) bits g (number_at reaches g)) → (g : ℕ) → g < length h.nodes → IsReach (ReadsCopy h k) (own_original h k) g (number_at reaches g)
copy_reached n h k fits bits reaches e reached g l = reach_map (Follows (copied_rows h k)) (ReadsCopy h k) (marked bits) (own_original h k) (reads_of_follows n h k fits) (follows_of_reads n h k fits) (own_count n h k fits bits e) g (number_at reaches g) (reached g (omega (arith, copied_long n h k fits, l)))
