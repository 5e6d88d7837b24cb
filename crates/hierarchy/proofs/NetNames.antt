-- Texts given to nets, one more.
use Rattle.std.proofs.Common.{◌≡◌, ◌≢◌, ℕ, ◌+◌, ◌<◌, ◌≤◌, ◌⊎◌, inl, inr, Bool, true, false, cond, not, List, [], ◌∷◌, ◌++◌, length, map, get_or, take, drop, refl, sym, ap, ◌∙◌, subst, arith, Option, Some, None, nat_eq}
use Rattle.std.specs.Prelude.{find, option_map, flat_map}
use Rattle.std.specs.Option.{option_or}
use Rattle.std.specs.Str.{bytes_eq}
use Rattle.std.proofs.lemmas.Bool.{eqb-true, eq-eqb, false_from_ne_true}
use Rattle.std.proofs.lemmas.List.{length-take, append-nil, append_assoc, take_more, map-append, take-append-drop}
use Rattle.std.proofs.lemmas.List.Folds.{find-append}
use Rattle.std.proofs.lemmas.Slice.Eq.{bytes_eq-Decides}
use Rattle.tmr_base.specs.declared.ids.Edge.{Edge}
use Rattle.table_cover.specs.Cover.{PlainCover}
use Rattle.blif_text.specs.declared.library.Init.{Init}
use Rattle.library_faults.specs.Flat.{PlacedNet, NetElement, NetTable, NetRegister, net_text}
use Rattle.hierarchy.specs.Clash.{same_net, nets_of, control_nets, is_taken, clash_after}
use Rattle.hierarchy.proofs.OneText.{among_split, found_among, taken_apart, free_text, still_clear}
use Rattle.hierarchy.proofs.PathsApart.{same_paths}
use Rattle.hierarchy.specs.Private.Naming.{AreSmall, Among, has_text, path_length, IsNamed, AreNamed, Clashes, IsNamingFault}
use Rattle.hierarchy.specs.declared.walking.naming.NamingFault.{NamingFault}
use Rattle.hierarchy.specs.declared.walking.naming.NamingFault.TheVariants.{Clash, Memory}

pub taken_long : (path : List ℕ) (end : ℕ) → end ≤ length path → length (take end path) ≡ end
taken_long path end l = omega (arith, length-take end path)

bytes_same : (a b : List ℕ) → a ≡ b → bytes_eq a b ≡ true
bytes_same a b e = (bytes_eq-Decides a b).1 e

bytes_apart : (a b : List ℕ) → a ≢ b → bytes_eq a b ≡ false
bytes_apart a b ne = false_from_ne_true (bytes_eq a b) (λ e. ne ((bytes_eq-Decides a b).0 e))

-- nets of one text are the same where their paths are equally long
same_by_length : (a b : PlacedNet) → AreSmall a.path → AreSmall b.path → net_text a ≡ net_text b → same_net a b ≡ nat_eq (length a.path) (length b.path)
same_by_length a b small_a small_b e = go (nat_eq (length a.path) (length b.path)) refl
  where
    go : (v : Bool) → nat_eq (length a.path) (length b.path) ≡ v → same_net a b ≡ v
    go true f =
        let both = same_paths a.path b.path a.name b.name small_a small_b (eqb-true _ _ f) e in
        rw (bytes_same a.path b.path both.0, bytes_same a.name b.name both.1) refl
    go false f = rw (bytes_apart a.path b.path (λ p. (let g : nat_eq (length a.path) (length b.path) ≡ true = eq-eqb _ _ (ap length p) in cc))) refl

module _ (look : List ℕ → Option ℕ) (seen : List PlacedNet) (named : IsNamed look seen) (net : PlacedNet) (small : AreSmall net.path) where
  -- the text has a net, whose path is so long
  pub taken_some : (before : ℕ) → look (net_text net) ≡ Some before → not (nat_eq before (length net.path)) ≡ is_taken seen net
  taken_some before e = go (find (has_text (net_text net)) seen) refl (sym (named.first (net_text net)) ∙ e)
    where
      go : (o : Option PlacedNet) → find (has_text (net_text net)) seen ≡ o → option_map path_length o ≡ Some before → not (nat_eq before (length net.path)) ≡ is_taken seen net
      go None f g = absurd cc
      go (Some other) f g =
          let l : length other.path ≡ before = cc in
          let there = found_among (net_text net) seen other f in
          let same : same_net other net ≡ nat_eq (length other.path) (length net.path) = same_by_length other net (named.small other there.0) small ((bytes_eq-Decides (net_text other) (net_text net)).0 there.1) in
          ap (λ n. not (nat_eq n (length net.path))) (sym l) ∙ (ap not (sym same) ∙ taken_apart seen net named.apart other (same_net other net) there.0 there.1 refl)

  pub taken_none : look (net_text net) ≡ None → false ≡ is_taken seen net
  taken_none e = go (find (has_text (net_text net)) seen) refl (sym (named.first (net_text net)) ∙ e)
    where
      go : (o : Option PlacedNet) → find (has_text (net_text net)) seen ≡ o → option_map path_length o ≡ None → false ≡ is_taken seen net
      go None f g = free_text seen net f
      go (Some other) f g = absurd cc

  all_small : (other : PlacedNet) → Among other (seen ++ net ∷ []) → AreSmall other.path
  all_small other a = go (among_split other seen (net ∷ []) a)
    where
      go : Among other seen ⊎ Among other (net ∷ []) → AreSmall other.path
      go (inl b) = named.small other b
      go (inr (inl e)) = subst (λ (n : PlacedNet). AreSmall n.path) e small
      go (inr (inr b)) = absurd b

  one_more : (text : List ℕ) → option_map path_length (find (has_text text) (seen ++ net ∷ [])) ≡ option_or (look text) (cond (has_text text net) (Some (length net.path)) None)
  one_more text = rw (find-append (has_text text) seen (net ∷ []), named.first text) (go (find (has_text text) seen) (has_text text net))
    where
      go : (o : Option PlacedNet) (v : Bool) → option_map path_length (option_or o (cond v (Some net) None)) ≡ option_or (option_map path_length o) (cond v (Some (length net.path)) None)
      go None true = refl
      go None false = refl
      go (Some other) v = refl

  -- the text has this net already
  pub named_before : (before : ℕ) → look (net_text net) ≡ Some before → is_taken seen net ≡ false → IsNamed look (seen ++ net ∷ [])
  named_before before e free = record { small = all_small; apart = still_clear seen net named.apart free; first = λ text. sym (one_more text ∙ go text (has_text text net) refl) }
    where
      plain : (o : Option ℕ) → option_or o None ≡ o
      plain None = refl
      plain (Some x) = refl

      go : (text : List ℕ) (v : Bool) → has_text text net ≡ v → option_or (look text) (cond v (Some (length net.path)) None) ≡ look text
      go text true h = let is : net_text net ≡ text = (bytes_eq-Decides (net_text net) text).0 h in let f : look text ≡ Some before = subst (λ t. look t ≡ Some before) is e in rw f refl
      go text false h = plain (look text)

  -- the text is given to this net
  pub named_now : (after : List ℕ → Option ℕ) → look (net_text net) ≡ None → ((text : List ℕ) → after text ≡ cond (bytes_eq (net_text net) text) (Some (length net.path)) (look text)) → IsNamed after (seen ++ net ∷ [])
  named_now after e new = record { small = all_small; apart = still_clear seen net named.apart (sym (taken_none e)); first = λ text. new text ∙ sym (one_more text ∙ go text (has_text text net) refl) }
    where
      plain : (o : Option ℕ) → option_or o None ≡ o
      plain None = refl
      plain (Some x) = refl

      go : (text : List ℕ) (v : Bool) → has_text text net ≡ v → option_or (look text) (cond v (Some (length net.path)) None) ≡ cond (bytes_eq (net_text net) text) (Some (length net.path)) (look text)
      go text true h = let is : net_text net ≡ text = (bytes_eq-Decides (net_text net) text).0 h in let f : look text ≡ None = subst (λ t. look t ≡ None) is e in rw (h, f) refl
      go text false h = rw h (plain (look text))

-- ---- nets named one behind another

pub named_nil : (look : List ℕ → Option ℕ) → AreNamed look look []
named_nil look = record {
  named = λ seen n. subst (IsNamed look) (sym (append-nil seen)) n;
  clear = λ seen rest n. ap (λ s. clash_after s rest) (sym (append-nil seen));
}

pub named_join : (a b c : List ℕ → Option ℕ) (xs ys : List PlacedNet) → AreNamed a b xs → AreNamed b c ys → AreNamed a c (xs ++ ys)
named_join a b c xs ys f g = record {
  named = λ seen n. subst (IsNamed c) (append_assoc seen xs ys) (g.named (seen ++ xs) (f.named seen n));
  clear = λ seen rest n. ap (clash_after seen) (append_assoc xs ys rest) ∙ (f.clear seen (ys ++ rest) n ∙ (g.clear (seen ++ xs) rest (f.named seen n) ∙ ap (λ s. clash_after s rest) (append_assoc seen xs ys)));
}

pub clash_join : (a b : List ℕ → Option ℕ) (xs ys : List PlacedNet) (text : List ℕ) → AreNamed a b xs → Clashes b ys text → Clashes a (xs ++ ys) text
clash_join a b xs ys text f g = record { clash = λ seen rest n. ap (clash_after seen) (append_assoc xs ys rest) ∙ (f.clear seen (ys ++ rest) n ∙ g.clash (seen ++ xs) rest (f.named seen n)) }

pub clash_more : (a : List ℕ → Option ℕ) (xs ys : List PlacedNet) (text : List ℕ) → Clashes a xs text → Clashes a (xs ++ ys) text
clash_more a xs ys text f = record { clash = λ seen rest n. ap (clash_after seen) (append_assoc xs ys rest) ∙ f.clash seen (ys ++ rest) n }

pub named_one : (a b : List ℕ → Option ℕ) (net : PlacedNet) → ((seen : List PlacedNet) → IsNamed a seen → false ≡ is_taken seen net) → ((seen : List PlacedNet) → IsNamed a seen → IsNamed b (seen ++ net ∷ [])) → AreNamed a b (net ∷ [])
unfolding clash_after
named_one a b net free named = record {
  named = named;
  clear = λ seen rest n. rw (← free seen n) refl;
}

pub clash_one : (a : List ℕ → Option ℕ) (net : PlacedNet) → ((seen : List PlacedNet) → IsNamed a seen → true ≡ is_taken seen net) → Clashes a (net ∷ []) (net_text net)
unfolding clash_after
clash_one a net taken = record { clash = λ seen rest n. rw (← taken seen n) refl }

more_nets : {X : Type 0} (f : X → PlacedNet) (names : List X) (i : ℕ) (name : X) → i < length names → name ≡ get_or names i name → map f (take (i + 1) names) ≡ map f (take i names) ++ f name ∷ []
more_nets f names i name below is = rw (take_more names i name below, map-append, ← is) refl

-- one net more
pub named_more : {X : Type 0} (a b c : List ℕ → Option ℕ) (f : X → PlacedNet) (names : List X) (i : ℕ) (name : X) → i < length names → name ≡ get_or names i name → AreNamed a b (map f (take i names)) → AreNamed b c (f name ∷ []) → AreNamed a c (map f (take (i + 1) names))
named_more a b c f names i name below is so_far one = subst (AreNamed a c) (sym (more_nets f names i name below is)) (named_join a b c (map f (take i names)) (f name ∷ []) so_far one)

pub texts_more : {X : Type 0} (f : X → PlacedNet) (names : List X) (i : ℕ) (name : X) (found : List (List ℕ)) (text : List ℕ) → i < length names → name ≡ get_or names i name → found ≡ map net_text (map f (take i names)) → text ≡ net_text (f name) → found ++ text ∷ [] ≡ map net_text (map f (take (i + 1) names))
texts_more f names i name found text below is so_far one = sym (ap (map net_text) (more_nets f names i name below is) ∙ (map-append net_text (map f (take i names)) (f name ∷ []) ∙ rw (← so_far, ← one) refl))

-- a net that clashes, behind those that are named
pub fault_more : {X : Type 0} (a b : List ℕ → Option ℕ) (f : X → PlacedNet) (names : List X) (i : ℕ) (name : X) (fault : NamingFault) → i < length names → name ≡ get_or names i name → AreNamed a b (map f (take i names)) → IsNamingFault b (f name ∷ []) fault → IsNamingFault a (map f names) fault
fault_more a b f names i name Memory below is so_far one = tt
fault_more a b f names i name (Clash text) below is so_far one =
    subst (λ nets. Clashes a nets text) whole (clash_more a (map f (take (i + 1) names)) (map f (drop (i + 1) names)) text (subst (λ nets. Clashes a nets text) (sym (more_nets f names i name below is)) (clash_join a b (map f (take i names)) (f name ∷ []) text so_far one)))
  where
    whole : map f (take (i + 1) names) ++ map f (drop (i + 1) names) ≡ map f names
    whole = sym (map-append f (take (i + 1) names) (drop (i + 1) names)) ∙ ap (map f) (take-append-drop (i + 1) names)

-- ---- the nets of one element

nets_one : (net : NetElement) → flat_map nets_of (net ∷ []) ≡ nets_of net
nets_one net = append-nil (nets_of net)

pub table_named : (a b c : List ℕ → Option ℕ) (pins : List PlacedNet) (out : PlacedNet) (cover : PlainCover) → AreNamed a b pins → AreNamed b c (out ∷ []) → AreNamed a c (flat_map nets_of (NetTable pins out cover ∷ []))
table_named a b c pins out cover f g = subst (AreNamed a c) (sym (nets_one (NetTable pins out cover))) (named_join a b c pins (out ∷ []) f g)

fault_join : (a b : List ℕ → Option ℕ) (xs ys : List PlacedNet) (fault : NamingFault) → AreNamed a b xs → IsNamingFault b ys fault → IsNamingFault a (xs ++ ys) fault
fault_join a b xs ys Memory f g = tt
fault_join a b xs ys (Clash text) f g = clash_join a b xs ys text f g

fault_longer : (a : List ℕ → Option ℕ) (xs ys : List PlacedNet) (fault : NamingFault) → IsNamingFault a xs fault → IsNamingFault a (xs ++ ys) fault
fault_longer a xs ys Memory f = tt
fault_longer a xs ys (Clash text) f = clash_more a xs ys text f

pub table_pins_fault : (a : List ℕ → Option ℕ) (pins : List PlacedNet) (out : PlacedNet) (cover : PlainCover) (fault : NamingFault) → IsNamingFault a pins fault → IsNamingFault a (flat_map nets_of (NetTable pins out cover ∷ [])) fault
table_pins_fault a pins out cover fault f = subst (λ nets. IsNamingFault a nets fault) (sym (nets_one (NetTable pins out cover))) (fault_longer a pins (out ∷ []) fault f)

pub table_out_fault : (a b : List ℕ → Option ℕ) (pins : List PlacedNet) (out : PlacedNet) (cover : PlainCover) (fault : NamingFault) → AreNamed a b pins → IsNamingFault b (out ∷ []) fault → IsNamingFault a (flat_map nets_of (NetTable pins out cover ∷ [])) fault
table_out_fault a b pins out cover fault f g = subst (λ nets. IsNamingFault a nets fault) (sym (nets_one (NetTable pins out cover))) (fault_join a b pins (out ∷ []) fault f g)

pub latch_named : (a b c d : List ℕ → Option ℕ) (pin out : PlacedNet) (control : Option (Edge × PlacedNet)) (init : Init) → AreNamed a b (pin ∷ []) → AreNamed b c (out ∷ []) → AreNamed c d (control_nets control) → AreNamed a d (flat_map nets_of (NetRegister pin out control init ∷ []))
latch_named a b c d pin out control init f g h = subst (AreNamed a d) (sym (nets_one (NetRegister pin out control init))) (named_join a b d (pin ∷ []) (out ∷ control_nets control) f (named_join b c d (out ∷ []) (control_nets control) g h))

pub latch_pin_fault : (a : List ℕ → Option ℕ) (pin out : PlacedNet) (control : Option (Edge × PlacedNet)) (init : Init) (fault : NamingFault) → IsNamingFault a (pin ∷ []) fault → IsNamingFault a (flat_map nets_of (NetRegister pin out control init ∷ [])) fault
latch_pin_fault a pin out control init fault f = subst (λ nets. IsNamingFault a nets fault) (sym (nets_one (NetRegister pin out control init))) (fault_longer a (pin ∷ []) (out ∷ control_nets control) fault f)

pub latch_out_fault : (a b : List ℕ → Option ℕ) (pin out : PlacedNet) (control : Option (Edge × PlacedNet)) (init : Init) (fault : NamingFault) → AreNamed a b (pin ∷ []) → IsNamingFault b (out ∷ []) fault → IsNamingFault a (flat_map nets_of (NetRegister pin out control init ∷ [])) fault
latch_out_fault a b pin out control init fault f g = subst (λ nets. IsNamingFault a nets fault) (sym (nets_one (NetRegister pin out control init))) (fault_join a b (pin ∷ []) (out ∷ control_nets control) fault f (fault_longer b (out ∷ []) (control_nets control) fault g))

pub latch_control_fault : (a b c : List ℕ → Option ℕ) (pin out : PlacedNet) (control : Option (Edge × PlacedNet)) (init : Init) (fault : NamingFault) → AreNamed a b (pin ∷ []) → AreNamed b c (out ∷ []) → IsNamingFault c (control_nets control) fault → IsNamingFault a (flat_map nets_of (NetRegister pin out control init ∷ [])) fault
latch_control_fault a b c pin out control init fault f g h = subst (λ nets. IsNamingFault a nets fault) (sym (nets_one (NetRegister pin out control init))) (fault_join a b (pin ∷ []) (out ∷ control_nets control) fault f (fault_join b c (out ∷ []) (control_nets control) fault g h))

pub ruleset naming_laws = (table_named, table_pins_fault, table_out_fault, latch_named, latch_pin_fault, latch_out_fault, latch_control_fault)
