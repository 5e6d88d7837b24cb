-- The nets and the bytes of one statement.
use Rattle.std.proofs.Common.{◌≡◌, ℕ, ◌+◌, ◌<◌, ◌≤◌, Bool, true, false, cond, List, [], ◌∷◌, ◌++◌, length, get_or, drop, map, append-nil, add-one, drop-cons, refl, sym, ap, subst, ◌∙◌, arith, Option, Some, None}
use Rattle.std.specs.List.{sum_by}
use Rattle.std.proofs.lemmas.List.Sums.{sum_by-cons, sum_by-append}
use Rattle.blif_text.specs.Models.{PlainElement, Table, Register, Instance}
use Rattle.library_faults.specs.declared.lengths.count.Count.{Count}
use Rattle.library_faults.specs.Private.Counts.{Use, Formal, Own, use_of, placed_use, control_names, control_fixed, element_names, uses_with, fixed_with, least, IsTold, IsAdded, Adds, sum_of, number_after, KeepsFormals}
use Rattle.std.specs.Prelude.{All}
use Rattle.blif_text.specs.Kind.{is_among}
use Rattle.library_faults.proofs.Items.{item_has}
use Rattle.blif_text.specs.declared.library.Element.{Element}
use Rattle.blif_text.specs.Views.{plain_element}
use Rattle.library_faults.specs.FlatText.{rows_length}
use Rattle.library_faults.specs.Flat.{step, actual_of}
use Rattle.std.specs.Option.{option_map_or}
use Rattle.std.proofs.lemmas.List.{length-append, drop_all}
use Rattle.tmr_base.specs.declared.ids.Edge.{Edge}
use Rattle.table_cover.specs.Cover.{PlainCover}
use Rattle.blif_text.specs.declared.library.Init.{Init}
use Rattle.library_faults.specs.Private.Models.{IsInstance}
use Rattle.library_faults.proofs.Additions.{adds_then, adds_none}

pub plain_uses : (is_formal : List ℕ → Bool) (uses : List ℕ → List Use) (number : ℕ) (e : PlainElement) (rest : List PlainElement) → ¬ IsInstance e → uses_with is_formal uses number (e ∷ rest) ≡ map (use_of is_formal) (element_names e) ++ uses_with is_formal uses number rest
unfolding uses_with
plain_uses is_formal uses number (Table pins out cover) rest plain = refl
plain_uses is_formal uses number (Register pin out control init) rest plain = refl
plain_uses is_formal uses number (Instance model bindings) rest plain = absurd (plain tt)

pub none_left : (is_formal : List ℕ → Bool) (uses : List ℕ → List Use) (number : ℕ) → uses_with is_formal uses number [] ≡ []
unfolding uses_with
none_left is_formal uses number = refl

pub none_fixed : (fixed : List ℕ → ℕ) → fixed_with fixed [] ≡ 0
unfolding fixed_with
none_fixed fixed = refl

as_list : (f : ℕ) (g : ℕ) (us vs : List Use) (a b : Count) → Adds a b f (sum_of us) → g ≡ f → vs ≡ us ++ [] → Adds a b g (sum_of vs)
as_list f g us vs a b adds e same = subst (λ h. Adds a b h (sum_of vs)) (sym e) (subst (λ ws. Adds a b f (sum_of ws)) (sym (same ∙ append-nil us)) adds)

pub table_added : (is_formal : List ℕ → Bool) (old new : Count) (pins : List (List ℕ)) (out : List ℕ) (cover : PlainCover) (fixed : List ℕ → ℕ) (uses : List ℕ → List Use) (number : ℕ) → Adds old new (7 + rows_length cover) (sum_of (map (use_of is_formal) (pins ++ out ∷ []))) → Adds old new (fixed_with fixed (Table pins out cover ∷ [])) (sum_of (uses_with is_formal uses number (Table pins out cover ∷ [])))
unfolding uses_with fixed_with
table_added is_formal old new pins out cover fixed uses number adds = as_list (7 + rows_length cover) (7 + rows_length cover + 0) (map (use_of is_formal) (pins ++ out ∷ [])) (map (use_of is_formal) (pins ++ out ∷ []) ++ []) old new adds (omega arith) refl

pub latch_added : (is_formal : List ℕ → Bool) (old new : Count) (pin out : List ℕ) (control : Option (Edge × List ℕ)) (init : Init) (fixed : List ℕ → ℕ) (uses : List ℕ → List Use) (number : ℕ) → Adds old new (9 + control_fixed control) (sum_of (map (use_of is_formal) (pin ∷ out ∷ control_names control))) → Adds old new (fixed_with fixed (Register pin out control init ∷ [])) (sum_of (uses_with is_formal uses number (Register pin out control init ∷ [])))
unfolding uses_with fixed_with
latch_added is_formal old new pin out control init fixed uses number adds = as_list (9 + control_fixed control) (9 + control_fixed control + 0) (map (use_of is_formal) (pin ∷ out ∷ control_names control)) (map (use_of is_formal) (pin ∷ out ∷ control_names control) ++ []) old new adds (omega arith) refl

pub instance_added : (is_formal : List ℕ → Bool) (old new : Count) (model : List ℕ) (bindings : List (List ℕ × List ℕ)) (fixed : List ℕ → ℕ) (uses : List ℕ → List Use) (number : ℕ) → Adds old new (fixed model) (sum_of (map (placed_use is_formal number bindings) (uses model))) → Adds old new (fixed_with fixed (Instance model bindings ∷ [])) (sum_of (uses_with is_formal uses number (Instance model bindings ∷ [])))
unfolding uses_with fixed_with
instance_added is_formal old new model bindings fixed uses number adds = as_list (fixed model) (fixed model + 0) (map (placed_use is_formal number bindings) (uses model)) (map (placed_use is_formal number bindings) (uses model) ++ []) old new adds (omega arith) refl

least_one : (is_formal : List ℕ → Bool) (number : ℕ) (bindings : List (List ℕ × List ℕ)) (u : Use) → least u ≤ least (placed_use is_formal number bindings u)
least_one is_formal number bindings (Formal name) = go (actual_of bindings name)
  where
    by : (actual : List ℕ) (v : Bool) → 1 ≤ least (cond v (Formal actual) (Own actual))
    by actual true = omega arith
    by actual false = omega arith

    go : (o : Option (List ℕ)) → 1 ≤ least (option_map_or (use_of is_formal) o (Own (step number ++ name)))
    go None = omega arith
    go (Some actual) = by actual (is_formal actual)
least_one is_formal number bindings (Own text) = omega (arith, length-append (step number) text)

-- a placed model costs no less than by itself
least_placed : (is_formal : List ℕ → Bool) (number : ℕ) (bindings : List (List ℕ × List ℕ)) (uses : List Use) → sum_by least uses ≤ sum_by least (map (placed_use is_formal number bindings) uses)
least_placed is_formal number bindings [] = omega arith
least_placed is_formal number bindings (u ∷ uses) = omega (arith, sum_by-cons least u uses, sum_by-cons least (placed_use is_formal number bindings u) (map (placed_use is_formal number bindings) uses), least_one is_formal number bindings u, least_placed is_formal number bindings uses)

pub large_instance : (is_formal : List ℕ → Bool) (limit : ℕ) (model : List ℕ) (bindings : List (List ℕ × List ℕ)) (fixed : List ℕ → ℕ) (uses : List ℕ → List Use) (number : ℕ) → limit < fixed model + sum_by least (uses model) → limit < fixed_with fixed (Instance model bindings ∷ []) + sum_by least (uses_with is_formal uses number (Instance model bindings ∷ []))
unfolding uses_with fixed_with
large_instance is_formal limit model bindings fixed uses number large = omega (arith, sum_by-append least (map (placed_use is_formal number bindings) (uses model)) [], least_placed is_formal number bindings (uses model))

-- ---- statements, one by one

-- what is added to the one count is still to come, and with that the whole is added to the other
pub record Leads (first now : Count) (fixed : ℕ) (uses : List Use) (whole_fixed : ℕ) (whole : List Use) : Type 0 where
  pub adds : (last : Count) → Adds now last fixed (sum_of uses) → Adds first last whole_fixed (sum_of whole)
  pub within : fixed + sum_by least uses ≤ whole_fixed + sum_by least whole

pub leads_all : (first : Count) (fixed : ℕ) (uses : List Use) → Leads first first fixed uses fixed uses
leads_all first fixed uses = record { adds = λ last a. a; within = omega arith }

pub leads_more : (first now next : Count) (here rest whole_fixed : ℕ) (us vs whole : List Use) → Leads first now (here + rest) (us ++ vs) whole_fixed whole → Adds now next here (sum_of us) → Leads first next rest vs whole_fixed whole
leads_more first now next here rest whole_fixed us vs whole l one = record {
  adds = λ last a. l.adds last (adds_then now next last here rest (here + rest) (sum_of us) (sum_of vs) (sum_of (us ++ vs)) one a refl (λ w. sum_by-append w us vs));
  within = omega (arith, l.within, sum_by-append least us vs);
}

pub leads_end : (first now : Count) (whole_fixed : ℕ) (whole : List Use) → Leads first now 0 [] whole_fixed whole → Adds first now whole_fixed (sum_of whole)
leads_end first now whole_fixed whole l = l.adds now (adds_none now 0 refl)

uses_first : (is_formal : List ℕ → Bool) (uses : List ℕ → List Use) (number : ℕ) (e : PlainElement) (rest : List PlainElement) → uses_with is_formal uses number (e ∷ rest) ≡ uses_with is_formal uses number (e ∷ []) ++ uses_with is_formal uses (number_after number e) rest
unfolding uses_with
uses_first is_formal uses number (Table pins out cover) rest = ap (λ us. us ++ uses_with is_formal uses number rest) (sym (append-nil (map (use_of is_formal) (pins ++ out ∷ []))))
uses_first is_formal uses number (Register pin out control init) rest = ap (λ us. us ++ uses_with is_formal uses number rest) (sym (append-nil (map (use_of is_formal) (pin ∷ out ∷ control_names control))))
uses_first is_formal uses number (Instance model bindings) rest = ap (λ us. us ++ uses_with is_formal uses (number + 1) rest) (sym (append-nil (map (placed_use is_formal number bindings) (uses model))))

fixed_first : (fixed : List ℕ → ℕ) (e : PlainElement) (rest : List PlainElement) → fixed_with fixed (e ∷ rest) ≡ fixed_with fixed (e ∷ []) + fixed_with fixed rest
unfolding fixed_with
fixed_first fixed (Table pins out cover) rest = omega arith
fixed_first fixed (Register pin out control init) rest = omega arith
fixed_first fixed (Instance model bindings) rest = omega arith

cut : (elements : List Element) (i : ℕ) (e : Element) → i < length elements → e ≡ get_or elements i e → map plain_element (drop i elements) ≡ plain_element e ∷ map plain_element (drop (i + 1) elements)
cut elements i e below is = rw (add-one) (rw (drop-cons elements i e below, ← is) refl)

module _ (is_formal : List ℕ → Bool) (fixed : List ℕ → ℕ) (uses : List ℕ → List Use) (elements : List Element) (i number : ℕ) (e : Element) (below : i < length elements) (is : e ≡ get_or elements i e) where
  pub uses_cut : uses_with is_formal uses number (map plain_element (drop i elements)) ≡ uses_with is_formal uses number (plain_element e ∷ []) ++ uses_with is_formal uses (number_after number (plain_element e)) (map plain_element (drop (i + 1) elements))
  uses_cut = rw (cut elements i e below is) (uses_first is_formal uses number (plain_element e) (map plain_element (drop (i + 1) elements)))

  pub fixed_cut : fixed_with fixed (map plain_element (drop i elements)) ≡ fixed_with fixed (plain_element e ∷ []) + fixed_with fixed (map plain_element (drop (i + 1) elements))
  fixed_cut = rw (cut elements i e below is) (fixed_first fixed (plain_element e) (map plain_element (drop (i + 1) elements)))

  pub element_more : (first now next : Count) (whole_fixed : ℕ) (whole : List Use) → Leads first now (fixed_with fixed (map plain_element (drop i elements))) (uses_with is_formal uses number (map plain_element (drop i elements))) whole_fixed whole → Adds now next (fixed_with fixed (plain_element e ∷ [])) (sum_of (uses_with is_formal uses number (plain_element e ∷ []))) → Leads first next (fixed_with fixed (map plain_element (drop (i + 1) elements))) (uses_with is_formal uses (number_after number (plain_element e)) (map plain_element (drop (i + 1) elements))) whole_fixed whole
  element_more first now next whole_fixed whole l one = leads_more first now next (fixed_with fixed (plain_element e ∷ [])) (fixed_with fixed (map plain_element (drop (i + 1) elements))) whole_fixed (uses_with is_formal uses number (plain_element e ∷ [])) (uses_with is_formal uses (number_after number (plain_element e)) (map plain_element (drop (i + 1) elements))) whole (rw (fixed_cut, uses_cut) at l) one

  pub element_large : (limit : ℕ) (first now : Count) (whole_fixed : ℕ) (whole : List Use) → Leads first now (fixed_with fixed (map plain_element (drop i elements))) (uses_with is_formal uses number (map plain_element (drop i elements))) whole_fixed whole → limit < fixed_with fixed (plain_element e ∷ []) + sum_by least (uses_with is_formal uses number (plain_element e ∷ [])) → limit < whole_fixed + sum_by least whole
  element_large limit first now whole_fixed whole l large = omega (arith, l.within, fixed_cut, ap (sum_by least) uses_cut, sum_by-append least (uses_with is_formal uses number (plain_element e ∷ [])) (uses_with is_formal uses (number_after number (plain_element e)) (map plain_element (drop (i + 1) elements))))

module _ (limit : ℕ) (counts : List ℕ → Option Count) (fixed : List ℕ → ℕ) (uses : List ℕ → List Use) (elements : List Element) (i number : ℕ) (e : Element) (below : i < length elements) (is : e ≡ get_or elements i e) (first now next : Count) (fit : Bool) where
  told_here : All (IsTold limit counts fixed uses) (map plain_element elements) → IsTold limit counts fixed uses (plain_element e)
  told_here all = item_has (IsTold limit counts fixed uses) plain_element elements i e all below is

  pub element_more_at : (after : ℕ) → KeepsFormals first now → Leads first now (fixed_with fixed (map plain_element (drop i elements))) (uses_with (is_among first.formals.keys) uses number (map plain_element (drop i elements))) (fixed_with fixed (map plain_element elements)) (uses_with (is_among first.formals.keys) uses 0 (map plain_element elements)) → All (IsTold limit counts fixed uses) (map plain_element elements) → (IsTold limit counts fixed uses (plain_element e) → IsAdded limit fit now next (fixed_with fixed (plain_element e ∷ [])) (uses_with (is_among now.formals.keys) uses number (plain_element e ∷ []))) → fit ≡ true → after ≡ number_after number (plain_element e) → Leads first next (fixed_with fixed (map plain_element (drop (i + 1) elements))) (uses_with (is_among first.formals.keys) uses after (map plain_element (drop (i + 1) elements))) (fixed_with fixed (map plain_element elements)) (uses_with (is_among first.formals.keys) uses 0 (map plain_element elements))
  element_more_at after kept l all adds fits is_after = rw is_after (element_more (is_among first.formals.keys) fixed uses elements i number e below is first now next (fixed_with fixed (map plain_element elements)) (uses_with (is_among first.formals.keys) uses 0 (map plain_element elements)) l one)
    where
      one : Adds now next (fixed_with fixed (plain_element e ∷ [])) (sum_of (uses_with (is_among first.formals.keys) uses number (plain_element e ∷ [])))
      one = subst (λ f. Adds now next (fixed_with fixed (plain_element e ∷ [])) (sum_of (uses_with (is_among f.keys) uses number (plain_element e ∷ [])))) kept.formals (subst (λ t. IsAdded limit t now next (fixed_with fixed (plain_element e ∷ [])) (uses_with (is_among now.formals.keys) uses number (plain_element e ∷ []))) fits (adds (told_here all)))

  pub element_large_at : KeepsFormals first now → Leads first now (fixed_with fixed (map plain_element (drop i elements))) (uses_with (is_among first.formals.keys) uses number (map plain_element (drop i elements))) (fixed_with fixed (map plain_element elements)) (uses_with (is_among first.formals.keys) uses 0 (map plain_element elements)) → All (IsTold limit counts fixed uses) (map plain_element elements) → (IsTold limit counts fixed uses (plain_element e) → IsAdded limit fit now next (fixed_with fixed (plain_element e ∷ [])) (uses_with (is_among now.formals.keys) uses number (plain_element e ∷ []))) → fit ≡ false → limit < fixed_with fixed (map plain_element elements) + sum_by least (uses_with (is_among first.formals.keys) uses 0 (map plain_element elements))
  element_large_at kept l all adds large = element_large (is_among first.formals.keys) fixed uses elements i number e below is limit first now (fixed_with fixed (map plain_element elements)) (uses_with (is_among first.formals.keys) uses 0 (map plain_element elements)) l one
    where
      one : limit < fixed_with fixed (plain_element e ∷ []) + sum_by least (uses_with (is_among first.formals.keys) uses number (plain_element e ∷ []))
      one = subst (λ f. limit < fixed_with fixed (plain_element e ∷ []) + sum_by least (uses_with (is_among f.keys) uses number (plain_element e ∷ []))) kept.formals (subst (λ t. IsAdded limit t now next (fixed_with fixed (plain_element e ∷ [])) (uses_with (is_among now.formals.keys) uses number (plain_element e ∷ []))) large (adds (told_here all)))

pub elements_end : (fixed : List ℕ → ℕ) (uses : List ℕ → List Use) (elements : List Element) (i number : ℕ) (first now : Count) → length elements ≤ i → Leads first now (fixed_with fixed (map plain_element (drop i elements))) (uses_with (is_among first.formals.keys) uses number (map plain_element (drop i elements))) (fixed_with fixed (map plain_element elements)) (uses_with (is_among first.formals.keys) uses 0 (map plain_element elements)) → Adds first now (fixed_with fixed (map plain_element elements)) (sum_of (uses_with (is_among first.formals.keys) uses 0 (map plain_element elements)))
elements_end fixed uses elements i number first now all l = leads_end first now (fixed_with fixed (map plain_element elements)) (uses_with (is_among first.formals.keys) uses 0 (map plain_element elements)) (rw (drop_all i elements all, none_left (is_among first.formals.keys) uses number, none_fixed fixed) at l)

pub after_few : (number i : ℕ) (e : PlainElement) → number ≤ i → number_after number e ≤ i + 1
after_few number i (Table pins out cover) few = omega arith
after_few number i (Register pin out control init) few = omega arith
after_few number i (Instance model bindings) few = omega arith
