-- The marks of a graph's design.
use Rattle.std.proofs.Common.{◌≡◌, ℕ, ◌+◌, ◌-◌, ◌<◌, ◌≤◌, ◌⊎◌, inl, inr, Bool, true, false, length, slice_get, Option, Some, None, refl, sym, ap, ◌∙◌, subst, arith}
use Rattle.std.specs.Option.{unwrap_or}
use Rattle.std.proofs.lemmas.Bool.{cases_lt, false≢true}
use Rattle.std.proofs.lemmas.List.{length-map}
use Rattle.std.proofs.lemmas.Option.{slice_get_past}
use Rattle.flat_net.specs.Net.{Node, node_of, IsInitOf}
use Rattle.flat_net.specs.Free.{node_bit, AreMarks}
use Rattle.flat_net.specs.Faults.{node_of_element, net_inputs, draft_names, net_of_draft}
use Rattle.flat_net.proofs.Slots.{slot_at, slot_below}
use Rattle.aag_text.specs.declared.aig.Start.{Start}
use Rattle.aag_text.specs.declared.aig.Start.TheVariants.{Zero, One, Free}
use Rattle.aag_text.specs.Aig.{PlainAig}
use Rattle.aag_design.specs.Draft.{starts_with_1, starts_free, aig_elements}
use Rattle.aag_design.specs.Private.Drafting.{plain_draft, plain_marks}
use Rattle.aag_design.proofs.Places.{node_total, IsPlace, AtZero, AtLatch, AtGate, AtNext, AtOutput, place_of, entry, each_length}
use Rattle.aag_design.proofs.Nets.{element, elements_long, node_at, input_count}
use Rattle.aag_design.proofs.Values.{mark_at}

free_is_0 : (s : Start) → starts_free s ≡ true → starts_with_1 s ≡ false
free_is_0 Zero e = refl
free_is_0 One e = absurd (false≢true e)
free_is_0 Free e = refl

module _ (a : PlainAig) where
  marks_long : length (plain_marks a) ≡ node_total a
  marks_long = each_length a false (λ j l. starts_free l.start) (λ g. false) (λ j l. false) (λ k l. false)

  at_place : (i : ℕ) (p : IsPlace a i) → entry a false (λ j l. starts_free l.start) (λ g. false) (λ j l. false) (λ k l. false) i p ≡ true → IsInitOf (Some (node_of_element (draft_names (plain_draft a)) (element a i p))) false
  at_place i (AtZero z) e = absurd (false≢true e)
  at_place i (AtLatch j l z at) e = free_is_0 l.start e
  at_place i (AtGate k g z at) e = absurd (false≢true e)
  at_place i (AtNext j l z at) e = absurd (false≢true e)
  at_place i (AtOutput k m z at) e = absurd (false≢true e)

  marked : (x : ℕ) → node_bit (length (net_inputs (plain_draft a))) (plain_marks a) x ≡ true → IsInitOf (node_of (net_of_draft (plain_draft a)) x) false
  marked x e = below (cases_lt x (length a.inputs))
    where
      within : length a.inputs ≤ x → (x - length a.inputs < node_total a) ⊎ (node_total a ≤ x - length a.inputs) → IsInitOf (node_of (net_of_draft (plain_draft a)) x) false
      within low (inl h) =
          let p : IsPlace a (x - length a.inputs) = place_of a (x - length a.inputs) h in
          let place : x ≡ length a.inputs + (x - length a.inputs) = omega (arith, low) in
          subst (λ (o : Option Node). IsInitOf o false) (sym (node_at a (x - length a.inputs) x p place)) (at_place (x - length a.inputs) p (sym (mark_at a (x - length a.inputs) x p place) ∙ e))
      within low (inr h) =
          let past : slice_get (plain_marks a) (x - length (net_inputs (plain_draft a))) ≡ None = slice_get_past (plain_marks a) (x - length (net_inputs (plain_draft a))) (omega (arith, h, low, input_count a, marks_long)) in
          let none : node_bit (length (net_inputs (plain_draft a))) (plain_marks a) x ≡ false = ap (λ (o : Option Bool). unwrap_or o false) (slot_at (length (net_inputs (plain_draft a))) (plain_marks a) x (omega (arith, low, input_count a)) ∙ past) in
          absurd (false≢true (sym none ∙ e))

      below : (x < length a.inputs) ⊎ (length a.inputs ≤ x) → IsInitOf (node_of (net_of_draft (plain_draft a)) x) false
      below (inl l) =
          let none : node_bit (length (net_inputs (plain_draft a))) (plain_marks a) x ≡ false = ap (λ (o : Option Bool). unwrap_or o false) (slot_below (length (net_inputs (plain_draft a))) (plain_marks a) x (omega (arith, l, input_count a))) in
          absurd (false≢true (sym none ∙ e))
      below (inr low) = within low (cases_lt (x - length a.inputs) (node_total a))

  pub are_marks : AreMarks (net_of_draft (plain_draft a)) (plain_marks a)
  are_marks = record {
    one_each = marks_long ∙ sym (length-map (aig_elements a) (node_of_element (draft_names (plain_draft a))) ∙ elements_long a);
    registers = λ x e. marked x e;
  }
