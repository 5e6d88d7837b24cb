-- The facts of a graph's design, as the calls need them.
use Rattle.std.proofs.Common.{◌≡◌, ℕ, ◌+◌, ◌<◌, List, length, map, refl, sym, ap, ◌∙◌, subst, arith}
use Rattle.flat_net.specs.Net.{IsOrder, IsValid}
use Rattle.flat_net.specs.Free.{FreeDesign, AreMarks}
use Rattle.flat_net.specs.Draft.{PlainDraft, AreDistinct}
use Rattle.flat_net.specs.Faults.{draft_reads, net_of_draft, IsDrivenOnce, IsCombLoop, IsFaultless}
use Rattle.aag_text.specs.Aig.{PlainAig}
use Rattle.aag_design.specs.Draft.{numbered, aig_draft, aig_marks}
use Rattle.aag_design.specs.Private.Drafting.{plain_draft, plain_marks, number_behind, IsTurnedFrom, IsSound}
use Rattle.aag_design.specs.Loop.{IsLoop, HasNoLoop}
use Rattle.aag_design.specs.Same.{DoesTheSame}
use Rattle.aag_design.proofs.Places.{length-map_from}
use Rattle.aag_design.proofs.Nets.{elements_long}
use Rattle.aag_design.proofs.Bounds.{inputs_distinct, outputs_distinct, reads_few}
use Rattle.aag_design.proofs.OneMeaning.{apart_of, does_the_same}
use Rattle.aag_design.proofs.FreeMarks.{are_marks}
use Rattle.aag_design.proofs.GateLoops.{no_loop}
use Rattle.aag_design.proofs.DraftFaults.{comb_loop, some_names}

draft_is : (a : PlainAig) → aig_draft a ≡ plain_draft a
unfolding aig_draft
draft_is a = refl

marks_are : (a : PlainAig) → aig_marks a ≡ plain_marks a
unfolding aig_marks
marks_are a = refl

module _ (a : PlainAig) (sound : IsSound a) where
  pub inputs_apart : AreDistinct (aig_draft a).inputs
  inputs_apart = subst (λ (d : PlainDraft). AreDistinct d.inputs) (sym (draft_is a)) (let few = sound.few in inputs_distinct a (omega (arith, few)))

  pub outputs_apart : AreDistinct (aig_draft a).outputs
  outputs_apart = subst (λ (d : PlainDraft). AreDistinct d.outputs) (sym (draft_is a)) (let few = sound.few in outputs_distinct a (omega (arith, few)))

  pub few_nets : length (aig_draft a).inputs + length (aig_draft a).elements < 4294967295
  few_nets = subst (λ (d : PlainDraft). length d.inputs + length d.elements < 4294967295) (sym (draft_is a)) (let few = sound.few in let long = elements_long a in let ins = length-map_from (λ i (v : ℕ). numbered 105 i) 0 a.inputs in omega (arith, few, long, ins))

  pub few_pins : length (draft_reads (aig_draft a)) < 4294967295
  few_pins = subst (λ (d : PlainDraft). length (draft_reads d) < 4294967295) (sym (draft_is a)) (let few = sound.few in let reads = reads_few a in omega (arith, few, reads))

  pub no_gate_loop : IsFaultless (aig_draft a) → IsValid (net_of_draft (aig_draft a)) → HasNoLoop a
  no_gate_loop faultless valid = λ variables loop. go (faultless.ordered) variables loop
    where
      plain_valid : IsValid (net_of_draft (plain_draft a))
      plain_valid = subst (λ (d : PlainDraft). IsValid (net_of_draft d)) (draft_is a) valid

      go : (order : List ℕ) × IsOrder (net_of_draft (aig_draft a)) order → (variables : List ℕ) → IsLoop a variables → ⊥
      go (order, ordered) variables loop =
          no_loop a sound.once sound.known (λ p u e. (sound.variables p u e).0) (apart_of a plain_valid) order variables (subst (λ (d : PlainDraft). IsOrder (net_of_draft d) order) (draft_is a) ordered) loop

  -- a loop of tables, by name, is a loop of gates
  pub names_there : (names : List (List ℕ)) → IsDrivenOnce (aig_draft a) → IsCombLoop (aig_draft a) names → 0 < length names
  names_there names driven comb =
      let few = sound.few in
      some_names a sound (inputs_distinct a (omega (arith, few))) (subst IsDrivenOnce (draft_is a) driven) names (subst (λ (d : PlainDraft). IsCombLoop d names) (draft_is a) comb)

  pub loop_is : (names : List (List ℕ)) (found : List ℕ) → IsDrivenOnce (aig_draft a) → IsCombLoop (aig_draft a) names → IsTurnedFrom (map number_behind names) found → IsLoop a found
  loop_is names found driven comb turned =
      let few = sound.few in
      comb_loop a sound (inputs_distinct a (omega (arith, few))) (subst IsDrivenOnce (draft_is a) driven) names found (subst (λ (d : PlainDraft). IsCombLoop d names) (draft_is a) comb) turned

  pub are_free_marks : AreMarks (net_of_draft (aig_draft a)) (aig_marks a)
  are_free_marks = subst (λ (d : PlainDraft). AreMarks (net_of_draft d) (aig_marks a)) (sym (draft_is a)) (subst (λ m. AreMarks (net_of_draft (plain_draft a)) m) (sym (marks_are a)) (are_marks a))

  pub same_meaning : (n : FreeDesign) → IsValid (net_of_draft (aig_draft a)) → n.design.net ≡ net_of_draft (aig_draft a) → n.free ≡ aig_marks a → DoesTheSame n a
  same_meaning n valid net marks =
      does_the_same a sound.once sound.known (λ p u e. (sound.variables p u e).0) (subst (λ (d : PlainDraft). IsValid (net_of_draft d)) (draft_is a) valid) n (net ∙ ap net_of_draft (draft_is a)) (marks ∙ marks_are a)

pub ruleset design_facts = (inputs_apart, outputs_apart, few_nets, few_pins, no_gate_loop, names_there, loop_is)
