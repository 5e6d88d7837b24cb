-- All steps make the whole text.
use Rattle.std.proofs.Common.{◌≡◌, ℕ, ◌+◌, ◌≤◌, List, [], ◌∷◌, ◌++◌, length, Option, Some, slice_get, refl, sym, ap, subst, ◌∙◌, append_assoc, arith}
use Rattle.std.specs.Prelude.{codes}
use Rattle.std.specs.List.{flat_map}
use Rattle.std.proofs.lemmas.List.{append-nil}
use Rattle.std.proofs.lemmas.Option.{get_or_from_slice_get, slice_get_within}
use Rattle.text_pieces.specs.Steps.{from_step}
use Rattle.text_pieces.proofs.Stepping.{step_first, steps_done}
use Rattle.limits.specs.Most.{widest_nets}
use Rattle.flat_net.specs.Net.{Net, Node, Design, IsDesign, IsValid, net_count, pin_total, name_of}
use Rattle.blif_writer.specs.Length.{flat_length}
use Rattle.blif_writer.specs.NetOf.{IsNetOf}
use Rattle.blif_writer.proofs.Again.{net_of_text}
use Rattle.blif_writer.proofs.Lengths.{text_long, text_sum}
use Rattle.blif_writer.specs.Left.{spaced, spaced_line}
use Rattle.blif_writer.specs.Text.{clock_words, flat_text}
use Rattle.dwc.specs.Guard.{guard_net}
use Rattle.guarded_text.specs.Private.Spelled.{tailed, two_spelled, comparator_text, any_rows, alarm_end}
use Rattle.guarded_text.specs.Private.Lines.{guarded_clock, copy_text, twins_text}
use Rattle.guarded_text.specs.Private.Steps.{alarm_step, guarded_step, guarded_steps, guarded_rest}
use Rattle.guarded_text.proofs.FlatText.{guarded_valid, text_is}
use Rattle.guarded_text.proofs.Stepping.{steps_over}
use Rattle.guarded_text.proofs.Steps.{alarm_word, alarm_name, alarm_ends, compared_output, compared_alarm, guarded_ports, guarded_twins, guarded_compared}

twins : (n : Net) (i : ℕ) (x : Node) → slice_get n.nodes i ≡ Some x → guarded_step n (1 + i) ≡ twins_text n x
twins n i x at =
    sym (guarded_twins n (1 + i) i (omega arith) (omega arith) (slice_get_within n.nodes i x at))
    ∙ ap (λ (o : Option Node). copy_text n 48 o ++ copy_text n 49 o) at

comparators : (n : Net) (j y : ℕ) → slice_get n.outputs j ≡ Some y → guarded_step n (1 + length n.nodes + j) ≡ comparator_text (name_of n y)
comparators n j y at =
    sym (compared_output n j (slice_get_within n.outputs j y at) ∙ guarded_compared n (1 + length n.nodes + j) j (omega arith) (omega arith) (omega arith))
    ∙ ap (λ (z : ℕ). comparator_text (name_of n z)) (get_or_from_slice_get n.outputs j y 0 at)

-- what comes at step j of the alarm
at_alarm : (n : Net) (k j : ℕ) → k ≡ 1 + length n.nodes + length n.outputs + j → alarm_step n j ≡ guarded_step n k
at_alarm n k j e =
    compared_alarm n (length n.outputs + j) j (omega arith) (omega arith)
    ∙ guarded_compared n k (length n.outputs + j) (omega (arith, e)) (omega (arith, e)) (omega (arith, e))

names : (n : Net) (j y : ℕ) → slice_get n.outputs j ≡ Some y → guarded_step n (2 + length n.nodes + length n.outputs + j) ≡ 32 ∷ tailed (name_of n y) 101
names n j y at =
    sym (alarm_name n (1 + j) j (omega arith) (omega arith) (slice_get_within n.outputs j y at) ∙ at_alarm n (2 + length n.nodes + length n.outputs + j) (1 + j) (omega arith))
    ∙ ap (λ (z : ℕ). 32 ∷ tailed (name_of n z) 101) (get_or_from_slice_get n.outputs j y 0 at)

module _ (n : Net) where
  -- from the alarm on
  alarm_whole : guarded_rest n (1 + length n.nodes + length n.outputs) ≡ codes ".names" ++ (flat_map (λ y. 32 ∷ tailed (name_of n y) 101) n.outputs ++ alarm_end n)
  alarm_whole =
      step_first (guarded_step n) (guarded_steps n) (1 + length n.nodes + length n.outputs) (omega arith)
      ∙ both (sym (alarm_word n 0 refl ∙ at_alarm n (1 + length n.nodes + length n.outputs) 0 (omega arith)))
      (ap (from_step (guarded_step n) (guarded_steps n)) (next (length n.nodes) (length n.outputs))
      ∙ (steps_over (guarded_step n) (λ y. 32 ∷ tailed (name_of n y) 101) n.outputs (guarded_steps n) (2 + length n.nodes + length n.outputs) (2 + length n.nodes + length n.outputs + length n.outputs) refl (omega arith) (names n)
      ∙ ap (λ (t : List ℕ). flat_map (λ y. 32 ∷ tailed (name_of n y) 101) n.outputs ++ t)
      (step_first (guarded_step n) (guarded_steps n) (2 + length n.nodes + length n.outputs + length n.outputs) (omega arith)
      ∙ (both (sym (alarm_ends n (1 + length n.outputs) (omega arith) (omega arith) ∙ at_alarm n (2 + length n.nodes + length n.outputs + length n.outputs) (1 + length n.outputs) (omega arith)))
      (steps_done (guarded_step n) (guarded_steps n) (2 + length n.nodes + length n.outputs + length n.outputs + 1) (omega arith))
      ∙ append-nil (alarm_end n)))))
    where
      both : {a b c d : List ℕ} → a ≡ b → c ≡ d → a ++ c ≡ b ++ d
      both e f = cc

      next : (a b : ℕ) → 1 + a + b + 1 ≡ 2 + a + b
      next a b = omega arith

  pub guarded_whole : IsValid n → guarded_rest n 0 ≡ flat_text (guard_net n)
  guarded_whole valid =
      step_first (guarded_step n) (guarded_steps n) 0 (omega arith)
      ∙ (same _ _ _ _ _ _ (sym (guarded_ports n 0 refl))
      (steps_over (guarded_step n) (twins_text n) n.nodes (guarded_steps n) 1 (1 + length n.nodes) refl (omega arith) (twins n))
      (steps_over (guarded_step n) (λ y. comparator_text (name_of n y)) n.outputs (guarded_steps n) (1 + length n.nodes) (1 + length n.nodes + length n.outputs) refl (omega arith) (comparators n) ∙ ap (λ (t : List ℕ). flat_map (λ y. comparator_text (name_of n y)) n.outputs ++ t) alarm_whole)
      ∙ (regroup model inputs outputs nodes compared (codes ".names") ends (codes " alarm~z\n") (any_rows (length n.outputs)) (codes ".end\n")
      ∙ text_is n valid [] ((([] ++ model) ++ inputs) ++ outputs) (((([] ++ model) ++ inputs) ++ outputs) ++ nodes) ((((([] ++ model) ++ inputs) ++ outputs) ++ nodes) ++ compared)
      (((((([] ++ model) ++ inputs) ++ outputs) ++ nodes) ++ compared) ++ (codes ".names" ++ (ends ++ (codes " alarm~z\n" ++ any_rows (length n.outputs)))))
      ((((((([] ++ model) ++ inputs) ++ outputs) ++ nodes) ++ compared) ++ (codes ".names" ++ (ends ++ (codes " alarm~z\n" ++ any_rows (length n.outputs))))) ++ codes ".end\n")
      refl refl refl refl refl refl))
    where
      model : List ℕ
      model = spaced_line (codes ".model") (n.model ∷ [])

      inputs : List ℕ
      inputs = codes ".inputs" ++ (flat_map two_spelled n.inputs ++ (spaced (clock_words (guarded_clock n.clock)) ++ 10 ∷ []))

      outputs : List ℕ
      outputs = codes ".outputs" ++ (flat_map (λ y. two_spelled (name_of n y)) n.outputs ++ codes " alarm~z\n")

      nodes : List ℕ
      nodes = flat_map (twins_text n) n.nodes

      compared : List ℕ
      compared = flat_map (λ y. comparator_text (name_of n y)) n.outputs

      ends : List ℕ
      ends = flat_map (λ y. 32 ∷ tailed (name_of n y) 101) n.outputs

      same : (a b c d u r : List ℕ) → a ≡ u → b ≡ c ++ d → d ≡ r → a ++ b ≡ u ++ (c ++ r)
      same a b c d u r e f g = cc

      regroup : (m i o t c w e z r l : List ℕ) → (m ++ (i ++ o)) ++ (t ++ (c ++ (w ++ (e ++ (z ++ (r ++ l)))))) ≡ (((((([] ++ m) ++ i) ++ o) ++ t) ++ c) ++ (w ++ (e ++ (z ++ r)))) ++ l
      regroup m i o t c w e z r l = simp append_assoc

-- the text has the length that is counted
pub text_length : (d : Design) → net_count d.net + pin_total d.net ≤ widest_nets → IsDesign d → length (flat_text (guard_net d.net)) ≡ flat_length (guard_net d.net)
text_length d few is = text_sum (guard_net d.net) [] (guarded_valid d few is)

-- and is read back
pub text_again : (d : Design) → net_count d.net + pin_total d.net ≤ widest_nets → IsDesign d
    → (limit : ℕ) → length (flat_text (guard_net d.net)) ≤ limit → IsNetOf (flat_text (guard_net d.net)) limit (guard_net d.net) 0
text_again d few is limit within =
    let valid = guarded_valid d few is in
    net_of_text (guard_net d.net) limit valid (subst (λ (k : ℕ). k ≤ limit) (text_long (guard_net d.net) [] valid) within)
