-- How long the lines of the ports of a hardened design are: at most twenty-four times those of the original.
use Rattle.std.proofs.Common.{◌≡◌, ℕ, ◌+◌, ◌*◌, ◌<◌, ◌≤◌, List, [], ◌∷◌, length, slice_get, get_or, Option, Some, None, refl, ap, subst, arith}
use Rattle.std.specs.List.{sum_by}
use Rattle.std.proofs.lemmas.List.{length-append}
use Rattle.std.proofs.lemmas.List.Sums.{sum_by-le-sum_by, sum_by-cons}
use Rattle.std.proofs.lemmas.Option.{get_or_from_slice_get, slice_get_within}
use Rattle.tmr_base.specs.declared.copies.CopyNo.{CopyNo}
use Rattle.tmr_base.specs.declared.copies.CopyNo.TheVariants.{First, Second, Third}
use Rattle.tmr_base.specs.declared.ids.Edge.{Edge}
use Rattle.tmr_base.specs.Copies.{copy_number}
use Rattle.tmr_base.specs.Names.{copy_text, clock_text}
use Rattle.flat_net.specs.Net.{Net, net_count, name_of, IsValid}
use Rattle.certificate.specs.Cert.{PlainCert, IsCert, copy_of}
use Rattle.library_faults.specs.FlatText.{spaced, all_spaced}
use Rattle.blif_writer.specs.Text.{clock_words}
use Rattle.blif_writer.specs.Length.{nets_length}
use Rattle.triplicate.specs.Blocks.{threefold, hardened_clock}
use Rattle.triplicate.specs.Form.{IsTripled}
use Rattle.hardened_size.proofs.Sums.{sum_times, sum_of_lists, sum_by_place}
use Rattle.hardened_size.proofs.Named.{copy_long}

copies_spaced : (name : List ℕ) → all_spaced (threefold (copy_text name)) ≤ 24 * spaced name
copies_spaced name =
    let each : (c : CopyNo) → length (copy_text name c) ≡ length name + 2 = λ c. length-append name (126 ∷ (48 + copy_number c) ∷ []) in
    let three : all_spaced (threefold (copy_text name)) ≡ spaced (copy_text name First) + spaced (copy_text name Second) + spaced (copy_text name Third) = omega arith in
    omega (arith, three, each First, each Second, each Third)

clock_long : (c : Option (Edge × List ℕ)) → all_spaced (clock_words (hardened_clock c)) ≤ 8 * all_spaced (clock_words c)
clock_long None = omega arith
clock_long (Some (edge, name)) = omega (arith, sum_by-cons spaced (clock_text name) [], sum_by-cons spaced name [], length-append name (126 ∷ 107 ∷ []))

module _ (n h : Net) (k : PlainCert) (valid : IsValid n) (cert : IsCert k) (is : IsTripled n h k) where
  pub inputs_long : all_spaced h.inputs ≤ 24 * all_spaced n.inputs
  inputs_long =
      let three = sum_by-le-sum_by (λ name. all_spaced (threefold (copy_text name))) (λ name. 24 * spaced name) n.inputs copies_spaced in
      omega (arith, ap all_spaced is.inputs, sum_of_lists spaced (λ name. threefold (copy_text name)) n.inputs, three, sum_times 24 spaced n.inputs)

  pub clocks_long : all_spaced (clock_words h.clock) ≤ 8 * all_spaced (clock_words n.clock)
  clocks_long = omega (arith, ap (λ (c : Option (Edge × List ℕ)). all_spaced (clock_words c)) is.clock, clock_long n.clock)

  output_copies : (i x z : ℕ) → slice_get n.outputs i ≡ Some x → slice_get n.outputs i ≡ Some z → nets_length h (threefold (copy_of k x)) ≤ 24 * spaced (name_of n z)
  output_copies i x z e ez =
      let same : x ≡ z = cc in
      let at : get_or n.outputs i 0 ≡ x = get_or_from_slice_get n.outputs i x 0 e in
      let high : x < net_count n = subst (λ y. y < net_count n) at (valid.unordered.outputs_in_range i 0 (slice_get_within n.outputs i x e)) in
      let three : nets_length h (threefold (copy_of k x)) ≡ spaced (name_of h (copy_of k x First)) + spaced (name_of h (copy_of k x Second)) + spaced (name_of h (copy_of k x Third)) = omega arith in
      omega (arith, three, copy_long n h k valid cert is x First high, copy_long n h k valid cert is x Second high, copy_long n h k valid cert is x Third high, ap (λ y. length (name_of n y)) same)

  pub outputs_long : nets_length h h.outputs ≤ 24 * nets_length n n.outputs
  outputs_long =
      let f : ℕ → ℕ = λ y. spaced (name_of h y) in
      let w : ℕ → ℕ = λ y. spaced (name_of n y) in
      let lists = sum_of_lists f (λ x. threefold (copy_of k x)) n.outputs in
      let three = sum_by_place (λ x. nets_length h (threefold (copy_of k x))) (λ x. 24 * w x) n.outputs n.outputs refl output_copies in
      omega (arith, ap (sum_by f) is.outputs, lists, three, sum_times 24 w n.outputs)
