-- Lines of a report, one after the other.
use Rattle.std.proofs.Common.{◌≡◌, ℕ, ◌+◌, ◌<◌, ◌≤◌, List, [], ◌∷◌, ◌++◌, length, drop, get_or, slice_get, Some, refl, sym, ap, ◌∙◌, append_assoc, append-nil, add-one, drop-cons}
use Rattle.std.specs.Prelude.{codes, slice_index}
use Rattle.std.specs.Fmt.{decimal}
use Rattle.std.specs.List.{flat_map}
use Rattle.std.proofs.lemmas.List.Concat.{flat_map-append}
use Rattle.std.proofs.lemmas.Option.{slice_get_within, get_or_from_slice_get}
use Rattle.flat_net.specs.Net.{Net}
use Rattle.certificate.specs.Cert.{PlainCert, depth_of}
use Rattle.recovery_depth.specs.Depths.{is_register_at}
use Rattle.reports.specs.declared.writing.PartCounts.{PartCounts}
use Rattle.reports.specs.Counts.{count_in, any_node, loops_in}
use Rattle.certificate.specs.Text.{line_text}
use Rattle.feedback_cut.specs.Components.{PlainGroups}
use Rattle.recovery_depth.specs.declared.depth_and_chain.Deep.{Deep}
use Rattle.reports.specs.Report.{part_words, part_line, part_lines, head_lines, report_text}
use Rattle.reports.specs.Private.Left.{parts_left, AreCounted}
use Rattle.reports.proofs.WordLaws.{drop_all}

pub five_put : (old a b c d e : List ℕ) (x y z v w : List (List ℕ)) → a ≡ old ++ line_text x → b ≡ a ++ line_text y → c ≡ b ++ line_text z → d ≡ c ++ line_text v → e ≡ d ++ line_text w → e ≡ old ++ flat_map line_text (x ∷ y ∷ z ∷ v ∷ w ∷ [])
five_put old a b c d e x y z v w ea eb ec ed ee = ee ∙ (ap (λ (t : List ℕ). t ++ line_text w) (ed ∙ (ap (λ (t : List ℕ). t ++ line_text v) (ec ∙ (ap (λ (t : List ℕ). t ++ line_text z) (eb ∙ ap (λ (t : List ℕ). t ++ line_text y) ea))))) ∙ regroup old (line_text x) (line_text y) (line_text z) (line_text v) (line_text w))
  where
    regroup : (o p q r s t : List ℕ) → ((((o ++ p) ++ q) ++ r) ++ s) ++ t ≡ o ++ (p ++ (q ++ (r ++ (s ++ (t ++ [])))))
    regroup o p q r s t = simp (append_assoc, append-nil)

module _ (n : Net) (k : PlainCert) (g : PlainGroups) (deeps : List Deep) where
  -- one partition's line more
  pub part_put : (p : ℕ) (d : Deep) (out next total : List ℕ) → slice_get deeps p ≡ Some d → next ≡ out ++ line_text (part_line n k g p d) → out ++ parts_left n k g deeps p ≡ total → next ++ parts_left n k g deeps (p + 1) ≡ total
  part_put p d out next total at is e =
      let h : p < length deeps = slice_get_within deeps p d at in
      let own : get_or deeps p d ≡ d = get_or_from_slice_get deeps p d d at in
      let here : drop p deeps ≡ d ∷ drop (p + 1) deeps = rw (add-one, drop-cons deeps p d, own) refl in
      ap (λ (t : List ℕ). t ++ parts_left n k g deeps (p + 1)) is
      ∙ (append_assoc out (line_text (part_line n k g p d)) (parts_left n k g deeps (p + 1)) ∙ (ap (λ (ds : List Deep). out ++ flat_map line_text (part_lines n k g p ds)) (sym here) ∙ e))

  pub all_put : (p : ℕ) (out total : List ℕ) → length deeps ≤ p → out ++ parts_left n k g deeps p ≡ total → out ≡ total
  all_put p out total h e = sym (append-nil out) ∙ (ap (λ (ds : List Deep). out ++ flat_map line_text (part_lines n k g p ds)) (sym (drop_all p deeps h)) ∙ e)

  -- both pieces are the text
  pub text_put : (a b : List ℕ) → a ≡ [] ++ flat_map line_text (head_lines n k) → b ≡ a ++ parts_left n k g deeps 0 → b ≡ report_text n k g deeps
  text_put a b ea eb = eb ∙ (ap (λ (t : List ℕ). t ++ parts_left n k g deeps 0) ea ∙ sym (flat_map-append line_text (head_lines n k) (part_lines n k g 0 deeps)))

-- the numbers of a partition are its counts
pub words_are : (n : Net) (k : PlainCert) (counts : PartCounts) (p a b c e : ℕ) (d : Deep) → AreCounted n k counts → p < length k.depth → a ≡ slice_index counts.nodes.items p → b ≡ slice_index counts.registers.items p → c ≡ slice_index counts.loops.items p → e ≡ depth_of k p
    → decimal p ∷ codes "nodes" ∷ decimal a ∷ codes "registers" ∷ decimal b ∷ codes "loops" ∷ decimal c ∷ codes "depth" ∷ decimal e ∷ codes "least" ∷ decimal d.depth ∷ codes "chain" ∷ [] ≡ part_words n k counts.groups p d
words_are n k counts p a b c e d is h ea eb ec ee =
    let x : a ≡ count_in k any_node p = ea ∙ is.nodes.count p h in
    let y : b ≡ count_in k (is_register_at n) p = eb ∙ is.registers.count p h in
    let z : c ≡ loops_in k counts.groups p = ec ∙ is.loops.count p h in
    λ i. decimal p ∷ codes "nodes" ∷ decimal (x i) ∷ codes "registers" ∷ decimal (y i) ∷ codes "loops" ∷ decimal (z i) ∷ codes "depth" ∷ decimal (ee i) ∷ codes "least" ∷ decimal d.depth ∷ codes "chain" ∷ []
