-- A certificate's text, made step by step.
use Rattle.std.proofs.Common.{◌≡◌, ℕ, zero, suc, ◌+◌, ◌-◌, ◌<◌, ◌≤◌, List, [], ◌∷◌, ◌++◌, length, drop, refl, sym, ap, subst, ◌∙◌, append_assoc, arith}
use Rattle.std.specs.Prelude.{codes}
use Rattle.std.specs.List.{flat_map}
use Rattle.std.specs.Fmt.{decimal}
use Rattle.std.proofs.lemmas.List.{append-nil}
use Rattle.flat_net.specs.Net.{Net}
use Rattle.certificate.specs.Cert.{PlainCert}
use Rattle.certificate.specs.Left.{parts_left, nodes_left, voters_left}
use Rattle.certificate.specs.Private.Steps.{end_left, behind_left, cert_left, cert_steps}
use Rattle.certificate.specs.Text.{line_text, part_lines, node_lines, voter_lines, cert_text}
use Rattle.certificate.proofs.Lefts.{all_lines_put}
use Rattle.certificate.proofs.Puts.{drop_all}

-- what is put is the first part of what is left
first_put : (old new a b rest : List ℕ) → new ++ b ≡ old ++ a → new ++ (b ++ rest) ≡ old ++ (a ++ rest)
first_put old new a b rest e = sym (append_assoc new b rest) ∙ (ap (λ (t : List ℕ). t ++ rest) e ∙ append_assoc old a rest)

end_done : (m : ℕ) → 0 < m → end_left m ≡ []
end_done zero some = absurd (omega (arith, some))
end_done (suc m) some = refl

module _ (n h : Net) (k : PlainCert) where
  no_parts : (p : ℕ) → length k.depth ≤ p → parts_left k p ≡ []
  no_parts p le = ap (λ (ds : List ℕ). flat_map line_text (part_lines p ds)) (drop_all p k.depth le)

  no_nodes : (i : ℕ) → length k.part ≤ i → nodes_left n h k i ≡ []
  no_nodes i le =
      ap (λ (ps : List ℕ). flat_map line_text (node_lines n h (k.original_inputs + i) ps (drop i k.copies) (drop i k.labels))) (drop_all i k.part le)

  no_voters : (j : ℕ) → length k.roles ≤ j → voters_left n h k j ≡ []
  no_voters j le = ap (λ rs. flat_map line_text (voter_lines n h (k.hardened_inputs + j) rs)) (drop_all j k.roles le)

  -- ---- behind the partitions

  past_nodes : (s j : ℕ) → length k.part ≤ s → j ≡ s - length k.part → behind_left n h k s ≡ voters_left n h k j ++ end_left (j - length k.roles)
  unfolding behind_left
  past_nodes s j le at =
      ap (λ (t : List ℕ). t ++ (voters_left n h k (s - length k.part) ++ end_left (s - length k.part - length k.roles))) (no_nodes s le)
      ∙ ap (λ (d : ℕ). voters_left n h k d ++ end_left (d - length k.roles)) (sym at)

  past_voters : (s m : ℕ) → length k.part + length k.roles ≤ s
      → m ≡ s - length k.part - length k.roles → behind_left n h k s ≡ end_left m
  past_voters s m le at =
      past_nodes s (s - length k.part) (omega (arith, le)) refl
      ∙ (ap (λ (t : List ℕ). t ++ end_left (s - length k.part - length k.roles)) (no_voters (s - length k.part) (omega (arith, le)))
      ∙ ap end_left (sym at))

  pub node_step : (i : ℕ) (old new : List ℕ) → i < length k.part → new ++ nodes_left n h k (i + 1) ≡ old ++ nodes_left n h k i
      → new ++ behind_left n h k (i + 1) ≡ old ++ behind_left n h k i
  unfolding behind_left
  node_step i old new low put =
      let none : i + 1 - length k.part ≡ i - length k.part = omega (arith, low) in
      ap (λ (d : ℕ). new ++ (nodes_left n h k (i + 1) ++ (voters_left n h k d ++ end_left (d - length k.roles)))) none
      ∙ first_put old new (nodes_left n h k i) (nodes_left n h k (i + 1))
      (voters_left n h k (i - length k.part) ++ end_left (i - length k.part - length k.roles)) put

  pub role_step : (s j : ℕ) (old new : List ℕ) → length k.part ≤ s → j ≡ s - length k.part → j < length k.roles
      → new ++ voters_left n h k (j + 1) ≡ old ++ voters_left n h k j → new ++ behind_left n h k (s + 1) ≡ old ++ behind_left n h k s
  role_step s j old new le at low put =
      let none : j + 1 - length k.roles ≡ j - length k.roles = omega (arith, low) in
      ap (λ (t : List ℕ). new ++ t) (past_nodes (s + 1) (j + 1) (omega (arith, le)) (omega (arith, le, at)))
      ∙ (ap (λ (d : ℕ). new ++ (voters_left n h k (j + 1) ++ end_left d)) none
      ∙ (first_put old new (voters_left n h k j) (voters_left n h k (j + 1)) (end_left (j - length k.roles)) put
      ∙ ap (λ (t : List ℕ). old ++ t) (sym (past_nodes s j le at))))

  pub end_step : (s : ℕ) (old new : List ℕ) → s ≡ length k.part + length k.roles
      → new ≡ old ++ line_text (codes "end" ∷ []) → new ++ behind_left n h k (s + 1) ≡ old ++ behind_left n h k s
  end_step s old new at put =
      ap (λ (t : List ℕ). new ++ t) (past_voters (s + 1) 1 (omega (arith, at)) (omega (arith, at)))
      ∙ (append-nil new ∙ (put ∙ ap (λ (t : List ℕ). old ++ t) (sym (past_voters s 0 (omega (arith, at)) (omega (arith, at))))))

  -- ---- the whole text

  past_front : (step p : ℕ) → 0 < step → p ≡ step - 1 → cert_left n h k step ≡ parts_left k p ++ behind_left n h k (p - length k.depth)
  unfolding cert_left
  past_front zero p some at = absurd (omega (arith, some))
  past_front (suc step) p some at = ap (λ (q : ℕ). parts_left k q ++ behind_left n h k (q - length k.depth)) (sym at)

  past_parts : (step s : ℕ) → 0 < step → length k.depth ≤ step - 1 → s ≡ step - 1 - length k.depth → cert_left n h k step ≡ behind_left n h k s
  past_parts step s some le at =
      past_front step (step - 1) some refl
      ∙ (ap (λ (t : List ℕ). t ++ behind_left n h k (step - 1 - length k.depth)) (no_parts (step - 1) le)
      ∙ ap (behind_left n h k) (sym at))

  at_front : (old new : List ℕ)
      → new ≡ (old ++ line_text (codes "tmr-cert" ∷ decimal k.version ∷ [])) ++ line_text (codes "parts" ∷ decimal (length k.depth) ∷ [])
      → new ++ cert_left n h k (0 + 1) ≡ old ++ cert_left n h k 0
  unfolding cert_left
  at_front old new put =
      ap (λ (o : List ℕ). o ++ (parts_left k 0 ++ behind_left n h k (0 - length k.depth))) put
      ∙ regroup old (line_text (codes "tmr-cert" ∷ decimal k.version ∷ [])) (line_text (codes "parts" ∷ decimal (length k.depth) ∷ []))
      (parts_left k 0 ++ behind_left n h k (0 - length k.depth))
    where
      regroup : (o a b r : List ℕ) → ((o ++ a) ++ b) ++ r ≡ o ++ ((a ++ b) ++ r)
      regroup o a b r = simp append_assoc

  pub front_step : (step : ℕ) (old new : List ℕ) → step ≡ 0
      → new ≡ (old ++ line_text (codes "tmr-cert" ∷ decimal k.version ∷ [])) ++ line_text (codes "parts" ∷ decimal (length k.depth) ∷ [])
      → new ++ cert_left n h k (step + 1) ≡ old ++ cert_left n h k step
  front_step step old new first put = subst (λ (s : ℕ). new ++ cert_left n h k (s + 1) ≡ old ++ cert_left n h k s) (sym first) (at_front old new put)

  pub part_step : (step p : ℕ) (old new : List ℕ) → p ≡ step - 1 → 0 < step → p < length k.depth
      → new ++ parts_left k (p + 1) ≡ old ++ parts_left k p → new ++ cert_left n h k (step + 1) ≡ old ++ cert_left n h k step
  part_step step p old new at some low put =
      let none : p + 1 - length k.depth ≡ p - length k.depth = omega (arith, low) in
      ap (λ (t : List ℕ). new ++ t) (past_front (step + 1) (p + 1) (omega arith) (omega (arith, at, some)))
      ∙ (ap (λ (d : ℕ). new ++ (parts_left k (p + 1) ++ behind_left n h k d)) none
      ∙ (first_put old new (parts_left k p) (parts_left k (p + 1)) (behind_left n h k (p - length k.depth)) put
      ∙ ap (λ (t : List ℕ). old ++ t) (sym (past_front step p some at))))

  pub behind_step : (step s : ℕ) (old new : List ℕ) → s ≡ step - 1 - length k.depth → 0 < step → length k.depth ≤ step - 1
      → new ++ behind_left n h k (s + 1) ≡ old ++ behind_left n h k s → new ++ cert_left n h k (step + 1) ≡ old ++ cert_left n h k step
  behind_step step s old new at some le put =
      ap (λ (t : List ℕ). new ++ t) (past_parts (step + 1) (s + 1) (omega arith) (omega (arith, le, some)) (omega (arith, at, le, some)))
      ∙ (put ∙ ap (λ (t : List ℕ). old ++ t) (sym (past_parts step s some le at)))

  -- behind the last step nothing is left
  pub none_left : (step : ℕ) → cert_steps k ≤ step → cert_left n h k step ≡ []
  none_left step le =
      past_parts step (step - 1 - length k.depth) (omega (arith, le)) (omega (arith, le)) refl
      ∙ (past_voters (step - 1 - length k.depth) (step - 1 - length k.depth - length k.part - length k.roles) (omega (arith, le)) refl
      ∙ end_done (step - 1 - length k.depth - length k.part - length k.roles) (omega (arith, le)))

  -- and at first all is
  pub all_left : cert_left n h k 0 ≡ cert_text n h k
  unfolding cert_left behind_left
  all_left =
      let parts : 0 - length k.depth ≡ 0 = omega arith in
      let nodes : 0 - length k.part ≡ 0 = omega arith in
      let voters : 0 - length k.roles ≡ 0 = omega arith in
      rw (parts, nodes, voters) (regroup head count (parts_left k 0) (nodes_left n h k 0) (voters_left n h k 0) end
      ∙ all_lines_put n h k [] fronts with_parts with_nodes with_voters (with_voters ++ end) refl refl refl refl refl refl)
    where
      head : List ℕ
      head = line_text (codes "tmr-cert" ∷ decimal k.version ∷ [])

      count : List ℕ
      count = line_text (codes "parts" ∷ decimal (length k.depth) ∷ [])

      end : List ℕ
      end = line_text (codes "end" ∷ [])

      fronts : List ℕ
      fronts = ([] ++ head) ++ count

      with_parts : List ℕ
      with_parts = fronts ++ parts_left k 0

      with_nodes : List ℕ
      with_nodes = with_parts ++ nodes_left n h k 0

      with_voters : List ℕ
      with_voters = with_nodes ++ voters_left n h k 0

      regroup : (a b p m v e : List ℕ) → (a ++ b) ++ (p ++ (m ++ (v ++ e))) ≡ ((((([] ++ a) ++ b) ++ p) ++ m) ++ v) ++ e
      regroup a b p m v e = simp append_assoc
