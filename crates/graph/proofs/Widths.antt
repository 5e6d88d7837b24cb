-- Spans of which the first are stored in 32 bits.
use Rattle.std.proofs.Common.{◌≡◌, ℕ, ◌+◌, ◌-◌, ◌<◌, ◌≤◌, List, ◌++◌, length, map, set, get_or, sym, ◌∙◌, ap, arith}
use Rattle.std.proofs.lemmas.List.{length-map, get_or_append_left, get_or-append_right, get_or-map, map-set, set-append_left, set-append_right}
use Rattle.graph.specs.declared.spans.Span.{Span}
use Rattle.graph.specs.declared.spans.NarrowSpan.{NarrowSpan}
use Rattle.graph.specs.Private.Packed.{widened, span_at, grown}

module _ (narrow : List NarrowSpan) (wide : List Span) (x : ℕ) where
  pub span_front : x < length narrow → span_at (map widened narrow) x ≡ span_at (map widened narrow ++ wide) x
  span_front l = sym (get_or_append_left (map widened narrow) wide (record { from = 0; to = 0; limit = 0 }) x (omega (arith, l, length-map narrow widened)))

  pub span_back : (n : ℕ) → n ≡ length narrow → n ≤ x → span_at wide (x - n) ≡ span_at (map widened narrow ++ wide) x
  span_back n e l = sym (get_or-append_right (map widened narrow) wide n x (record { from = 0; to = 0; limit = 0 }) (length-map narrow widened ∙ sym e) l)

  -- the row of a span is one longer
  pub grown_front : (after : List Span) → x < length narrow → after ≡ set (map widened narrow) x (grown (span_at (map widened narrow) x)) → after ++ wide ≡ set (map widened narrow ++ wide) x (grown (span_at (map widened narrow ++ wide) x))
  grown_front after l e =
      ap (λ r. r ++ wide) e
      ∙ (sym (set-append_left (map widened narrow) wide x (grown (span_at (map widened narrow) x)) (omega (arith, l, length-map narrow widened)))
      ∙ ap (λ s. set (map widened narrow ++ wide) x (grown s)) (span_front l))

  pub grown_back : (n : ℕ) (after : List Span) → n ≡ length narrow → n ≤ x → after ≡ set wide (x - n) (grown (span_at wide (x - n))) → map widened narrow ++ after ≡ set (map widened narrow ++ wide) x (grown (span_at (map widened narrow ++ wide) x))
  grown_back n after e l f =
      ap (λ r. map widened narrow ++ r) f
      ∙ (sym (set-append_right (map widened narrow) wide n x (grown (span_at wide (x - n))) (length-map narrow widened ∙ sym e) l)
      ∙ ap (λ s. set (map widened narrow ++ wide) x (grown s)) (span_back n e l))

abbrev no_span : NarrowSpan
no_span = record { from = 0; to = 0; limit = 0 }

pub narrow_grown : (narrow : List NarrowSpan) (x : ℕ) → x < length narrow → map widened (set narrow x (record { from = (get_or narrow x no_span).from; to = (get_or narrow x no_span).to + 1; limit = (get_or narrow x no_span).limit })) ≡ set (map widened narrow) x (grown (span_at (map widened narrow) x))
narrow_grown narrow x l =
    map-set widened narrow x (record { from = (get_or narrow x no_span).from; to = (get_or narrow x no_span).to + 1; limit = (get_or narrow x no_span).limit })
    ∙ ap (λ s. set (map widened narrow) x (grown s)) (sym (get_or-map widened narrow x no_span (record { from = 0; to = 0; limit = 0 }) l))
