use Rattle.std.proofs.Common.{◌≡◌, ◌∙◌, ℕ, length, ap, sym, arith}
use Rattle.std.specs.Prelude.{slice_get, option_and_then}
use Rattle.std.specs.Str.{bytes_eq}
use Rattle.indexmap.specs.IndexMap.{get}
use Rattle.hierarchy.proofs.walking.walk.enter.Goals as goal

pub returns-clause-own : goal.returns-clause-own
returns-clause-own c = λ name end net e. c.in_ok-keep_known.ensures.own name end net
    (ap (λ (d : ℕ). option_and_then (λ m. get bytes_eq m name) (slice_get c.keep_known.new.known.items d)) depth
    ∙ (ap (λ ms. option_and_then (λ m. get bytes_eq m name) (slice_get ms (length c.args.walk.now.frames.items))) (sym c.in_ok-push_frame.ensures.known) ∙ e))
  where
    depth : c.len-depth.result ≡ length c.args.walk.now.frames.items
    depth = omega (arith, c.len-depth.ensures)
