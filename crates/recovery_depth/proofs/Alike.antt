-- Labels and depths depend on the pins that read inside their partitions alone.
use Rattle.std.proofs.Common.{◌≡◌, ℕ, Bool, refl, sym, ◌∙◌}
use Rattle.tmr_base.specs.Parts.{PlainParts}
use Rattle.flat_net.specs.Net.{Net}
use Rattle.feedback_cut.specs.Inner.{ReadsInside}
use Rattle.feedback_cut.specs.Cut.{ReadsUnvoted}
use Rattle.recovery_depth.specs.Depths.{own_register, PlainDepths, AreDepths}
use Rattle.recovery_depth.proofs.WalkLaws.{reach_map}

unvoted_alike : (n : Net) (parts : PlainParts) (voted also : ℕ → ℕ → Bool) → ((y j x : ℕ) → ReadsInside n parts y j x → voted y j ≡ also y j) → (x y : ℕ) → ReadsUnvoted n parts voted x y → ReadsUnvoted n parts also x y
unvoted_alike n parts voted also same x y u = record { pin = u.pin; reads = u.reads; unvoted = sym (same y u.pin x u.reads) ∙ u.unvoted }

-- where two sets of voted pins agree inside the partitions, they have the same labels and depths
pub depths_alike : (n : Net) (parts : PlainParts) (voted also : ℕ → ℕ → Bool) (t : PlainDepths) → ((y j x : ℕ) → ReadsInside n parts y j x → voted y j ≡ also y j) → AreDepths n parts voted t → AreDepths n parts also t
depths_alike n parts voted also t same d = record {
  nodes = d.nodes;
  parts_long = d.parts_long;
  labels = λ x l. reach_map (ReadsUnvoted n parts voted) (ReadsUnvoted n parts also) (own_register n) (own_register n) (unvoted_alike n parts voted also same) (unvoted_alike n parts also voted (λ y j z r. sym (same y j z r))) (λ z. refl) x _ (d.labels x l);
  depths = d.depths;
}
