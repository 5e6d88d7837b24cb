-- What a certificate is made of besides partitions and roles.
use Rattle.std.specs.Prelude.{ℕ, Bool, List}
use Rattle.recovery_depth.specs.Depths.{PlainDepths}

-- whether pins that read inputs are voted, which is so in version 2 alone; and labels and depths
pub record Labeling : Type 0 where
  pub inputs : Bool
  pub labels : List ℕ
  pub depths : List ℕ

-- those of a plan
abbrev pub labeling : Bool → PlainDepths → Labeling
labeling inputs t = record { inputs = inputs; labels = t.labels; depths = t.depths }

-- the labels and depths alone
abbrev pub depths_in : Labeling → PlainDepths
depths_in t = record { labels = t.labels; depths = t.depths }
