-- What is found of partitions.
use Rattle.std.specs.Prelude.{◌≡◌, ℕ, List, length, Option}
use Rattle.flat_net.specs.Net.{Net}
use Rattle.certificate.specs.Cert.{PlainCert}
use Rattle.certifying.specs.Private.Forests.{IsForest, GoesAlong, FollowsReaders, KeepsJoins}

-- original nodes are joined in the forest only where each sorting that keeps the joins of k keeps them together
pub record AreJoined (n h : Net) (k : PlainCert) (up : List ℕ) (readers : List (Option ℕ)) : Type 0 where
  pub forest : IsForest up
  pub nodes : length up ≡ length n.nodes
  pub hardened : length readers ≡ length h.nodes
  pub along : (f w : ℕ → Option ℕ) → KeepsJoins n h k f w → GoesAlong f up
  pub followed : (f w : ℕ → Option ℕ) → KeepsJoins n h k f w → FollowsReaders f w readers
