-- A certificate whose partitions, labels and depths are found for the roles of another one.
use Rattle.std.specs.Prelude.{◌≡◌, ℕ, ◌<◌, List, length, Option, All}
use Rattle.tmr_base.specs.Copies.{Three}
use Rattle.flat_net.specs.Net.{Net}
use Rattle.certificate.specs.declared.role.Role.{Role}
use Rattle.certificate.specs.Cert.{PlainCert}
use Rattle.certifying.specs.Private.Bare.{AreSmall, IsBare}
use Rattle.certifying.specs.Private.Numbers.{AreNumbered}
use Rattle.certifying.specs.Private.Labels.{AreBelow}
use Rattle.certifying.specs.Private.Depths.{AreLabels, AreDepths}
use Rattle.certifying.specs.Private.Renumbered.{AreRenumbered, refined}
use Rattle.certifying.specs.Private.Found.{AreJoined}

-- what the found lists are for certificate k
pub record AreFound (n h : Net) (k : PlainCert) (up : List ℕ) (readers : List (Option ℕ)) (depth part labels : List ℕ)
    (threes : List Three) (roles : List Role) : Type 0 where
  pub joined : AreJoined n h k up readers
  pub nodes : length part ≡ length n.nodes
  pub few : length depth < 4294967295
  pub numbered : AreNumbered up part (length depth)
  pub long : length labels ≡ length h.nodes
  pub below : AreBelow h k labels
  pub three : AreLabels n h k labels threes
  pub small : All AreSmall threes
  pub depths : AreDepths part threes depth
  pub small_depths : All (λ d. d < 4294967296) depth
  pub renumbered : AreRenumbered h k part readers roles

-- the certificate m is k with what is found
pub record IsRefined (n h : Net) (k m : PlainCert) : Type 0 where
  pub up : List ℕ
  pub readers : List (Option ℕ)
  pub depth : List ℕ
  pub part : List ℕ
  pub labels : List ℕ
  pub threes : List Three
  pub roles : List Role
  pub found : AreFound n h k up readers depth part labels threes roles
  pub is : m ≡ refined k depth part threes roles

-- the certificate that is tried: it is made of one with one partition
pub record IsProposed (n h : Net) (version : ℕ) (k : PlainCert) : Type 0 where
  pub base : PlainCert
  pub bare : IsBare n h version base
  pub refines : IsRefined n h base k
  pub own : IsBare n h version k
