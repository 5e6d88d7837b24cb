-- A pin joins what has to be joined, and nothing else.
use Rattle.std.proofs.Common.{◌≡◌, ◌≢◌, ℕ, ◌-◌, ◌<◌, ◌⊎◌, inl, inr, List, [], ◌∷◌, ◌++◌, length, get_or, set, slice_get, Option, Some, None, sym, ap, ◌∙◌, arith}
use Rattle.std.proofs.lemmas.List.{get_or-set_same, get_or-set_other, length-set}
use Rattle.std.proofs.lemmas.Option.{slice_get_within, slice_get-get_or}
use Rattle.certificate.proofs.Validity.{push_read}
use Rattle.certifying.proofs.ForestLaws.{same_or_not}
use Rattle.tmr_base.specs.declared.copies.CopyNo.{CopyNo}
use Rattle.flat_net.specs.Net.{Net, node_of, pins_at}
use Rattle.certificate.specs.declared.role.Role.TheVariants.{Copy, Voter}
use Rattle.certificate.specs.Cert.{PlainCert, role_of}
use Rattle.certifying.specs.Private.Forests.{IsForest, GoesAlong, FollowsReaders, KeepsJoins}
use Rattle.certifying.specs.Private.Found.{AreJoined}

-- pin j of hardened node g, which is a copy of y, reads p
pub record IsPin (h : Net) (k : PlainCert) (g y j p : ℕ) : Type 0 where
  pub copy : CopyNo
  pub role : role_of k g ≡ Some (Copy (record { 0 = y }) copy)
  pub within : j < length (pins_at (node_of h g))
  pub is : p ≡ get_or (pins_at (node_of h g)) j 0

-- p is a copy of x
pub joined_copy : (n h : Net) (k : PlainCert) (up up' : List ℕ) (readers : List (Option ℕ)) (g y j p x a b : ℕ) (d : CopyNo) → AreJoined n h k up readers → IsPin h k g y j p → role_of k p ≡ Some (Copy (record { 0 = x }) d)
    → a ≡ x - length n.inputs → b ≡ y - length n.inputs → IsForest up' → length up' ≡ length up → ((f : ℕ → Option ℕ) → GoesAlong f up → f a ≡ f b → GoesAlong f up') → AreJoined n h k up' readers
joined_copy n h k up up' readers g y j p x a b d are pin role is_a is_b forest long along = record {
  forest = forest;
  nodes = long ∙ are.nodes;
  hardened = are.hardened;
  along = λ f w keeps. along f (are.along f w keeps) (ap f is_a ∙ (keeps.copies g y x j pin.copy d pin.role pin.within (ap (role_of k) (sym pin.is) ∙ role) ∙ ap f (sym is_b)));
  followed = are.followed;
}

-- p is a voter
pub joined_voter : (n h : Net) (k : PlainCert) (up up' : List ℕ) (readers readers' : List (Option ℕ)) (g y j p x q v b : ℕ) (d : CopyNo) → AreJoined n h k up readers → IsPin h k g y j p → role_of k p ≡ Some (Voter (record { 0 = x }) (record { 0 = q }) d)
    → v ≡ p - length h.inputs → b ≡ y - length n.inputs → IsForest up' → length up' ≡ length up → length readers' ≡ length readers
    → ((f w : ℕ → Option ℕ) → GoesAlong f up → FollowsReaders f w readers → w v ≡ f b → GoesAlong f up')
    → ((f w : ℕ → Option ℕ) → FollowsReaders f w readers → w v ≡ f b → FollowsReaders f w readers')
    → AreJoined n h k up' readers'
joined_voter n h k up up' readers readers' g y j p x q v b d are pin role is_v is_b forest long long' along follows = record {
  forest = forest;
  nodes = long ∙ are.nodes;
  hardened = long' ∙ are.hardened;
  along = λ f w keeps. along f w (are.along f w keeps) (are.followed f w keeps) (same f w keeps);
  followed = λ f w keeps. follows f w (are.followed f w keeps) (same f w keeps);
}
  where
    same : (f w : ℕ → Option ℕ) → KeepsJoins n h k f w → w v ≡ f b
    same f w keeps =
        ap w (is_v ∙ ap (λ (z : ℕ). z - length h.inputs) pin.is) ∙ (keeps.voters g y x q j pin.copy d pin.role pin.within (ap (role_of k) (sym pin.is) ∙ role) ∙ ap f (sym is_b))

-- no reader more
pub none_more : (readers more : List (Option ℕ)) → more ≡ readers ++ None ∷ [] → ((v y : ℕ) → slice_get readers v ≡ Some (Some y) → ⊥) → (v y : ℕ) → slice_get more v ≡ Some (Some y) → ⊥
none_more readers more is none v y e = go (push_read readers None (Some y) v (ap (λ (xs : List (Option ℕ)). slice_get xs v) (sym is) ∙ e))
  where
    go : (slice_get readers v ≡ Some (Some y)) ⊎ ((v ≡ length readers) × (None ≡ Some y)) → ⊥
    go (inl old) = none v y old
    go (inr new) = let wrong : None ≡ Some y = new.1 in absurd (cc)

-- a reader is noted
pub follows_set : (f w : ℕ → Option ℕ) (readers : List (Option ℕ)) (v y : ℕ) → FollowsReaders f w readers → w v ≡ f y → v < length readers → FollowsReaders f w (set readers v (Some y))
follows_set f w readers v y follows same within u z e = go (same_or_not u v)
  where
    range : u < length (set readers v (Some y))
    range = slice_get_within (set readers v (Some y)) u (Some z) e

    value : get_or (set readers v (Some y)) u None ≡ Some z
    value = some_same _ _ (sym (slice_get-get_or (set readers v (Some y)) u None range) ∙ e)
      where
        some_same : (a b : Option ℕ) → Some a ≡ Some b → a ≡ b
        some_same a b e = cc

    go : (u ≡ v) ⊎ (u ≢ v) → w u ≡ f z
    go (inl here) =
        let at : get_or (set readers v (Some y)) v None ≡ Some y = get_or-set_same readers v (Some y) None within in
        let both : Some y ≡ Some z = sym at ∙ (ap (λ (i : ℕ). get_or (set readers v (Some y)) i None) (sym here) ∙ value) in
        let equal : y ≡ z = cc in
        ap w here ∙ (same ∙ ap f equal)
    go (inr other) =
        let at : get_or (set readers v (Some y)) u None ≡ get_or readers u None = get_or-set_other readers v u (Some y) None other in
        let old : slice_get readers u ≡ Some (Some z) = slice_get-get_or readers u None (omega (arith, range, length-set readers v (Some y))) ∙ ap (λ (o : Option ℕ). Some o) (sym at ∙ value) in
        follows u z old
