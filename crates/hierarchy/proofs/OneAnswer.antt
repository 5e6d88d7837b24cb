-- A library has a flat design or a fault, and one of them.
use Rattle.std.proofs.Common.{◌≡◌, ◌≢◌, ℕ, ◌<◌, ◌⊎◌, List, None, Some, inl, inr, refl, sym, subst, ◌∙◌, arith}
use Rattle.std.specs.Prelude.{slice_get, Vec, Result, Ok, Err, MatchResult, IfOk, IfErr, IsErrAnd}
use Rattle.std.specs.declared.alloc.Global.{Global}
use Rattle.std.proofs.lemmas.Bool.{cases_order}
use Rattle.std.proofs.lemmas.Option.{slice_get_within}
use Rattle.blif_text.specs.Models.{PlainModel}
use Rattle.flat_net.specs.Net.{Net}
use Rattle.flat_net.specs.Faults.{IsFaultOf, IsSameFault as SameNetFault, same as same_net, of_tables as loops_of}
use Rattle.flat_net.specs.declared.fault.NetFault.{NetFault}
use Rattle.flat_net.specs.declared.fault.NetFault.TheVariants as net
use Rattle.flat_net.proofs.OneFault.{none_or_one, one_fault as one_net_fault}
use Rattle.library_faults.specs.declared.fault.PlacingFault.{PlacingFault}
use Rattle.library_faults.specs.declared.fault.PlacingFault.TheVariants as placing
use Rattle.hierarchy.specs.declared.flat_fault.FlatFault.{FlatFault}
use Rattle.hierarchy.specs.declared.flat_fault.FlatFault.TheVariants.{UnknownModel, UnboundInput, UnknownFormal, DuplicateFormal, BothWays, Recursive, TooLarge, NameClash, Net as NetOf, Memory}
use Rattle.library_faults.specs.Graph.{graph}
use Rattle.library_faults.specs.Library.{IsFirstFault, IsPlaceable, IsRecursive}
use Rattle.library_faults.specs.Flat.{flat_model}
use Rattle.library_faults.specs.FlatText.{text_length}
use Rattle.hierarchy.specs.Clash.{name_clash}
use Rattle.hierarchy.specs.Drafted.{draft_of}
use Rattle.hierarchy.specs.Flatten.{IsFlat, IsFlatFault, IsSameFault, same, of_models, of_tables}
use Rattle.library_faults.specs.Sound.{IsSound, Fits}
use Rattle.hierarchy.specs.Private.Stages.{flat_fault_of}
use Rattle.hierarchy.proofs.OrderOrLoop.{no_model_loop}

-- ---- faults of statements and loops of models

module _ (library : List PlainModel) where
  misplaced : (fault : PlacingFault) → IsFirstFault library fault → IsPlaceable library → ⊥
  misplaced fault first none = let no = none first.place first.model (slice_get_within library first.place first.model first.is) first.is first.reached in let yes = first.has in cc

  one_misplaced : (f g : PlacingFault) → IsFirstFault library f → IsFirstFault library g → f ≡ g
  one_misplaced f g first other = go (cases_order first.place other.place)
    where
      go : (first.place ≡ other.place) ⊎ ((first.place < other.place) ⊎ (other.place < first.place)) → f ≡ g
      go (inl e) =
          let there : slice_get library first.place ≡ Some other.model = subst (λ k. slice_get library k ≡ Some other.model) (sym e) other.is in
          let model : first.model ≡ other.model = cc (first.is) in
          let has = first.has in
          let also = other.has in
          cc
      go (inr (inl l)) = let no = other.earlier first.place first.model l first.is first.reached in let yes = first.has in absurd cc
      go (inr (inr l)) = let no = first.earlier other.place other.model l other.is other.reached in let yes = other.has in absurd cc

  looped : (names : List (List ℕ)) → IsRecursive library names → IsSound library → ⊥
  looped names (placeable, (models, loop, is)) sound = no_model_loop (graph library) sound.order models sound.ordered loop

-- the same fault of a draft is the same fault of a library
of_draft : (f g : NetFault) → SameNetFault f g → IsSameFault (NetOf f) (NetOf g)
of_draft f g (same_net fault) = same (NetOf fault)
of_draft f g (loops_of names others) = of_tables names others

-- ---- all faults but want of memory, by what they are faults of

data Cause (library : List PlainModel) (limit : ℕ) : FlatFault → Type 0 where
  statement : (fault : PlacingFault) → IsFirstFault library fault → Cause library limit (flat_fault_of fault)
  models : (names : Vec (List ℕ) Global) → IsRecursive library names.items → Cause library limit (Recursive names)
  length_of : IsSound library → limit < text_length (flat_model library) → Cause library limit TooLarge
  clash : (text : List ℕ) → IsSound library → Fits library limit → name_clash library ≡ Some text → Cause library limit (NameClash text)
  design : (fault : NetFault) → IsSound library → Fits library limit → name_clash library ≡ None → fault ≢ net.Memory → IsFaultOf (draft_of (flat_model library)) fault → Cause library limit (NetOf fault)

module _ (library : List PlainModel) (limit : ℕ) where
  cause_of : (fault : FlatFault) → fault ≢ Memory → IsFlatFault library limit fault → Cause library limit fault
  cause_of (UnknownModel name) caused f = statement (placing.UnknownModel name) f
  cause_of (UnboundInput name) caused f = statement (placing.UnboundInput name) f
  cause_of (UnknownFormal name) caused f = statement (placing.UnknownFormal name) f
  cause_of (DuplicateFormal name) caused f = statement (placing.DuplicateFormal name) f
  cause_of (BothWays name) caused f = statement (placing.BothWays name) f
  cause_of (Recursive names) caused f = models names f
  cause_of TooLarge caused (sound, long) = length_of sound long
  cause_of (NameClash text) caused (sound, fits, is) = clash text sound fits is
  cause_of (NetOf fault) caused (sound, fits, clear, known, f) = design fault sound fits clear known f
  cause_of Memory caused f = absurd (caused refl)

  none_flat : (n : Net) (open_values : ℕ) (fault : FlatFault) → IsFlat library limit n open_values → Cause library limit fault → ⊥
  none_flat n open_values fault flat (statement placed first) = misplaced library placed first flat.sound.placeable
  none_flat n open_values fault flat (models names f) = looped library names.items f flat.sound
  none_flat n open_values fault flat (length_of sound long) = let fits = flat.fits in omega arith
  none_flat n open_values fault flat (clash text sound fits is) = let clear = flat.clear in cc
  none_flat n open_values fault flat (design f sound fits clear known is) = none_or_one (draft_of (flat_model library)) f known flat.faultless is

  no_clash : (text : List ℕ) → name_clash library ≡ Some text → name_clash library ≡ None → ⊥
  no_clash text is clear = cc

  too_long : limit < text_length (flat_model library) → Fits library limit → ⊥
  too_long long fits = omega arith

  same_placed : (f g : PlacingFault) → f ≡ g → IsSameFault (flat_fault_of f) (flat_fault_of g)
  same_placed f g e = subst (λ h. IsSameFault (flat_fault_of f) (flat_fault_of h)) e (same (flat_fault_of f))

  same_clash : (a b : List ℕ) → name_clash library ≡ Some a → name_clash library ≡ Some b → IsSameFault (NameClash a) (NameClash b)
  same_clash a b is also = let e : a ≡ b = cc in subst (λ c. IsSameFault (NameClash a) (NameClash c)) e (same (NameClash a))

  one_cause : (f g : FlatFault) → Cause library limit f → Cause library limit g → IsSameFault f g
  one_cause f g (statement a x) (statement b y) = same_placed a b (one_misplaced library a b x y)
  one_cause f g (statement a x) (models b (placeable, y)) = absurd (misplaced library a x placeable)
  one_cause f g (statement a x) (length_of s y) = absurd (misplaced library a x s.placeable)
  one_cause f g (statement a x) (clash b s t y) = absurd (misplaced library a x s.placeable)
  one_cause f g (statement a x) (design b s t c k y) = absurd (misplaced library a x s.placeable)
  one_cause f g (models a (placeable, x)) (statement b y) = absurd (misplaced library b y placeable)
  one_cause f g (models a x) (models b y) = of_models a b
  one_cause f g (models a x) (length_of s y) = absurd (looped library a.items x s)
  one_cause f g (models a x) (clash b s t y) = absurd (looped library a.items x s)
  one_cause f g (models a x) (design b s t c k y) = absurd (looped library a.items x s)
  one_cause f g (length_of r x) (statement b y) = absurd (misplaced library b y r.placeable)
  one_cause f g (length_of r x) (models b y) = absurd (looped library b.items y r)
  one_cause f g (length_of r x) (length_of s y) = same TooLarge
  one_cause f g (length_of r x) (clash b s t y) = absurd (too_long x t)
  one_cause f g (length_of r x) (design b s t c k y) = absurd (too_long x t)
  one_cause f g (clash a r t x) (statement b y) = absurd (misplaced library b y r.placeable)
  one_cause f g (clash a r t x) (models b y) = absurd (looped library b.items y r)
  one_cause f g (clash a r t x) (length_of s y) = absurd (too_long y t)
  one_cause f g (clash a r t x) (clash b s u y) = same_clash a b x y
  one_cause f g (clash a r t x) (design b s u c k y) = absurd (no_clash a x c)
  one_cause f g (design a r t c k x) (statement b y) = absurd (misplaced library b y r.placeable)
  one_cause f g (design a r t c k x) (models b y) = absurd (looped library b.items y r)
  one_cause f g (design a r t c k x) (length_of s y) = absurd (too_long y t)
  one_cause f g (design a r t c k x) (clash b s u y) = absurd (no_clash b y c)
  one_cause f g (design a r t c k x) (design b s u e l y) = of_draft a b (one_net_fault (draft_of (flat_model library)) a b k l x y)

  -- ---- what the definitions determine

  -- a library that has a flat design has no fault
  pub flat_or_fault : (n : Net) (open_values : ℕ) (fault : FlatFault) → IsFlat library limit n open_values → fault ≢ Memory → IsFlatFault library limit fault → ⊥
  flat_or_fault n open_values fault flat caused f = none_flat n open_values fault flat (cause_of fault caused f)

  -- two faults of a library are the same
  pub one_fault : (f g : FlatFault) → f ≢ Memory → g ≢ Memory → IsFlatFault library limit f → IsFlatFault library limit g → IsSameFault f g
  one_fault f g p q x y = one_cause f g (cause_of f p x) (cause_of g q y)

  -- two flat designs of a library are the same
  pub one_flat : (n m : Net) (a b : ℕ) → IsFlat library limit n a → IsFlat library limit m b → (n ≡ m) × (a ≡ b)
  one_flat n m a b x y = (x.design_is ∙ sym y.design_is, x.open_are ∙ sym y.open_are)

memory_or_not : (fault : FlatFault) → (fault ≡ Memory) ⊎ (fault ≢ Memory)
memory_or_not (UnknownModel name) = inr (λ e. (cc))
memory_or_not (UnboundInput name) = inr (λ e. (cc))
memory_or_not (UnknownFormal name) = inr (λ e. (cc))
memory_or_not (DuplicateFormal name) = inr (λ e. (cc))
memory_or_not (BothWays name) = inr (λ e. (cc))
memory_or_not (Recursive names) = inr (λ e. (cc))
memory_or_not TooLarge = inr (λ e. (cc))
memory_or_not (NameClash text) = inr (λ e. (cc))
memory_or_not (NetOf fault) = inr (λ e. (cc))
memory_or_not Memory = inl refl

module _ {F : Type 0} (library : List PlainModel) (limit : ℕ) (net_of : F → Net) (open_of : F → ℕ) where
  -- where there is a flat design, it is answered
  pub ok_only : (r : Result F FlatFault) → IfOk r (λ flat. IsFlat library limit (net_of flat) (open_of flat)) → IfErr r (λ fault. IsFlatFault library limit fault) → (n : Net) (open_values : ℕ) → IsFlat library limit n open_values → MatchResult r (λ flat. (net_of flat ≡ n) × (open_of flat ≡ open_values)) (λ fault. fault ≡ Memory)
  ok_only (Ok flat) ok err n open_values is = one_flat library limit (net_of flat) n (open_of flat) open_values ok is
  ok_only (Err fault) ok err n open_values is = go (memory_or_not fault)
    where
      go : (fault ≡ Memory) ⊎ (fault ≢ Memory) → fault ≡ Memory
      go (inl e) = e
      go (inr caused) = absurd (flat_or_fault library limit n open_values fault is caused err)

  -- where there is a fault, it is answered
  pub fault_only : (r : Result F FlatFault) → IfOk r (λ flat. IsFlat library limit (net_of flat) (open_of flat)) → IfErr r (λ fault. IsFlatFault library limit fault) → (fault : FlatFault) → fault ≢ Memory → IsFlatFault library limit fault → IsErrAnd r (λ answered. (answered ≡ Memory) ⊎ IsSameFault answered fault)
  fault_only (Ok flat) ok err fault caused is = flat_or_fault library limit (net_of flat) (open_of flat) fault ok caused is
  fault_only (Err answered) ok err fault caused is = go (memory_or_not answered)
    where
      go : (answered ≡ Memory) ⊎ (answered ≢ Memory) → (answered ≡ Memory) ⊎ IsSameFault answered fault
      go (inl e) = inl e
      go (inr also) = inr (one_fault library limit answered fault also caused err is)
