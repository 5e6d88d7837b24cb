-- A name followed outwards through the placed models.
use Rattle.std.proofs.Common.{◌≡◌, ℕ, ◌+◌, ◌-◌, ◌<◌, ◌≤◌, List, [], ◌∷◌, ◌++◌, length, take, drop, get_or, map, refl, sym, ap, ◌∙◌, subst, cond, Bool, true, false, arith, Option, Some, None}
use Rattle.std.specs.Prelude.{reverse}
use Rattle.std.proofs.lemmas.List.{take_more, take_all, reverse-append, take-append-drop, length-reverse, length-take}
use Rattle.blif_text.specs.Models.{PlainModel}
use Rattle.hierarchy.specs.declared.walking.walk.Frame.{Frame}
use Rattle.hierarchy.specs.declared.walking.walk.Walk.{Walk}
use Rattle.library_faults.specs.Flat.{Level, PlacedNet, actual_of, resolve}
use Rattle.hierarchy.specs.Private.Walk.{level_of, levels_of, bound_by, innermost_first, known_net, AreFrames, AreKnown, IsPlacing, IsWalking, IsNetWithin, AreWithin}
use Rattle.std.specs.Str.{bytes_eq}
use Rattle.std.proofs.lemmas.Slice.Eq.{bytes_eq-Decides}

bound_name : (level : Level) (outer : List Level) (name actual : List ℕ) → actual_of level.bindings name ≡ Some actual → resolve (level ∷ outer) name ≡ resolve outer actual
unfolding resolve
bound_name level outer name actual e = rw e refl

own_name : (level : Level) (outer : List Level) (name : List ℕ) → actual_of level.bindings name ≡ None → resolve (level ∷ outer) name ≡ record { path = level.path; name = name }
unfolding resolve
own_name level outer name e = rw e refl

no_level : (name : List ℕ) → resolve [] name ≡ record { path = []; name = name }
unfolding resolve
no_level name = refl

-- the frames up to this one, the innermost first
cut_frames : (frames : List Frame) (depth : ℕ) (f : Frame) → 0 < depth → depth ≤ length frames → f ≡ get_or frames (depth - 1) f → reverse (take depth frames) ≡ f ∷ reverse (take (depth - 1) frames)
cut_frames frames depth f some within is =
    let d : depth ≡ depth - 1 + 1 = omega arith in
    ap (λ k. reverse (take k frames)) d
    ∙ (ap reverse (take_more frames (depth - 1) f (omega arith))
    ∙ (reverse-append (take (depth - 1) frames) (get_or frames (depth - 1) f ∷ [])
    ∙ ap (λ g. g ∷ reverse (take (depth - 1) frames)) (sym is)))

inside : (library : List PlainModel) (bound : ℕ) (xs : List Frame) (f : Frame) (ys : List Frame) → AreFrames library bound (xs ++ f ∷ ys) → (f.path_end ≤ bound) × IsPlacing library f.placing
inside library bound [] f ys a = (a.0, a.3)
inside library bound (x ∷ xs) f ys a = let r = inside library x.path_end xs f ys a.4 in ((let h = a.0 in let k = r.0 in omega arith), r.1)

pub frame_kept : (library : List PlainModel) (w : Walk) (depth : ℕ) (f : Frame) → IsWalking library w → 0 < depth → depth ≤ length w.frames.items → f ≡ get_or w.frames.items (depth - 1) f → (f.path_end ≤ length w.path.items) × IsPlacing library f.placing
frame_kept library w depth f a some within is = inside library (length w.path.items) (reverse (drop depth w.frames.items)) f (reverse (take (depth - 1) w.frames.items)) (subst (AreFrames library (length w.path.items)) whole a.frames_are)
  where
    whole : innermost_first w ≡ reverse (drop depth w.frames.items) ++ f ∷ reverse (take (depth - 1) w.frames.items)
    whole = ap reverse (sym (take-append-drop depth w.frames.items))
        ∙ (reverse-append (take depth w.frames.items) (drop depth w.frames.items)
        ∙ ap (λ r. reverse (drop depth w.frames.items) ++ r) (cut_frames w.frames.items depth f some within is))

module _ (library : List PlainModel) (w : Walk) (depth : ℕ) (f : Frame) (found : List ℕ) (whole : PlacedNet) (some : 0 < depth) (within : depth ≤ length w.frames.items) (is : f ≡ get_or w.frames.items (depth - 1) f) (so_far : resolve (map (level_of library w.path.items) (reverse (take depth w.frames.items))) found ≡ whole) where
  here : resolve (level_of library w.path.items f ∷ map (level_of library w.path.items) (reverse (take (depth - 1) w.frames.items))) found ≡ whole
  here = ap (λ fs. resolve (map (level_of library w.path.items) fs) found) (sym (cut_frames w.frames.items depth f some within is)) ∙ so_far

  pub outwards : (actual : List ℕ) → actual_of (bound_by library f.placing) found ≡ Some actual → resolve (map (level_of library w.path.items) (reverse (take (depth - 1) w.frames.items))) actual ≡ whole
  outwards actual e = sym (bound_name (level_of library w.path.items f) _ found actual e) ∙ here

  pub stays_here : actual_of (bound_by library f.placing) found ≡ None → whole ≡ record { path = take f.path_end w.path.items; name = found }
  stays_here e = sym here ∙ own_name (level_of library w.path.items f) _ found e

pub outermost : (library : List PlainModel) (w : Walk) (depth : ℕ) (found : List ℕ) (whole : PlacedNet) → depth ≡ 0 → resolve (map (level_of library w.path.items) (reverse (take depth w.frames.items))) found ≡ whole → whole ≡ record { path = take 0 w.path.items; name = found }
outermost library w depth found whole none so_far = sym so_far ∙ (ap (λ d. resolve (map (level_of library w.path.items) (reverse (take d w.frames.items))) found) none ∙ no_level found)

pub all_frames : (library : List PlainModel) (w : Walk) (name : List ℕ) → resolve (map (level_of library w.path.items) (reverse (take (length w.frames.items) w.frames.items))) name ≡ resolve (levels_of library w) name
all_frames library w name = ap (λ fs. resolve (map (level_of library w.path.items) (reverse fs)) name) (take_all (length w.frames.items) w.frames.items (omega arith))

-- ---- what is known of a name

known_inside : (library : List PlainModel) (path : List ℕ) (known : ℕ → List ℕ → Option (ℕ × List ℕ)) (xs : List Frame) (f : Frame) (ys : List Frame) → AreKnown library path known (xs ++ f ∷ ys) → AreKnown library path known (f ∷ ys)
known_inside library path known [] f ys a = a
known_inside library path known (x ∷ xs) f ys a = known_inside library path known xs f ys a.1

split_at : (w : Walk) (depth : ℕ) (f : Frame) → 0 < depth → depth ≤ length w.frames.items → f ≡ get_or w.frames.items (depth - 1) f → innermost_first w ≡ reverse (drop depth w.frames.items) ++ f ∷ reverse (take (depth - 1) w.frames.items)
split_at w depth f some within is = ap reverse (sym (take-append-drop depth w.frames.items))
    ∙ (reverse-append (take depth w.frames.items) (drop depth w.frames.items)
    ∙ ap (λ r. reverse (drop depth w.frames.items) ++ r) (cut_frames w.frames.items depth f some within is))

-- an outer placed model's path ends no later
pub inner_end : (library : List PlainModel) (w : Walk) (depth : ℕ) (f g : Frame) (fs : List Frame) → IsWalking library w → 0 < depth → depth ≤ length w.frames.items → f ≡ get_or w.frames.items (depth - 1) f → innermost_first w ≡ g ∷ fs → f.path_end ≤ g.path_end
inner_end library w depth f g fs a some within is first = (inside library g.path_end (reverse (drop depth w.frames.items)) f (reverse (take (depth - 1) w.frames.items)) (subst (AreFrames library g.path_end) (sym first ∙ split_at w depth f some within is) own)).0
  where
    all : AreFrames library (length w.path.items) (g ∷ fs)
    all = subst (AreFrames library (length w.path.items)) first a.frames_are

    own : AreFrames library g.path_end (g ∷ fs)
    own = (omega arith, all.1, all.2, all.3, all.4)

module _ (library : List PlainModel) (w : Walk) (depth : ℕ) (f : Frame) (found : List ℕ) (whole : PlacedNet) (a : IsWalking library w) (some : 0 < depth) (within : depth ≤ length w.frames.items) (is : f ≡ get_or w.frames.items (depth - 1) f) (so_far : resolve (map (level_of library w.path.items) (reverse (take depth w.frames.items))) found ≡ whole) (end : ℕ) (net : List ℕ) (known : known_net w (depth - 1) found ≡ Some (end, net)) where
  pub known_here : (end ≤ f.path_end) × (whole ≡ record { path = take end w.path.items; name = net })
  known_here = go ((known_inside library w.path.items (known_net w) (reverse (drop depth w.frames.items)) f (reverse (take (depth - 1) w.frames.items)) (subst (AreKnown library w.path.items (known_net w)) (split_at w depth f some within is) a.known_are)).0 found end net (subst (λ d. known_net w d found ≡ Some (end, net)) (sym deep) known))
    where
      deep : length (reverse (take (depth - 1) w.frames.items)) ≡ depth - 1
      deep = omega (arith, length-reverse (take (depth - 1) w.frames.items), length-take (depth - 1) w.frames.items)

      go : (end ≤ f.path_end) × (resolve (map (level_of library w.path.items) (f ∷ reverse (take (depth - 1) w.frames.items))) found ≡ record { path = take end w.path.items; name = net }) → (end ≤ f.path_end) × (whole ≡ record { path = take end w.path.items; name = net })
      go (low, same) = (low, sym so_far ∙ (ap (λ fs. resolve (map (level_of library w.path.items) fs) found) (cut_frames w.frames.items depth f some within is) ∙ same))

-- one formal more has its net
pub within_more : (library : List PlainModel) (w : Walk) (bindings : List (List ℕ × List ℕ)) (old new : List ℕ → Option (ℕ × List ℕ)) (formal actual : List ℕ) (end : ℕ) (net : List ℕ) → actual_of bindings formal ≡ Some actual → IsNetWithin library w actual end net → ((q : List ℕ) → new q ≡ cond (bytes_eq formal q) (Some (end, net)) (old q)) → AreWithin library w bindings old → AreWithin library w bindings new
within_more library w bindings old new formal actual end net bound right updates before q e n is = go (bytes_eq formal q) refl (sym (updates q) ∙ is)
  where
    go : (b : Bool) → bytes_eq formal q ≡ b → cond b (Some (end, net)) (old q) ≡ Some (e, n) → (a : List ℕ) × (actual_of bindings q ≡ Some a) × IsNetWithin library w a e n
    go false f same = before q e n same
    go true f same =
        let pair : ◌≡◌ {A = ℕ × List ℕ} (end, net) (e, n) = cc in
        let ends : end ≡ e = ap (λ (p : ℕ × List ℕ). p.0) pair in
        let nets : net ≡ n = ap (λ (p : ℕ × List ℕ). p.1) pair in
        (actual, subst (λ k. actual_of bindings k ≡ Some actual) ((bytes_eq-Decides formal q).0 f) bound, subst (λ k. IsNetWithin library w actual k n) ends (subst (λ m. IsNetWithin library w actual end m) nets right))
