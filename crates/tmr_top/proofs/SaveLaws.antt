-- Saves, one after the other.
use Rattle.std.proofs.Common.{◌≡◌, ℕ, ◌<◌, ◌+◌, zero, suc, List, [], ◌∷◌, ◌++◌, length, take, drop, get_or, Option, Some, None, refl, sym, ap, subst, ◌∙◌, arith, drop-cons, add-one}
use Rattle.std.specs.Prelude.{option_map}
use Rattle.std.specs.Borrow.{Bor}
use Rattle.std.specs.FinMap.{insert}
use Rattle.std.proofs.lemmas.List.{take-append-drop, length-map}
use Rattle.tmr_outside.specs.Contents.{Contents, SameElsewhere}
use Rattle.tmr_outside.specs.Counts.{RoseOf, NoneFell, NoneRose, OthersStay}
use Rattle.tmr_outside.specs.Seen.{FilesSeen, IsTold}
use Rattle.tmr_top.specs.declared.saves.SaveStop.{SaveStop}
use Rattle.tmr_top.specs.declared.saves.SaveStop.TheVariants as stop
use Rattle.tmr_top.specs.Changes.{IsNone, HeldElsewhere, ChangesOnly}
use Rattle.tmr_top.specs.Saves.{with_texts}
use Rattle.tmr_top.specs.declared.decision.Save.{Save}
use Rattle.tmr_top.specs.Private.Works.{save_names, save_texts, text_of}
use Rattle.tmr_top.specs.Private.Saved.{after_saves, Saves, StopsAt, IsSaveStop}
use Rattle.tmr_top.proofs.ChangeLaws.{none_rose, save_change, held_elsewhere, rose_since, save_failed_since, none_since, changes_then, changes_more, none_at, held_told}

-- ---- one save

pub saves_one : (name text : List ℕ) (old new : FilesSeen) → new.contents ≡ option_map (λ held. insert held name text) old.contents → (IsTold old → NoneRose old.save_count new.save_count) → Saves (name ∷ []) (text ∷ []) old new
saves_one name text old new saved none = record { holds = saved; none = none }

pub fails_one : (name : Bor (List ℕ)) (text : List ℕ) (old new : FilesSeen) → RoseOf old.contents (old.save_count name.now) (new.save_count name.now) → (IsTold old → OthersStay name.now old.save_count new.save_count) → (IsTold old → NoneRose old.load_count new.load_count) → SameElsewhere name.now old.contents new.contents → IsSaveStop (name.now ∷ []) (text ∷ []) old new (stop.Failed name)
fails_one name text old new rose others loads same = record {
  first = [];
  next = name.now;
  later = [];
  split = refl;
  stops = (refl, record { rose = rose; other_saves = others; no_loads = loads }, subst (λ (o : Option Contents). HeldElsewhere (name.now ∷ []) o new.contents) (sym (nothing old.contents)) (held_elsewhere name.now old.contents new.contents same));
}
  where
    nothing : (o : Option Contents) → after_saves o [] (text ∷ []) ≡ o
    nothing None = refl
    nothing (Some held) = refl

pub wants_one : (name text : List ℕ) (old new : FilesSeen) → new.contents ≡ old.contents → IsSaveStop (name ∷ []) (text ∷ []) old new stop.Memory
wants_one name text old new same = record { first = []; next = name; later = []; split = refl; stops = same ∙ sym (nothing old.contents) }
  where
    nothing : (o : Option Contents) → after_saves o [] (text ∷ []) ≡ o
    nothing None = refl
    nothing (Some held) = refl

pub ruleset one_save = (none_rose, saves_one, fails_one, wants_one, save_change)

-- ---- one save behind others

-- the contents after one text more
with_one : (held : Contents) (names texts : List (List ℕ)) (i : ℕ) (d e : List ℕ) → i < length names → i < length texts → with_texts held (take (suc i) names) texts ≡ insert (with_texts held (take i names) texts) (get_or names i d) (get_or texts i e)
with_one held [] texts i d e h k = absurd (omega (arith, h))
with_one held (name ∷ names) [] i d e h k = absurd (omega (arith, k))
with_one held (name ∷ names) (text ∷ texts) zero d e h k = refl
with_one held (name ∷ names) (text ∷ texts) (suc i) d e h k = with_one (insert held name text) names texts i d e (omega (arith, h)) (omega (arith, k))

after_one : (o : Option Contents) (names texts : List (List ℕ)) (i : ℕ) (d e : List ℕ) → i < length names → i < length texts → after_saves o (take (i + 1) names) texts ≡ option_map (λ held. insert held (get_or names i d) (get_or texts i e)) (after_saves o (take i names) texts)
after_one None names texts i d e h k = refl
after_one (Some held) names texts i d e h k = ap Some (rw add-one (with_one held names texts i d e h k))

nothing_saved : (o : Option Contents) (texts : List (List ℕ)) → after_saves o [] texts ≡ o
nothing_saved None texts = refl
nothing_saved (Some held) [] = refl
nothing_saved (Some held) (text ∷ texts) = refl

-- a stop of one save is at its name
stop_of_one : (name text : List ℕ) (b c : FilesSeen) (why : SaveStop) → IsSaveStop (name ∷ []) (text ∷ []) b c why → StopsAt b c [] [] name why
stop_of_one name text b c why is = go is.first is.later is.split is.stops
  where
    go : (first later : List (List ℕ)) → name ∷ [] ≡ first ++ is.next ∷ later → StopsAt b c first (text ∷ []) is.next why → StopsAt b c [] [] name why
    go [] later split stops = let same : is.next ≡ name = cc in done why (subst (λ (n : List ℕ). StopsAt b c [] (text ∷ []) n why) same stops)
      where
        done : (why : SaveStop) → StopsAt b c [] (text ∷ []) name why → StopsAt b c [] [] name why
        done (stop.Failed n) stops = (stops.0, stops.1, subst (λ (o : Option Contents). HeldElsewhere (name ∷ []) o c.contents) (nothing_saved b.contents (text ∷ []) ∙ sym (nothing_saved b.contents [])) stops.2)
        done stop.Memory stops = stops ∙ (nothing_saved b.contents (text ∷ []) ∙ sym (nothing_saved b.contents []))
    go (x ∷ first) later split stops = absurd (none_left name x is.next first later split)
      where
        none_left : (y z w : List ℕ) (first later : List (List ℕ)) → y ∷ [] ≡ z ∷ (first ++ w ∷ later) → ⊥
        none_left y z w [] later split = cc
        none_left y z w (v ∷ first) later split = cc

module _ (names texts : List (List ℕ)) (i : ℕ) (d e : List ℕ) (a b c : FilesSeen) (in_names : i < length names) (in_texts : i < length texts) (held : b.contents ≡ after_saves a.contents (take i names) texts) (none : IsTold a → NoneRose a.save_count b.save_count) (fell : NoneFell a.save_count b.save_count) (still : IsTold a → NoneRose a.load_count b.load_count) (told : IsTold a → IsTold b) where
  abbrev pub name : List ℕ
  name = get_or names i d

  abbrev pub text : List ℕ
  text = get_or texts i e

  pub holds_more : Saves (name ∷ []) (text ∷ []) b c → c.contents ≡ after_saves a.contents (take (i + 1) names) texts
  holds_more one = one.holds ∙ (ap (λ (o : Option Contents). option_map (λ h. insert h name text) o) held ∙ sym (after_one a.contents names texts i d e in_names in_texts))

  pub none_more : Saves (name ∷ []) (text ∷ []) b c → IsTold a → NoneRose a.save_count c.save_count
  none_more one is = none_since a.save_count b.save_count c.save_count (none is) (one.none (told is))

  same_told : RoseOf b.contents (b.save_count name) (c.save_count name) → RoseOf a.contents (b.save_count name) (c.save_count name)
  same_told rose = go a.contents b.contents held rose
    where
      go : (o p : Option Contents) → p ≡ after_saves o (take i names) texts → RoseOf p (b.save_count name) (c.save_count name) → RoseOf o (b.save_count name) (c.save_count name)
      go None p is rose = subst (λ (q : Option Contents). RoseOf q (b.save_count name) (c.save_count name)) is rose
      go (Some x) p is rose = subst (λ (q : Option Contents). RoseOf q (b.save_count name) (c.save_count name)) is rose

  at_name : (why : SaveStop) → StopsAt b c [] [] name why → StopsAt a c (take i names) texts name why
  at_name (stop.Failed n) stops = (
    stops.0,
    save_failed_since a b c name told (rose_since a.contents (a.save_count name) (b.save_count name) (c.save_count name) (fell name) (same_told stops.1.rose)) (λ is. record { loads = still is; saves = none is }) stops.1,
    subst (λ (o : Option Contents). HeldElsewhere (name ∷ []) o c.contents) (nothing_saved b.contents [] ∙ held) stops.2,
  )
  at_name stop.Memory stops = stops ∙ (nothing_saved b.contents [] ∙ held)

  pub stop_later : (why : SaveStop) → IsSaveStop (name ∷ []) (text ∷ []) b c why → IsSaveStop names texts a c why
  stop_later why is = record {
    first = take i names;
    next = name;
    later = drop (i + 1) names;
    split = sym (take-append-drop i names) ∙ ap (λ (t : List (List ℕ)). take i names ++ t) (rw (add-one, drop-cons names i d in_names) refl);
    stops = at_name why (stop_of_one name text b c why is);
  }

-- one of the names is saved
pub one_change : (names : List (List ℕ)) (i : ℕ) (d : List ℕ) (a b c : FilesSeen) → i < length names → ChangesOnly [] names a b → ChangesOnly [] (get_or names i d ∷ []) b c → ChangesOnly [] names a c
one_change names i d a b c h before one =
    changes_then [] names a b c before (changes_more [] (get_or names i d ∷ []) [] names b c (λ name none. none) within one)
  where
    cut : names ≡ take i names ++ get_or names i d ∷ drop (i + 1) names
    cut = sym (take-append-drop i names) ∙ ap (λ (t : List (List ℕ)). take i names ++ t) (rw (add-one, drop-cons names i d h) refl)

    within : (name : List ℕ) → IsNone names name → IsNone (get_or names i d ∷ []) name
    within name none = none_at (take i names) (get_or names i d) (drop (i + 1) names) name (subst (λ (ns : List (List ℕ)). IsNone ns name) cut none)

-- ---- the loop

name_at : (saves : List Save) (i : ℕ) (d : Save) → (get_or saves i d).name.now ≡ get_or (save_names saves) i d.name.now
name_at [] i d = refl
name_at (s ∷ saves) zero d = refl
name_at (s ∷ saves) (suc i) d = name_at saves i d

text_at : (saves : List Save) (i : ℕ) (d : Save) → text_of (get_or saves i d).text ≡ get_or (save_texts saves) i (text_of d.text)
text_at [] i d = refl
text_at (s ∷ saves) zero d = refl
text_at (s ∷ saves) (suc i) d = text_at saves i d

module _ (saves : List Save) (i : ℕ) (d : Save) (text : List ℕ) (a b c : FilesSeen) (within : i < length saves) (is : d ≡ get_or saves i d) (same : text ≡ text_of d.text) (held : b.contents ≡ after_saves a.contents (take i (save_names saves)) (save_texts saves)) (none : IsTold a → NoneRose a.save_count b.save_count) (before : ChangesOnly [] (save_names saves) a b) where
  in_names : i < length (save_names saves)
  in_names = let e = length-map saves (λ (save : Save). save.name.now) in omega (arith, e, within)

  in_texts : i < length (save_texts saves)
  in_texts = let e = length-map saves (λ (save : Save). text_of save.text) in omega (arith, e, within)

  this_name : d.name.now ≡ get_or (save_names saves) i d.name.now
  this_name = ap (λ (s : Save). s.name.now) is ∙ name_at saves i d

  this_text : text ≡ get_or (save_texts saves) i (text_of d.text)
  this_text = same ∙ (ap (λ (s : Save). text_of s.text) is ∙ text_at saves i d)

  still : IsTold a → NoneRose a.load_count b.load_count
  still is name = before.loads_only is name tt

  told : IsTold a → IsTold b
  told = held_told (save_names saves) a.contents b.contents before.elsewhere

  pub stop_in : (why : SaveStop) → IsSaveStop (d.name.now ∷ []) (text ∷ []) b c why → IsSaveStop (save_names saves) (save_texts saves) a c why
  stop_in why at = stop_later (save_names saves) (save_texts saves) i d.name.now (text_of d.text) a b c in_names in_texts held none before.saves still told why
      (subst (λ (n : List ℕ). IsSaveStop (n ∷ []) (get_or (save_texts saves) i (text_of d.text) ∷ []) b c why) this_name (subst (λ (t : List ℕ). IsSaveStop (d.name.now ∷ []) (t ∷ []) b c why) this_text at))

  pub change_in : ChangesOnly [] (d.name.now ∷ []) b c → ChangesOnly [] (save_names saves) a c
  change_in at = one_change (save_names saves) i d.name.now a b c in_names before (subst (λ (n : List ℕ). ChangesOnly [] (n ∷ []) b c) this_name at)

  saves_here : Saves (d.name.now ∷ []) (text ∷ []) b c → Saves (get_or (save_names saves) i d.name.now ∷ []) (get_or (save_texts saves) i (text_of d.text) ∷ []) b c
  saves_here at = subst (λ (n : List ℕ). Saves (n ∷ []) (get_or (save_texts saves) i (text_of d.text) ∷ []) b c) this_name (subst (λ (t : List ℕ). Saves (d.name.now ∷ []) (t ∷ []) b c) this_text at)

  pub held_in : Saves (d.name.now ∷ []) (text ∷ []) b c → c.contents ≡ after_saves a.contents (take (i + 1) (save_names saves)) (save_texts saves)
  held_in at = holds_more (save_names saves) (save_texts saves) i d.name.now (text_of d.text) a b c in_names in_texts held none before.saves still told (saves_here at)

  pub none_in : Saves (d.name.now ∷ []) (text ∷ []) b c → IsTold a → NoneRose a.save_count c.save_count
  none_in at = none_more (save_names saves) (save_texts saves) i d.name.now (text_of d.text) a b c in_names in_texts held none before.saves still told (saves_here at)
