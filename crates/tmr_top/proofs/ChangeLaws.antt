-- What changes in what is seen of files, one step after another.
use Rattle.std.proofs.Common.{◌≡◌, ℕ, ◌≤◌, Bool, true, false, List, [], ◌∷◌, ◌++◌, Option, Some, None, Result, Ok, Err, refl, sym, ap, subst, ◌∙◌, arith}
use Rattle.std.specs.Prelude.{IsSome, IfErr, IsErrAnd, MatchResult}
use Rattle.std.specs.Str.{bytes_eq}
use Rattle.std.proofs.lemmas.Slice.Eq.{bytes_eq-Decides}
use Rattle.tmr_outside.specs.Contents.{Contents, SameElsewhere}
use Rattle.tmr_outside.specs.Counts.{RoseOf, NoneFell, NoneRose, OthersStay}
use Rattle.tmr_outside.specs.Seen.{FilesSeen, IsTold}
use Rattle.tmr_top.specs.Loads.{Load}
use Rattle.tmr_top.specs.Changes.{LoadFailed, SaveRose, SaveFailed, IsNone, HeldElsewhere, ChangesOnly, NoneFailed}

pub told_as_before : (old mid : Option Contents) → mid ≡ old → IsSome old → IsSome mid
told_as_before old mid same told = subst (λ (c : Option Contents). IsSome c) (sym same) told

-- a count that rose later rose since before
pub rose_since : {C : Type 0} (told : Option C) (a b c : ℕ) → a ≤ b → RoseOf told b c → RoseOf told a c
rose_since None a b c h rose = omega arith
rose_since (Some held) a b c h rose = omega arith

pub none_since : (a b c : List ℕ → ℕ) → NoneRose a b → NoneRose b c → NoneRose a c
none_since a b c one other name = other name ∙ one name

-- a load that failed later failed since before, where nothing failed in between
pub load_failed_since : (a b c : FilesSeen) (load : Load) → b.contents ≡ a.contents → NoneFell a.load_count b.load_count → (IsTold a → NoneFailed a b) → LoadFailed b c load → LoadFailed a c load
load_failed_since a b c load same fell quiet failed = record {
  rose = rose_since a.contents (a.load_count load.name) (b.load_count load.name) (c.load_count load.name) (fell load.name)
      (subst (λ (o : Option Contents). RoseOf o (b.load_count load.name) (c.load_count load.name)) same failed.rose);
  other_loads = λ told other differs. failed.other_loads (told_as_before a.contents b.contents same told) other differs ∙ (quiet told).loads other;
  no_saves = λ told name. failed.no_saves (told_as_before a.contents b.contents same told) name ∙ (quiet told).saves name;
}

-- the same of a save
pub save_failed_since : (a b c : FilesSeen) (name : List ℕ) → (IsTold a → IsTold b) → SaveRose a c name → (IsTold a → NoneFailed a b) → SaveFailed b c name → SaveFailed a c name
save_failed_since a b c name stays rose quiet failed = record {
  rose = rose;
  other_saves = λ told other differs. failed.other_saves (stays told) other differs ∙ (quiet told).saves other;
  no_loads = λ told other. failed.no_loads (stays told) other ∙ (quiet told).loads other;
}

-- where no other count rose, nor this one, none did
pub none_rose : (name : List ℕ) (before now : List ℕ → ℕ) → OthersStay name before now → now name ≡ before name → NoneRose before now
none_rose name before now others same other = go (bytes_eq other name) refl
  where
    go : (b : Bool) → bytes_eq other name ≡ b → now other ≡ before other
    go true is = let e : other ≡ name = (bytes_eq-Decides other name).0 is in ap now e ∙ (same ∙ ap before (sym e))
    go false is = others other (λ e. let yes : bytes_eq other name ≡ true = (bytes_eq-Decides other name).1 e in cc)

-- what the exit of a `?` returns
pub err_gives : {T E : Type 0} (r : Result T E) (y : E) (P : E → Type 0) → IsErrAnd r (λ x. x ≡ y) → P y → IfErr r P
err_gives (Ok value) y P is holds = absurd is
err_gives (Err error) y P is holds = subst P (sym is) holds

pub match_err : {T E : Type 0} (r : Result T E) (y : E) (P : T → Type 0) (Q : Type 0) → IsErrAnd r (λ x. x ≡ y) → Q → MatchResult r P (λ _. Q)
match_err (Ok value) y P Q is holds = absurd is
match_err (Err error) y P Q is holds = holds

pub match_since : {T E : Type 0} (r : Result T E) (P P' : T → Type 0) (Q Q' : E → Type 0) → ((x : T) → P x → P' x) → ((e : E) → Q e → Q' e) → MatchResult r P Q → MatchResult r P' Q'
match_since (Ok value) P P' Q Q' ok err holds = ok value holds
match_since (Err error) P P' Q Q' ok err holds = err error holds

-- ---- what is held

pub held_told : (names : List (List ℕ)) (a b : Option Contents) → HeldElsewhere names a b → IsSome a → IsSome b
held_told names None None held told = told
held_told names (Some x) (Some y) held told = refl
held_told names (Some x) None held told = absurd held
held_told names None (Some y) held told = absurd held

-- where nothing changed, every name holds what it held
pub held_same : (names : List (List ℕ)) (old new : Option Contents) → new ≡ old → HeldElsewhere names old new
held_same names old new same = subst (λ (c : Option Contents). HeldElsewhere names old c) (sym same) (go old)
  where
    go : (c : Option Contents) → HeldElsewhere names c c
    go None = tt
    go (Some held) = λ name none. refl

pub held_elsewhere : (name : List ℕ) (old new : Option Contents) → SameElsewhere name old new → HeldElsewhere (name ∷ []) old new
held_elsewhere name None None same = tt
held_elsewhere name (Some old) (Some new) same = λ other none. same other none.0
held_elsewhere name None (Some new) same = absurd same
held_elsewhere name (Some old) None same = absurd same

held_then : (names : List (List ℕ)) (a b c : Option Contents) → HeldElsewhere names a b → HeldElsewhere names b c → HeldElsewhere names a c
held_then names None None None one two = tt
held_then names (Some x) (Some y) (Some z) one two = λ name none. two name none ∙ one name none
held_then names None None (Some z) one two = absurd two
held_then names (Some x) (Some y) None one two = absurd two
held_then names None (Some y) c one two = absurd one
held_then names (Some x) None c one two = absurd one

held_more : (few more : List (List ℕ)) (a b : Option Contents) → ((name : List ℕ) → IsNone more name → IsNone few name) → HeldElsewhere few a b → HeldElsewhere more a b
held_more few more None None within held = tt
held_more few more (Some x) (Some y) within held = λ name none. held name (within name none)
held_more few more (Some x) None within held = absurd held
held_more few more None (Some y) within held = absurd held

-- ---- all that changes

pub changes_none : (loaded saved : List (List ℕ)) (seen : FilesSeen) → ChangesOnly loaded saved seen seen
changes_none loaded saved seen = record {
  elsewhere = held_same saved seen.contents seen.contents refl;
  loads = λ name. omega arith;
  saves = λ name. omega arith;
  loads_only = λ told name none. refl;
  saves_only = λ told name none. refl;
}

pub changes_then : (loaded saved : List (List ℕ)) (a b c : FilesSeen) → ChangesOnly loaded saved a b → ChangesOnly loaded saved b c → ChangesOnly loaded saved a c
changes_then loaded saved a b c one two = record {
  elsewhere = held_then saved a.contents b.contents c.contents one.elsewhere two.elsewhere;
  loads = λ name. let h = one.loads name in let k = two.loads name in omega (arith, h, k);
  saves = λ name. let h = one.saves name in let k = two.saves name in omega (arith, h, k);
  loads_only = λ told name none. two.loads_only (held_told saved a.contents b.contents one.elsewhere told) name none ∙ one.loads_only told name none;
  saves_only = λ told name none. two.saves_only (held_told saved a.contents b.contents one.elsewhere told) name none ∙ one.saves_only told name none;
}

pub changes_more : (l s m t : List (List ℕ)) (a b : FilesSeen) → ((name : List ℕ) → IsNone m name → IsNone l name) → ((name : List ℕ) → IsNone t name → IsNone s name) → ChangesOnly l s a b → ChangesOnly m t a b
changes_more l s m t a b loads saves changes = record {
  elsewhere = held_more s t a.contents b.contents saves changes.elsewhere;
  loads = changes.loads;
  saves = changes.saves;
  loads_only = λ told name none. changes.loads_only told name (loads name none);
  saves_only = λ told name none. changes.saves_only told name (saves name none);
}

-- loads, and then saves
pub loads_and_saves : (l s : List (List ℕ)) (a b c : FilesSeen) → ChangesOnly l [] a b → ChangesOnly [] s b c → ChangesOnly l s a c
loads_and_saves l s a b c loads saves =
    changes_then l s a b c (changes_more l [] l s a b (λ name none. none) (λ name none. tt) loads) (changes_more [] s l s b c (λ name none. tt) (λ name none. none) saves)

-- loads, and no saves
pub loads_alone : (l s : List (List ℕ)) (a b : FilesSeen) → ChangesOnly l [] a b → ChangesOnly l s a b
loads_alone l s a b loads = changes_more l [] l s a b (λ name none. none) (λ name none. tt) loads

-- a name that is none of these is not this one of them
pub none_at : (first : List (List ℕ)) (x : List ℕ) (later : List (List ℕ)) (name : List ℕ) → IsNone (first ++ x ∷ later) name → IsNone (x ∷ []) name
none_at [] x later name none = (none.0, tt)
none_at (other ∷ first) x later name none = none_at first x later name none.1

-- ---- one load or save

pub load_change : (name : List ℕ) (old new : FilesSeen) → new.contents ≡ old.contents → NoneFell old.load_count new.load_count → NoneFell old.save_count new.save_count → (IsTold old → OthersStay name old.load_count new.load_count) → (IsTold old → NoneRose old.save_count new.save_count) → ChangesOnly (name ∷ []) [] old new
load_change name old new same loads saves others none = record {
  elsewhere = held_same [] old.contents new.contents same;
  loads = loads;
  saves = saves;
  loads_only = λ told other differs. others told other differs.0;
  saves_only = λ told other differs. none told other;
}

pub save_change : (name : List ℕ) (old new : FilesSeen) → SameElsewhere name old.contents new.contents → NoneFell old.load_count new.load_count → NoneFell old.save_count new.save_count → (IsTold old → NoneRose old.load_count new.load_count) → (IsTold old → OthersStay name old.save_count new.save_count) → ChangesOnly [] (name ∷ []) old new
save_change name old new same loads saves none others = record {
  elsewhere = held_elsewhere name old.contents new.contents same;
  loads = loads;
  saves = saves;
  loads_only = λ told other differs. none told other;
  saves_only = λ told other differs. others told other differs.0;
}
