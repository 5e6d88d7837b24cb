-- Loads, one after the other, and reads behind them.
use Rattle.std.proofs.Common.{◌≡◌, ℕ, ◌≤◌, List, [], ◌∷◌, ◌++◌, map, length, Option, Some, None, Result, Ok, Err, inl, inr, refl, sym, subst, ◌∙◌}
use Rattle.std.specs.Prelude.{IfSome, IfOk, IfErr, OnOk, IsOk, Vec}
use Rattle.std.specs.declared.alloc.Global.{Global}
use Rattle.std.specs.FinMap.{get}
use Rattle.blif_text.specs.Models.{PlainModel}
use Rattle.blif_text.specs.Reading.{reading, Reads}
use Rattle.blif_text.specs.Reader.{ReaderState as TextState, StandsFor}
use Rattle.blif_text.specs.declared.fault.TextFault.{TextFault}
use Rattle.certificate.specs.Cert.{Fits, PlainCert}
use Rattle.certificate.specs.Gives as certificate
use Rattle.certificate.specs.Reader.{ReaderState}
use Rattle.certificate.specs.Reading.{cert_of_text}
use Rattle.certificate.specs.declared.fault.CertFault.{CertFault}
use Rattle.flat_net.specs.Net.{Net}
use Rattle.tmr_outside.specs.Contents.{Contents}
use Rattle.tmr_outside.specs.Counts.{RoseOf, NoneRose, OthersStay}
use Rattle.tmr_outside.specs.Pieces.{TakesFile}
use Rattle.tmr_outside.specs.Seen.{FilesSeen, IsTold}
use Rattle.tmr_texts.specs.Texts.{refused_line}
use Rattle.tmr_top.specs.declared.loads.Stop.{Stop}
use Rattle.tmr_top.specs.declared.loads.Stop.TheVariants as stop
use Rattle.tmr_top.specs.Loads.{Load, load_name}
use Rattle.tmr_top.specs.Files.{Holds, OfOne, OfEach, OfFirst, IsLong, IsMissing, IsFine}
use Rattle.tmr_top.specs.Changes.{LoadFailed, IsNone, ChangesOnly, NoneFailed}
use Rattle.tmr_top.specs.Private.Opened.{HoldsText, HoldsBytes, IsOpen, IsStop, IsSteadyStop, Opens, Never, IsRefusal, Gives, Keeps, keeping, telling}
use Rattle.tmr_top.specs.Private.PairFiles.{IsReading, ReadsCertificate}
use Rattle.tmr_top.specs.Private.Refused.{Refuses, RefusesFor}
use Rattle.tmr_top.proofs.ChangeLaws.{none_rose, load_change, load_failed_since, none_since, told_as_before, changes_then, changes_more}

-- ---- one load

-- what was taken is what the name holds, and it is read
pub held_text : (contents : Option Contents) (load : Load) (old new : TextState) (ok : Type 0) (text : Result (List PlainModel) TextFault) → StandsFor old [] → TakesFile (StandsFor old) (StandsFor new) old.room new.room load.limit contents load.name ok → ok → ((given : List ℕ) → StandsFor new given → Reads text (reading given)) → IfSome contents (λ held. HoldsText held load text)
held_text None load old new ok text stands takes done reads = tt
held_text (Some held) load old new ok text stands takes done reads = record {
  bytes = takes.taken;
  there = takes.whole done;
  short = takes.within;
  fact = reads takes.taken (takes.takes.appended [] stands);
}

pub held_bytes : (contents : Option Contents) (load : Load) (bytes : List ℕ) → IfSome contents (λ held. get held load.name ≡ Some bytes) → length bytes ≤ load.limit → IfSome contents (λ held. HoldsBytes held load bytes)
held_bytes None load bytes there short = tt
held_bytes (Some held) load bytes there short = record { bytes = bytes; there = there; short = short; fact = refl }

-- what was taken of a certificate is what the name holds, and it is read for these designs
pub held_certificate : (contents : Option Contents) (load : Load) (n h : Net) (old new : ReaderState) (ok : Type 0) (read : Result PlainCert CertFault) → IsReading n h old [] → TakesFile (IsReading n h old) (IsReading n h new) old.room new.room load.limit contents load.name ok → ok → ((given : List ℕ) → IsReading n h new given → certificate.Gives (λ k. k) read (cert_of_text n h given)) → IfSome contents (λ held. ReadsCertificate held load n h read)
held_certificate None load n h old new ok read stands takes done reads = tt
held_certificate (Some held) load n h old new ok read stands takes done reads = record {
  bytes = takes.taken;
  there = takes.whole done;
  short = takes.within;
  fact = reads takes.taken (takes.takes.appended [] stands);
}

-- it fits them
pub taken_fits : (contents : Option Contents) (name : List ℕ) (limit : ℕ) (n h : Net) (old new : ReaderState) (ok : Type 0) (read : Result PlainCert CertFault) → IsReading n h old [] → TakesFile (IsReading n h old) (IsReading n h new) old.room new.room limit contents name ok → ((given : List ℕ) → IsReading n h new given → IfOk read (Fits n h)) → IfOk read (Fits n h)
taken_fits contents name limit n h old new ok read stands takes fits = fits takes.taken (takes.takes.appended [] stands)

pub failed_stop : (load : Load) (old new : FilesSeen) → RoseOf old.contents (old.load_count load.name) (new.load_count load.name) → (IsTold old → OthersStay load.name old.load_count new.load_count) → (IsTold old → NoneRose old.save_count new.save_count) → OfOne (λ (l : Load). LoadFailed old new l × (load.name ≡ l.name)) (load ∷ [])
failed_stop load old new rose others saves = inl (record { rose = rose; other_loads = others; no_saves = saves }, refl)

pub long_stop : (contents : Option Contents) (load : Load) → IfSome contents (λ held. IsLong held load) → IfSome contents (λ held. OfFirst held (λ (l : Load). IsLong held l × (load.name ≡ l.name)) (load ∷ []))
long_stop None load long = tt
long_stop (Some held) load long = inl (long, refl)

pub missing_stop : (contents : Option Contents) (load : Load) → IfSome contents (λ held. get held load.name ≡ None) → IfSome contents (λ held. OfFirst held (IsMissing held) (load ∷ []))
missing_stop None load missing = tt
missing_stop (Some held) load missing = inl missing

pub ruleset one_load = (none_rose, held_text, held_bytes, held_certificate, taken_fits, failed_stop, long_stop, missing_stop, load_change)

-- ---- one load, as files that are opened

fine_of : (held : Contents) (load : Load) (P : List ℕ → Type 0) → Holds held load P → IsFine held load
fine_of held load P holds = record { bytes = holds.bytes; there = holds.there; short = holds.short; fact = tt }

one_fine : (load : Load) (P : List ℕ → Type 0) (o : Option Contents) → IfSome o (λ held. Holds held load P) → IfSome o (λ held. OfEach (IsFine held) (load ∷ []) × Holds held load P)
one_fine load P None holds = tt
one_fine load P (Some held) holds = ((fine_of held load P holds, tt), holds)

pub opens_one : {A : Type 0} (load : Load) (P : A → List ℕ → Type 0) (a b : FilesSeen) (was is : Type 0) (answer : Result A Stop) → b.contents ≡ a.contents → ChangesOnly (load.name ∷ []) [] a b → (was → is) → IfOk answer (λ x. IfSome a.contents (λ held. Holds held load (P x))) → OnOk answer (IsTold a → NoneRose a.load_count b.load_count) → IfErr answer (IsStop (load ∷ []) Never a b) → (was → IfErr answer (IsSteadyStop (load ∷ []) a.contents)) → Opens (load ∷ []) (λ x held. Holds held load (P x)) Never a b was is answer
opens_one load P a b was is (Ok x) same changes steady holds none stops steady_stops = record {
  stays = same;
  changes = changes;
  steady = steady;
  ok = record { holds = one_fine load (P x) a.contents holds; none = none };
  stop = tt;
  steady_stop = λ s. tt;
}
opens_one load P a b was is (Err e) same changes steady holds none stops steady_stops = record { stays = same; changes = changes; steady = steady; ok = tt; stop = stops; steady_stop = steady_stops }

pub opens_netlist : (load : Load) (a b : FilesSeen) (was is : Type 0) (answer : Result (Result (List PlainModel) TextFault) Stop) → b.contents ≡ a.contents → ChangesOnly (load.name ∷ []) [] a b → (was → is) → IfOk answer (λ t. IfSome a.contents (λ held. HoldsText held load t)) → OnOk answer (IsTold a → NoneRose a.load_count b.load_count) → IfErr answer (IsStop (load ∷ []) Never a b) → (was → IfErr answer (IsSteadyStop (load ∷ []) a.contents)) → Opens (load ∷ []) (λ (t : Result (List PlainModel) TextFault) held. HoldsText held load t) Never a b was is answer
opens_netlist load = opens_one load (λ t bytes. Reads t (reading bytes))

pub opens_taken : (load : Load) (a b : FilesSeen) (was is : Type 0) (answer : Result (Vec ℕ Global) Stop) → b.contents ≡ a.contents → ChangesOnly (load.name ∷ []) [] a b → (was → is) → IfOk answer (λ v. IfSome a.contents (λ held. HoldsBytes held load v.items)) → OnOk answer (IsTold a → NoneRose a.load_count b.load_count) → IfErr answer (IsStop (load ∷ []) Never a b) → (was → IfErr answer (IsSteadyStop (load ∷ []) a.contents)) → Opens (load ∷ []) (λ (v : Vec ℕ Global) held. HoldsBytes held load v.items) Never a b was is answer
opens_taken load = opens_one load (λ v bytes. bytes ≡ v.items)

-- what was passed over is there, and not too long
pub opens_passed : (load : Load) (a b : FilesSeen) (was is : Type 0) (stood stands : List ℕ → Type 0) (room left : ℕ) (answer : Result (Unit {0}) Stop) → b.contents ≡ a.contents → ChangesOnly (load.name ∷ []) [] a b → (was → is) → TakesFile stood stands room left load.limit a.contents load.name (IsOk answer) → OnOk answer (IsTold a → NoneRose a.load_count b.load_count) → IfErr answer (IsStop (load ∷ []) Never a b) → (was → IfErr answer (IsSteadyStop (load ∷ []) a.contents)) → Opens (load ∷ []) (λ (x : Unit {0}) held. IsFine held load) Never a b was is answer
opens_passed load a b was is stood stands room left answer same changes steady takes = opens_one load (λ (x : Unit {0}) bytes. Unit {0}) a b was is answer same changes steady (there a.contents answer takes)
  where
    there : (contents : Option Contents) (answer : Result (Unit {0}) Stop) → TakesFile stood stands room left load.limit contents load.name (IsOk answer) → IfOk answer (λ x. IfSome contents (λ held. IsFine held load))
    there None (Ok x) takes = tt
    there (Some held) (Ok x) takes = record { bytes = takes.taken; there = takes.whole refl; short = takes.within; fact = tt }
    there contents (Err e) takes = tt

-- ---- lists of files, one behind the other

one_left : {A : Type 0} (P : A → Type 0) (xs ys : List A) → OfOne P xs → OfOne P (xs ++ ys)
one_left P [] ys one = absurd one
one_left P (x ∷ xs) ys (inl here) = inl here
one_left P (x ∷ xs) ys (inr later) = inr (one_left P xs ys later)

one_right : {A : Type 0} (P : A → Type 0) (xs ys : List A) → OfOne P ys → OfOne P (xs ++ ys)
one_right P [] ys one = one
one_right P (x ∷ xs) ys one = inr (one_right P xs ys one)

each_both : {A : Type 0} (P : A → Type 0) (xs ys : List A) → OfEach P xs → OfEach P ys → OfEach P (xs ++ ys)
each_both P [] ys one other = other
each_both P (x ∷ xs) ys one other = (one.0, each_both P xs ys one.1 other)

first_left : (held : Contents) (P : Load → Type 0) (ls ms : List Load) → OfFirst held P ls → OfFirst held P (ls ++ ms)
first_left held P [] ms first = absurd first
first_left held P (l ∷ ls) ms (inl here) = inl here
first_left held P (l ∷ ls) ms (inr later) = inr (later.0, first_left held P ls ms later.1)

first_right : (held : Contents) (P : Load → Type 0) (ls ms : List Load) → OfEach (IsFine held) ls → OfFirst held P ms → OfFirst held P (ls ++ ms)
first_right held P [] ms fine first = first
first_right held P (l ∷ ls) ms fine first = inr (fine.0, first_right held P ls ms fine.1 first)

none_left : (ls ms : List Load) (name : List ℕ) → IsNone (map load_name (ls ++ ms)) name → IsNone (map load_name ls) name
none_left [] ms name none = tt
none_left (l ∷ ls) ms name none = (none.0, none_left ls ms name none.1)

none_right : (ls ms : List Load) (name : List ℕ) → IsNone (map load_name (ls ++ ms)) name → IsNone (map load_name ms) name
none_right [] ms name none = none
none_right (l ∷ ls) ms name none = none_right ls ms name none.1

changes_left : (ls ms : List Load) (a b : FilesSeen) → ChangesOnly (map load_name ls) [] a b → ChangesOnly (map load_name (ls ++ ms)) [] a b
changes_left ls ms a b changes = changes_more (map load_name ls) [] (map load_name (ls ++ ms)) [] a b (none_left ls ms) (λ name none. tt) changes

changes_right : (ls ms : List Load) (a b : FilesSeen) → ChangesOnly (map load_name ms) [] a b → ChangesOnly (map load_name (ls ++ ms)) [] a b
changes_right ls ms a b changes = changes_more (map load_name ms) [] (map load_name (ls ++ ms)) [] a b (none_right ls ms) (λ name none. tt) changes

if_some_left : (P Q : Contents → Type 0) (o : Option Contents) → ((held : Contents) → P held → Q held) → IfSome o P → IfSome o Q
if_some_left P Q None f p = tt
if_some_left P Q (Some held) f p = f held p

both_some : (P Q S : Contents → Type 0) (o : Option Contents) → ((held : Contents) → P held → Q held → S held) → IfSome o P → IfSome o Q → IfSome o S
both_some P Q S None f p q = tt
both_some P Q S (Some held) f p q = f held p q

-- ---- what is opened, said in other words

open_weaker : (ls : List Load) (G K : Contents → Type 0) (a b : FilesSeen) → ((held : Contents) → G held → K held) → IsOpen ls G a b → IsOpen ls K a b
open_weaker ls G K a b f is = record {
  holds = if_some_left (λ held. OfEach (IsFine held) ls × G held) (λ held. OfEach (IsFine held) ls × K held) a.contents (λ held h. (h.0, f held h.1)) is.holds;
  none = is.none;
}

stop_weaker : (ls : List Load) (R S : List ℕ → Contents → Type 0) (a b : FilesSeen) (e : Stop) → ((line : List ℕ) (held : Contents) → R line held → S line held) → IsStop ls R a b e → IsStop ls S a b e
stop_weaker ls R S a b (stop.Failed name) f is = is
stop_weaker ls R S a b (stop.TooLong name) f is = is
stop_weaker ls R S a b (stop.Refused line) f is = open_weaker ls (R line.items) (S line.items) a b (f line.items) is
stop_weaker ls R S a b stop.Memory f is = is

-- loads that came to no end are reads that did
pub still_stops : {A B : Type 0} (ls : List Load) (H : A → Contents → Type 0) (K : B → Contents → Type 0) (R : List ℕ → Contents → Type 0) (a b : FilesSeen) (was is : Type 0) (e : Stop) → Opens {A = A} ls H Never a b was is (Err e) → Opens {A = B} ls K R a b was is (Err e)
still_stops ls H K R a b was is e opens = record {
  stays = opens.stays;
  changes = opens.changes;
  steady = opens.steady;
  ok = tt;
  stop = stop_weaker ls Never R a b e (λ line held never. absurd never) opens.stop;
  steady_stop = opens.steady_stop;
}

-- files that are loaded, and then read
pub opens_read : {A B : Type 0} (ls : List Load) (K : A → Contents → Type 0) (H : B → Contents → Type 0) (R : List ℕ → Contents → Type 0) (a b : FilesSeen) (was is : Type 0) (x : A) (answer : Result B Stop) → Opens {A = A} ls K Never a b was is (Ok x) → Gives (K x) H R answer → Opens {A = B} ls H R a b was is answer
opens_read ls K H R a b was is x (Ok y) opens gives = record {
  stays = opens.stays;
  changes = opens.changes;
  steady = opens.steady;
  ok = open_weaker ls (K x) (H y) a b gives opens.ok;
  stop = tt;
  steady_stop = λ s. tt;
}
opens_read ls K H R a b was is x (Err e) opens gives = record {
  stays = opens.stays;
  changes = opens.changes;
  steady = opens.steady;
  ok = tt;
  stop = stops e gives;
  steady_stop = λ s. steady_stops e gives;
}
  where
    stops : (e : Stop) → IsRefusal (K x) R e → IsStop ls R a b e
    stops (stop.Failed name) is = absurd is
    stops (stop.TooLong name) is = absurd is
    stops (stop.Refused line) is = open_weaker ls (K x) (R line.items) a b is opens.ok
    stops stop.Memory is = opens.ok.none

    steady_stops : (e : Stop) → IsRefusal (K x) R e → IsSteadyStop ls a.contents e
    steady_stops (stop.Failed name) is = absurd is
    steady_stops (stop.TooLong name) is = absurd is
    steady_stops (stop.Refused line) is = tt
    steady_stops stop.Memory is = tt

-- what is read of a file that was loaded, where G holds, is kept: so L holds of what is kept
pub opens_kept : {A B : Type 0} (ls : List Load) (K : A → Contents → Type 0) (G : Contents → Type 0) (H : B → Contents → Type 0) (R : List ℕ → Contents → Type 0) (L : Result B (Vec ℕ Global) → Contents → Type 0) (a b : FilesSeen) (was is : Type 0) (x : A) (answer : Result B Stop) (result : Result (Result B (Vec ℕ Global)) Stop) → result ≡ keeping answer → Opens {A = A} ls K Never a b was is (Ok x) → Gives G H R answer → ((kept : Result B (Vec ℕ Global)) (held : Contents) → K x held → (G held → Keeps H R kept held) → L kept held) → Opens {A = Result B (Vec ℕ Global)} ls L Never a b was is result
opens_kept {A} {B} ls K G H R L a b was is x answer result same opens gives f = subst (λ (r : Result (Result B (Vec ℕ Global)) Stop). Opens {A = Result B (Vec ℕ Global)} ls L Never a b was is r) (sym same) (go answer gives)
  where
    opened : (kept : Result B (Vec ℕ Global)) → ((held : Contents) → G held → Keeps H R kept held) → Opens {A = Result B (Vec ℕ Global)} ls L Never a b was is (Ok kept)
    opened kept keeps = record {
      stays = opens.stays;
      changes = opens.changes;
      steady = opens.steady;
      ok = open_weaker ls (K x) (L kept) a b (λ held k. f kept held k (keeps held)) opens.ok;
      stop = tt;
      steady_stop = λ s. tt;
    }

    go : (answer : Result B Stop) → Gives G H R answer → Opens {A = Result B (Vec ℕ Global)} ls L Never a b was is (keeping answer)
    go (Ok y) gives = opened (Ok y) gives
    go (Err (stop.Failed name)) gives = absurd gives
    go (Err (stop.TooLong name)) gives = absurd gives
    go (Err (stop.Refused line)) gives = opened (Err line) gives
    go (Err stop.Memory) gives = record {
      stays = opens.stays;
      changes = opens.changes;
      steady = opens.steady;
      ok = tt;
      stop = opens.ok.none;
      steady_stop = λ s. tt;
    }

-- what was kept is told
pub opens_told : {A : Type 0} (ls : List Load) (H : A → Contents → Type 0) (R : List ℕ → Contents → Type 0) (a b : FilesSeen) (was is : Type 0) (kept : Result A (Vec ℕ Global)) (result : Result A Stop) → result ≡ telling kept → Opens {A = Result A (Vec ℕ Global)} ls (Keeps H R) Never a b was is (Ok kept) → Opens {A = A} ls H R a b was is result
opens_told {A} ls H R a b was is kept result same opens = subst (λ (r : Result A Stop). Opens {A = A} ls H R a b was is r) (sym same) (go kept opens)
  where
    go : (kept : Result A (Vec ℕ Global)) → Opens {A = Result A (Vec ℕ Global)} ls (Keeps H R) Never a b was is (Ok kept) → Opens {A = A} ls H R a b was is (telling kept)
    go (Ok x) opens = record {
      stays = opens.stays;
      changes = opens.changes;
      steady = opens.steady;
      ok = open_weaker ls (Keeps H R (Ok x)) (H x) a b (λ held h. h) opens.ok;
      stop = tt;
      steady_stop = λ s. tt;
    }
    go (Err line) opens = record {
      stays = opens.stays;
      changes = opens.changes;
      steady = opens.steady;
      ok = tt;
      stop = open_weaker ls (Keeps H R (Err line)) (R line.items) a b (λ held h. h) opens.ok;
      steady_stop = λ s. tt;
    }

-- a fact of what is kept, and of what is told
pub on_kept : {A : Type 0} (P : A → Type 0) (answer : Result A Stop) (result : Result (Result A (Vec ℕ Global)) Stop) → result ≡ keeping answer → IfOk answer P → IfOk result (λ kept. IfOk kept P)
on_kept {A} P answer result same holds = subst (λ (r : Result (Result A (Vec ℕ Global)) Stop). IfOk r (λ kept. IfOk kept P)) (sym same) (go answer holds)
  where
    go : (answer : Result A Stop) → IfOk answer P → IfOk (keeping answer) (λ kept. IfOk kept P)
    go (Ok x) p = p
    go (Err (stop.Failed name)) p = tt
    go (Err (stop.TooLong name)) p = tt
    go (Err (stop.Refused line)) p = tt
    go (Err stop.Memory) p = tt

pub on_told : {A : Type 0} (P : A → Type 0) (kept : Result A (Vec ℕ Global)) (result : Result A Stop) → result ≡ telling kept → IfOk kept P → IfOk result P
on_told {A} P kept result same holds = subst (λ (r : Result A Stop). IfOk r P) (sym same) (go kept holds)
  where
    go : (kept : Result A (Vec ℕ Global)) → IfOk kept P → IfOk (telling kept) P
    go (Ok x) p = p
    go (Err line) p = tt

-- what was kept is what was read, or the refusal
pub kept_read : {A : Type 0} (H : A → Contents → Type 0) (R : List ℕ → Contents → Type 0) (kept : Result A (Vec ℕ Global)) (x : A) (held : Contents) → kept ≡ Ok x → Keeps H R kept held → H x held
kept_read {A} H R kept x held is = subst (λ (k : Result A (Vec ℕ Global)). Keeps H R k held) is

pub kept_refused : {A : Type 0} (H : A → Contents → Type 0) (R : List ℕ → Contents → Type 0) (kept : Result A (Vec ℕ Global)) (line : Vec ℕ Global) (held : Contents) → kept ≡ Err line → Keeps H R kept held → R line.items held
kept_refused {A} H R kept line held is = subst (λ (k : Result A (Vec ℕ Global)). Keeps H R k held) is

-- the first loads came to no end
pub stops_first : {A B : Type 0} (ls ms : List Load) (H : A → Contents → Type 0) (K : B → Contents → Type 0) (a b : FilesSeen) (was is : Type 0) (e : Stop) → Opens {A = A} ls H Never a b was is (Err e) → Opens {A = B} (ls ++ ms) K Never a b was is (Err e)
stops_first ls ms H K a b was is e opens = record {
  stays = opens.stays;
  changes = changes_left ls ms a b opens.changes;
  steady = opens.steady;
  ok = tt;
  stop = stops e opens.stop;
  steady_stop = λ s. steady_stops e (opens.steady_stop s);
}
  where
    stops : (e : Stop) → IsStop ls Never a b e → IsStop (ls ++ ms) Never a b e
    stops (stop.Failed name) is = one_left (λ l. LoadFailed a b l × (name.now ≡ l.name)) ls ms is
    stops (stop.TooLong name) is = (
      if_some_left (λ held. OfFirst held (λ l. IsLong held l × (name.now ≡ l.name)) ls) (λ held. OfFirst held (λ l. IsLong held l × (name.now ≡ l.name)) (ls ++ ms)) a.contents (λ held h. first_left held (λ l. IsLong held l × (name.now ≡ l.name)) ls ms h) is.0,
      is.1,
    )
    stops (stop.Refused line) is = record {
      holds = if_some_left (λ held. OfEach (IsFine held) ls × Never line.items held) (λ held. OfEach (IsFine held) (ls ++ ms) × Never line.items held) a.contents (λ held h. absurd h.1) is.holds;
      none = is.none;
    }
    stops stop.Memory is = is

    steady_stops : (e : Stop) → IsSteadyStop ls a.contents e → IsSteadyStop (ls ++ ms) a.contents e
    steady_stops (stop.Failed name) is = if_some_left (λ held. OfFirst held (IsMissing held) ls) (λ held. OfFirst held (IsMissing held) (ls ++ ms)) a.contents (λ held h. first_left held (IsMissing held) ls ms h) is
    steady_stops (stop.TooLong name) is = tt
    steady_stops (stop.Refused line) is = tt
    steady_stops stop.Memory is = tt

module _ {A B C : Type 0} (ls ms : List Load) (H : A → Contents → Type 0) (K : B → Contents → Type 0) (L : C → Contents → Type 0) (a b c : FilesSeen) (was is then : Type 0) (x : A) (first : Opens {A = A} ls H Never a b was is (Ok x)) where
  quiet : IsTold a → NoneFailed a b
  quiet told = record { loads = first.ok.none told; saves = λ name. first.changes.saves_only told name tt }

  none_of : (IsTold b → NoneRose b.load_count c.load_count) → IsTold a → NoneRose a.load_count c.load_count
  none_of none told = none_since a.load_count b.load_count c.load_count (first.ok.none told) (none (told_as_before a.contents b.contents first.stays told))

  -- what is so of the later files, behind the first ones
  behind : (P Q : Contents → Type 0) → ((held : Contents) → OfEach (IsFine held) ls → H x held → P held → Q held) → IfSome b.contents P → IfSome a.contents Q
  behind P Q f p = both_some (λ held. OfEach (IsFine held) ls × H x held) P Q a.contents (λ held h q. f held h.0 h.1 q) first.ok.holds (subst (λ (o : Option Contents). IfSome o P) first.stays p)

  changes_both : ChangesOnly (map load_name ms) [] b c → ChangesOnly (map load_name (ls ++ ms)) [] a c
  changes_both later = changes_then (map load_name (ls ++ ms)) [] a b c (changes_left ls ms a b first.changes) (changes_right ls ms b c later)

  -- the loads behind them came to no end
  pub stops_later : (e : Stop) → Opens {A = B} ms K Never b c is then (Err e) → Opens {A = C} (ls ++ ms) L Never a c was then (Err e)
  stops_later e later = record {
    stays = later.stays ∙ first.stays;
    changes = changes_both later.changes;
    steady = λ s. later.steady (first.steady s);
    ok = tt;
    stop = stops e later.stop;
    steady_stop = λ s. steady_stops e (later.steady_stop (first.steady s));
  }
    where
      failed : (name : List ℕ) (ns : List Load) → OfOne (λ l. LoadFailed b c l × (name ≡ l.name)) ns → OfOne (λ l. LoadFailed a c l × (name ≡ l.name)) ns
      failed name [] one = one
      failed name (l ∷ ns) (inl here) = inl (load_failed_since a b c l first.stays first.changes.loads quiet here.0, here.1)
      failed name (l ∷ ns) (inr later) = inr (failed name ns later)

      stops : (e : Stop) → IsStop ms Never b c e → IsStop (ls ++ ms) Never a c e
      stops (stop.Failed name) is = one_right (λ l. LoadFailed a c l × (name.now ≡ l.name)) ls ms (failed name.now ms is)
      stops (stop.TooLong name) is = (
        behind (λ held. OfFirst held (λ l. IsLong held l × (name.now ≡ l.name)) ms) (λ held. OfFirst held (λ l. IsLong held l × (name.now ≡ l.name)) (ls ++ ms)) (λ held fine h q. first_right held (λ l. IsLong held l × (name.now ≡ l.name)) ls ms fine q) is.0,
        none_of is.1,
      )
      stops (stop.Refused line) is = record {
        holds = behind (λ held. OfEach (IsFine held) ms × Never line.items held) (λ held. OfEach (IsFine held) (ls ++ ms) × Never line.items held) (λ held fine h q. absurd q.1) is.holds;
        none = none_of is.none;
      }
      stops stop.Memory is = none_of is

      steady_stops : (e : Stop) → IsSteadyStop ms b.contents e → IsSteadyStop (ls ++ ms) a.contents e
      steady_stops (stop.Failed name) is = behind (λ held. OfFirst held (IsMissing held) ms) (λ held. OfFirst held (IsMissing held) (ls ++ ms)) (λ held fine h q. first_right held (IsMissing held) ls ms fine q) is
      steady_stops (stop.TooLong name) is = tt
      steady_stops (stop.Refused line) is = tt
      steady_stops stop.Memory is = tt

  -- they are loaded too
  pub opens_both : (y : B) (z : C) → ((held : Contents) → H x held → K y held → L z held) → Opens {A = B} ms K Never b c is then (Ok y) → Opens {A = C} (ls ++ ms) L Never a c was then (Ok z)
  opens_both y z f later = record {
    stays = later.stays ∙ first.stays;
    changes = changes_both later.changes;
    steady = λ s. later.steady (first.steady s);
    ok = record {
      holds = behind (λ held. OfEach (IsFine held) ms × K y held) (λ held. OfEach (IsFine held) (ls ++ ms) × L z held) (λ held fine h q. (each_both (IsFine held) ls ms fine q.0, f held h q.1)) later.ok.holds;
      none = none_of later.ok.none;
    };
    stop = tt;
    steady_stop = λ s. tt;
  }

-- the first loads are done; whatever came of the others, L holds of it
pub opens_then : {A B : Type 0} (ls ms : List Load) (H : A → Contents → Type 0) (K L : B → Contents → Type 0) (a b c : FilesSeen) (was is then : Type 0) (x : A) (answer : Result B Stop) → Opens {A = A} ls H Never a b was is (Ok x) → ((y : B) (held : Contents) → H x held → K y held → L y held) → Opens {A = B} ms K Never b c is then answer → Opens {A = B} (ls ++ ms) L Never a c was then answer
opens_then ls ms H K L a b c was is then x (Ok y) first f later = opens_both ls ms H K L a b c was is then x first y y (f y) later
opens_then ls ms H K L a b c was is then x (Err e) first f later = stops_later ls ms H K L a b c was is then x first e later

-- ---- refusals

pub on_ok : {A E : Type 0} (r : Result A E) → OnOk r (Unit {0})
on_ok (Ok x) = tt
on_ok (Err e) = tt

-- a refusal for a reason, in the words of the room
pub is_refusal : {E : Type 0} (name : List ℕ) (reason : Result (Vec ℕ Global) E) (expected : List ℕ) (C : Type 0) (G : Contents → Type 0) (R : List ℕ → Contents → Type 0) (why : Stop) → RefusesFor name reason why → IfOk reason (λ r. r.items ≡ expected) → OnOk reason C → ((line : List ℕ) (held : Contents) → line ≡ refused_line name expected → C → G held → R line held) → IsRefusal G R why
is_refusal name (Ok r) expected C G R why refuses says caused f = go why refuses
  where
    go : (why : Stop) → Refuses (refused_line name r.items) why → IsRefusal G R why
    go (stop.Failed other) is = absurd is
    go (stop.TooLong other) is = absurd is
    go (stop.Refused line) is = λ held g. f line.items held (subst (λ (t : List ℕ). line.items ≡ refused_line name t) says is) caused g
    go stop.Memory is = tt
is_refusal name (Err e) expected C G R why refuses says caused f = subst (λ (s : Stop). IsRefusal G R s) (sym refuses) tt

-- refusals that follow from others
pub refusal_more : (G K : Contents → Type 0) (R S : List ℕ → Contents → Type 0) (why : Stop) → IsRefusal G R why → ((held : Contents) → K held → G held) → ((line : List ℕ) (held : Contents) → K held → R line held → S line held) → IsRefusal K S why
refusal_more G K R S (stop.Failed name) is f g = absurd is
refusal_more G K R S (stop.TooLong name) is f g = absurd is
refusal_more G K R S (stop.Refused line) is f g = λ held k. g line.items held k (is held (f held k))
refusal_more G K R S stop.Memory is f g = tt
