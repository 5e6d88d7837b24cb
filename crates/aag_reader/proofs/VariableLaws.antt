-- Variables, one after the other.
use Rattle.std.proofs.Common.{◌≡◌, ℕ, ◌+◌, ◌<◌, ◌≤◌, Bool, true, false, List, [], ◌∷◌, ◌++◌, length, get_or, take, drop, sym, ap, subst, ◌∙◌}
use Rattle.std.proofs.lemmas.List.{append_assoc, take_more, take_all, drop_more, take-append-drop}
use Rattle.flat_net.specs.First.{HasNone, IsFirst}
use Rattle.flat_net.proofs.Firsts.{none_nil, none_push, first_here}
use Rattle.aag_reader.specs.declared.fault.GraphFault.{GraphFault}
use Rattle.aag_reader.specs.declared.fault.GraphFault.TheVariants.{Line, Doubled, Undefined, Memory}
use Rattle.aag_text.specs.Variables.{is_among}
use Rattle.aag_reader.specs.Private.Found.{IsTwice, IsDoubledIn}

module _ (test : List ℕ → ℕ → Bool) (all : List ℕ) where
  pub none_starts : HasNone test (take 0 all)
  none_starts = none_nil test

  -- one more
  pub none_goes : (i : ℕ) → i < length all → HasNone test (take i all) → test (take i all) (get_or all i 0) ≡ false → HasNone test (take (i + 1) all)
  none_goes i lt none fails = subst (HasNone test) (sym (take_more all i 0 lt)) (none_push test (take i all) (get_or all i 0) none fails)

  pub none_whole : (i : ℕ) → length all ≤ i → HasNone test (take i all) → HasNone test all
  none_whole i le none = subst (HasNone test) (take_all i all le) none

  -- this one passes
  pub first_found : (i : ℕ) → i < length all → HasNone test (take i all) → test (take i all) (get_or all i 0) ≡ true → IsFirst test all (get_or all i 0)
  first_found i lt none passes =
      let split : take i all ++ get_or all i 0 ∷ drop (i + 1) all ≡ all = ap (λ (ys : List ℕ). take i all ++ ys) (sym (drop_more all i 0 lt)) ∙ take-append-drop i all in
      subst (λ (ys : List ℕ). IsFirst test ys (get_or all i 0)) split (first_here test (take i all) (get_or all i 0) (drop (i + 1) all) none passes)

pub keys_go : (all keys next : List ℕ) (i : ℕ) → i < length all → keys ≡ take i all → next ≡ keys ++ get_or all i 0 ∷ [] → next ≡ take (i + 1) all
keys_go all keys next i lt is e = e ∙ (ap (λ (ks : List ℕ). ks ++ get_or all i 0 ∷ []) is ∙ sym (take_more all i 0 lt))

-- the next variable is one of those before
pub doubled_here : (all keys : List ℕ) (i : ℕ) (fault : GraphFault) → i < length all → keys ≡ take i all → HasNone is_among (take i all) → IsTwice keys (get_or all i 0) fault → IsDoubledIn all fault
doubled_here all keys i (Line number) lt is none twice = twice
doubled_here all keys i (Doubled v) lt is none twice = subst (IsFirst is_among all) (sym twice.0) (first_found is_among all i lt none (ap (λ (ks : List ℕ). is_among ks (get_or all i 0)) (sym is) ∙ twice.1))
doubled_here all keys i (Undefined v) lt is none twice = twice
doubled_here all keys i Memory lt is none twice = twice

pub lists_join : (i l g v0 v1 v2 v3 : List ℕ) → v0 ≡ [] → v1 ≡ v0 ++ i → v2 ≡ v1 ++ l → v3 ≡ v2 ++ g → v3 ≡ i ++ (l ++ g)
lists_join i l g v0 v1 v2 v3 e0 e1 e2 e3 =
    let one : v1 ≡ i = e1 ∙ ap (λ (v : List ℕ). v ++ i) e0 in
    let two : v2 ≡ i ++ l = e2 ∙ ap (λ (v : List ℕ). v ++ l) one in
    e3 ∙ (ap (λ (v : List ℕ). v ++ g) two ∙ append_assoc i l g)
