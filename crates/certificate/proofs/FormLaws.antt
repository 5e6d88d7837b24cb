-- The first ten words of a line tell whether it has a form.
use Rattle.std.proofs.Common.{◌≡◌, ◌⊎◌, inl, inr, ℕ, ◌<◌, ◌≤◌, true, false, List, length, take, Ok, Err, refl, sym, ap, ◌∙◌, arith}
use Rattle.std.specs.Prelude.{◌==◌, ◌&&◌}
use Rattle.std.specs.List.{list_all}
use Rattle.std.specs.Str.{bytes_eq}
use Rattle.std.proofs.lemmas.Bool.{eqb-true}
use Rattle.std.proofs.lemmas.Bool.Decides.{nat_tests}
use Rattle.std.proofs.lemmas.List.{take_all, length-take-le}
use Rattle.certificate.specs.declared.fault.CertFault.TheVariants.{Line}
use Rattle.certificate.specs.Lines.{words_of, word, is_full, has_form, form_words}
use Rattle.certificate.proofs.Cases.{both_true}

other : (m n : ℕ) → (m ≡ n → ⊥) → (m == n) ≡ false
other m n apart = grind (arith, nat_tests)

few_or_many : (n : ℕ) → (n ≤ 10) ⊎ (10 ≤ n)
few_or_many n = grind arith

-- a form has fewer than ten words, so the first ten have it where all have it
same_form : (ws : List (List ℕ)) (count : ℕ) (first : List ℕ) → count < 10 → has_form (take 10 ws) count first ≡ has_form ws count first
same_form ws count first few = go (few_or_many (length ws))
  where
    go : (length ws ≤ 10) ⊎ (10 ≤ length ws) → has_form (take 10 ws) count first ≡ has_form ws count first
    go (inl le) = ap (λ (v : List (List ℕ)). has_form v count first) (take_all 10 ws le)
    go (inr le) =
        let ten : length (take 10 ws) ≡ 10 = length-take-le 10 ws le in
        let short : (length (take 10 ws) == count) ≡ false = other _ _ (λ e. omega (arith, ten, e)) in
        let long : (length ws == count) ≡ false = other _ _ (λ e. omega (arith, le, e)) in
        rw (short, long) refl

whole : (ws : List (List ℕ)) (count : ℕ) (first : List ℕ) → count < 10 → has_form (take 10 ws) count first ≡ true → take 10 ws ≡ ws
whole ws count first few e =
    let is = both_true (length ws == count) (list_all is_full ws && bytes_eq (word ws 0) first) (sym (same_form ws count first few) ∙ e) in
    take_all 10 ws (omega (arith, eqb-true _ _ is.0))

pub form_taken : (text : List ℕ) (count : ℕ) (first : List ℕ) (line : ℕ) (words : List (List ℕ)) → count < 10 → words ≡ take 10 (words_of text) → has_form words count first ≡ true → form_words text count first line ≡ Ok words
unfolding form_words
form_taken text count first line words few is e =
    let taken : has_form (take 10 (words_of text)) count first ≡ true = ap (λ (v : List (List ℕ)). has_form v count first) (sym is) ∙ e in
    let all : has_form (words_of text) count first ≡ true = sym (same_form (words_of text) count first few) ∙ taken in
    rw all (ap Ok (sym (whole (words_of text) count first few taken) ∙ sym is))

pub form_refused : (text : List ℕ) (count : ℕ) (first : List ℕ) (line : ℕ) (words : List (List ℕ)) → count < 10 → words ≡ take 10 (words_of text) → has_form words count first ≡ false → form_words text count first line ≡ Err (Line line)
unfolding form_words
form_refused text count first line words few is e =
    let none : has_form (words_of text) count first ≡ false = sym (same_form (words_of text) count first few) ∙ (ap (λ (v : List (List ℕ)). has_form v count first) (sym is) ∙ e) in
    rw none refl

pub ruleset forms = (form_taken, form_refused)
