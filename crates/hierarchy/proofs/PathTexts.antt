-- The text of a path may begin a name.
use Rattle.std.proofs.Common.{◌≡◌, ℕ, suc, ◌-◌, ◌^◌, ◌<◌, Bool, true, false, List, [], ◌∷◌, ◌++◌, take, length, refl, sym, ap, ◌∙◌, arith, ◌&&◌}
use Rattle.std.specs.Prelude.{◌==◌, not, slice_get, Option}
use Rattle.std.specs.Option.{option_map_or}
use Rattle.std.specs.List.{list_all}
use Rattle.std.specs.Fmt.{decimal}
use Rattle.tmr_base.specs.Names.{is_name, is_name_byte}
use Rattle.tmr_base.proofs.NameLaws.{list_all-append, numbered_name}
use Rattle.std.proofs.lemmas.List.Elements.{All-nil, All-cons, All-append, All-take, All-head, All-tail}
use Rattle.library_faults.specs.Flat.{step, path_text}
use Rattle.hierarchy.specs.Private.Naming.{AreSmall}

both : (a b : Bool) → (a && b) ≡ true → (a ≡ true) × (b ≡ true)
both true b e = (refl, e)
both false b e = absurd cc

and : (a b : Bool) → a ≡ true → b ≡ true → (a && b) ≡ true
and a b e f = cc

decimal_bytes : (number : ℕ) → number < 2 ^ 64 → list_all is_name_byte (decimal number) ≡ true
decimal_bytes number small =
    let name = both _ (list_all is_name_byte (126 ∷ decimal number)) (numbered_name 126 number refl small) in
    (both (is_name_byte 126) (list_all is_name_byte (decimal number)) name.1).1

step_bytes : (number : ℕ) → number < 2 ^ 64 → list_all is_name_byte (step number) ≡ true
unfolding step
step_bytes number small = list_all-append is_name_byte (117 ∷ []) (decimal number ++ 47 ∷ []) refl (list_all-append is_name_byte (decimal number) (47 ∷ []) (decimal_bytes number small) refl)

path_bytes : (path : List ℕ) → AreSmall path → list_all is_name_byte (path_text path) ≡ true
path_bytes [] p = refl
path_bytes (number ∷ path) p = list_all-append is_name_byte (step number) (path_text path) (step_bytes number (All-head (λ number. number < 2 ^ 64) number path p)) (path_bytes path (All-tail (λ number. number < 2 ^ 64) number path p))

pub path_more : (path : List ℕ) (end number : ℕ) → number < 2 ^ 64 → AreSmall path → AreSmall (take end path ++ number ∷ [])
path_more path end number small p = All-append (λ number. number < 2 ^ 64) (take end path) (number ∷ []) (All-take (λ number. number < 2 ^ 64) end path p) (All-cons (λ number. number < 2 ^ 64) number [] small (All-nil (λ number. number < 2 ^ 64)))

cons_name : (x : ℕ) (zs : List ℕ) → is_name_byte x ≡ true → is_name zs ≡ true → is_name (x ∷ zs) ≡ true
cons_name x [] b e = absurd cc
cons_name x (z ∷ zs) b e =
    let parts = both _ (list_all is_name_byte (z ∷ zs)) e in
    let whole : length (x ∷ z ∷ zs) - 1 ≡ suc (length zs) = omega arith in
    let rest : length (z ∷ zs) - 1 ≡ length zs = omega arith in
    let last : slice_get (x ∷ z ∷ zs) (length (x ∷ z ∷ zs) - 1) ≡ slice_get (z ∷ zs) (length (z ∷ zs) - 1) = ap (slice_get (x ∷ z ∷ zs)) whole ∙ ap (slice_get (z ∷ zs)) (sym rest) in
    and _ _ (ap (λ (o : Option ℕ). option_map_or (λ b. not (b == 92)) o false) last ∙ parts.0) (and (is_name_byte x) (list_all is_name_byte (z ∷ zs)) b parts.1)

bytes_name : (xs ys : List ℕ) → list_all is_name_byte xs ≡ true → is_name ys ≡ true → is_name (xs ++ ys) ≡ true
bytes_name [] ys p e = e
bytes_name (x ∷ xs) ys p e = let b = both (is_name_byte x) (list_all is_name_byte xs) p in cons_name x (xs ++ ys) b.0 (bytes_name xs ys b.1 e)

-- the text of a net is a name
pub text_is_name : (path name : List ℕ) (end : ℕ) → AreSmall path → is_name name ≡ true → is_name (path_text (take end path) ++ name) ≡ true
text_is_name path name end p e = bytes_name (path_text (take end path)) name (path_bytes (take end path) (All-take (λ number. number < 2 ^ 64) end path p)) e

pub ruleset text_laws = (text_is_name)
