-- Words that are put one after the other.
use Rattle.std.proofs.Common.{◌≡◌, ◌≢◌, ℕ, ◌+◌, ◌<◌, ◌≤◌, List, [], ◌∷◌, ◌++◌, length, map, drop, get_or, refl, sym, ap, ◌∙◌, append_assoc, append-nil, add-one, drop-cons, arith}
use Rattle.std.specs.Prelude.{◌==◌, codes, count_by}
use Rattle.std.specs.Fmt.{decimal}
use Rattle.std.specs.List.{join_with_byte}
use Rattle.std.proofs.lemmas.Bool.{eq-eqb, ne_eqb, cond-true, cond-false}
use Rattle.certificate.specs.Cert.{PlainCert}
use Rattle.reports.specs.Counts.{is_border_voter, is_feedback_voter, is_input_voter}
use Rattle.reports.specs.Report.{input_words, voters_line}
use Rattle.std.proofs.lemmas.List.{nil_from_length, length-drop}
use Rattle.certificate.specs.Text.{line_text}
use Rattle.reports.specs.Private.Left.{spaced}

pub joined : (w : List ℕ) (ws : List (List ℕ)) → join_with_byte 32 (w ∷ ws) ≡ w ++ spaced ws
joined w [] = sym (append-nil w)
joined w (v ∷ ws) = ap (λ (t : List ℕ). w ++ (32 ∷ t)) (joined v ws)

pub one_put : (out w : List ℕ) (ws : List (List ℕ)) (total : List ℕ) → out ++ spaced (w ∷ ws) ≡ total → ((out ++ 32 ∷ []) ++ w) ++ spaced ws ≡ total
one_put out w ws total e = append_assoc (out ++ 32 ∷ []) w (spaced ws) ∙ (append_assoc out (32 ∷ []) (w ++ spaced ws) ∙ e)

pub spaced-append : (vs ws : List (List ℕ)) → spaced (vs ++ ws) ≡ spaced vs ++ spaced ws
spaced-append [] ws = refl
spaced-append (v ∷ vs) ws = ap (λ (t : List ℕ). 32 ∷ t) (ap (λ (t : List ℕ). v ++ t) (spaced-append vs ws) ∙ sym (append_assoc v (spaced vs) (spaced ws)))

pub drop_all : {A : Type 0} (i : ℕ) (xs : List A) → length xs ≤ i → drop i xs ≡ []
drop_all i xs le = nil_from_length (drop i xs) (omega (arith, length-drop i xs))

-- nothing is left to put
pub none_left : (out total : List ℕ) (ws : List (List ℕ)) → ws ≡ [] → out ++ spaced ws ≡ total → out ≡ total
none_left out total ws e is = sym (append-nil out) ∙ (ap (λ (l : List (List ℕ)). out ++ spaced l) (sym e) ∙ is)

-- a first word, words behind it and a line feed are a line
pub line_put : (old first : List ℕ) (ws : List (List ℕ)) (a b c : List ℕ) → a ≡ old ++ first → b ≡ a ++ spaced ws → c ≡ b ++ 10 ∷ [] → c ≡ old ++ line_text (first ∷ ws)
line_put old first ws a b c ea eb ec =
    let start : b ≡ old ++ join_with_byte 32 (first ∷ ws) = eb ∙ (ap (λ (t : List ℕ). t ++ spaced ws) ea ∙ (append_assoc old first (spaced ws) ∙ ap (λ (t : List ℕ). old ++ t) (sym (joined first ws)))) in
    ec ∙ (ap (λ (t : List ℕ). t ++ 10 ∷ []) start ∙ append_assoc old (join_with_byte 32 (first ∷ ws)) (10 ∷ []))

-- the same with words in two parts
pub long_line_put : (old first : List ℕ) (vs ws : List (List ℕ)) (a b c d : List ℕ) → a ≡ old ++ first → b ≡ a ++ spaced vs → c ≡ b ++ spaced ws → d ≡ c ++ 10 ∷ [] → d ≡ old ++ line_text (first ∷ (vs ++ ws))
long_line_put old first vs ws a b c d ea eb ec ed =
    let both : c ≡ a ++ spaced (vs ++ ws) = ec ∙ (ap (λ (t : List ℕ). t ++ spaced ws) eb ∙ (append_assoc a (spaced vs) (spaced ws) ∙ ap (λ (t : List ℕ). a ++ t) (sym (spaced-append vs ws)))) in
    line_put old first (vs ++ ws) a c d ea both ed

-- one word more of a list that f reads
pub word_put : {A : Type 0} (f : A → List ℕ) (xs : List A) (i : ℕ) (d : A) (out w total : List ℕ) → i < length xs → w ≡ f (get_or xs i d) → out ++ spaced (map f (drop i xs)) ≡ total → ((out ++ 32 ∷ []) ++ w) ++ spaced (map f (drop (i + 1) xs)) ≡ total
word_put f xs i d out w total h is e =
    let here : drop i xs ≡ get_or xs i d ∷ drop (i + 1) xs = rw (add-one, drop-cons xs i d) refl in
    ap (λ (t : List ℕ). ((out ++ 32 ∷ []) ++ t) ++ spaced (map f (drop (i + 1) xs))) is
    ∙ one_put out (f (get_or xs i d)) (map f (drop (i + 1) xs)) total (ap (λ ys. out ++ spaced (map f ys)) (sym here) ∙ e)

-- pieces of a line
pub numbers_put : (old a b c d e f g : List ℕ) (v : List ℕ) (us vs ws xs ys zs : List (List ℕ)) → a ≡ old ++ spaced (v ∷ []) → b ≡ a ++ spaced us → c ≡ b ++ spaced vs → d ≡ c ++ spaced ws → e ≡ d ++ spaced xs → f ≡ e ++ spaced ys → g ≡ f ++ spaced zs → g ≡ old ++ spaced (v ∷ (us ++ (vs ++ (ws ++ (xs ++ (ys ++ zs))))))
numbers_put old a b c d e f g v us vs ws xs ys zs ea eb ec ed ee ef eg =
    both old a g (v ∷ []) (us ++ (vs ++ (ws ++ (xs ++ (ys ++ zs))))) ea (both a b g us (vs ++ (ws ++ (xs ++ (ys ++ zs)))) eb (both b c g vs (ws ++ (xs ++ (ys ++ zs))) ec (both c d g ws (xs ++ (ys ++ zs)) ed (both d e g xs (ys ++ zs) ee (both e f g ys zs ef eg)))))
  where
    both : (p q r : List ℕ) (ms ns : List (List ℕ)) → q ≡ p ++ spaced ms → r ≡ q ++ spaced ns → r ≡ p ++ spaced (ms ++ ns)
    both p q r ms ns x y = y ∙ (ap (λ (t : List ℕ). t ++ spaced ns) x ∙ (append_assoc p (spaced ms) (spaced ns) ∙ ap (λ (t : List ℕ). p ++ t) (sym (spaced-append ms ns))))

-- in version 1 no voter is of an input
pub no_inputs : (k : PlainCert) (out : List ℕ) → k.version ≡ 1 → out ≡ out ++ spaced (input_words k)
no_inputs k out e = sym (append-nil out) ∙ ap (λ (ws : List (List ℕ)). out ++ spaced ws) (sym (cond-true (k.version == 1) [] _ (eq-eqb k.version 1 e)))

pub some_inputs : (k : PlainCert) (out new : List ℕ) (inputs : ℕ) → k.version ≢ 1 → inputs ≡ count_by (is_input_voter k) k.roles → new ≡ out ++ spaced (codes "inputs" ∷ decimal inputs ∷ []) → new ≡ out ++ spaced (input_words k)
some_inputs k out new inputs ne e is =
    is ∙ (ap (λ (m : ℕ). out ++ spaced (codes "inputs" ∷ decimal m ∷ [])) e ∙ ap (λ (ws : List (List ℕ)). out ++ spaced ws) (sym (cond-false (k.version == 1) [] (codes "inputs" ∷ decimal (count_by (is_input_voter k) k.roles) ∷ []) (ne_eqb k.version 1 ne))))

pub voters_put : (k : PlainCert) (old a b c d e : List ℕ) (border feedback : ℕ) → border ≡ count_by (is_border_voter k) k.roles → feedback ≡ count_by (is_feedback_voter k) k.roles
    → a ≡ old ++ codes "voters" → b ≡ a ++ spaced (codes "border" ∷ decimal border ∷ []) → c ≡ b ++ spaced (codes "feedback" ∷ decimal feedback ∷ []) → d ≡ c ++ spaced (input_words k) → e ≡ d ++ 10 ∷ [] → e ≡ old ++ line_text (voters_line k)
voters_put k old a b c d e border feedback eb ef ea is_b is_c is_d is_e =
    line_put old (codes "voters") (codes "border" ∷ decimal (count_by (is_border_voter k) k.roles) ∷ (codes "feedback" ∷ decimal (count_by (is_feedback_voter k) k.roles) ∷ input_words k)) a d e ea whole is_e
  where
    both : (p q r : List ℕ) (ms ns : List (List ℕ)) → q ≡ p ++ spaced ms → r ≡ q ++ spaced ns → r ≡ p ++ spaced (ms ++ ns)
    both p q r ms ns x y = y ∙ (ap (λ (t : List ℕ). t ++ spaced ns) x ∙ (append_assoc p (spaced ms) (spaced ns) ∙ ap (λ (t : List ℕ). p ++ t) (sym (spaced-append ms ns))))

    whole : d ≡ a ++ spaced (codes "border" ∷ decimal (count_by (is_border_voter k) k.roles) ∷ (codes "feedback" ∷ decimal (count_by (is_feedback_voter k) k.roles) ∷ input_words k))
    whole = both a b d (codes "border" ∷ decimal (count_by (is_border_voter k) k.roles) ∷ []) (codes "feedback" ∷ decimal (count_by (is_feedback_voter k) k.roles) ∷ input_words k)
        (is_b ∙ ap (λ (m : ℕ). a ++ spaced (codes "border" ∷ decimal m ∷ [])) eb)
        (both b c d (codes "feedback" ∷ decimal (count_by (is_feedback_voter k) k.roles) ∷ []) (input_words k) (is_c ∙ ap (λ (m : ℕ). b ++ spaced (codes "feedback" ∷ decimal m ∷ [])) ef) is_d)
