-- How long the lines are.
use Rattle.std.proofs.Common.{◌≡◌, ℕ, suc, ◌+◌, ◌<◌, List, [], ◌∷◌, ◌++◌, length, get_or, slice_get, Some, refl, sym, ap, subst, append_assoc, ◌∙◌, arith}
use Rattle.std.specs.Prelude.{codes}
use Rattle.std.specs.List.{flat_map, sum_by, range_with_len, join_with_byte}
use Rattle.std.specs.Fmt.{decimal}
use Rattle.std.proofs.lemmas.List.{length-append, append-nil}
use Rattle.std.proofs.lemmas.List.Concat.{flat_map-append, flat_map-cons}
use Rattle.std.proofs.lemmas.List.Sums.{sum_by-cons}
use Rattle.std.proofs.lemmas.Fmt.{decimal_digit}
use Rattle.tmr_base.specs.declared.copies.CopyNo.{CopyNo}
use Rattle.tmr_base.specs.declared.copies.CopyNo.TheVariants.{First, Second, Third}
use Rattle.tmr_base.specs.Copies.{Three, copy_number}
use Rattle.flat_net.specs.Net.{Net, name_of}
use Rattle.certificate.specs.declared.role.Role.{Role}
use Rattle.certificate.specs.declared.role.Role.TheVariants.{Copy, Voter}
use Rattle.certificate.specs.Cert.{PlainCert, IsCert, role_of}
use Rattle.certificate.specs.Text.{line_text, part_line, part_lines, node_line, node_lines, voter_line, voter_lines, cert_text}
use Rattle.certificate.specs.Length.{digits, part_length, node_length, role_length, cert_length}
use Rattle.certificate.proofs.Filling.{no_three}
use Rattle.certificate.proofs.RoundTrip.{copy_at, text_is}
use Rattle.certificate.proofs.Lefts.{label_at, role_there}

abbrev ended : List ℕ → ℕ
ended w = length w + 1

-- each word is followed by a blank or by the line feed
line_length : (w : List ℕ) (ws : List (List ℕ)) → length (line_text (w ∷ ws)) ≡ sum_by ended (w ∷ ws)
line_length w [] = length-append w (10 ∷ []) ∙ omega arith
line_length w (v ∷ ws) =
    let whole : line_text (w ∷ v ∷ ws) ≡ w ++ (32 ∷ line_text (v ∷ ws)) = append_assoc w (32 ∷ join_with_byte 32 (v ∷ ws)) (10 ∷ []) in
    let long : length (line_text (w ∷ v ∷ ws)) ≡ length w + suc (length (line_text (v ∷ ws))) = ap length whole ∙ length-append w (32 ∷ line_text (v ∷ ws)) in
    let rest : length (line_text (v ∷ ws)) ≡ sum_by ended (v ∷ ws) = line_length v ws in
    let more : sum_by ended (w ∷ v ∷ ws) ≡ ended w + sum_by ended (v ∷ ws) = sum_by-cons ended w (v ∷ ws) in
    long ∙ omega (arith, rest, more)

part_line_length : (p d : ℕ) → length (line_text (part_line p d)) ≡ 13 + digits p + digits d
part_line_length p d = line_length (codes "part") (decimal p ∷ codes "depth" ∷ decimal d ∷ []) ∙ omega arith

abbrev of_each : (ℕ → ℕ) → Three → ℕ
of_each f t = f t.first + f t.second + f t.third

node_line_length : (n h : Net) (x p : ℕ) (t l : Three) → length (line_text (node_line n h x p t l)) ≡ 13 + length (name_of n x) + digits p + of_each (λ g. length (name_of h g)) t + of_each digits l
node_line_length n h x p t l =
    line_length (codes "node") (name_of n x ∷ decimal p ∷ name_of h t.first ∷ name_of h t.second ∷ name_of h t.third ∷ decimal l.first ∷ decimal l.second ∷ decimal l.third ∷ []) ∙ omega arith

copy_digit : (c : CopyNo) → length (decimal (copy_number c)) ≡ 1
copy_digit First = ap length (decimal_digit 0 (omega arith))
copy_digit Second = ap length (decimal_digit 1 (omega arith))
copy_digit Third = ap length (decimal_digit 2 (omega arith))

voter_line_length : (n h : Net) (g : ℕ) (r : Role) → length (flat_map line_text (voter_line n h g r)) ≡ role_length n h g (Some r)
voter_line_length n h g (Copy x c) = refl
voter_line_length n h g (Voter x p c) =
    let words : List (List ℕ) = name_of h g ∷ name_of n x.0 ∷ decimal p.0 ∷ decimal (copy_number c) ∷ [] in
    let one : length (flat_map line_text ((codes "voter" ∷ words) ∷ [])) ≡ length (line_text (codes "voter" ∷ words)) = ap length (append-nil (line_text (codes "voter" ∷ words))) in
    one ∙ (line_length (codes "voter") words ∙ omega (arith, copy_digit c))

-- ---- all lines of a kind

longer : (f : ℕ → ℕ) (i count one more : ℕ) → f i ≡ one → more ≡ sum_by f (range_with_len (i + 1) count) → one + more ≡ sum_by f (range_with_len i (suc count))
longer f i count one more first rest = omega (arith, first, rest, sum_by-cons f i (range_with_len (i + 1) count))

first_and_rest : (line : List (List ℕ)) (lines : List (List (List ℕ))) → length (flat_map line_text (line ∷ lines)) ≡ length (line_text line) + length (flat_map line_text lines)
first_and_rest line lines = ap length (flat_map-cons line_text line lines) ∙ length-append (line_text line) (flat_map line_text lines)

parts_length : (f : ℕ → ℕ) (p : ℕ) (ds : List ℕ) → ((i : ℕ) → i < length ds → f (p + i) ≡ 13 + digits (p + i) + digits (get_or ds i 0)) → length (flat_map line_text (part_lines p ds)) ≡ sum_by f (range_with_len p (length ds))
parts_length f p [] same = refl
parts_length f p (d ∷ ds) same =
    let start : p + 0 ≡ p = omega arith in
    let first : f p ≡ 13 + digits p + digits d = subst (λ (q : ℕ). f q ≡ 13 + digits q + digits d) start (same 0 (omega arith)) in
    let rest = parts_length f (p + 1) ds (λ i lt. let next : p + suc i ≡ p + 1 + i = omega arith in subst (λ (q : ℕ). f q ≡ 13 + digits q + digits (get_or ds i 0)) next (same (suc i) (omega arith))) in
    first_and_rest (part_line p d) (part_lines (p + 1) ds) ∙ longer f p (length ds) (length (line_text (part_line p d))) _ (first ∙ sym (part_line_length p d)) rest

nodes_length : (n h : Net) (f : ℕ → ℕ) (start i : ℕ) (ps : List ℕ) (ts ls : List Three) → length ts ≡ length ps → length ls ≡ length ps
    → ((j : ℕ) → j < length ps → f (i + j) ≡ length (line_text (node_line n h (start + (i + j)) (get_or ps j 0) (get_or ts j no_three) (get_or ls j no_three))))
    → length (flat_map line_text (node_lines n h (start + i) ps ts ls)) ≡ sum_by f (range_with_len i (length ps))
nodes_length n h f start i [] ts ls a b same = refl
nodes_length n h f start i (p ∷ ps) [] ls a b same = absurd cc
nodes_length n h f start i (p ∷ ps) (t ∷ ts) [] a b same = absurd cc
nodes_length n h f start i (p ∷ ps) (t ∷ ts) (l ∷ ls) a b same =
    let begin : i + 0 ≡ i = omega arith in
    let first : f i ≡ length (line_text (node_line n h (start + i) p t l)) = subst (λ (q : ℕ). f q ≡ length (line_text (node_line n h (start + q) p t l))) begin (same 0 (omega arith)) in
    let rest = nodes_length n h f start (i + 1) ps ts ls (omega (arith, a)) (omega (arith, b))
    (λ j lt. let next : i + suc j ≡ i + 1 + j = omega arith in subst (λ (q : ℕ). f q ≡ length (line_text (node_line n h (start + q) (get_or ps j 0) (get_or ts j no_three) (get_or ls j no_three)))) next (same (suc j) (omega arith))) in
    let place : start + i + 1 ≡ start + (i + 1) = omega arith in
    let more : length (flat_map line_text (node_lines n h (start + i + 1) ps ts ls)) ≡ sum_by f (range_with_len (i + 1) (length ps)) = ap (λ (x : ℕ). length (flat_map line_text (node_lines n h x ps ts ls))) place ∙ rest in
    first_and_rest (node_line n h (start + i) p t l) (node_lines n h (start + i + 1) ps ts ls) ∙ longer f i (length ps) (length (line_text (node_line n h (start + i) p t l))) _ first more

roles_length : (n h : Net) (f : ℕ → ℕ) (start i : ℕ) (rs : List Role) → ((j : ℕ) (r : Role) → slice_get rs j ≡ Some r → f (i + j) ≡ length (flat_map line_text (voter_line n h (start + (i + j)) r)))
    → length (flat_map line_text (voter_lines n h (start + i) rs)) ≡ sum_by f (range_with_len i (length rs))
roles_length n h f start i [] same = refl
roles_length n h f start i (r ∷ rs) same =
    let begin : i + 0 ≡ i = omega arith in
    let first : f i ≡ length (flat_map line_text (voter_line n h (start + i) r)) = subst (λ (q : ℕ). f q ≡ length (flat_map line_text (voter_line n h (start + q) r))) begin (same 0 r refl) in
    let rest = roles_length n h f start (i + 1) rs (λ j q e. let next : i + suc j ≡ i + 1 + j = omega arith in subst (λ (m : ℕ). f m ≡ length (flat_map line_text (voter_line n h (start + m) q))) next (same (suc j) q e)) in
    let place : start + i + 1 ≡ start + (i + 1) = omega arith in
    let more : length (flat_map line_text (voter_lines n h (start + i + 1) rs)) ≡ sum_by f (range_with_len (i + 1) (length rs)) = ap (λ (x : ℕ). length (flat_map line_text (voter_lines n h x rs))) place ∙ rest in
    let both = ap length (flat_map-append line_text (voter_line n h (start + i) r) (voter_lines n h (start + i + 1) rs)) ∙ length-append (flat_map line_text (voter_line n h (start + i) r)) (flat_map line_text (voter_lines n h (start + i + 1) rs)) in
    both ∙ longer f i (length rs) (length (flat_map line_text (voter_line n h (start + i) r))) _ first more

-- ---- all of it

part_at : (k : PlainCert) (i : ℕ) → part_length k (0 + i) ≡ 13 + digits (0 + i) + digits (get_or k.depth i 0)
part_at k i = let e : 0 + i ≡ i = omega arith in rw e refl

node_at : (n h : Net) (k : PlainCert) (i : ℕ) → IsCert k → i < length k.part → node_length n h k i ≡ length (line_text (node_line n h (k.original_inputs + i) (get_or k.part i 0) (get_or k.copies i no_three) (get_or k.labels i no_three)))
node_at n h k i cert lt =
    let t : Three = get_or k.copies i no_three in
    let l : Three = get_or k.labels i no_three in
    let within_copies : i < length k.copies = omega (arith, cert.copies_long) in
    let within_labels : i < length k.labels = omega (arith, cert.labels_long) in
    let line = node_line_length n h (k.original_inputs + i) (get_or k.part i 0) t l in
    rw (copy_at k i First within_copies, copy_at k i Second within_copies, copy_at k i Third within_copies, label_at k i First within_labels, label_at k i Second within_labels, label_at k i Third within_labels) (sym line)

role_at : (n h : Net) (k : PlainCert) (j : ℕ) (r : Role) → slice_get k.roles j ≡ Some r → role_length n h (k.hardened_inputs + j) (role_of k (k.hardened_inputs + j)) ≡ length (flat_map line_text (voter_line n h (k.hardened_inputs + j) r))
role_at n h k j r e = ap (role_length n h (k.hardened_inputs + j)) (role_there k j r e) ∙ sym (voter_line_length n h (k.hardened_inputs + j) r)

in_a_row_long : (a b p m v e : List ℕ) → length (a ++ (b ++ (p ++ (m ++ (v ++ e))))) ≡ length a + (length b + (length p + (length m + (length v + length e))))
in_a_row_long a b p m v e = simp (length-append)

-- the length of a certificate's text, line by line
pub text_length : (n h : Net) (k : PlainCert) → IsCert k → length (cert_text n h k) ≡ cert_length n h k
text_length n h k cert =
    let head : List ℕ = line_text (codes "tmr-cert" ∷ decimal k.version ∷ []) in
    let count : List ℕ = line_text (codes "parts" ∷ decimal (length k.depth) ∷ []) in
    let parts : List ℕ = flat_map line_text (part_lines 0 k.depth) in
    let nodes : List ℕ = flat_map line_text (node_lines n h k.original_inputs k.part k.copies k.labels) in
    let voters : List ℕ = flat_map line_text (voter_lines n h k.hardened_inputs k.roles) in
    let end : List ℕ = flat_map line_text ((codes "end" ∷ []) ∷ []) in
    let whole : length (cert_text n h k) ≡ length head + (length count + (length parts + (length nodes + (length voters + length end)))) =
    ap length (text_is n h k) ∙ in_a_row_long head count parts nodes voters end in
    let head_long : length head ≡ 10 + digits k.version = line_length (codes "tmr-cert") (decimal k.version ∷ []) ∙ omega arith in
    let count_long : length count ≡ 7 + digits (length k.depth) = line_length (codes "parts") (decimal (length k.depth) ∷ []) ∙ omega arith in
    let parts_long : length parts ≡ sum_by (part_length k) (range_with_len 0 (length k.depth)) = parts_length (part_length k) 0 k.depth (λ i lt. part_at k i) in
    let nodes_long : length nodes ≡ sum_by (node_length n h k) (range_with_len 0 (length k.part)) = nodes_from_first n h k cert in
    let voters_long : length voters ≡ sum_by (λ j. role_length n h (k.hardened_inputs + j) (role_of k (k.hardened_inputs + j))) (range_with_len 0 (length k.roles)) = voters_from_first n h k in
    whole ∙ omega (arith, head_long, count_long, parts_long, nodes_long, voters_long)
  where
    nodes_from_first : (n h : Net) (k : PlainCert) → IsCert k → length (flat_map line_text (node_lines n h k.original_inputs k.part k.copies k.labels)) ≡ sum_by (node_length n h k) (range_with_len 0 (length k.part))
    nodes_from_first n h k cert =
        let start : k.original_inputs + 0 ≡ k.original_inputs = omega arith in
        subst (λ (x : ℕ). length (flat_map line_text (node_lines n h x k.part k.copies k.labels)) ≡ sum_by (node_length n h k) (range_with_len 0 (length k.part))) start
        (nodes_length n h (node_length n h k) k.original_inputs 0 k.part k.copies k.labels cert.copies_long cert.labels_long (λ j lt. let e : 0 + j ≡ j = omega arith in rw e (node_at n h k j cert lt)))

    voters_from_first : (n h : Net) (k : PlainCert) → length (flat_map line_text (voter_lines n h k.hardened_inputs k.roles)) ≡ sum_by (λ j. role_length n h (k.hardened_inputs + j) (role_of k (k.hardened_inputs + j))) (range_with_len 0 (length k.roles))
    voters_from_first n h k =
        let start : k.hardened_inputs + 0 ≡ k.hardened_inputs = omega arith in
        subst (λ (x : ℕ). length (flat_map line_text (voter_lines n h x k.roles)) ≡ sum_by (λ j. role_length n h (k.hardened_inputs + j) (role_of k (k.hardened_inputs + j))) (range_with_len 0 (length k.roles))) start
        (roles_length n h (λ j. role_length n h (k.hardened_inputs + j) (role_of k (k.hardened_inputs + j))) k.hardened_inputs 0 k.roles (λ j r e. let z : 0 + j ≡ j = omega arith in rw z (role_at n h k j r e)))
