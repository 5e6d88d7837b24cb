-- What is written is read again: words, numbers, names and lines.
use Rattle.std.proofs.Common.{◌≡◌, ℕ, zero, suc, ◌+◌, ◌^◌, ◌<◌, ◌≤◌, Bool, true, false, nat_lt, nat_eq, List, [], ◌∷◌, ◌++◌, length, get_or, Some, Ok, refl, sym, ap, ◌∙◌, arith}
use Rattle.std.proofs.Common.{◌⊎◌, inl, inr, append_assoc, take, drop}
use Rattle.std.specs.Prelude.{if◌then◌else◌, codes, position, ◌==◌, ◌&&◌, not}
use Rattle.std.specs.Str.{bytes_eq}
use Rattle.std.specs.List.{join_with_byte, position_or_len, before_first, after_first, list_all, AllByRecursion, All}
use Rattle.std.specs.Fmt.{decimal}
use Rattle.std.proofs.lemmas.Bool.{ltb-true, lt-ltb, le-ltb}
use Rattle.std.proofs.lemmas.Bool.Decides.{nat_tests}
use Rattle.std.proofs.lemmas.Fmt.{decimal_is_IsNumeral, decimal_nonempty, decimal_digit}
use Rattle.std.proofs.lemmas.Str.Parse.{digit_at}
use Rattle.std.proofs.lemmas.List.{length-append, length-map, take_at, drop_at}
use Rattle.std.proofs.Math.ListN.{get_or-append}
use Rattle.std.proofs.Math.Seq.{get_or-append_seam}
use Rattle.std.proofs.lemmas.List.Elements.{All-append}
use Rattle.std.proofs.lemmas.List.Quantifiers.{position-Some}
use Rattle.std.proofs.lemmas.List.Sums.{position_or_len_is, fails_before_first}
use Rattle.std.proofs.lemmas.List.Splits.{slice_split_none, slice_split_at}
use Rattle.std.proofs.lemmas.Slice.Eq.{bytes_eq-Decides}
use Rattle.tmr_base.specs.declared.copies.CopyNo.{CopyNo}
use Rattle.tmr_base.specs.declared.copies.CopyNo.TheVariants.{First, Second, Third}
use Rattle.tmr_base.specs.Copies.{Three, copy_number}
use Rattle.tmr_base.specs.Names.{is_name, is_name_byte}
use Rattle.tmr_base.proofs.NumberLaws.{number_again}
use Rattle.flat_net.specs.Net.{Net, IsValid, net_names, net_named, net_count, name_of}
use Rattle.certificate.specs.declared.role.Role.TheVariants.{Voter}
use Rattle.certificate.specs.declared.fault.CertFault.TheVariants.{UnknownNet}
use Rattle.certificate.specs.Lines.{Rest, want, next_line, words_of, form_words, number_at, is_full, is_line_feed, is_blank}
use Rattle.certificate.specs.Plain.{IsNode, IsVoted, AreNodes}
use Rattle.certificate.specs.Text.{line_text, three_words, part_line, node_line}
use Rattle.certificate.specs.Folding.{known, voted, known_three, three_numbers, node_numbers, read_node, copy_named, voter_numbers, read_voter, read_part, read_parts}
use Rattle.certificate.proofs.Cases.{AreSmall, both_true}

abbrev pub IsWord : List ℕ → Type 0
IsWord w = (i d : ℕ) → i < length w → 32 < get_or w i d

pub coded : (w : List ℕ) → list_all (nat_lt 32) w ≡ true → IsWord w
coded [] e i d lt = absurd (omega arith)
coded (b ∷ bs) e zero d lt = ltb-true 32 b (both_true (nat_lt 32 b) (list_all (nat_lt 32) bs) e).0
coded (b ∷ bs) e (suc i) d lt = coded bs (both_true (nat_lt 32 b) (list_all (nat_lt 32) bs) e).1 i d (omega arith)

name_byte : (b : ℕ) → is_name_byte b ≡ true → 32 < b
name_byte b e = ltb-true 32 b (both_true (nat_lt 32 b) (not (b == 127)) (both_true (nat_lt 32 b && not (b == 127)) (not (b == 35)) e).0).0

name_bytes : (w : List ℕ) → list_all is_name_byte w ≡ true → IsWord w
name_bytes [] e i d lt = absurd (omega arith)
name_bytes (b ∷ bs) e zero d lt = name_byte b (both_true (is_name_byte b) (list_all is_name_byte bs) e).0
name_bytes (b ∷ bs) e (suc i) d lt = name_bytes bs (both_true (is_name_byte b) (list_all is_name_byte bs) e).1 i d (omega arith)

pub name_word : (w : List ℕ) → is_name w ≡ true → IsWord w
name_word w e = name_bytes w (both_true _ (list_all is_name_byte w) e).1

other : (b c : ℕ) → c < b → (b == c) ≡ false
other b c lt = grind (arith, nat_tests)

full_from : (w : List ℕ) → 0 < length w → is_full w ≡ true
full_from [] lt = absurd (omega arith)
full_from (b ∷ bs) lt = ap not (other (length (b ∷ bs)) 0 (omega arith))

pub name_full : (w : List ℕ) → is_name w ≡ true → is_full w ≡ true
name_full [] e = absurd cc
name_full (b ∷ bs) e = full_from (b ∷ bs) (omega arith)

same_get : (w : List ℕ) (i d : ℕ) → i < length w → get_or w i d ≡ get_or w i 0
same_get [] i d lt = absurd (omega arith)
same_get (b ∷ bs) zero d lt = refl
same_get (b ∷ bs) (suc i) d lt = same_get bs i d (omega arith)

pub number_word : (n : ℕ) → n < 2 ^ 64 → IsWord (decimal n)
number_word n small i d lt =
    let r = digit_at (decimal n) i (decimal_is_IsNumeral n small).0.1 lt in
    let s = same_get (decimal n) i d lt in
    omega (arith, r.0, s)

pub number_full : (n : ℕ) → n < 2 ^ 64 → is_full (decimal n) ≡ true
number_full n small = full_from (decimal n) (decimal_nonempty n small)

no_blank : (w : List ℕ) → IsWord w → All (λ b. is_blank b ≡ false) w
no_blank w word = λ i d lt. other (get_or w i d) 32 (word i d lt)

no_feed : (w : List ℕ) → IsWord w → All (λ b. is_line_feed b ≡ false) w
no_feed w word = λ i d lt. let above = word i d lt in other (get_or w i d) 10 (omega arith)

-- the words of a line
abbrev pub AreWords : List (List ℕ) → Type 0
AreWords words = AllByRecursion IsWord words

pub words_again : (w : List ℕ) (words : List (List ℕ)) → AreWords (w ∷ words) → words_of (join_with_byte 32 (w ∷ words)) ≡ w ∷ words
words_again w [] ok = slice_split_none is_blank w (no_blank w ok.0)
words_again w (v ∷ words) ok = slice_split_at is_blank w 32 (join_with_byte 32 (v ∷ words)) (no_blank w ok.0) refl ∙ ap (λ (t : List (List ℕ)). w ∷ t) (words_again v words ok.1)

blank_no_feed : All (λ b. is_line_feed b ≡ false) (32 ∷ [])
blank_no_feed zero d lt = refl
blank_no_feed (suc i) d lt = absurd (omega arith)

line_no_feed : (w : List ℕ) (words : List (List ℕ)) → AreWords (w ∷ words) → All (λ b. is_line_feed b ≡ false) (join_with_byte 32 (w ∷ words))
line_no_feed w [] ok = no_feed w ok.0
line_no_feed w (v ∷ words) ok = All-append (λ b. is_line_feed b ≡ false) w (32 ∷ join_with_byte 32 (v ∷ words)) (no_feed w ok.0) (All-append (λ b. is_line_feed b ≡ false) (32 ∷ []) (join_with_byte 32 (v ∷ words)) blank_no_feed (line_no_feed v words ok.1))

feed_at : (line rest : List ℕ) → All (λ b. is_line_feed b ≡ false) line → position_or_len is_line_feed ((line ++ 10 ∷ []) ++ rest) ≡ length line
feed_at line rest none =
    let whole : (line ++ 10 ∷ []) ++ rest ≡ line ++ (10 ∷ rest) = append_assoc line (10 ∷ []) rest in
    ap (position_or_len is_line_feed) whole ∙ position_or_len_is is_line_feed (line ++ (10 ∷ rest)) (length line) 0 (omega (arith, length-append line (10 ∷ rest)))
    (λ k lt. ap is_line_feed (get_or-append line (10 ∷ rest) 0 k lt) ∙ none k 0 lt)
    (λ _. ap is_line_feed (get_or-append_seam line 10 rest 0))

-- the next line, as it was written
pub next_again : (n : ℕ) (line rest : List ℕ) → All (λ b. is_line_feed b ≡ false) line → next_line (record { line = n; bytes = (line ++ 10 ∷ []) ++ rest }) ≡ Ok (line, record { line = n + 1; bytes = rest })
unfolding next_line
next_again n line rest none =
    let at = feed_at line rest none in
    let bytes : List ℕ = (line ++ 10 ∷ []) ++ rest in
    let long : length bytes ≡ length line + 1 + length rest = length-append (line ++ 10 ∷ []) rest ∙ ap (λ (m : ℕ). m + length rest) (length-append line (10 ∷ [])) in
    let found : nat_lt (position_or_len is_line_feed bytes) (length bytes) ≡ true = lt-ltb _ _ (omega arith) in
    let front : before_first is_line_feed bytes ≡ line = ap (λ (m : ℕ). take m bytes) at ∙ (ap (take (length line)) (append_assoc line (10 ∷ []) rest) ∙ take_at line (10 ∷ rest) (length line) refl) in
    let back : after_first is_line_feed bytes ≡ rest = ap (λ (m : ℕ). drop (m + 1) bytes) at ∙ drop_at (line ++ 10 ∷ []) rest (length line + 1) (length-append line (10 ∷ [])) in
    rw (found, front, back) refl

-- ---- numbers and names

pub number_at_again : (n line : ℕ) → n < 2 ^ 32 → number_at (decimal n) line ≡ Ok n
unfolding number_at
number_at_again n line small = rw (number_again 32 n small (omega arith)) refl

names_long : (n : Net) → length (net_names n) ≡ net_count n
names_long n = simp (length-append, length-map)

below_or_not : (a b : ℕ) → (a < b) ⊎ (b ≤ a)
below_or_not a b = grind arith

position_there : (w : List ℕ) (ws : List (List ℕ)) (x : ℕ) → x < length ws → get_or ws x [] ≡ w → (y : ℕ) × (position (bytes_eq w) ws ≡ Some y)
position_there w ws x lt e = go (below_or_not (position_or_len (bytes_eq w) ws) (length ws))
  where
    go : (position_or_len (bytes_eq w) ws < length ws) ⊎ (length ws ≤ position_or_len (bytes_eq w) ws) → (y : ℕ) × (position (bytes_eq w) ws ≡ Some y)
    go (inl l) = (position_or_len (bytes_eq w) ws, rw (lt-ltb (position_or_len (bytes_eq w) ws) (length ws) l) refl)
    go (inr le) =
        let no = fails_before_first (bytes_eq w) ws x [] (omega arith) in
        let yes : bytes_eq w (get_or ws x []) ≡ true = (bytes_eq-Decides w (get_or ws x [])).1 (sym e) in
        absurd (cc (no, yes))

named_again : (n : Net) (x : ℕ) → IsValid n → x < net_count n → position (bytes_eq (name_of n x)) (net_names n) ≡ Some x
named_again n x valid lt =
    let there = position_there (name_of n x) (net_names n) x (omega (arith, names_long n, lt)) refl in
    let p = position-Some (bytes_eq (name_of n x)) (net_names n) there.0 [] there.1 in
    let same : name_of n x ≡ name_of n there.0 = (bytes_eq-Decides (name_of n x) (get_or (net_names n) there.0 [])).0 p.1 in
    let is : x ≡ there.0 = valid.unordered.names_differ x there.0 lt (omega (arith, names_long n, p.0)) same in
    there.1 ∙ ap Some (sym is)

pub known_again : (n : Net) (x line : ℕ) → IsValid n → IsNode n x → known n (name_of n x) line ≡ Ok x
unfolding known net_named
known_again n x line valid node =
    let high : nat_lt x (length n.inputs) ≡ false = le-ltb x (length n.inputs) node.0 in
    rw (named_again n x valid node.1) (rw high refl)

is_one : (version : ℕ) → nat_eq version 1 ≡ true → version ≡ 1
is_one version e = grind (arith, nat_tests)

pub voted_again : (version : ℕ) (n : Net) (x line : ℕ) → IsValid n → IsVoted version n x → voted version n (name_of n x) line ≡ Ok x
unfolding voted net_named
voted_again version n x line valid voted_net = go (nat_eq version 1) refl
  where
    go : (b : Bool) → nat_eq version 1 ≡ b → (if b then known n (name_of n x) line else want (position (bytes_eq (name_of n x)) (net_names n)) (UnknownNet line)) ≡ Ok x
    go true t = known_again n x line valid (voted_net.0 (is_one version t), voted_net.1)
    go false t = rw (named_again n x valid voted_net.1) refl

pub known_three_again : (h : Net) (t : Three) (line : ℕ) → IsValid h → AreNodes h t → known_three h (name_of h t.first) (name_of h t.second) (name_of h t.third) line ≡ Ok t
unfolding known_three
known_three_again h t line valid nodes = rw (known_again h t.first line valid nodes.0, known_again h t.second line valid nodes.1, known_again h t.third line valid nodes.2) refl

pub three_numbers_again : (t : Three) (line : ℕ) → AreSmall t → three_numbers (decimal t.first) (decimal t.second) (decimal t.third) line ≡ Ok t
unfolding three_numbers
three_numbers_again t line small = rw (number_at_again t.first line small.0, number_at_again t.second line small.1, number_at_again t.third line small.2) refl

same_bytes : (w : List ℕ) → bytes_eq w w ≡ true
same_bytes w = (bytes_eq-Decides w w).1 refl

same_number : (x : ℕ) → (x == x) ≡ true
same_number x = grind (arith, nat_tests)

form_again : (text first : List ℕ) (words : List (List ℕ)) (count line : ℕ) → words_of text ≡ first ∷ words → length (first ∷ words) ≡ count → list_all is_full (first ∷ words) ≡ true → form_words text count first line ≡ Ok (first ∷ words)
unfolding form_words
form_again text first words count line all long full =
    let as_long : (length (first ∷ words) == count) ≡ true = ap (λ (m : ℕ). length (first ∷ words) == m) (sym long) ∙ same_number (length (first ∷ words)) in
    rw all (rw (as_long, full, same_bytes first) refl)

pub read_part_again : (text : List ℕ) (p depth line : ℕ) → words_of text ≡ part_line p depth → list_all is_full (part_line p depth) ≡ true → p < 2 ^ 32 → depth < 2 ^ 32 → read_part p text line ≡ Ok depth
unfolding read_part
read_part_again text p depth line all full small low =
    let form = form_again text (codes "part") (decimal p ∷ codes "depth" ∷ decimal depth ∷ []) 4 line all refl full in
    rw form (rw (number_at_again p line small, number_at_again depth line low, same_number p) refl)

pub read_parts_again : (text : List ℕ) (count line : ℕ) → words_of text ≡ codes "parts" ∷ decimal count ∷ [] → list_all is_full (codes "parts" ∷ decimal count ∷ []) ≡ true → count < 2 ^ 32 → read_parts text line ≡ Ok count
unfolding read_parts
read_parts_again text count line all full small = rw (form_again text (codes "parts") (decimal count ∷ []) 2 line all refl full) (number_at_again count line small)

node_numbers_again : (n h : Net) (x p : ℕ) (copies labels : Three) (line : ℕ) → p < 2 ^ 32 → AreSmall labels → node_numbers (node_line n h x p copies labels) line ≡ Ok (p, labels)
unfolding node_numbers
node_numbers_again n h x p copies labels line small labels_small = rw (number_at_again p line small, three_numbers_again labels line labels_small) refl

pub read_node_again : (n h : Net) (text : List ℕ) (x p parts : ℕ) (copies labels : Three) (line : ℕ) → words_of text ≡ node_line n h x p copies labels → IsValid n → IsValid h → IsNode n x → AreNodes h copies → p < parts → parts ≤ 2 ^ 32 → AreSmall labels → list_all is_full (node_line n h x p copies labels) ≡ true
    → read_node n h x parts text line ≡ Ok (record { part = p; copies = copies; labels = labels })
unfolding read_node
read_node_again n h text x p parts copies labels line all valid valid_h node nodes low small labels_small full =
    let form = form_again text (codes "node") (name_of n x ∷ decimal p ∷ three_words (name_of h) copies ++ three_words decimal labels) 9 line all refl full in
    rw form (rw (node_numbers_again n h x p copies labels line (omega arith) labels_small, known_again n x line valid node, known_three_again h copies line valid_h nodes, same_number x, lt-ltb p parts low) refl)

copy_again : (c : CopyNo) → copy_named (decimal (copy_number c)) ≡ Some c
copy_again First = rw (decimal_digit 0 (omega arith)) refl
copy_again Second = rw (decimal_digit 1 (omega arith)) refl
copy_again Third = rw (decimal_digit 2 (omega arith)) refl

copy_small : (c : CopyNo) → copy_number c < 2 ^ 32
copy_small First = omega arith
copy_small Second = omega arith
copy_small Third = omega arith

abbrev pub voter_text : Net → Net → ℕ → ℕ → ℕ → CopyNo → List (List ℕ)
voter_text n h g x p c = codes "voter" ∷ name_of h g ∷ name_of n x ∷ decimal p ∷ decimal (copy_number c) ∷ []

voter_numbers_again : (n h : Net) (g x p : ℕ) (c : CopyNo) (line : ℕ) → p < 2 ^ 32 → voter_numbers (voter_text n h g x p c) line ≡ Ok (p, c)
unfolding voter_numbers
voter_numbers_again n h g x p c line small = rw (number_at_again p line small, copy_again c) refl

pub read_voter_again : (version : ℕ) (n h : Net) (text : List ℕ) (g x p parts : ℕ) (c : CopyNo) (line : ℕ) → words_of text ≡ voter_text n h g x p c → IsValid n → IsValid h → IsNode h g → IsVoted version n x → p < parts → parts ≤ 2 ^ 32 → list_all is_full (voter_text n h g x p c) ≡ true
    → read_voter version n h g parts text line ≡ Ok (Voter (record { 0 = x }) (record { 0 = p }) c)
unfolding read_voter
read_voter_again version n h text g x p parts c line all valid valid_h node_h voted_net low small full =
    let form = form_again text (codes "voter") (name_of h g ∷ name_of n x ∷ decimal p ∷ decimal (copy_number c) ∷ []) 5 line all refl full in
    rw form (rw (voter_numbers_again n h g x p c line (omega arith), known_again h g line valid_h node_h, voted_again version n x line valid voted_net, same_number g, lt-ltb p parts low) refl)

-- ---- each word of a line is a word

all_cons : (w : List ℕ) (ws : List (List ℕ)) → is_full w ≡ true → list_all is_full ws ≡ true → list_all is_full (w ∷ ws) ≡ true
all_cons w ws e f = rw (e, f) refl

name_ok : (n : Net) (x : ℕ) → IsValid n → x < net_count n → IsWord (name_of n x) × (is_full (name_of n x) ≡ true)
name_ok n x valid lt = let e = valid.unordered.names_are_names x lt in (name_word (name_of n x) e, name_full (name_of n x) e)

number_ok : (m : ℕ) → m < 2 ^ 32 → IsWord (decimal m) × (is_full (decimal m) ≡ true)
number_ok m small = (number_word m (omega arith), number_full m (omega arith))

pub record LineOk (ws : List (List ℕ)) : Type 0 where
  pub words : AreWords ws
  pub full : list_all is_full ws ≡ true

no_words : LineOk []
no_words = record { words = tt; full = refl }

more_words : (w : List ℕ) (ws : List (List ℕ)) → IsWord w × (is_full w ≡ true) → LineOk ws → LineOk (w ∷ ws)
more_words w ws one ok = record { words = (one.0, ok.words); full = all_cons w ws one.1 ok.full }

pub node_line_ok : (n h : Net) (x p : ℕ) (copies labels : Three) → IsValid n → IsValid h → IsNode n x → AreNodes h copies → p < 2 ^ 32 → AreSmall labels → LineOk (node_line n h x p copies labels)
node_line_ok n h x p copies labels valid valid_h node nodes low small =
    more_words _ _ (coded (codes "node") refl, refl) (more_words _ _ (name_ok n x valid node.1) (more_words _ _ (number_ok p low)
    (more_words _ _ (name_ok h copies.first valid_h nodes.0.1) (more_words _ _ (name_ok h copies.second valid_h nodes.1.1) (more_words _ _ (name_ok h copies.third valid_h nodes.2.1)
    (more_words _ _ (number_ok labels.first small.0) (more_words _ _ (number_ok labels.second small.1) (more_words _ _ (number_ok labels.third small.2) no_words))))))))

pub voter_text_ok : (n h : Net) (g x p : ℕ) (c : CopyNo) → IsValid n → IsValid h → IsNode h g → x < net_count n → p < 2 ^ 32 → LineOk (voter_text n h g x p c)
voter_text_ok n h g x p c valid valid_h node_h lt low =
    more_words _ _ (coded (codes "voter") refl, refl) (more_words _ _ (name_ok h g valid_h node_h.1) (more_words _ _ (name_ok n x valid lt) (more_words _ _ (number_ok p low) (more_words _ _ (number_ok (copy_number c) (copy_small c)) no_words))))

pub parts_line_ok : (count : ℕ) → count < 2 ^ 32 → LineOk (codes "parts" ∷ decimal count ∷ [])
parts_line_ok count small = more_words _ _ (coded (codes "parts") refl, refl) (more_words _ _ (number_ok count small) no_words)

pub part_line_ok : (p d : ℕ) → p < 2 ^ 32 → d < 2 ^ 32 → LineOk (part_line p d)
part_line_ok p d low small = more_words _ _ (coded (codes "part") refl, refl) (more_words _ _ (number_ok p low) (more_words _ _ (coded (codes "depth") refl, refl) (more_words _ _ (number_ok d small) no_words)))

-- the next line of what is left
pub next_of : (r : Rest) (w : List ℕ) (words : List (List ℕ)) (tail : List ℕ) → AreWords (w ∷ words) → r.bytes ≡ line_text (w ∷ words) ++ tail → next_line r ≡ Ok (join_with_byte 32 (w ∷ words), record { line = r.line + 1; bytes = tail })
next_of r w words tail ok e = ap (λ (b : List ℕ). next_line (record { line = r.line; bytes = b })) e ∙ next_again r.line (join_with_byte 32 (w ∷ words)) tail (line_no_feed w words ok)
