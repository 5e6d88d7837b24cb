-- What a reading that did not fail has met.
use Rattle.std.proofs.Common.{◌≡◌, ℕ, zero, suc, ◌+◌, ◌^◌, ◌<◌, ◌≤◌, ◌⊎◌, inl, inr, Bool, true, false, cond, nat_lt, nat_eq, List, [], ◌∷◌, ◌++◌, length, get_or, Option, Some, None, Result, Ok, Err, refl, sym, ap, subst, ◌∙◌, add-zero, arith}
use Rattle.std.specs.Prelude.{if◌then◌else◌, codes, ◌&&◌, ◌==◌, position}
use Rattle.std.specs.Str.{bytes_eq}
use Rattle.std.specs.List.{list_all}
use Rattle.std.specs.Fmt.{decimal}
use Rattle.std.proofs.lemmas.Bool.{ltb-true, ltb-false, eqb-true}
use Rattle.std.proofs.lemmas.Bool.Decides.{nat_tests}
use Rattle.std.proofs.lemmas.List.{length-append, length-map}
use Rattle.std.proofs.lemmas.List.Quantifiers.{position-Some}
use Rattle.std.proofs.lemmas.Slice.Eq.{bytes_eq-Decides}
use Rattle.tmr_base.specs.declared.copies.CopyNo.{CopyNo}
use Rattle.tmr_base.specs.declared.copies.CopyNo.TheVariants.{First, Second, Third}
use Rattle.tmr_base.specs.Copies.{Three, copy_number}
use Rattle.std.proofs.lemmas.Fmt.{decimal_digit}
use Rattle.certificate.specs.declared.role.Role.{Role}
use Rattle.certificate.specs.declared.role.Role.TheVariants.{Voter}
use Rattle.tmr_base.specs.Numbers.{number_of}
use Rattle.tmr_base.proofs.NumberLaws.{number_text}
use Rattle.flat_net.specs.Net.{Net, net_names, net_named, net_count, name_of}
use Rattle.certificate.specs.declared.fault.CertFault.{CertFault}
use Rattle.certificate.specs.declared.fault.CertFault.TheVariants.{Line, UnknownNet, Order, Range}
use Rattle.certificate.specs.Lines.{◌>>=◌, want, hold, number_at, words_of, word, is_full, has_form, form_words}
use Rattle.certificate.specs.Plain.{IsNode, IsVoted, AreNodes}
use Rattle.certificate.specs.Text.{three_words, node_line, part_line, voter_line}
use Rattle.certificate.specs.Folding.{version_named, known, voted, known_three, three_numbers, node_or_none, NodeLine, node_numbers, read_node, copy_named, voter_numbers, read_voter, read_part, read_parts, repeat}

-- the value of a step that did not fail
pub bind_ok : {A B : Type 0} (r : Result A CertFault) (f : A → Result B CertFault) (y : B) → (r >>= f) ≡ Ok y → (x : A) × (r ≡ Ok x) × (f x ≡ Ok y)
bind_ok (Ok x) f y e = (x, refl, e)
bind_ok (Err d) f y e = absurd cc

pub hold_ok : {B : Type 0} (b : Bool) (d : CertFault) (f : Unit {0} → Result B CertFault) (y : B) → (hold b d >>= f) ≡ Ok y → (b ≡ true) × (f tt ≡ Ok y)
hold_ok true d f y e = (refl, e)
hold_ok false d f y e = absurd cc

pub want_ok : {A : Type 0} (o : Option A) (d : CertFault) (x : A) → want o d ≡ Ok x → o ≡ Some x
want_ok (Some y) d x e = cc
want_ok None d x e = absurd cc

abbrev done : {A : Type 0} → A → Result A CertFault
done x = Ok x

pub ok_is : {A : Type 0} (x y : A) → done x ≡ done y → x ≡ y
ok_is x y e = cc

pub both_true : (a b : Bool) → a && b ≡ true → (a ≡ true) × (b ≡ true)
both_true true true e = (refl, refl)
both_true true false e = absurd cc
both_true false b e = absurd cc

-- what each step keeps holds in the end
pub repeat_keeps : {S : Type 0} (P : ℕ → S → Type 0) (step : S → Result S CertFault) → ((i : ℕ) (s t : S) → P i s → step s ≡ Ok t → P (i + 1) t) → (count i : ℕ) (s t : S) → P i s → repeat count step s ≡ Ok t → P (i + count) t
unfolding repeat
repeat_keeps P step keeps zero i s t p e = rw (add-zero) (subst (P i) (ok_is s t e) p)
repeat_keeps P step keeps (suc count) i s t p e =
    let a = bind_ok (step s) (repeat count step) t e in
    let more = repeat_keeps P step keeps count (i + 1) a.0 t (keeps i s a.0 p a.1) a.2 in
    subst (λ (j : ℕ). P j t) (omega arith) more

-- and so it holds at the last
pub repeat_all : {S : Type 0} (P : ℕ → S → Type 0) (step : S → Result S CertFault) → ((i : ℕ) (s t : S) → P i s → step s ≡ Ok t → P (i + 1) t) → (count : ℕ) (s t : S) → P 0 s → repeat count step s ≡ Ok t → P count t
repeat_all P step keeps count s t p e = let zero_more : 0 + count ≡ count = omega arith in subst (λ (j : ℕ). P j t) zero_more (repeat_keeps P step keeps count 0 s t p e)

names_long : (n : Net) → length (net_names n) ≡ net_count n
names_long n = simp (length-append, length-map)

node_found : (inputs : ℕ) (o : Option ℕ) (x : ℕ) → node_or_none inputs o ≡ Some x → (o ≡ Some x) × (inputs ≤ x)
node_found inputs None x e = absurd cc
node_found inputs (Some y) x e = go (nat_lt y inputs) refl e
  where
    go : (b : Bool) → nat_lt y inputs ≡ b → (if b then None else Some y) ≡ Some x → (Some y ≡ Some x) × (inputs ≤ x)
    go true t e = absurd cc
    go false t e = let same : y ≡ x = cc in (ap Some same, subst (λ (z : ℕ). inputs ≤ z) same (ltb-false y inputs t))

-- a known name is that of its node
pub known_is : (n : Net) (name : List ℕ) (line x : ℕ) → known n name line ≡ Ok x → (name ≡ name_of n x) × IsNode n x
unfolding known net_named
known_is n name line x e =
    let o = node_found (length n.inputs) (position (bytes_eq name) (net_names n)) x (want_ok (node_or_none (length n.inputs) (position (bytes_eq name) (net_names n))) (UnknownNet line) x e) in
    let p = position-Some (bytes_eq name) (net_names n) x [] o.0 in
    ((bytes_eq-Decides name (get_or (net_names n) x [])).0 p.1, (o.1, omega (arith, names_long n, p.0)))

not_one : (version : ℕ) → nat_eq version 1 ≡ false → version ≡ 1 → ⊥
not_one version e f = grind (arith, nat_tests)

-- and so is that of a net of which there are voters
pub voted_is : (version : ℕ) (n : Net) (name : List ℕ) (line x : ℕ) → voted version n name line ≡ Ok x → (name ≡ name_of n x) × IsVoted version n x
unfolding voted net_named
voted_is version n name line x e = go (nat_eq version 1) refl e
  where
    go : (b : Bool) → nat_eq version 1 ≡ b → (if b then known n name line else want (position (bytes_eq name) (net_names n)) (UnknownNet line)) ≡ Ok x → (name ≡ name_of n x) × IsVoted version n x
    go true t f = let k = known_is n name line x f in (k.0, (λ _. k.1.0, k.1.1))
    go false t f =
        let p = position-Some (bytes_eq name) (net_names n) x [] (want_ok (position (bytes_eq name) (net_names n)) (UnknownNet line) x f) in
        ((bytes_eq-Decides name (get_or (net_names n) x [])).0 p.1, (λ one. absurd (not_one version t one), omega (arith, names_long n, p.0)))

-- a first line names version 1 or 2
pub version_is : (line : List ℕ) (version : ℕ) → version_named line ≡ Some version → ((version ≡ 1) × (line ≡ codes "tmr-cert 1")) ⊎ ((version ≡ 2) × (line ≡ codes "tmr-cert 2"))
version_is line version e = first (bytes_eq line (codes "tmr-cert 1")) refl e
  where
    second : (b : Bool) → bytes_eq line (codes "tmr-cert 2") ≡ b → cond b (Some 2) None ≡ Some version → ((version ≡ 1) × (line ≡ codes "tmr-cert 1")) ⊎ ((version ≡ 2) × (line ≡ codes "tmr-cert 2"))
    second true t f = inr (cc, (bytes_eq-Decides line (codes "tmr-cert 2")).0 t)
    second false t f = absurd cc

    first : (b : Bool) → bytes_eq line (codes "tmr-cert 1") ≡ b → cond b (Some 1) (cond (bytes_eq line (codes "tmr-cert 2")) (Some 2) None) ≡ Some version → ((version ≡ 1) × (line ≡ codes "tmr-cert 1")) ⊎ ((version ≡ 2) × (line ≡ codes "tmr-cert 2"))
    first true t f = inl (cc, (bytes_eq-Decides line (codes "tmr-cert 1")).0 t)
    first false t f = second (bytes_eq line (codes "tmr-cert 2")) refl f

pub number_is : (bytes : List ℕ) (line m : ℕ) → number_at bytes line ≡ Ok m → (bytes ≡ decimal m) × (m < 2 ^ 32)
unfolding number_at
number_is bytes line m e = number_text 32 bytes m (want_ok (number_of 32 bytes) (Line line) m e)

same_three : (a b c x y z : List ℕ) → a ≡ x → b ≡ y → c ≡ z → a ∷ b ∷ c ∷ [] ≡ x ∷ y ∷ z ∷ []
same_three a b c x y z e f g = cc

pub known_three_is : (h : Net) (a b c : List ℕ) (line : ℕ) (t : Three) → known_three h a b c line ≡ Ok t → (a ∷ b ∷ c ∷ [] ≡ three_words (name_of h) t) × AreNodes h t
unfolding known_three
known_three_is h a b c line t e =
    let one = bind_ok (known h a line) _ t e in
    let two = bind_ok (known h b line) _ t one.2 in
    let three = bind_ok (known h c line) _ t two.2 in
    let made : Three = record { first = one.0; second = two.0; third = three.0 } in
    let is : made ≡ t = ok_is made t three.2 in
    let f = known_is h a line one.0 one.1 in
    let s = known_is h b line two.0 two.1 in
    let u = known_is h c line three.0 three.1 in
    subst (λ (v : Three). (a ∷ b ∷ c ∷ [] ≡ three_words (name_of h) v) × AreNodes h v) is (same_three a b c (name_of h one.0) (name_of h two.0) (name_of h three.0) f.0 s.0 u.0, (f.1, s.1, u.1))

-- three numbers below 2 ^ 32
abbrev pub AreSmall : Three → Type 0
AreSmall t = (t.first < 2 ^ 32) × (t.second < 2 ^ 32) × (t.third < 2 ^ 32)

pub three_numbers_are : (a b c : List ℕ) (line : ℕ) (t : Three) → three_numbers a b c line ≡ Ok t → (a ∷ b ∷ c ∷ [] ≡ three_words decimal t) × AreSmall t
unfolding three_numbers
three_numbers_are a b c line t e =
    let one = bind_ok (number_at a line) _ t e in
    let two = bind_ok (number_at b line) _ t one.2 in
    let three = bind_ok (number_at c line) _ t two.2 in
    let made : Three = record { first = one.0; second = two.0; third = three.0 } in
    let is : made ≡ t = ok_is made t three.2 in
    let f = number_is a line one.0 one.1 in
    let s = number_is b line two.0 two.1 in
    let u = number_is c line three.0 three.1 in
    subst (λ (v : Three). (a ∷ b ∷ c ∷ [] ≡ three_words decimal v) × AreSmall v) is (same_three a b c (decimal one.0) (decimal two.0) (decimal three.0) f.0 s.0 u.0, (f.1, s.1, u.1))

same_two : (a b x y : List ℕ) → a ≡ x → b ≡ y → a ∷ b ∷ [] ≡ x ∷ y ∷ []
same_two a b x y d e = cc

same_four : (a b c d x y z w : List ℕ) → a ≡ x → b ≡ y → c ≡ z → d ≡ w → a ∷ b ∷ c ∷ d ∷ [] ≡ x ∷ y ∷ z ∷ w ∷ []
same_four a b c d x y z w e f g h = cc

same_five : (a b c d f x y z w v : List ℕ) → a ≡ x → b ≡ y → c ≡ z → d ≡ w → f ≡ v → a ∷ b ∷ c ∷ d ∷ f ∷ [] ≡ x ∷ y ∷ z ∷ w ∷ v ∷ []
same_five a b c d f x y z w v e g h i j = cc

two_words : (ws : List (List ℕ)) → length ws ≡ 2 → ws ≡ word ws 0 ∷ word ws 1 ∷ []
two_words [] e = absurd (omega arith)
two_words (a ∷ []) e = absurd (omega arith)
two_words (a ∷ b ∷ []) e = refl
two_words (a ∷ b ∷ c ∷ ws) e = absurd (omega arith)

four_words : (ws : List (List ℕ)) → length ws ≡ 4 → ws ≡ word ws 0 ∷ word ws 1 ∷ word ws 2 ∷ word ws 3 ∷ []
four_words [] e = absurd (omega arith)
four_words (a ∷ []) e = absurd (omega arith)
four_words (a ∷ b ∷ []) e = absurd (omega arith)
four_words (a ∷ b ∷ c ∷ []) e = absurd (omega arith)
four_words (a ∷ b ∷ c ∷ d ∷ []) e = refl
four_words (a ∷ b ∷ c ∷ d ∷ f ∷ ws) e = absurd (omega arith)

five_words : (ws : List (List ℕ)) → length ws ≡ 5 → ws ≡ word ws 0 ∷ word ws 1 ∷ word ws 2 ∷ word ws 3 ∷ word ws 4 ∷ []
five_words [] e = absurd (omega arith)
five_words (a ∷ ws) e = let f = four_words ws (omega arith) in ap (λ (v : List (List ℕ)). a ∷ v) f

nine_words : (ws : List (List ℕ)) → length ws ≡ 9 → ws ≡ word ws 0 ∷ word ws 1 ∷ word ws 2 ∷ word ws 3 ∷ word ws 4 ∷ word ws 5 ∷ word ws 6 ∷ word ws 7 ∷ word ws 8 ∷ []
nine_words (a ∷ b ∷ c ∷ d ∷ ws) e = let f = five_words ws (omega arith) in ap (λ (v : List (List ℕ)). a ∷ b ∷ c ∷ d ∷ v) f
nine_words [] e = absurd (omega arith)
nine_words (a ∷ []) e = absurd (omega arith)
nine_words (a ∷ b ∷ []) e = absurd (omega arith)
nine_words (a ∷ b ∷ c ∷ []) e = absurd (omega arith)

pub record HasWords (text : List ℕ) (count : ℕ) (begin : List ℕ) (words : List (List ℕ)) : Type 0 where
  pub all : words_of text ≡ words
  pub long : length words ≡ count
  pub first : word words 0 ≡ begin

form_is : (text : List ℕ) (count : ℕ) (first : List ℕ) (line : ℕ) (words : List (List ℕ)) → form_words text count first line ≡ Ok words → HasWords text count first words
unfolding form_words
form_is text count first line words e =
    let form = hold_ok (has_form (words_of text) count first) (Line line) _ words e in
    let long = both_true (length (words_of text) == count) (list_all is_full (words_of text) && bytes_eq (word (words_of text) 0) first) form.0 in
    let same = both_true (list_all is_full (words_of text)) (bytes_eq (word (words_of text) 0) first) long.1 in
    subst (HasWords text count first) (ok_is (words_of text) words form.1) (record { all = refl; long = eqb-true _ _ long.0; first = (bytes_eq-Decides (word (words_of text) 0) first).0 same.1 })

glue : (a b c a' b' c' : List ℕ) (s t s' t' : List (List ℕ)) → a ≡ a' → b ≡ b' → c ≡ c' → s ≡ s' → t ≡ t' → a ∷ b ∷ c ∷ s ++ t ≡ a' ∷ b' ∷ c' ∷ s' ++ t'
glue a b c a' b' c' s t s' t' d e f g h = cc

pub record NumbersRead (words : List (List ℕ)) (x : ℕ × Three) : Type 0 where
  pub part : word words 2 ≡ decimal x.0
  pub labels : word words 6 ∷ word words 7 ∷ word words 8 ∷ [] ≡ three_words decimal x.1
  pub small : AreSmall x.1

node_numbers_read : (words : List (List ℕ)) (line : ℕ) (x : ℕ × Three) → node_numbers words line ≡ Ok x → NumbersRead words x
unfolding node_numbers
node_numbers_read words line x e =
    let p = bind_ok (number_at (word words 2) line) _ x e in
    let labels = bind_ok (three_numbers (word words 6) (word words 7) (word words 8) line) _ x p.2 in
    let made : ℕ × Three = (p.0, labels.0) in
    subst (NumbersRead words) (ok_is made x labels.2) (record {
      part = (number_is (word words 2) line p.0 p.1).0;
      labels = (three_numbers_are (word words 6) (word words 7) (word words 8) line labels.0 labels.1).0;
      small = (three_numbers_are (word words 6) (word words 7) (word words 8) line labels.0 labels.1).1;
    })

-- what a node's line says is what it is written with
pub record NodeRead (n h : Net) (x parts : ℕ) (text : List ℕ) (node : NodeLine) : Type 0 where
  pub words : words_of text ≡ node_line n h x node.part node.copies node.labels
  pub part : node.part < parts
  pub copies : AreNodes h node.copies
  pub labels : AreSmall node.labels

pub read_node_read : (n h : Net) (x parts : ℕ) (text : List ℕ) (line : ℕ) (node : NodeLine) → read_node n h x parts text line ≡ Ok node → NodeRead n h x parts text node
unfolding read_node
read_node_read n h x parts text line node e =
    let form = bind_ok (form_words text 9 (codes "node") line) _ node e in
    let words : List (List ℕ) = form.0 in
    let f = form_is text 9 (codes "node") line words form.1 in
    let numbers = bind_ok (node_numbers words line) _ node form.2 in
    let named = bind_ok (known n (word words 1) line) _ node numbers.2 in
    let copies = bind_ok (known_three h (word words 3) (word words 4) (word words 5) line) _ node named.2 in
    let order = hold_ok (named.0 == x) (Order line) _ node copies.2 in
    let range = hold_ok (nat_lt numbers.0.0 parts) (Range line) _ node order.1 in
    let made : NodeLine = record { part = numbers.0.0; copies = copies.0; labels = numbers.0.1 } in
    let r = node_numbers_read words line numbers.0 numbers.1 in
    let k = known_is n (word words 1) line named.0 named.1 in
    let t = known_three_is h (word words 3) (word words 4) (word words 5) line copies.0 copies.1 in
    let name : word words 1 ≡ name_of n x = k.0 ∙ ap (name_of n) (eqb-true _ _ order.0) in
    let all : words_of text ≡ node_line n h x made.part made.copies made.labels =
    f.all ∙ (nine_words words f.long ∙ glue _ _ _ (codes "node") (name_of n x) (decimal made.part) (word words 3 ∷ word words 4 ∷ word words 5 ∷ []) (word words 6 ∷ word words 7 ∷ word words 8 ∷ []) (three_words (name_of h) made.copies) (three_words decimal made.labels) f.first name r.part t.0 r.labels) in
    subst (NodeRead n h x parts text) (ok_is made node range.1) (record { words = all; part = ltb-true _ _ range.0; copies = t.1; labels = r.small })

copy_number_is : (w : List ℕ) (c : CopyNo) → copy_named w ≡ Some c → w ≡ decimal (copy_number c)
copy_number_is w c e = first (bytes_eq w (codes "0")) refl e
  where
    third : (b : Bool) → bytes_eq w (codes "2") ≡ b → cond b (Some Third) None ≡ Some c → w ≡ decimal (copy_number c)
    third true t e = let is : Third ≡ c = cc in subst (λ (d : CopyNo). w ≡ decimal (copy_number d)) is ((bytes_eq-Decides w (codes "2")).0 t ∙ sym (decimal_digit 2 (omega arith)))
    third false t e = absurd cc

    second : (b : Bool) → bytes_eq w (codes "1") ≡ b → cond b (Some Second) (cond (bytes_eq w (codes "2")) (Some Third) None) ≡ Some c → w ≡ decimal (copy_number c)
    second true t e = let is : Second ≡ c = cc in subst (λ (d : CopyNo). w ≡ decimal (copy_number d)) is ((bytes_eq-Decides w (codes "1")).0 t ∙ sym (decimal_digit 1 (omega arith)))
    second false t e = third (bytes_eq w (codes "2")) refl e

    first : (b : Bool) → bytes_eq w (codes "0") ≡ b → cond b (Some First) (cond (bytes_eq w (codes "1")) (Some Second) (cond (bytes_eq w (codes "2")) (Some Third) None)) ≡ Some c → w ≡ decimal (copy_number c)
    first true t e = let is : First ≡ c = cc in subst (λ (d : CopyNo). w ≡ decimal (copy_number d)) is ((bytes_eq-Decides w (codes "0")).0 t ∙ sym (decimal_digit 0 (omega arith)))
    first false t e = second (bytes_eq w (codes "1")) refl e

pub record VoterNumbersRead (words : List (List ℕ)) (x : ℕ × CopyNo) : Type 0 where
  pub part : word words 3 ≡ decimal x.0
  pub copy : word words 4 ≡ decimal (copy_number x.1)

voter_numbers_read : (words : List (List ℕ)) (line : ℕ) (x : ℕ × CopyNo) → voter_numbers words line ≡ Ok x → VoterNumbersRead words x
unfolding voter_numbers
voter_numbers_read words line x e =
    let p = bind_ok (number_at (word words 3) line) _ x e in
    let c = bind_ok (want (copy_named (word words 4)) (Line line)) _ x p.2 in
    let made : ℕ × CopyNo = (p.0, c.0) in
    subst (VoterNumbersRead words) (ok_is made x c.2) (record {
      part = (number_is (word words 3) line p.0 p.1).0;
      copy = copy_number_is (word words 4) c.0 (want_ok (copy_named (word words 4)) (Line line) c.0 c.1);
    })

pub record VoterRead (version : ℕ) (n h : Net) (g parts : ℕ) (text : List ℕ) (role : Role) : Type 0 where
  pub x : ℕ
  pub p : ℕ
  pub c : CopyNo
  pub is : role ≡ Voter (record { 0 = x }) (record { 0 = p }) c
  pub voted : IsVoted version n x
  pub part : p < parts
  pub words : voter_line n h g role ≡ words_of text ∷ []

pub read_voter_read : (version : ℕ) (n h : Net) (g parts : ℕ) (text : List ℕ) (line : ℕ) (role : Role) → read_voter version n h g parts text line ≡ Ok role → VoterRead version n h g parts text role
unfolding read_voter
read_voter_read version n h g parts text line role e =
    let form = bind_ok (form_words text 5 (codes "voter") line) _ role e in
    let words : List (List ℕ) = form.0 in
    let f = form_is text 5 (codes "voter") line words form.1 in
    let numbers = bind_ok (voter_numbers words line) _ role form.2 in
    let named = bind_ok (known h (word words 1) line) _ role numbers.2 in
    let node = bind_ok (voted version n (word words 2) line) _ role named.2 in
    let order = hold_ok (named.0 == g) (Order line) _ role node.2 in
    let range = hold_ok (nat_lt numbers.0.0 parts) (Range line) _ role order.1 in
    let made : Role = Voter (record { 0 = node.0 }) (record { 0 = numbers.0.0 }) numbers.0.1 in
    let r = voter_numbers_read words line numbers.0 numbers.1 in
    let k = known_is h (word words 1) line named.0 named.1 in
    let t = voted_is version n (word words 2) line node.0 node.1 in
    let name : word words 1 ≡ name_of h g = k.0 ∙ ap (name_of h) (eqb-true _ _ order.0) in
    let all : words_of text ≡ codes "voter" ∷ name_of h g ∷ name_of n node.0 ∷ decimal numbers.0.0 ∷ decimal (copy_number numbers.0.1) ∷ [] =
    f.all ∙ (five_words words f.long ∙ same_five _ _ _ _ _ (codes "voter") (name_of h g) (name_of n node.0) (decimal numbers.0.0) (decimal (copy_number numbers.0.1)) f.first name t.0 r.part r.copy) in
    subst (VoterRead version n h g parts text) (ok_is made role range.1) (record { x = node.0; p = numbers.0.0; c = numbers.0.1; is = refl; voted = t.1; part = ltb-true _ _ range.0; words = ap (λ (w : List (List ℕ)). w ∷ []) (sym all) })

pub record PartRead (p : ℕ) (text : List ℕ) (depth : ℕ) : Type 0 where
  pub words : words_of text ≡ part_line p depth
  pub small : depth < 2 ^ 32

pub read_part_read : (p : ℕ) (text : List ℕ) (line depth : ℕ) → read_part p text line ≡ Ok depth → PartRead p text depth
unfolding read_part
read_part_read p text line depth e =
    let form = bind_ok (form_words text 4 (codes "part") line) _ depth e in
    let words : List (List ℕ) = form.0 in
    let f = form_is text 4 (codes "part") line words form.1 in
    let third = hold_ok (bytes_eq (word words 2) (codes "depth")) (Line line) _ depth form.2 in
    let q = bind_ok (number_at (word words 1) line) _ depth third.1 in
    let d = bind_ok (number_at (word words 3) line) _ depth q.2 in
    let order = hold_ok (q.0 == p) (Line line) _ depth d.2 in
    let first : word words 1 ≡ decimal p = (number_is (word words 1) line q.0 q.1).0 ∙ ap decimal (eqb-true _ _ order.0) in
    let last = number_is (word words 3) line d.0 d.1 in
    let all : words_of text ≡ part_line p d.0 = f.all ∙ (four_words words f.long ∙ same_four _ _ _ _ (codes "part") (decimal p) (codes "depth") (decimal d.0) f.first first ((bytes_eq-Decides (word words 2) (codes "depth")).0 third.0) last.0) in
    subst (PartRead p text) (ok_is d.0 depth order.1) (record { words = all; small = last.1 })

pub read_parts_read : (text : List ℕ) (line count : ℕ) → read_parts text line ≡ Ok count → (words_of text ≡ codes "parts" ∷ decimal count ∷ []) × (count < 2 ^ 32)
unfolding read_parts
read_parts_read text line count e =
    let form = bind_ok (form_words text 2 (codes "parts") line) _ count e in
    let words : List (List ℕ) = form.0 in
    let f = form_is text 2 (codes "parts") line words form.1 in
    let c = number_is (word words 1) line count form.2 in
    (f.all ∙ (two_words words f.long ∙ same_two _ _ (codes "parts") (decimal count) f.first c.0), c.1)
