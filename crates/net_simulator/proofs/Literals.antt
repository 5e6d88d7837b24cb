-- Rows as literals: some row matches where some row of literals fits, or one has none.
use Rattle.std.proofs.Common.{◌≡◌, ℕ, suc, ◌+◌, ◌-◌, ◌<◌, ◌≤◌, ◌^◌, cond, Bool, true, false, not, ◌&&◌, ◌||◌, List, [], ◌∷◌, ◌++◌, length, map, take, drop, slice_index, slice_get, Option, Some, None, refl, sym, ◌∙◌, ap, subst, arith}
use Rattle.std.specs.Prelude.{option_map, nat_eq, bit_and, bit_or}
use Rattle.std.specs.Option.{unwrap_or}
use Rattle.std.specs.List.{flat_map}
use Rattle.std.proofs.lemmas.List.{length-append, append-nil, drop_all, append_assoc, map-append}
use Rattle.std.proofs.lemmas.Grind.{flat_map-append}
use Rattle.std.proofs.lemmas.Option.{get_or_from_slice_get, slice_get_within, slice_get-map}
use Rattle.std.proofs.Math.Seq.{drop-cons, take-append_seam, drop-append_seam}
use Rattle.table_cover.specs.Cover.{PlainCover, cover_value, row_matches, some_row_matches}
use Rattle.table_cover.specs.Words.{word_bit}
use Rattle.table_cover.proofs.WordLaws.{word_bit_and, word_bit_or, word_bit_not}
use Rattle.flat_net.specs.Net.{Net, Node, Table, Register, node_of, IsTable}
use Rattle.net_meaning.specs.Meaning.{bit}
use Rattle.net_simulator.specs.Settled.{own_value, mark}
use Rattle.net_simulator.specs.Tables.{wanted, mark_literals, row_literals, has_literal, rows_literals, some_always, node_literals, entry_of, entries, entry_nets, literal_fits, some_fits, entry_value, is_wanting}
use Rattle.net_simulator.specs.declared.tables.Literal.{Literal}
use Rattle.net_simulator.specs.declared.tables.Entry.{Entry}

and_true : (p : Bool) → (p && true) ≡ p
and_true true = refl
and_true false = refl

or_true : (p : Bool) → (p || true) ≡ true
or_true true = refl
or_true false = refl

or_false : (p : Bool) → (p || false) ≡ p
or_false true = refl
or_false false = refl

and_and : (p q r : Bool) → ((p && q) && r) ≡ (p && (q && r))
and_and true q r = refl
and_and false q r = refl

or_or : (p q r : Bool) → ((p || q) || r) ≡ (p || (q || r))
or_or true q r = refl
or_or false q r = refl

-- the next of a list
next_item : (xs : List ℕ) (i x : ℕ) → i < length xs → slice_index xs i ≡ x → drop i xs ≡ x ∷ drop (i + 1) xs
next_item xs i x h e = drop-cons xs i 0 h ∙ (ap (λ (y : ℕ). y ∷ drop (suc i) xs) e ∙ ap (λ (k : ℕ). x ∷ drop k xs) (let s : suc i ≡ i + 1 = omega arith in s))

pub next_got : {A : Type 0} (xs : List A) (i : ℕ) (x : A) → slice_get xs i ≡ Some x → drop i xs ≡ x ∷ drop (i + 1) xs
next_got {A} xs i x e =
    let h : i < length xs = slice_get_within xs i x e in
    drop-cons xs i x h ∙ (ap (λ (y : A). y ∷ drop (suc i) xs) (get_or_from_slice_get xs i x x e) ∙ ap (λ (k : ℕ). x ∷ drop k xs) (let s : suc i ≡ i + 1 = omega arith in s))

some_same : {A : Type 0} (x y : A) → Some x ≡ Some y → x ≡ y
some_same {A} x y e = ap (λ (o : Option A). unwrap_or o x) e

-- one literal more
literal_more : (v : ℕ → Bool) (a p f x : Bool) (ls : List Literal) → cond f (some_fits v (a || p) x ls) (some_fits v a (p && x) ls) ≡ some_fits v (a || (p && f)) ((p || f) && x) ls
literal_more v a true true x ls = refl
literal_more v a true false x ls = ap (λ (b : Bool). some_fits v b x ls) (sym (or_false a))
literal_more v a false true x ls = refl
literal_more v a false false x ls = ap (λ (b : Bool). some_fits v b false ls) (sym (or_false a))

pub fits_next : (v : ℕ → Bool) (a p : Bool) (ls : List Literal) (i : ℕ) (l : Literal) → slice_get ls i ≡ Some l → some_fits v a p (drop i ls) ≡ some_fits v (a || (p && l.is_first)) ((p || l.is_first) && literal_fits v l) (drop (i + 1) ls)
fits_next v a p ls i l e =
    ap (some_fits v a p) (next_got ls i l e) ∙ literal_more v a p l.is_first (literal_fits v l) (drop (i + 1) ls)

-- one mark of a row that has begun
begun_mark : (v : ℕ → Bool) (a p s t m : Bool) (pin : ℕ) (more rest : List Literal) → ((q : Bool) → some_fits v a q (more ++ rest) ≡ some_fits v a (q && m) rest)
    → some_fits v a p ((mark_literals (cond s (Some false) (cond t (Some true) None)) pin true ++ more) ++ rest) ≡ some_fits v a (p && (cond s (not (v pin)) (cond t (v pin) true) && m)) rest
begun_mark v a p true t m pin more rest ih = ih (p && not (v pin)) ∙ ap (λ (b : Bool). some_fits v a b rest) (and_and p (not (v pin)) m)
begun_mark v a p false true m pin more rest ih = ih (p && v pin) ∙ ap (λ (b : Bool). some_fits v a b rest) (and_and p (v pin) m)
begun_mark v a p false false m pin more rest ih = ih p

begun_row : (v : ℕ → Bool) (a p : Bool) (row pins : List ℕ) (rest : List Literal) → some_fits v a p (row_literals true row pins ++ rest) ≡ some_fits v a (p && row_matches row (map v pins)) rest
begun_row v a p [] pins rest = ap (λ (b : Bool). some_fits v a b rest) (sym (and_true p))
begun_row v a p (mark ∷ row) [] rest = ap (λ (b : Bool). some_fits v a b rest) (sym (and_true p))
begun_row v a p (mark ∷ row) (pin ∷ pins) rest = begun_mark v a p (nat_eq mark 48) (nat_eq mark 49) (row_matches row (map v pins)) pin (row_literals true row pins) rest (λ q. begun_row v a q row pins rest)

has_begun : (row pins : List ℕ) → has_literal true row pins ≡ true
has_begun [] pins = refl
has_begun (mark ∷ row) [] = refl
has_begun (mark ∷ row) (pin ∷ pins) = has_begun row pins

-- one mark of a row that has not begun
first_mark : (v : ℕ → Bool) (a p s t m : Bool) (pin : ℕ) (row pins : List ℕ) (rest : List Literal)
    → ((b q : Bool) → some_fits v b q (row_literals true row pins ++ rest) ≡ some_fits v b (q && m) rest)
    → some_fits v a p (row_literals false row pins ++ rest) ≡ cond (has_literal false row pins) (some_fits v (a || p) m rest) (some_fits v a p rest)
    → some_fits v a p ((mark_literals (cond s (Some false) (cond t (Some true) None)) pin false ++ row_literals (false || is_wanting (cond s (Some false) (cond t (Some true) None))) row pins) ++ rest)
    ≡ cond (has_literal (false || is_wanting (cond s (Some false) (cond t (Some true) None))) row pins) (some_fits v (a || p) (cond s (not (v pin)) (cond t (v pin) true) && m) rest) (some_fits v a p rest)
first_mark v a p true t m pin row pins rest begun ih =
    begun (a || p) (not (v pin)) ∙ ap (λ (b : Bool). cond b (some_fits v (a || p) (not (v pin) && m) rest) (some_fits v a p rest)) (sym (has_begun row pins))
first_mark v a p false true m pin row pins rest begun ih =
    begun (a || p) (v pin) ∙ ap (λ (b : Bool). cond b (some_fits v (a || p) (v pin && m) rest) (some_fits v a p rest)) (sym (has_begun row pins))
first_mark v a p false false m pin row pins rest begun ih = ih

first_row : (v : ℕ → Bool) (a p : Bool) (row pins : List ℕ) (rest : List Literal) → some_fits v a p (row_literals false row pins ++ rest) ≡ cond (has_literal false row pins) (some_fits v (a || p) (row_matches row (map v pins)) rest) (some_fits v a p rest)
first_row v a p [] pins rest = refl
first_row v a p (mark ∷ row) [] rest = refl
first_row v a p (mark ∷ row) (pin ∷ pins) rest =
    first_mark v a p (nat_eq mark 48) (nat_eq mark 49) (row_matches row (map v pins)) pin row pins rest (λ b q. begun_row v b q row pins rest) (first_row v a p row pins rest)

free_mark : (s t m b : Bool) (row pins : List ℕ) → (has_literal false row pins ≡ false → m ≡ true) → has_literal (false || is_wanting (cond s (Some false) (cond t (Some true) None))) row pins ≡ false → (cond s (not b) (cond t b true) && m) ≡ true
free_mark true t m b row pins ih e = absurd (let h = has_begun row pins in cc)
free_mark false true m b row pins ih e = absurd (let h = has_begun row pins in cc)
free_mark false false m b row pins ih e = ih e

-- a row without literals matches always
free_row : (v : ℕ → Bool) (row pins : List ℕ) → has_literal false row pins ≡ false → row_matches row (map v pins) ≡ true
free_row v [] pins e = refl
free_row v (mark ∷ row) [] e = refl
free_row v (mark ∷ row) (pin ∷ pins) e = free_mark (nat_eq mark 48) (nat_eq mark 49) (row_matches row (map v pins)) (v pin) row pins (free_row v row pins) e

one_row : (h a p m s f : Bool) (opened same : Bool) → (h ≡ false → m ≡ true) → (opened || f) ≡ ((a || p) || m) || s → ((cond h opened same) || (not h || f)) ≡ ((a || p) || (m || s))
one_row true a p m s f opened same free e = e ∙ or_or (a || p) m s
one_row false a p m s f opened same free e = or_true same ∙ (sym (or_true (a || p)) ∙ ap (λ (b : Bool). (a || p) || (b || s)) (sym (free refl)))

-- some row of literals fits, or has none, where some row matches
rows_fit : (v : ℕ → Bool) (a p : Bool) (rows : List (List ℕ)) (pins : List ℕ) → (some_fits v a p (rows_literals rows pins) || some_always rows pins) ≡ ((a || p) || some_row_matches rows (map v pins))
rows_fit v a p [] pins = refl
rows_fit v a p (row ∷ rows) pins =
    ap (λ (b : Bool). b || (not (has_literal false row pins) || some_always rows pins)) (first_row v a p row pins (rows_literals rows pins))
    ∙ one_row (has_literal false row pins) a p (row_matches row (map v pins)) (some_row_matches rows (map v pins)) (some_always rows pins) (some_fits v (a || p) (row_matches row (map v pins)) (rows_literals rows pins)) (some_fits v a p (rows_literals rows pins))
    (free_row v row pins) (rows_fit v (a || p) (row_matches row (map v pins)) rows pins)

both_true : (f a b : Bool) → a ≡ true → b ≡ true → cond f a b ≡ true
both_true true a b e g = e
both_true false a b e g = g

earlier_fits : (v : ℕ → Bool) (p : Bool) (ls : List Literal) → some_fits v true p ls ≡ true
earlier_fits v p [] = refl
earlier_fits v p (l ∷ ls) = both_true l.is_first (some_fits v true (literal_fits v l) ls) (some_fits v true (p && literal_fits v l) ls) (earlier_fits v (literal_fits v l) ls) (earlier_fits v (p && literal_fits v l) ls)

always_fits : (v : ℕ → Bool) (s : Bool) (ls : List Literal) (m : Bool) → (some_fits v false false ls || s) ≡ m → some_fits v s false ls ≡ m
always_fits v true ls m e = earlier_fits v false ls ∙ (sym (or_true (some_fits v false false ls)) ∙ e)
always_fits v false ls m e = sym (or_false (some_fits v false false ls)) ∙ e

cover_fits : (cover : PlainCover) (bits : List Bool) (f : Bool) → f ≡ some_row_matches cover.rows bits → cond cover.is_on f (not f) ≡ cover_value cover bits
unfolding cover_value
cover_fits cover bits f e = ap (λ (b : Bool). cond cover.is_on b (not b)) e

-- a table's literals give its value
pub entry_fits : (o : Option Node) (x t : ℕ) (before v : List Bool) → IsTable o → entry_value (entry_of o x) (bit v) (node_literals o) ≡ own_value o t before v
entry_fits None x t before v table = absurd table
entry_fits (Some (Register name init pin)) x t before v table = absurd table
entry_fits (Some (Table name cover pins)) x t before v table =
    cover_fits cover (map (bit v) pins) (some_fits (bit v) (some_always cover.rows pins) false (rows_literals cover.rows pins))
    (always_fits (bit v) (some_always cover.rows pins) (rows_literals cover.rows pins) (some_row_matches cover.rows (map (bit v) pins)) (rows_fit (bit v) false false cover.rows pins))

pub count_is : (o : Option Node) (x : ℕ) → (entry_of o x).count ≡ length (node_literals o)
count_is None x = refl
count_is (Some (Register name init pin)) x = refl
count_is (Some (Table name cover pins)) x = refl

pub net_of_entry : (o : Option Node) (x : ℕ) → (entry_of o x).net.0 ≡ x
net_of_entry None x = refl
net_of_entry (Some (Register name init pin)) x = refl
net_of_entry (Some (Table name cover pins)) x = refl

-- entry i is that of net i of the order
pub entry_is : (n : Net) (nets : List ℕ) (es : List Entry) (i x : ℕ) (e : Entry) → es ≡ entries n nets → slice_get es i ≡ Some e → slice_get nets i ≡ Some x → e ≡ entry_of (node_of n x) x
entry_is n nets es i x e same there here =
    some_same e (entry_of (node_of n x) x) (sym there ∙ (ap (λ (l : List Entry). slice_get l i) same ∙ (slice_get-map (λ (y : ℕ). entry_of (node_of n y) y) nets i ∙ ap (option_map (λ (y : ℕ). entry_of (node_of n y) y)) here)))

fitting : (on w : Bool) → unwrap_or (mark on w) (not w) ≡ cond on w (not w)
fitting true w = refl
fitting false w = refl

-- a word, or its complement
pub fitting_word : (j w on result : ℕ) (is_on : Bool) → j < 64 → w < 2 ^ 64 → word_bit j on ≡ is_on → word_bit j result ≡ unwrap_or (mark (word_bit j on) (word_bit j w)) (word_bit j (18446744073709551615 - w)) → word_bit j result ≡ cond is_on (word_bit j w) (not (word_bit j w))
fitting_word j w on result is_on l h e f =
    f ∙ (ap (λ (b : Bool). unwrap_or (mark (word_bit j on) (word_bit j w)) b) (word_bit_not j w l h)
    ∙ (fitting (word_bit j on) (word_bit j w) ∙ ap (λ (b : Bool). cond b (word_bit j w) (not (word_bit j w))) e))

-- one literal more, in words
pub fits_words : (v : ℕ → Bool) (ls : List Literal) (i : ℕ) (l : Literal) (j earlier present first word : ℕ) → slice_get ls i ≡ Some l → word_bit j first ≡ l.is_first → word_bit j word ≡ literal_fits v l
    → some_fits v (word_bit j earlier) (word_bit j present) (drop i ls) ≡ some_fits v (word_bit j (bit_or earlier (bit_and present first))) (word_bit j (bit_and (bit_or present first) word)) (drop (i + 1) ls)
fits_words v ls i l j earlier present first word e f g =
    let one : word_bit j (bit_or earlier (bit_and present first)) ≡ (word_bit j earlier || (word_bit j present && l.is_first)) =
    word_bit_or j earlier (bit_and present first) ∙ ap (λ (b : Bool). word_bit j earlier || b) (word_bit_and j present first ∙ ap (λ (b : Bool). word_bit j present && b) f) in
    let two : word_bit j (bit_and (bit_or present first) word) ≡ ((word_bit j present || l.is_first) && literal_fits v l) =
    word_bit_and j (bit_or present first) word ∙ (ap (λ (b : Bool). b && word_bit j word) (word_bit_or j present first ∙ ap (λ (b : Bool). word_bit j present || b) f) ∙ ap (λ (b : Bool). (word_bit j present || l.is_first) && b) g) in
    fits_next v (word_bit j earlier) (word_bit j present) ls i l e
    ∙ (ap (λ (b : Bool). some_fits v b ((word_bit j present || l.is_first) && literal_fits v l) (drop (i + 1) ls)) (sym one)
    ∙ ap (λ (b : Bool). some_fits v (word_bit j (bit_or earlier (bit_and present first))) b (drop (i + 1) ls)) (sym two))

-- behind the last literal
pub fits_end : (v : ℕ → Bool) (ls : List Literal) (i j earlier present : ℕ) → length ls ≤ i → some_fits v (word_bit j earlier) (word_bit j present) (drop i ls) ≡ word_bit j (bit_or earlier present)
fits_end v ls i j earlier present h =
    ap (some_fits v (word_bit j earlier) (word_bit j present)) (drop_all i ls h) ∙ sym (word_bit_or j earlier present)

-- one mark more
pub marks_next : (begun : Bool) (row pins : List ℕ) (i : ℕ) (mark pin : ℕ) → i < length row → i < length pins → slice_index row i ≡ mark → slice_index pins i ≡ pin
    → row_literals begun (drop i row) (drop i pins) ≡ mark_literals (wanted mark) pin begun ++ row_literals (begun || is_wanting (wanted mark)) (drop (i + 1) row) (drop (i + 1) pins)
marks_next begun row pins i mark pin h k e f =
    let m : drop i row ≡ mark ∷ drop (i + 1) row = next_item row i mark h e in
    let p : drop i pins ≡ pin ∷ drop (i + 1) pins = next_item pins i pin k f in
    ap (λ (r : List ℕ). row_literals begun r (drop i pins)) m ∙ ap (λ (r : List ℕ). row_literals begun (mark ∷ drop (i + 1) row) r) p

pub has_next : (begun : Bool) (row pins : List ℕ) (i : ℕ) (mark pin : ℕ) → i < length row → i < length pins → slice_index row i ≡ mark → slice_index pins i ≡ pin
    → has_literal begun (drop i row) (drop i pins) ≡ has_literal (begun || is_wanting (wanted mark)) (drop (i + 1) row) (drop (i + 1) pins)
has_next begun row pins i mark pin h k e f =
    let m : drop i row ≡ mark ∷ drop (i + 1) row = next_item row i mark h e in
    let p : drop i pins ≡ pin ∷ drop (i + 1) pins = next_item pins i pin k f in
    ap (λ (r : List ℕ). has_literal begun r (drop i pins)) m ∙ ap (λ (r : List ℕ). has_literal begun (mark ∷ drop (i + 1) row) r) p

-- one row more
pub rows_next : (rows : List (List ℕ)) (pins : List ℕ) (i : ℕ) (row : List ℕ) → slice_get rows i ≡ Some row → rows_literals (drop i rows) pins ≡ row_literals false row pins ++ rows_literals (drop (i + 1) rows) pins
rows_next rows pins i row e = ap (λ (rs : List (List ℕ)). rows_literals rs pins) (next_got rows i row e)

pub always_next : (rows : List (List ℕ)) (pins : List ℕ) (i : ℕ) (row : List ℕ) → slice_get rows i ≡ Some row → some_always (drop i rows) pins ≡ (not (has_literal false row pins) || some_always (drop (i + 1) rows) pins)
always_next rows pins i row e = ap (λ (rs : List (List ℕ)). some_always rs pins) (next_got rows i row e)

-- one net more
pub flat_next : {A : Type 0} (f : ℕ → List A) (order : List ℕ) (i x : ℕ) → slice_get order i ≡ Some x → flat_map f (drop i order) ≡ f x ++ flat_map f (drop (i + 1) order)
flat_next {A} f order i x e = ap (flat_map f) (next_got order i x e)

-- what is added to one list is taken from the other
moved : {A : Type 0} (whole items new one rest more : List A) → whole ≡ items ++ rest → rest ≡ one ++ more → new ≡ items ++ one → whole ≡ new ++ more
moved {A} whole items new one rest more e f g = e ∙ (ap (λ (ls : List A). items ++ ls) f ∙ (sym (append_assoc items one more) ∙ ap (λ (ls : List A). ls ++ more) (sym g)))

module _ (whole items new : List Literal) where
  pub mark_pushed : (begun b : Bool) (row pins : List ℕ) (i : ℕ) (value : Option Bool) (pin : ℕ) → whole ≡ items ++ row_literals begun (drop i row) (drop i pins) → new ≡ items ++ mark_literals value pin begun → b ≡ (begun || is_wanting value)
      → i < length row → i < length pins → value ≡ wanted (slice_index row i) → pin ≡ slice_index pins i → whole ≡ new ++ row_literals b (drop (i + 1) row) (drop (i + 1) pins)
  mark_pushed begun b row pins i value pin e f g h k m p =
      moved whole items new (mark_literals value pin begun) (row_literals begun (drop i row) (drop i pins)) (row_literals b (drop (i + 1) row) (drop (i + 1) pins)) e
      (marks_next begun row pins i (slice_index row i) (slice_index pins i) h k refl refl
      ∙ (ap (λ (o : Option Bool). mark_literals o (slice_index pins i) begun ++ row_literals (begun || is_wanting o) (drop (i + 1) row) (drop (i + 1) pins)) (sym m)
      ∙ (ap (λ (q : ℕ). mark_literals value q begun ++ row_literals (begun || is_wanting value) (drop (i + 1) row) (drop (i + 1) pins)) (sym p)
      ∙ ap (λ (c : Bool). mark_literals value pin begun ++ row_literals c (drop (i + 1) row) (drop (i + 1) pins)) (sym g)))) f

  pub row_pushed : (rows : List (List ℕ)) (pins : List ℕ) (i : ℕ) (row : List ℕ) → whole ≡ items ++ rows_literals (drop i rows) pins → slice_get rows i ≡ Some row → new ≡ items ++ row_literals false row pins → whole ≡ new ++ rows_literals (drop (i + 1) rows) pins
  row_pushed rows pins i row e f g = moved whole items new (row_literals false row pins) (rows_literals (drop i rows) pins) (rows_literals (drop (i + 1) rows) pins) e (rows_next rows pins i row f) g

-- one table more
pub entry_pushed : (n : Net) (es new : List Entry) (x : ℕ) (e : Entry) → es ≡ entries n (entry_nets es) → e ≡ entry_of (node_of n x) x → e.net.0 ≡ x → new ≡ es ++ e ∷ [] → new ≡ entries n (entry_nets new)
entry_pushed n es new x e same is net pushed =
    subst (λ (l : List Entry). l ≡ entries n (entry_nets l)) (sym pushed)
    (ap (λ (l : List Entry). l ++ e ∷ []) same
    ∙ (ap (λ (f : Entry). entries n (entry_nets es) ++ f ∷ []) (is ∙ ap (λ (y : ℕ). entry_of (node_of n y) y) (sym net))
    ∙ (sym (map-append (λ (y : ℕ). entry_of (node_of n y) y) (entry_nets es) (e.net.0 ∷ []))
    ∙ ap (entries n) (sym (map-append (λ (f : Entry). f.net.0) es (e ∷ []))))))

pub nets_pushed : (es new : List Entry) (x : ℕ) (e : Entry) → e.net.0 ≡ x → new ≡ es ++ e ∷ [] → entry_nets new ≡ entry_nets es ++ x ∷ []
nets_pushed es new x e net pushed =
    ap entry_nets pushed ∙ (map-append (λ (f : Entry). f.net.0) es (e ∷ []) ∙ ap (λ (y : ℕ). entry_nets es ++ y ∷ []) net)

pub flat_pushed : {A : Type 0} (f : ℕ → List A) (nets more : List ℕ) (x : ℕ) (ls new : List A) → ls ≡ flat_map f nets → more ≡ nets ++ x ∷ [] → new ≡ ls ++ f x → new ≡ flat_map f more
flat_pushed {A} f nets more x ls new same one pushed =
    pushed ∙ (ap (λ (l : List A). l ++ f x) same
    ∙ (ap (λ (l : List A). flat_map f nets ++ l) (sym (append-nil (f x)))
    ∙ (sym (flat_map-append f nets (x ∷ [])) ∙ ap (flat_map f) (sym one))))

-- what a net has stands at the front of what is left
module _ {A : Type 0} (f : ℕ → List A) (rest : List A) (order : List ℕ) (i x count : ℕ) (is : rest ≡ flat_map f (drop i order)) (there : slice_get order i ≡ Some x) (long : count ≡ length (f x)) where
  pub front_is : take count rest ≡ f x
  front_is = ap (λ (k : ℕ). take k rest) long ∙ (ap (take (length (f x))) (is ∙ flat_next f order i x there) ∙ take-append_seam (f x) (flat_map f (drop (i + 1) order)))

  pub back_is : drop count rest ≡ flat_map f (drop (i + 1) order)
  back_is = ap (λ (k : ℕ). drop k rest) long ∙ (ap (drop (length (f x))) (is ∙ flat_next f order i x there) ∙ drop-append_seam (f x) (flat_map f (drop (i + 1) order)))

  pub front_within : count ≤ length rest
  front_within =
      let all : length rest ≡ length (f x) + length (flat_map f (drop (i + 1) order)) = ap length (is ∙ flat_next f order i x there) ∙ length-append (f x) (flat_map f (drop (i + 1) order)) in
      omega (arith, all, long)

pub has_pushed : (whole begun b : Bool) (row pins : List ℕ) (i : ℕ) (value : Option Bool) → whole ≡ has_literal begun (drop i row) (drop i pins) → b ≡ (begun || is_wanting value)
    → i < length row → i < length pins → value ≡ wanted (slice_index row i) → whole ≡ has_literal b (drop (i + 1) row) (drop (i + 1) pins)
has_pushed whole begun b row pins i value e g h k m =
    e ∙ (has_next begun row pins i (slice_index row i) (slice_index pins i) h k refl refl
    ∙ (ap (λ (o : Option Bool). has_literal (begun || is_wanting o) (drop (i + 1) row) (drop (i + 1) pins)) (sym m)
    ∙ ap (λ (c : Bool). has_literal c (drop (i + 1) row) (drop (i + 1) pins)) (sym g)))

pub always_pushed : (whole a some b : Bool) (rows : List (List ℕ)) (pins : List ℕ) (i : ℕ) (row : List ℕ) → whole ≡ (a || some_always (drop i rows) pins) → slice_get rows i ≡ Some row → some ≡ has_literal false row pins → b ≡ (a || not some)
    → whole ≡ (b || some_always (drop (i + 1) rows) pins)
always_pushed whole a some b rows pins i row e f g h =
    e ∙ (ap (λ (c : Bool). a || c) (always_next rows pins i row f)
    ∙ (sym (or_or a (not (has_literal false row pins)) (some_always (drop (i + 1) rows) pins))
    ∙ (ap (λ (c : Bool). (a || not c) || some_always (drop (i + 1) rows) pins) (sym g) ∙ ap (λ (c : Bool). c || some_always (drop (i + 1) rows) pins) (sym h))))
