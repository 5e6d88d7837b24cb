-- One line is put, and the others are left.
use Rattle.std.proofs.Common.{◌≡◌, ℕ, ◌+◌, ◌-◌, ◌<◌, List, [], ◌∷◌, ◌++◌, length, drop, get_or, slice_get, Some, refl, sym, ap, subst, ◌∙◌, append_assoc, add-one, drop-cons, arith}
use Rattle.std.specs.Prelude.{codes}
use Rattle.std.specs.List.{flat_map}
use Rattle.std.specs.Fmt.{decimal}
use Rattle.std.proofs.lemmas.List.Concat.{flat_map-append}
use Rattle.std.proofs.lemmas.Option.{slice_get-get_or}
use Rattle.tmr_base.specs.declared.copies.CopyNo.{CopyNo}
use Rattle.tmr_base.specs.declared.copies.CopyNo.TheVariants.{First, Second, Third}
use Rattle.tmr_base.specs.Copies.{Three, of_copy}
use Rattle.flat_net.specs.Net.{Net, slot}
use Rattle.flat_net.proofs.Slots.{slot_at}
use Rattle.certificate.specs.declared.role.Role.{Role}
use Rattle.certificate.specs.Cert.{PlainCert, IsCert, part_of, copy_of, label_of, role_of, three_or_zero}
use Rattle.certificate.specs.Text.{line_text, node_line, node_lines, voter_line, voter_lines, cert_text}
use Rattle.certificate.specs.Left.{parts_left, nodes_left, voters_left}
use Rattle.certificate.proofs.Filling.{no_three}
use Rattle.certificate.proofs.RoundTrip.{copy_at, text_is}

at : {A : Type 0} (xs : List A) (i : ℕ) (d : A) → i < length xs → drop i xs ≡ get_or xs i d ∷ drop (i + 1) xs
at xs i d lt = rw (add-one, drop-cons xs i d) refl

same_three : (t u : Three) → ((c : CopyNo) → of_copy t c ≡ of_copy u c) → t ≡ u
same_three t u same = rw (same First, same Second, same Third) refl

-- the same for each copy
pub each_copy : (t : Three) (f : CopyNo → ℕ) → t.first ≡ f First → t.second ≡ f Second → t.third ≡ f Third → (c : CopyNo) → of_copy t c ≡ f c
each_copy t f a b d First = a
each_copy t f a b d Second = b
each_copy t f a b d Third = d

-- entry i, counted from the first
here : {A : Type 0} (start : ℕ) (xs : List A) (i : ℕ) (d : A) → i < length xs → slot start xs (start + i) ≡ Some (get_or xs i d)
here start xs i d lt =
    let less : start + i - start ≡ i = omega arith in
    slot_at start xs (start + i) (omega arith) ∙ (ap (slice_get xs) less ∙ slice_get-get_or xs i d lt)

some_is : {A : Type 0} (x y : A) → Some x ≡ Some y → x ≡ y
some_is x y e = cc

part_is : (k : PlainCert) (i p : ℕ) → i < length k.part → part_of k (k.original_inputs + i) ≡ Some p → get_or k.part i 0 ≡ p
part_is k i p lt e = some_is (get_or k.part i 0) p (sym (here k.original_inputs k.part i 0 lt) ∙ e)

pub label_at : (k : PlainCert) (i : ℕ) (c : CopyNo) → i < length k.labels → label_of k (k.original_inputs + i) c ≡ of_copy (get_or k.labels i no_three) c
label_at k i c lt = ap (λ o. three_or_zero o c) (here k.original_inputs k.labels i no_three lt)

pub role_there : (k : PlainCert) (j : ℕ) (r : Role) → slice_get k.roles j ≡ Some r → role_of k (k.hardened_inputs + j) ≡ Some r
role_there k j r e =
    let less : k.hardened_inputs + j - k.hardened_inputs ≡ j = omega arith in
    slot_at k.hardened_inputs k.roles (k.hardened_inputs + j) (omega arith) ∙ (ap (slice_get k.roles) less ∙ e)

-- one original node's line more
pub node_put : (n h : Net) (k : PlainCert) (x i p : ℕ) (t l : Three) (old new : List ℕ) → IsCert k → i < length k.part → x ≡ k.original_inputs + i → part_of k x ≡ Some p
    → ((c : CopyNo) → of_copy t c ≡ copy_of k x c) → ((c : CopyNo) → of_copy l c ≡ label_of k x c) → new ≡ old ++ line_text (node_line n h x p t l) → new ++ nodes_left n h k (i + 1) ≡ old ++ nodes_left n h k i
node_put n h k x i p t l old new cert lt place part copies labels e =
    let first = k.original_inputs + i in
    let within_copies : i < length k.copies = omega (arith, cert.copies_long) in
    let within_labels : i < length k.labels = omega (arith, cert.labels_long) in
    let p_is : get_or k.part i 0 ≡ p = part_is k i p lt (subst (λ (y : ℕ). part_of k y ≡ Some p) place part) in
    let t_is : get_or k.copies i no_three ≡ t = same_three (get_or k.copies i no_three) t (λ c. sym (copies c ∙ (ap (λ (y : ℕ). copy_of k y c) place ∙ copy_at k i c within_copies))) in
    let l_is : get_or k.labels i no_three ≡ l = same_three (get_or k.labels i no_three) l (λ c. sym (labels c ∙ (ap (λ (y : ℕ). label_of k y c) place ∙ label_at k i c within_labels))) in
    let more = node_lines n h (first + 1) (drop (i + 1) k.part) (drop (i + 1) k.copies) (drop (i + 1) k.labels) in
    let line : node_line n h first (get_or k.part i 0) (get_or k.copies i no_three) (get_or k.labels i no_three) ≡ node_line n h x p t l = rw (p_is, t_is, l_is, place) refl in
    let left : node_lines n h first (drop i k.part) (drop i k.copies) (drop i k.labels) ≡ node_line n h x p t l ∷ more =
    rw (at k.part i 0 lt, at k.copies i no_three within_copies, at k.labels i no_three within_labels) (ap (λ (v : List (List ℕ)). v ∷ more) line) in
    let next : k.original_inputs + (i + 1) ≡ first + 1 = omega arith in
    let rest : nodes_left n h k (i + 1) ≡ flat_map line_text more = ap (λ (y : ℕ). flat_map line_text (node_lines n h y (drop (i + 1) k.part) (drop (i + 1) k.copies) (drop (i + 1) k.labels))) next in
    ap (λ (v : List ℕ). v ++ nodes_left n h k (i + 1)) e ∙ (append_assoc old (line_text (node_line n h x p t l)) (nodes_left n h k (i + 1)) ∙
    (ap (λ (v : List ℕ). old ++ (line_text (node_line n h x p t l) ++ v)) rest ∙ ap (λ (v : List (List (List ℕ))). old ++ flat_map line_text v) (sym left)))

-- one hardened node more, with its line where it is a voter
pub role_put : (n h : Net) (k : PlainCert) (g j : ℕ) (role : Role) (old new : List ℕ) → j < length k.roles → g ≡ k.hardened_inputs + j → role_of k g ≡ Some role → new ≡ old ++ flat_map line_text (voter_line n h g role) → new ++ voters_left n h k (j + 1) ≡ old ++ voters_left n h k j
role_put n h k g j role old new lt place is e =
    let first = k.hardened_inputs + j in
    let role_is : get_or k.roles j role ≡ role = some_is (get_or k.roles j role) role (sym (here k.hardened_inputs k.roles j role lt) ∙ subst (λ (y : ℕ). role_of k y ≡ Some role) place is) in
    let more = voter_lines n h (first + 1) (drop (j + 1) k.roles) in
    let line : voter_line n h first (get_or k.roles j role) ≡ voter_line n h g role = rw (role_is, place) refl in
    let left : voter_lines n h first (drop j k.roles) ≡ voter_line n h g role ++ more = rw (at k.roles j role lt) (ap (λ (v : List (List (List ℕ))). v ++ more) line) in
    let next : k.hardened_inputs + (j + 1) ≡ first + 1 = omega arith in
    let rest : voters_left n h k (j + 1) ≡ flat_map line_text more = ap (λ (y : ℕ). flat_map line_text (voter_lines n h y (drop (j + 1) k.roles))) next in
    let both : flat_map line_text (voter_lines n h first (drop j k.roles)) ≡ flat_map line_text (voter_line n h g role) ++ flat_map line_text more = ap (λ (v : List (List (List ℕ))). flat_map line_text v) left ∙ flat_map-append line_text (voter_line n h g role) more in
    ap (λ (v : List ℕ). v ++ voters_left n h k (j + 1)) e ∙ (append_assoc old (flat_map line_text (voter_line n h g role)) (voters_left n h k (j + 1)) ∙
    (ap (λ (v : List ℕ). old ++ (flat_map line_text (voter_line n h g role) ++ v)) rest ∙ ap (λ (v : List ℕ). old ++ v) (sym both)))

in_a_row : (a b p m v e o0 o1 o2 o3 o4 o5 : List ℕ) → o0 ≡ [] → o1 ≡ (o0 ++ a) ++ b → o2 ≡ o1 ++ p → o3 ≡ o2 ++ m → o4 ≡ o3 ++ v → o5 ≡ o4 ++ e → o5 ≡ a ++ (b ++ (p ++ (m ++ (v ++ e))))
in_a_row a b p m v e o0 o1 o2 o3 o4 o5 e0 e1 e2 e3 e4 e5 =
    let one : o1 ≡ a ++ b = e1 ∙ ap (λ (o : List ℕ). (o ++ a) ++ b) e0 in
    let two : o2 ≡ a ++ (b ++ p) = e2 ∙ (ap (λ (o : List ℕ). o ++ p) one ∙ append_assoc a b p) in
    let three : o3 ≡ a ++ (b ++ (p ++ m)) = e3 ∙ (ap (λ (o : List ℕ). o ++ m) two ∙ (append_assoc a (b ++ p) m ∙ ap (λ (o : List ℕ). a ++ o) (append_assoc b p m))) in
    let four : o4 ≡ a ++ (b ++ (p ++ (m ++ v))) = e4 ∙ (ap (λ (o : List ℕ). o ++ v) three ∙ (append_assoc a (b ++ (p ++ m)) v ∙ ap (λ (o : List ℕ). a ++ o) (append_assoc b (p ++ m) v ∙ ap (λ (o : List ℕ). b ++ o) (append_assoc p m v)))) in
    e5 ∙ (ap (λ (o : List ℕ). o ++ e) four ∙ (append_assoc a (b ++ (p ++ (m ++ v))) e ∙ ap (λ (o : List ℕ). a ++ o) (append_assoc b (p ++ (m ++ v)) e ∙ ap (λ (o : List ℕ). b ++ o) (append_assoc p (m ++ v) e ∙ ap (λ (o : List ℕ). p ++ o) (append_assoc m v e)))))

-- all lines are put
pub all_lines_put : (n h : Net) (k : PlainCert) (o0 o1 o2 o3 o4 o5 : List ℕ) → o0 ≡ [] → o1 ≡ (o0 ++ line_text (codes "tmr-cert" ∷ decimal k.version ∷ [])) ++ line_text (codes "parts" ∷ decimal (length k.depth) ∷ [])
    → o2 ≡ o1 ++ parts_left k 0 → o3 ≡ o2 ++ nodes_left n h k 0 → o4 ≡ o3 ++ voters_left n h k 0 → o5 ≡ o4 ++ line_text (codes "end" ∷ []) → o5 ≡ cert_text n h k
all_lines_put n h k o0 o1 o2 o3 o4 o5 e0 e1 e2 e3 e4 e5 =
    let head : List ℕ = line_text (codes "tmr-cert" ∷ decimal k.version ∷ []) in
    let count : List ℕ = line_text (codes "parts" ∷ decimal (length k.depth) ∷ []) in
    let end : List ℕ = line_text (codes "end" ∷ []) in
    let first : k.original_inputs + 0 ≡ k.original_inputs = omega arith in
    let first_h : k.hardened_inputs + 0 ≡ k.hardened_inputs = omega arith in
    let nodes : nodes_left n h k 0 ≡ flat_map line_text (node_lines n h k.original_inputs k.part k.copies k.labels) = ap (λ (x : ℕ). flat_map line_text (node_lines n h x k.part k.copies k.labels)) first in
    let voters : voters_left n h k 0 ≡ flat_map line_text (voter_lines n h k.hardened_inputs k.roles) = ap (λ (x : ℕ). flat_map line_text (voter_lines n h x k.roles)) first_h in
    let row = in_a_row head count (parts_left k 0) (nodes_left n h k 0) (voters_left n h k 0) end o0 o1 o2 o3 o4 o5 e0 e1 e2 e3 e4 e5 in
    row ∙ (ap (λ (v : List ℕ). head ++ (count ++ (parts_left k 0 ++ (v ++ (voters_left n h k 0 ++ end))))) nodes
    ∙ (ap (λ (v : List ℕ). head ++ (count ++ (parts_left k 0 ++ (flat_map line_text (node_lines n h k.original_inputs k.part k.copies k.labels) ++ (v ++ end))))) voters ∙ sym (text_is n h k)))
