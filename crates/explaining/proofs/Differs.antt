-- Tables and registers that differ.
use Rattle.std.proofs.Common.{◌≡◌, ◌≢◌, ◌⊎◌, inl, inr, ℕ, ◌+◌, ◌*◌, ◌<◌, ◌≤◌, Bool, true, false, List, [], ◌∷◌, length, Option, Some, None, slice_get, slice_index, refl, sym, ap, ◌∙◌, subst, arith, get_or}
use Rattle.std.proofs.lemmas.List.{same_lists}
use Rattle.std.proofs.lemmas.Option.{get_or_from_slice_get}
use Rattle.std.specs.Prelude.{IfSome, IfNone}
use Rattle.tmr_base.specs.declared.copies.CopyNo.{CopyNo}
use Rattle.tmr_base.specs.declared.copies.CopyNo.TheVariants.{First, Second, Third}
use Rattle.tmr_base.specs.Copies.{copy_number}
use Rattle.table_cover.specs.Cover.{PlainCover, IsMajority}
use Rattle.flat_net.specs.Net.{Net, Node, Table, Register, IsCoverOf, IsInitOf, pins_at, node_of, net_count}
use Rattle.flat_net.proofs.Slots.{slice_get_there, slot_there}
use Rattle.flat_net.specs.declared.kind.Kind.TheVariants as kind
use Rattle.flat_net.specs.Kinds.{kind_of}
use Rattle.certificate.specs.Cert.{PlainCert, copy_of}
use Rattle.certificate.specs.Rules.{CopiesTable, CopiesRegister, PinsRead, LabelReaches, Votes}
use Rattle.explaining.specs.declared.reason.Reason.{Reason}
use Rattle.explaining.specs.declared.reason.Reason.TheVariants.{IsTable, IsRegister, PinCount, Initial, Pin, VoterPin, Minority, LowLabel}
use Rattle.explaining.specs.Reasons.{CoversDiffer, PinFails, TablesDiffer, TableFails, RegistersDiffer, RegisterFails, LabelFails, VoteFails, VoterFails, bit_number, bits_number, IsVoteOn}
use Rattle.explaining.specs.Private.Pieces.{AllReach, PinLabelFails, VoterPinReason, MinorityReason}
use Rattle.explaining.proofs.Options.{if_some, if_none}

-- lists of rows that agree at each place are the same
pub rows_same : (xs ys : List (List ℕ)) → length xs ≡ length ys → ((m : ℕ) → m < length xs → slice_get xs m ≡ slice_get ys m) → xs ≡ ys
rows_same xs ys long each = same_lists xs ys long at
  where
    at : (m : ℕ) (d : List ℕ) → m < length xs → get_or xs m d ≡ get_or ys m d
    at m d l =
        let (a, is) = slice_get_there xs m l in
        let there : slice_get ys m ≡ Some a = sym (each m l) ∙ is in
        get_or_from_slice_get xs m a d is ∙ sym (get_or_from_slice_get ys m a d there)

-- and so are covers that agree in width, polarity and rows
pub covers_same : (a b : PlainCover) (i : ℕ) → a.width ≡ b.width → a.is_on ≡ b.is_on → length a.rows ≡ length b.rows → length a.rows ≤ i → ((m : ℕ) → m < i → slice_get a.rows m ≡ slice_get b.rows m) → a ≡ b
covers_same a b i w o long past each =
    let rows : a.rows ≡ b.rows = rows_same a.rows b.rows long (λ m l. each m (omega arith)) in
    λ t. record { width = w t; is_on = o t; rows = rows t }

covers_tables : (k : PlainCert) (cover : PlainCover) (pins : List ℕ) (hcover : PlainCover) (hpins : List ℕ) (p : ℕ) (c : CopyNo) (reason : Reason) → CoversDiffer hcover cover reason → TablesDiffer k cover pins hcover hpins p c reason
covers_tables k cover pins hcover hpins p c (Pin j g x q d) h = absurd h
covers_tables k cover pins hcover hpins p c reason h = h

-- where the covers differ
pub cover_fails : (k : PlainCert) (a b : Option Node) (cover hcover : PlainCover) (p : ℕ) (c : CopyNo) (reason : Reason) → IsCoverOf a cover → IsCoverOf b hcover → CoversDiffer hcover cover reason → TableFails k a b p c reason
cover_fails k None b cover hcover p c reason ia ib h = absurd ia
cover_fails k (Some (Register name init pin)) b cover hcover p c reason ia ib h = absurd ia
cover_fails k (Some (Table name acover pins)) None cover hcover p c reason ia ib h = absurd ib
cover_fails k (Some (Table name acover pins)) (Some (Register hname hinit hpin)) cover hcover p c reason ia ib h = absurd ib
cover_fails k (Some (Table name acover pins)) (Some (Table hname bcover hpins)) cover hcover p c reason ia ib h =
    let there : CoversDiffer bcover cover reason = subst (λ (o : PlainCover). CoversDiffer o cover reason) (sym ib) h in
    covers_tables k acover pins bcover hpins p c reason (subst (λ (o : PlainCover). CoversDiffer bcover o reason) (sym ia) there)

pins_tables : (k : PlainCert) (cover : PlainCover) (pins : List ℕ) (hcover : PlainCover) (hpins : List ℕ) (p : ℕ) (c : CopyNo) (reason : Reason) → hcover ≡ cover → PinFails k hpins pins p c reason → TablesDiffer k cover pins hcover hpins p c reason
pins_tables k cover pins hcover hpins p c (Pin j g x q d) e h = (e, h)
pins_tables k cover pins hcover hpins p c reason e h = absurd h

-- where the covers are the same, and the pins read otherwise
pub pins_fail : (k : PlainCert) (a b : Option Node) (cover hcover : PlainCover) (p : ℕ) (c : CopyNo) (o : Option Reason) → IsCoverOf a cover → IsCoverOf b hcover → hcover ≡ cover → IfSome o (PinFails k (pins_at b) (pins_at a) p c) → IfSome o (TableFails k a b p c)
pins_fail k None b cover hcover p c o ia ib e h = absurd ia
pins_fail k (Some (Register name init pin)) b cover hcover p c o ia ib e h = absurd ia
pins_fail k (Some (Table name acover pins)) None cover hcover p c o ia ib e h = absurd ib
pins_fail k (Some (Table name acover pins)) (Some (Register hname hinit hpin)) cover hcover p c o ia ib e h = absurd ib
pins_fail k (Some (Table name acover pins)) (Some (Table hname bcover hpins)) cover hcover p c o ia ib e h =
    if_some (PinFails k hpins pins p c) (TablesDiffer k acover pins bcover hpins p c) o (λ reason. pins_tables k acover pins bcover hpins p c reason (ib ∙ (e ∙ sym ia))) h

pub pins_copy : (k : PlainCert) (a b : Option Node) (cover hcover : PlainCover) (p : ℕ) (c : CopyNo) (o : Option Reason) → IsCoverOf a cover → IsCoverOf b hcover → hcover ≡ cover → IfNone o (PinsRead k (pins_at b) (pins_at a) p c) → IfNone o (CopiesTable k a b p c)
pins_copy k None b cover hcover p c o ia ib e h = absurd ia
pins_copy k (Some (Register name init pin)) b cover hcover p c o ia ib e h = absurd ia
pins_copy k (Some (Table name acover pins)) None cover hcover p c o ia ib e h = absurd ib
pins_copy k (Some (Table name acover pins)) (Some (Register hname hinit hpin)) cover hcover p c o ia ib e h = absurd ib
pins_copy k (Some (Table name acover pins)) (Some (Table hname bcover hpins)) cover hcover p c o ia ib e h =
    if_none (PinsRead k hpins pins p c) (CopiesTable k (Some (Table name acover pins)) (Some (Table hname bcover hpins)) p c) o (λ reads. (ib ∙ (e ∙ sym ia), reads)) h

-- a hardened node that is no table is a register
other_kind : (h : Net) (g : ℕ) (P : Option Node → Type 0) → length h.inputs ≤ g → g < net_count h → ((a : Node) → node_of h g ≡ Some a → P (Some a)) → P (node_of h g)
other_kind h g P low high each = let (a, e) = slot_there (length h.inputs) h.nodes g low high in subst P (sym e) (each a e)

pub register_for_table : (k : PlainCert) (a : Option Node) (h : Net) (g p : ℕ) (c : CopyNo) → kind_of a ≡ kind.Table → length h.inputs ≤ g → g < net_count h → kind_of (node_of h g) ≢ kind.Table → TableFails k a (node_of h g) p c IsRegister
register_for_table k None h g p c is low high isnt = absurd (cc is)
register_for_table k (Some (Register name init pin)) h g p c is low high isnt = absurd (cc is)
register_for_table k (Some (Table name cover pins)) h g p c is low high isnt = other_kind h g (λ o. TableFails k (Some (Table name cover pins)) o p c IsRegister) low high each
  where
    each : (b : Node) → node_of h g ≡ Some b → TableFails k (Some (Table name cover pins)) (Some b) p c IsRegister
    each (Table hname hcover hpins) e = absurd (isnt (ap kind_of e))
    each (Register hname hinit hpin) e = refl

pub ruleset tables = (register_for_table, cover_fails, pins_fail, pins_copy)

pins_registers : (k : PlainCert) (init free : Bool) (pin : ℕ) (hinit hfree : Bool) (hpin p : ℕ) (c : CopyNo) (reason : Reason) → hinit ≡ init → hfree ≡ free → PinFails k (hpin ∷ []) (pin ∷ []) p c reason → RegistersDiffer k init free pin hinit hfree hpin p c reason
pins_registers k init free pin hinit hfree hpin p c (Pin j g x q d) i f h = (i, f, h)
pins_registers k init free pin hinit hfree hpin p c reason i f h = absurd h

-- where the initial values and marks are the same, and the pin reads otherwise
pub pin_fails : (k : PlainCert) (a b : Option Node) (free hfree init hinit : Bool) (p : ℕ) (c : CopyNo) (o : Option Reason) → IsInitOf a init → IsInitOf b hinit → hinit ≡ init → hfree ≡ free → IfSome o (PinFails k (pins_at b) (pins_at a) p c) → IfSome o (RegisterFails k a free b hfree p c)
pin_fails k None b free hfree init hinit p c o ia ib i f h = absurd ia
pin_fails k (Some (Table name cover pins)) b free hfree init hinit p c o ia ib i f h = absurd ia
pin_fails k (Some (Register name ainit pin)) None free hfree init hinit p c o ia ib i f h = absurd ib
pin_fails k (Some (Register name ainit pin)) (Some (Table hname hcover hpins)) free hfree init hinit p c o ia ib i f h = absurd ib
pin_fails k (Some (Register name ainit pin)) (Some (Register hname binit hpin)) free hfree init hinit p c o ia ib i f h =
    if_some (PinFails k (hpin ∷ []) (pin ∷ []) p c) (RegistersDiffer k ainit free pin binit hfree hpin p c) o (λ reason. pins_registers k ainit free pin binit hfree hpin p c reason (ib ∙ (i ∙ sym ia)) f) h

pub pin_copies : (k : PlainCert) (a b : Option Node) (free hfree init hinit : Bool) (p : ℕ) (c : CopyNo) (o : Option Reason) → IsInitOf a init → IsInitOf b hinit → hinit ≡ init → hfree ≡ free → IfNone o (PinsRead k (pins_at b) (pins_at a) p c) → IfNone o (CopiesRegister k a free b hfree p c)
pin_copies k None b free hfree init hinit p c o ia ib i f h = absurd ia
pin_copies k (Some (Table name cover pins)) b free hfree init hinit p c o ia ib i f h = absurd ia
pin_copies k (Some (Register name ainit pin)) None free hfree init hinit p c o ia ib i f h = absurd ib
pin_copies k (Some (Register name ainit pin)) (Some (Table hname hcover hpins)) free hfree init hinit p c o ia ib i f h = absurd ib
pin_copies k (Some (Register name ainit pin)) (Some (Register hname binit hpin)) free hfree init hinit p c o ia ib i f h =
    if_none (PinsRead k (hpin ∷ []) (pin ∷ []) p c) (CopiesRegister k (Some (Register name ainit pin)) free (Some (Register hname binit hpin)) hfree p c) o (λ reads. (ib ∙ (i ∙ sym ia), f, reads 0 (omega arith))) h

-- where an initial value or a mark is another
pub initial_fails : (k : PlainCert) (a b : Option Node) (free hfree init hinit : Bool) (p : ℕ) (c : CopyNo) → IsInitOf a init → IsInitOf b hinit → ((hinit ≡ init) × (hfree ≡ free) → ⊥) → RegisterFails k a free b hfree p c (Initial hinit hfree init free)
initial_fails k None b free hfree init hinit p c ia ib h = absurd ia
initial_fails k (Some (Table name cover pins)) b free hfree init hinit p c ia ib h = absurd ia
initial_fails k (Some (Register name ainit pin)) None free hfree init hinit p c ia ib h = absurd ib
initial_fails k (Some (Register name ainit pin)) (Some (Table hname hcover hpins)) free hfree init hinit p c ia ib h = absurd ib
initial_fails k (Some (Register name ainit pin)) (Some (Register hname binit hpin)) free hfree init hinit p c ia ib h =
    (sym ib, refl, sym ia, refl, λ same. h (sym ib ∙ (same.0 ∙ ia), same.1))

pub table_for_register : (k : PlainCert) (a : Option Node) (h : Net) (g p : ℕ) (free hfree : Bool) (c : CopyNo) → kind_of a ≡ kind.Register → length h.inputs ≤ g → g < net_count h → kind_of (node_of h g) ≢ kind.Register → RegisterFails k a free (node_of h g) hfree p c IsTable
table_for_register k None h g p free hfree c is low high isnt = absurd (cc is)
table_for_register k (Some (Table name cover pins)) h g p free hfree c is low high isnt = absurd (cc is)
table_for_register k (Some (Register name init pin)) h g p free hfree c is low high isnt = other_kind h g (λ o. RegisterFails k (Some (Register name init pin)) free o hfree p c IsTable) low high each
  where
    each : (b : Node) → node_of h g ≡ Some b → RegisterFails k (Some (Register name init pin)) free (Some b) hfree p c IsTable
    each (Table hname hcover hpins) e = refl
    each (Register hname hinit hpin) e = absurd (isnt (ap kind_of e))

pub ruleset registers = (table_for_register, pin_fails, pin_copies, initial_fails)

-- labels: a table's pins want what they count
table_low : (k : PlainCert) (name : List ℕ) (cover : PlainCover) (pins : List ℕ) (e : ℕ) (reason : Reason) → PinLabelFails k pins 0 e reason → LabelFails k (Some (Table name cover pins)) e reason
table_low k name cover pins e (LowLabel label w g m) h = h
table_low k name cover pins e reason h = absurd h

pub table_label : (k : PlainCert) (b : Option Node) (e : ℕ) (o : Option Reason) → kind_of b ≡ kind.Table → IfSome o (PinLabelFails k (pins_at b) 0 e) → IfSome o (LabelFails k b e)
table_label k None e o is h = absurd (cc is)
table_label k (Some (Register name init pin)) e o is h = absurd (cc is)
table_label k (Some (Table name cover pins)) e o is h = if_some (PinLabelFails k pins 0 e) (LabelFails k (Some (Table name cover pins)) e) o (table_low k name cover pins e) h

pub table_reaches : (k : PlainCert) (b : Option Node) (e : ℕ) (o : Option Reason) → kind_of b ≡ kind.Table → IfNone o (AllReach k (pins_at b) 0 e) → IfNone o (LabelReaches k b e)
table_reaches k None e o is h = absurd (cc is)
table_reaches k (Some (Register name init pin)) e o is h = absurd (cc is)
table_reaches k (Some (Table name cover pins)) e o is h = if_none (AllReach k pins 0 e) (LabelReaches k (Some (Table name cover pins)) e) o (λ all j l. omega (arith, all j l)) h

-- and a register's one more
register_low : (k : PlainCert) (name : List ℕ) (init : Bool) (pin e : ℕ) (reason : Reason) → PinLabelFails k (pin ∷ []) 1 e reason → LabelFails k (Some (Register name init pin)) e reason
register_low k name init pin e (LowLabel label w g m) h = h
register_low k name init pin e reason h = absurd h

no_pins_low : (k : PlainCert) (e : ℕ) (reason : Reason) → PinLabelFails k [] 1 e reason → ⊥
no_pins_low k e (LowLabel label w g m) h = let l : h.1.pin < 0 = h.1.within in omega (arith, l)
no_pins_low k e reason h = h

pub register_label : (k : PlainCert) (b : Option Node) (e : ℕ) (o : Option Reason) → kind_of b ≢ kind.Table → IfSome o (PinLabelFails k (pins_at b) 1 e) → IfSome o (LabelFails k b e)
register_label k None e o isnt h = if_some (PinLabelFails k [] 1 e) (LabelFails k None e) o (λ reason low. absurd (no_pins_low k e reason low)) h
register_label k (Some (Table name cover pins)) e o isnt h = absurd (isnt refl)
register_label k (Some (Register name init pin)) e o isnt h = if_some (PinLabelFails k (pin ∷ []) 1 e) (LabelFails k (Some (Register name init pin)) e) o (register_low k name init pin e) h

pub register_reaches : (k : PlainCert) (b : Option Node) (e : ℕ) (o : Option Reason) → kind_of b ≢ kind.Table → IfNone o (AllReach k (pins_at b) 1 e) → IfNone o (LabelReaches k b e)
register_reaches k None e o isnt h = if_none (AllReach k [] 1 e) (LabelReaches k None e) o (λ all. tt) h
register_reaches k (Some (Table name cover pins)) e o isnt h = absurd (isnt refl)
register_reaches k (Some (Register name init pin)) e o isnt h = if_none (AllReach k (pin ∷ []) 1 e) (LabelReaches k (Some (Register name init pin)) e) o (λ all. all 0 (omega arith)) h

pub ruleset labels = (table_label, table_reaches, register_label, register_reaches)

-- voters
three_are : (a b c : ℕ) (pins : List ℕ) → length pins ≡ 3 → slice_index pins 0 ≡ a → slice_index pins 1 ≡ b → slice_index pins 2 ≡ c → pins ≡ a ∷ b ∷ c ∷ []
three_are a b c [] long x y z = absurd (cc long)
three_are a b c (p ∷ []) long x y z = absurd (cc long)
three_are a b c (p ∷ q ∷ []) long x y z = absurd (cc long)
three_are a b c (p ∷ q ∷ r ∷ []) long x y z = λ i. x i ∷ y i ∷ z i ∷ []
three_are a b c (p ∷ q ∷ r ∷ s ∷ pins) long x y z = absurd (omega (arith, long))

-- three pins that each read their copy
pub copies_read : (k : PlainCert) (x : ℕ) (pins : List ℕ) → length pins ≡ 3 → ((d : CopyNo) → copy_number d < 3 → slice_index pins (copy_number d) ≡ copy_of k x d) → pins ≡ copy_of k x First ∷ copy_of k x Second ∷ copy_of k x Third ∷ []
copies_read k x pins long each = three_are _ _ _ pins long (each First (omega arith)) (each Second (omega arith)) (each Third (omega arith))

-- the copies with a number below this one read
pub next_copy : (k : PlainCert) (x : ℕ) (pins : List ℕ) (m : ℕ) (c : CopyNo) → copy_number c ≡ m → slice_index pins m ≡ copy_of k x c → ((d : CopyNo) → copy_number d < m → slice_index pins (copy_number d) ≡ copy_of k x d) → (d : CopyNo) → copy_number d < m + 1 → slice_index pins (copy_number d) ≡ copy_of k x d
next_copy k x pins m c is here before d l = go (cases (copy_number d) m)
  where
    cases : (a b : ℕ) → (a < b) ⊎ (b ≤ a)
    cases a b = grind arith

    same : (a b : CopyNo) → copy_number a ≡ copy_number b → a ≡ b
    same First First e = refl
    same First Second e = absurd (omega (arith, e))
    same First Third e = absurd (omega (arith, e))
    same Second First e = absurd (omega (arith, e))
    same Second Second e = refl
    same Second Third e = absurd (omega (arith, e))
    same Third First e = absurd (omega (arith, e))
    same Third Second e = absurd (omega (arith, e))
    same Third Third e = refl

    go : (copy_number d < m) ⊎ (m ≤ copy_number d) → slice_index pins (copy_number d) ≡ copy_of k x d
    go (inl lt) = before d lt
    go (inr le) =
        let at : copy_number d ≡ m = omega arith in
        ap (slice_index pins) at ∙ (here ∙ ap (copy_of k x) (same c d (omega (arith, is, at))))

pin_votes : (k : PlainCert) (x : ℕ) (cover : PlainCover) (pins : List ℕ) (reason : Reason) → VoterPinReason k x pins reason → VoteFails k x cover pins reason
pin_votes k x cover pins (VoterPin g y c) h = h
pin_votes k x cover pins reason h = absurd h

-- where a pin reads another net
pub pin_votes_not : (k : PlainCert) (b : Option Node) (x : ℕ) (cover : PlainCover) (reason : Reason) → IsCoverOf b cover → VoterPinReason k x (pins_at b) reason → VoterFails k b x reason
pin_votes_not k None x cover reason is h = absurd is
pin_votes_not k (Some (Register name init pin)) x cover reason is h = absurd is
pin_votes_not k (Some (Table name bcover pins)) x cover reason is h = pin_votes k x bcover pins reason h

minor : (k : PlainCert) (x : ℕ) (cover : PlainCover) (pins : List ℕ) (reason : Reason) → pins ≡ copy_of k x First ∷ copy_of k x Second ∷ copy_of k x Third ∷ [] → MinorityReason cover reason → VoteFails k x cover pins reason
minor k x cover pins (Minority a b c) e h = (e, h)
minor k x cover pins reason e h = absurd h

-- where the value is not the majority
pub minority_fails : (k : PlainCert) (b : Option Node) (x : ℕ) (cover : PlainCover) (o : Option Reason) → IsCoverOf b cover → pins_at b ≡ copy_of k x First ∷ copy_of k x Second ∷ copy_of k x Third ∷ [] → IfSome o (MinorityReason cover) → IfSome o (VoterFails k b x)
minority_fails k None x cover o is e h = absurd is
minority_fails k (Some (Register name init pin)) x cover o is e h = absurd is
minority_fails k (Some (Table name bcover pins)) x cover o is e h =
    if_some (MinorityReason cover) (VoteFails k x bcover pins) o (λ reason m. minor k x bcover pins reason e (subst (λ (u : PlainCover). MinorityReason u reason) (sym is) m)) h

pub majority_votes : (k : PlainCert) (b : Option Node) (x : ℕ) (cover : PlainCover) (o : Option Reason) → IsCoverOf b cover → pins_at b ≡ copy_of k x First ∷ copy_of k x Second ∷ copy_of k x Third ∷ [] → IfNone o (IsMajority cover) → IfNone o (Votes k b x)
majority_votes k None x cover o is e h = absurd is
majority_votes k (Some (Register name init pin)) x cover o is e h = absurd is
majority_votes k (Some (Table name bcover pins)) x cover o is e h =
    if_none (IsMajority cover) (Votes k (Some (Table name bcover pins)) x) o (λ m. (e, subst IsMajority (sym is) m)) h

-- where a table has not three pins
pub pins_votes_not : (k : PlainCert) (b : Option Node) (x m : ℕ) → kind_of b ≡ kind.Table → m ≡ length (pins_at b) → m ≢ 3 → VoterFails k b x (PinCount m 3)
pins_votes_not k None x m is count ne = absurd (cc is)
pins_votes_not k (Some (Register name init pin)) x m is count ne = absurd (cc is)
pins_votes_not k (Some (Table name cover pins)) x m is count ne = (count, refl, ne)

pub register_for_voter : (k : PlainCert) (h : Net) (g x : ℕ) → length h.inputs ≤ g → g < net_count h → kind_of (node_of h g) ≢ kind.Table → VoterFails k (node_of h g) x IsRegister
register_for_voter k h g x low high isnt = other_kind h g (λ o. VoterFails k o x IsRegister) low high each
  where
    each : (b : Node) → node_of h g ≡ Some b → VoterFails k (Some b) x IsRegister
    each (Table hname hcover hpins) e = absurd (isnt (ap kind_of e))
    each (Register hname hinit hpin) e = refl

pub ruleset votes = (register_for_voter, pins_votes_not, pin_votes_not, minority_fails, majority_votes)

-- three bits are told by their number
bit_same : (m q : ℕ) (x y : Bool) → 2 * m + bit_number x ≡ 2 * q + bit_number y → (m ≡ q) × (x ≡ y)
bit_same m q false false e = (omega arith, refl)
bit_same m q false true e = absurd (omega arith)
bit_same m q true false e = absurd (omega arith)
bit_same m q true true e = (omega arith, refl)

pub bits_same : (a b c d e f : Bool) → bits_number a b c ≡ bits_number d e f → (a ≡ d) × (b ≡ e) × (c ≡ f)
bits_same a b c d e f same =
    let low = bit_same (2 * bit_number a + bit_number b) (2 * bit_number d + bit_number e) c f (omega arith) in
    let middle = bit_same (bit_number a) (bit_number d) b e low.0 in
    let high = bit_same 0 0 a d (omega (arith, middle.0)) in
    (high.1, middle.1, low.1)

-- the bits with a number below this one are voted on
pub next_vote : (cover : PlainCover) (m : ℕ) (a b c : Bool) → bits_number a b c ≡ m → IsVoteOn cover a b c → ((d e f : Bool) → bits_number d e f < m → IsVoteOn cover d e f) → (d e f : Bool) → bits_number d e f < m + 1 → IsVoteOn cover d e f
next_vote cover m a b c is here before d e f l = go (cases (bits_number d e f) m)
  where
    cases : (x y : ℕ) → (x < y) ⊎ (y ≤ x)
    cases x y = grind arith

    go : (bits_number d e f < m) ⊎ (m ≤ bits_number d e f) → IsVoteOn cover d e f
    go (inl lt) = before d e f lt
    go (inr le) =
        let same = bits_same a b c d e f (omega arith) in
        let first : IsVoteOn cover d b c = subst (λ v. IsVoteOn cover v b c) same.0 here in
        let second : IsVoteOn cover d e c = subst (λ v. IsVoteOn cover d v c) same.1 first in
        subst (λ v. IsVoteOn cover d e v) same.2 second

pub votes_on_all : (cover : PlainCover) → cover.width ≡ 3 → ((d e f : Bool) → bits_number d e f < 8 → IsVoteOn cover d e f) → IsMajority cover
votes_on_all cover three all = record { three = three; votes = λ a b c. all a b c (few a b c) }
  where
    one : (b : Bool) → bit_number b ≤ 1
    one false = omega arith
    one true = omega arith

    few : (a b c : Bool) → bits_number a b c < 8
    few a b c = omega (arith, one a, one b, one c)
