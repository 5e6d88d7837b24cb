-- Triples of forced nets, from the back.
use Rattle.std.proofs.Common.{◌≡◌, ℕ, suc, cond, get_or, ◌&&◌, ◌+◌, ◌-◌, ◌<◌, Bool, List, ◌∷◌, length, drop, Option, Some, sym, ◌∙◌, ap, arith}
use Rattle.std.specs.Prelude.{nat_eq}
use Rattle.std.proofs.Math.Seq.{drop-cons}
use Rattle.tmr_base.specs.declared.ids.NetId.{NetId}
use Rattle.table_cover.specs.Words.{word_bit}
use Rattle.net_simulator.specs.Cycle.{forced_in}

-- the last but i, and those behind it
drop_back : {A : Type 0} (xs : List A) (i : ℕ) (d : A) → i < length xs → drop (length xs - (i + 1)) xs ≡ get_or xs (length xs - 1 - i) d ∷ drop (length xs - i) xs
drop_back xs i d h =
    let here : length xs - (i + 1) ≡ length xs - 1 - i = omega arith in
    let next : suc (length xs - 1 - i) ≡ length xs - i = omega arith in
    let within : length xs - 1 - i < length xs = omega arith in
    ap (λ (k : ℕ). drop k xs) here ∙ (drop-cons xs (length xs - 1 - i) d within ∙ ap (λ (k : ℕ). get_or xs (length xs - 1 - i) d ∷ drop k xs) next)

-- one triple more, from the back
pub one_triple_more : (j : ℕ) (forced : List (NetId × ℕ × ℕ)) (i x : ℕ) (d : NetId × ℕ × ℕ) (now before : Option Bool) → i < length forced
    → before ≡ forced_in j (drop (length forced - i) forced) x
    → now ≡ cond (nat_eq (get_or forced (length forced - 1 - i) d).0.0 x && word_bit j (get_or forced (length forced - 1 - i) d).1) (Some (word_bit j (get_or forced (length forced - 1 - i) d).2)) before
    → now ≡ forced_in j (drop (length forced - (i + 1)) forced) x
one_triple_more j forced i x d now before h e f =
    f ∙ (ap (λ (o : Option Bool). cond (nat_eq (get_or forced (length forced - 1 - i) d).0.0 x && word_bit j (get_or forced (length forced - 1 - i) d).1) (Some (word_bit j (get_or forced (length forced - 1 - i) d).2)) o) e
    ∙ sym (ap (λ (l : List (NetId × ℕ × ℕ)). forced_in j l x) (drop_back forced i d h)))
