use Rattle.std.proofs.Common.{◌≡◌, ◌++◌, ◌+◌, ◌∷◌, [], ap, sym, ◌∙◌, arith, drop, get_or, List, ℕ}
use Rattle.std.proofs.lemmas.Option.{get_or_from_slice_get, slice_get-get_or}
use Rattle.vcd_text.specs.Text.{var_line, var_lines, lines_text, line_text}
use Rattle.vcd_text.proofs.Puts.{more_put, vars_more, one_line}
use Rattle.vcd_text.proofs.text.put_vars.Goals as goal

pub loop-k-preserved : goal.loop-k-preserved
loop-k-preserved c =
    let names = c.args.names.now in
    let k = c.loop-k.k in
    let line : List ℕ = var_line k (get_or names k []) in
    let there : c.index-names-k.result ≡ get_or names k [] = c.index-names-k.is ∙ sym (get_or_from_slice_get names k (get_or names k c.index-names-k.result) [] (slice_get-get_or names k c.index-names-k.result (omega arith))) in
    more_put c.loop-k.out.items c.put_var.new.out.items (c.args.out.now.items ++ lines_text (var_lines 0 names)) (var_lines k (drop k names)) (line ∷ []) (var_lines (k + 1) (drop (k + 1) names)) (vars_more names k (omega arith)) (c.in_ok-put_var.ensures ∙ (ap (λ (n : List ℕ). c.loop-k.out.items ++ line_text (var_line k n)) there ∙ ap (λ (t : List ℕ). c.loop-k.out.items ++ t) (sym (one_line line)))) c.loop-k.invariant
