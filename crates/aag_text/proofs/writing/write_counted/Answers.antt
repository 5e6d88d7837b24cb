use Rattle.std.proofs.Common.{arith, ◌∙◌, ◌+◌, ℕ, List, map, ap, sym, subst, length}
use Rattle.flat_net.specs.Net.{Design, IsDesign}
use Rattle.aag_text.specs.declared.aig.Latch.{Latch}
use Rattle.aag_text.specs.Text.{aag_text}
use Rattle.aag_text.specs.Lines.{IsFile}
use Rattle.aag_text.specs.Private.Nets.{latch_at}
use Rattle.aag_text.specs.Aig.{plain_aig}
use Rattle.aag_text.specs.Same.{registers}
use Rattle.aag_text.proofs.Agree.{map_map}
use Rattle.aag_text.proofs.Defined.{well_defined, greater_first}
use Rattle.aag_text.proofs.Within.{within, file_of}
use Rattle.aag_text.proofs.writing.write_counted.Goals as goal

pub text_of-requires-clause-few : goal.text_of-requires-clause-few
text_of-requires-clause-few c =
    let design = subst (λ (d : Design). IsDesign d) c.net-net.ensures.net c.input_count.ensures.design in
    let is = within c.args.n.now (plain_aig c.in_ok-a.a) design.valid c.in_ok-a.ensures (omega (arith, c.requires.few)) c.requires.small in
    omega (arith, is.fits)

pub returns : goal.returns
returns c =
    let g = c.in_ok-a.ensures in
    let a = plain_aig c.in_ok-a.a in
    let n = c.args.n.now in
    let design = subst (λ (d : Design). IsDesign d) c.net-net.ensures.net c.input_count.ensures.design in
    let text = c.in_ok-bytes.ensures ∙ ap (λ (d : Design). aag_text (length a.inputs + length a.latches + length a.gates) a d.net) c.net-net.ensures.net in
    record {
      file = record {
        graph = a;
        text = text;
        file = subst (λ (bytes : List ℕ). IsFile bytes a) (sym text) (file_of n a design.valid g (omega (arith, c.requires.few)) c.requires.small);
        inputs = g.inputs;
        starts = ap (map (λ (l : Latch). l.start)) g.latches ∙ map_map (λ (l : Latch). l.start) (latch_at n.design.net n.free g.literals) (registers n.design.net);
        defined = well_defined n a design.valid g (omega (arith, c.requires.few)) c.requires.small;
        gates = ap length g.list ∙ g.has.count;
        greater = greater_first n a design.valid g (omega (arith, c.requires.few)) c.requires.small;
        same = c.does_the_same.ensures n a design g;
      };
      count = c.gate_count-gates.ensures;
    }
