use Rattle.std.proofs.Common.{◌∙◌, refl, sym}
use Rattle.std.proofs.lemmas.Bool.{false≢true}
use Rattle.dwc.proofs.Making.{node_is_no_input}
use Rattle.dwc.proofs.SameDesign.{neither, same_named, tables_same, registers_same}
use Rattle.dwc.proofs.check.same_node.Goals as goal

pub returns-then-not-same_name : goal.returns-then-not-same_name
returns-then-not-same_name c =
    let a = c.args.a.now.net in
    let b = c.args.b.now.net in
    neither (λ e. false≢true (c.if-not-same_name.ensures.1 (c.name.ensures ∙ (same_named a b c.args.x.0 c.requires.left_node c.requires.left c.requires.right_node c.requires.right e ∙ sym c.name-2.ensures))))

pub returns-in-Input : goal.returns-in-Input
returns-in-Input c = absurd (node_is_no_input c.args.a.now.net c.args.x.0 c.requires.left_node c.requires.left c.in-Input.ensures)

pub returns-in-Table : goal.returns-in-Table
returns-in-Table c =
    let a = c.args.a.now.net in
    let b = c.args.b.now.net in
    tables_same a b c.args.x.0 c.cover.result.now c.cover-in-Table.result.now c.same.result c.requires.left_node c.requires.left c.requires.right_node c.requires.right (sym c.name.ensures ∙ (c.if-not-same_name.ensures.0 refl ∙ c.name-2.ensures)) (c.if-not-same_pins.ensures.0 refl) c.cover.ensures.cover c.cover-in-Table.ensures.cover c.same.ensures

pub returns-in-Register : goal.returns-in-Register
returns-in-Register c =
    let a = c.args.a.now.net in
    let b = c.args.b.now.net in
    registers_same a b c.args.x.0 c.init.result c.init-in-Register.result c.same_bit.result c.requires.left_node c.requires.left c.requires.right_node c.requires.right (sym c.name.ensures ∙ (c.if-not-same_name.ensures.0 refl ∙ c.name-2.ensures)) (c.if-not-same_pins.ensures.0 refl) c.init.ensures c.init-in-Register.ensures c.same_bit.ensures
