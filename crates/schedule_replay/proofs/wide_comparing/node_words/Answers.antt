use Rattle.std.proofs.Common.{◌≡◌, ◌∙◌, false, sym, ap}
use Rattle.tmr_base.specs.declared.copies.CopyNo.{CopyNo}
use Rattle.tmr_base.specs.declared.copies.CopyNo.TheVariants.{First, Second, Third}
use Rattle.certificate.specs.Cert.{copy_of}
use Rattle.net_meaning.specs.Meaning.{bit, value_at}
use Rattle.schedule_replay.proofs.BesideLaws.{copy_word}
use Rattle.schedule_replay.proofs.WideOutcomes.{read_run, same_wrong}
use Rattle.schedule_replay.proofs.wide_comparing.node_words.Goals as goal

pub returns-then-not-may_differ : goal.returns-then-not-may_differ
returns-then-not-may_differ c = λ t j tr ft e f.
    let n = c.args.n.now.net in
    let h = c.args.h.now.net in
    let k = c.args.c.now in
    let original = c.args.original.now in
    let hardened = c.args.hardened.now in
    let x = c.args.x.0 in
    let own = c.value-own.result in
    let same : bit hardened.differing x ≡ false = sym c.may_differ.ensures ∙ c.if-not-may_differ.true in
    let copied = λ (d : CopyNo). read_run hardened.last ft t (copy_of k x d) j own
    (copy_word n h k original hardened x d own c.hardened_inputs.ensures.cert c.requires.fits c.requires.beside c.requires.compared c.requires.low c.requires.high same c.value-own.ensures) f in
    same_wrong _ _ _ _ _ _ _ _ (read_run original.last tr t x j own c.value-own.ensures e) (copied First) (copied Second) (copied Third)

pub returns : goal.returns
returns c = λ t j tr ft e f.
    let original = c.args.original.now.last in
    let hardened = c.args.hardened.now.last in
    same_wrong _ _ _ _ _ _ _ _
    (read_run original tr t c.args.x.0 j c.value-own.result c.value-own.ensures e)
    (read_run hardened ft t c.copy.result.0 j c.value.result c.value.ensures f ∙ ap (value_at ft t) c.copy.ensures.copy)
    (read_run hardened ft t c.copy-2.result.0 j c.value-2.result c.value-2.ensures f ∙ ap (value_at ft t) c.copy-2.ensures.copy)
    (read_run hardened ft t c.copy-3.result.0 j c.value-3.result c.value-3.ensures f ∙ ap (value_at ft t) c.copy-3.ensures.copy)
