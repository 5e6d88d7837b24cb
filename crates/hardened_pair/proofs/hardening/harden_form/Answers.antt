use Rattle.std.proofs.Common.{◌+◌, ◌≤◌, List, Bool, refl, sym, ◌∙◌, ap, subst}
use Rattle.std.specs.Prelude.{◌==◌}
use Rattle.limits.specs.Most.{widest_nets}
use Rattle.flat_net.specs.Net.{Design, net_count, pin_total}
use Rattle.flat_net.specs.Free.{FreeDesign, AreMarks}
use Rattle.hardened_pair.specs.Private.Built.{IsBuilt}
use Rattle.hardened_pair.proofs.Building.{made_fits, made_marks}
use Rattle.triplicate.proofs.Whole.{bounded_is}
use Rattle.hardened_pair.proofs.hardening.harden_form.Goals as goal

pub build-requires-clause-few : goal.build-requires-clause-few
build-requires-clause-few c = subst (λ (d : Design). net_count d.net + pin_total d.net ≤ widest_nets) (sym c.net-original.ensures.net) c.requires.few

pub hardened_marks-requires : goal.hardened_marks-requires
hardened_marks-requires c =
    let built : IsBuilt c.args.form c.args.n.now.design.net c.args.size (c.args.version == 2) c.args.most c.in_ok-hardened.hardened = subst (λ (d : Design). IsBuilt c.args.form d.net c.args.size (c.args.version == 2) c.args.most c.in_ok-hardened.hardened) c.net-original.ensures.net c.in_ok-hardened.ensures in
    record { fits = made_fits c.args.n.now.design.net built.plan c.in_ok-hardened.hardened built.planned.given built.made }

pub make-requires : goal.make-requires
make-requires c =
    let built : IsBuilt c.args.form c.args.n.now.design.net c.args.size (c.args.version == 2) c.args.most c.in_ok-hardened.hardened = subst (λ (d : Design). IsBuilt c.args.form d.net c.args.size (c.args.version == 2) c.args.most c.in_ok-hardened.hardened) c.net-original.ensures.net c.in_ok-hardened.ensures in
    subst (λ (marks : List Bool). AreMarks c.in_ok-hardened.hardened.net.net marks) (sym c.in_ok-marks.ensures) (made_marks c.args.n.now.design.net built.plan c.in_ok-hardened.hardened built.planned.given built.made c.args.n.now.free c.net-original.ensures.marks)

pub returns : goal.returns
returns c =
    let built : IsBuilt c.args.form c.args.n.now.design.net c.args.size (c.args.version == 2) c.args.most c.in_ok-hardened.hardened = subst (λ (d : Design). IsBuilt c.args.form d.net c.args.size (c.args.version == 2) c.args.most c.in_ok-hardened.hardened) c.net-original.ensures.net c.in_ok-hardened.ensures in
    bounded_is c.args.form c.args.n.now c.args.size c.args.version c.args.most built.plan c.in_ok-hardened.hardened _ c.requires.version built.planned built.made (ap (λ (d : FreeDesign). d.design.net) c.make.ensures) refl (ap (λ (d : FreeDesign). d.free) c.make.ensures ∙ c.in_ok-marks.ensures) refl refl refl refl
