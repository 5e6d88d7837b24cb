use Rattle.std.proofs.Common.{◌∙◌, sym, ap, ◌+◌}
use Rattle.std.proofs.lemmas.List.{append-nil}
use Rattle.certificate.specs.declared.role.Role.TheVariants.{Copy, Voter}
use Rattle.certificate.proofs.Lefts.{role_put}
use Rattle.certificate.proofs.writing.put_role_at.Goals as goal

pub returns-in-Copy : goal.returns-in-Copy
returns-in-Copy c =
    let place = ap (λ m. m + c.args.j) (c.input_count.ensures.count ∙ sym c.requires.fits.hardened_inputs) in
    role_put c.args.n.now.net c.args.h.now.net c.args.k.now (c.input_count.result + c.args.j) c.args.j (Copy c.in-Copy.node c.in-Copy.copy) c.args.out.now.items c.args.out.now.items c.requires.place place c.in-Copy.ensures.role (sym (append-nil c.args.out.now.items))

pub returns-in_ok-put_voter-in-Voter : goal.returns-in_ok-put_voter-in-Voter
returns-in_ok-put_voter-in-Voter c =
    let place = ap (λ m. m + c.args.j) (c.input_count.ensures.count ∙ sym c.requires.fits.hardened_inputs) in
    role_put c.args.n.now.net c.args.h.now.net c.args.k.now (c.input_count.result + c.args.j) c.args.j (Voter c.in-Voter.node c.in-Voter.part c.in-Voter.copy) c.args.out.now.items c.put_voter.new.out.items c.requires.place place c.in-Voter.ensures.role c.in_ok-put_voter-in-Voter.ensures
