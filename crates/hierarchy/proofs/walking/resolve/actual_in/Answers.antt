use Rattle.std.proofs.Common.{sym, subst, arith, Some}
use Rattle.hierarchy.specs.Private.Bindings.{bindings_of, Binds}
use Rattle.hierarchy.specs.Private.Walk.{IsPlacing, library_of}
use Rattle.hierarchy.proofs.Linked.{rows_long, row_long}
use Rattle.hierarchy.proofs.Moved.{binds_at}
use Rattle.hierarchy.proofs.walking.resolve.actual_in.Goals as goal

pub link_at-requires-clause-row : goal.link_at-requires-clause-row
link_at-requires-clause-row c =
    let p : IsPlacing (library_of c.args.ready.now) (Some (c.in-Some.x, c.in-Some.i)) = subst (IsPlacing (library_of c.args.ready.now)) c.in-Some.is c.requires.placing in
    omega (arith, rows_long _ c.requires.ready.holds c.args.ready.now.rows.now (library_of c.args.ready.now) c.requires.ready.links, p.0)

pub link_at-requires-clause-link : goal.link_at-requires-clause-link
link_at-requires-clause-link c = λ row e.
    let p : IsPlacing (library_of c.args.ready.now) (Some (c.in-Some.x, c.in-Some.i)) = subst (IsPlacing (library_of c.args.ready.now)) c.in-Some.is c.requires.placing in
    row_long (library_of c.args.ready.now) _ c.requires.ready.holds c.args.ready.now.rows.now c.requires.ready.links c.in-Some.x c.in-Some.i row p.1 e

pub actual_at-requires : goal.actual_at-requires
actual_at-requires c =
    let p : IsPlacing (library_of c.args.ready.now) (Some (c.in-Some.x, c.in-Some.i)) = subst (IsPlacing (library_of c.args.ready.now)) c.in-Some.is c.requires.placing in
    subst (λ e. Binds c.link_at.result.now.actuals (bindings_of e)) (sym c.element_in.ensures) (binds_at (library_of c.args.ready.now) c.args.ready.now.rows.now c.requires.ready c.in-Some.x c.in-Some.i c.link_at.result.now p.0 c.link_at.ensures)
