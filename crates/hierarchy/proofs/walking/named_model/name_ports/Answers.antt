use Rattle.std.proofs.Common.{◌≡◌, subst}
use Rattle.std.specs.Prelude.{IfOk, OnOk, IfErr}
use Rattle.std.specs.Str.{bytes_eq}
use Rattle.indexmap.specs.IndexMap.{get}
use Rattle.hierarchy.specs.Private.Naming.{AreNamed, IsNamingFault}
use Rattle.hierarchy.specs.Private.Walk.{levels_of, library_of}
use Rattle.hierarchy.proofs.WholeModel.{main_levels, main_nets, main_texts}
use Rattle.hierarchy.proofs.walking.named_model.name_ports.Goals as goal

pub returns-clause-text : goal.returns-clause-text
returns-clause-text c = subst (λ ns. IfOk c.name_nets.result (λ found. found.items ≡ ns)) (main_texts (levels_of (library_of c.args.ready.now) c.in_ok-walk.walk) c.args.names.now (main_levels (library_of c.args.ready.now) c.in_ok-walk.walk c.in_ok-walk.ensures.frames)) c.name_nets.ensures.text

pub returns-clause-named : goal.returns-clause-named
returns-clause-named c = subst (λ nets. OnOk c.name_nets.result (AreNamed (get bytes_eq c.args.texts.now) (get bytes_eq c.name_nets.new.texts) nets)) (main_nets (levels_of (library_of c.args.ready.now) c.in_ok-walk.walk) c.args.names.now (main_levels (library_of c.args.ready.now) c.in_ok-walk.walk c.in_ok-walk.ensures.frames)) c.name_nets.ensures.named

pub returns-clause-fault : goal.returns-clause-fault
returns-clause-fault c = subst (λ nets. IfErr c.name_nets.result (λ fault. IsNamingFault (get bytes_eq c.args.texts.now) nets fault)) (main_nets (levels_of (library_of c.args.ready.now) c.in_ok-walk.walk) c.args.names.now (main_levels (library_of c.args.ready.now) c.in_ok-walk.walk c.in_ok-walk.ensures.frames)) c.name_nets.ensures.fault
