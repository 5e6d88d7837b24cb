use Rattle.tmr_top.proofs.RunClauses.{usage, usage_only, fault, refused, refused_only, not_accepted, not_accepted_only, done, otherwise, complete, complete_steady, missing_only, untouched, load_failed}
use Rattle.tmr_words.specs.Words.{texts}
use Rattle.tmr_words.proofs.LineLaws.{two_names, name_apart}
use Rattle.tmr_top.proofs.LeaveLaws.{leaves}
use Rattle.tmr_top.proofs.GuardLeaves.{guards}
use Rattle.tmr_top.proofs.CertifyLeaves.{certifies}
use Rattle.tmr_top.proofs.program.run.Goals as goal

pub returns-clause-usage : goal.returns-clause-usage
returns-clause-usage g c = usage _ _ _ _ _ _ c.decide_and_put.ensures.ran

pub returns-clause-usage_only : goal.returns-clause-usage_only
returns-clause-usage_only g c = usage_only _ _ _ _ _ _ c.decide_and_put.ensures.ran

pub returns-clause-fault : goal.returns-clause-fault
returns-clause-fault g c = fault _ _ _ _ _ _ c.decide_and_put.ensures.ran

pub returns-clause-missing_only : goal.returns-clause-missing_only
returns-clause-missing_only g c = missing_only _ _ _ _ _ _ c.decide_and_put.ensures.ran

pub returns-clause-refused : goal.returns-clause-refused
returns-clause-refused g c = refused _ _ _ _ _ _ c.decide_and_put.ensures.ran

pub returns-clause-refused_only : goal.returns-clause-refused_only
returns-clause-refused_only g c = refused_only _ _ _ _ _ _ c.decide_and_put.ensures.ran

pub returns-clause-not_accepted : goal.returns-clause-not_accepted
returns-clause-not_accepted g c = not_accepted _ _ _ _ _ _ c.decide_and_put.ensures.ran

pub returns-clause-not_accepted_only : goal.returns-clause-not_accepted_only
returns-clause-not_accepted_only g c = not_accepted_only _ _ _ _ _ _ c.decide_and_put.ensures.ran

pub returns-clause-done : goal.returns-clause-done
returns-clause-done g c = done _ _ _ _ _ _ c.decide_and_put.ensures.ran

pub returns-clause-complete : goal.returns-clause-complete
returns-clause-complete g c = complete _ _ _ _ _ _ c.decide_and_put.ensures.ran

pub returns-clause-complete_steady : goal.returns-clause-complete_steady
returns-clause-complete_steady g c = λ files out. complete_steady _ _ _ _ _ _ c.decide_and_put.ensures.ran (c.decide_and_put.ensures.missing files out)

pub returns-clause-untouched : goal.returns-clause-untouched
returns-clause-untouched g c = untouched _ _ _ _ _ _ c.decide_and_put.ensures.ran

pub returns-clause-load_failed : goal.returns-clause-load_failed
returns-clause-load_failed g c = load_failed _ (g.F.Files.seen c.args.files.now) (g.F.Files.seen c.decide_and_put.new.files) c.decide_and_put.ensures.load_failed

pub returns-clause-otherwise : goal.returns-clause-otherwise
returns-clause-otherwise g c = otherwise _ _ _ _ _ _ c.decide_and_put.ensures.ran

pub returns-clause-hardens : goal.returns-clause-hardens
returns-clause-hardens g c = λ w is e. leaves _ w (g.F.Files.seen c.args.files.now) (g.F.Files.seen c.decide_and_put.new.files) is (two_names (texts c.args.words.now) w is) (done _ _ _ _ _ _ c.decide_and_put.ensures.ran e)

pub returns-clause-guards : goal.returns-clause-guards
returns-clause-guards g c = λ w is e. guards _ w (g.F.Files.seen c.args.files.now) (g.F.Files.seen c.decide_and_put.new.files) is (done _ _ _ _ _ _ c.decide_and_put.ensures.ran e)

pub returns-clause-certifies : goal.returns-clause-certifies
returns-clause-certifies g c = λ w is e. certifies _ w (g.F.Files.seen c.args.files.now) (g.F.Files.seen c.decide_and_put.new.files) is (name_apart (texts c.args.words.now) w is) (done _ _ _ _ _ _ c.decide_and_put.ensures.ran e)
