use Rattle.rubis_script.proofs.Common.{on_ok_weaker, Cut}
use Rattle.rubis_engine.proofs.RunFacts.{on_ok}
use Rattle.rubis_script.proofs.DeskFacts.{leads-settled}
use Rattle.rubis_script.proofs.EndFacts.{rests-there, told-nothing}
use Rattle.rubis_script.proofs.desk.DeskService.answer_held.Goals as goal

pub returns-clause-same : goal.returns-clause-same
returns-clause-same g c = λ i. (c.flush.ensures.same.0 i, c.flush.ensures.same.1 i)

pub returns-clause-keeps : goal.returns-clause-keeps
returns-clause-keeps g c = on_ok_weaker c.flush.result (λ took. took.text) c.flush.ensures.flushed

pub returns-clause-none : goal.returns-clause-none
returns-clause-none g c = on_ok c.flush.result (λ number. told-nothing c.flush.new.self number Cut c.flush.ensures.empty)

pub returns-clause-rests : goal.returns-clause-rests
returns-clause-rests g c = on_ok c.flush.result (λ number. rests-there c.flush.new.self number c.flush.ensures.empty)

pub returns-clause-leads : goal.returns-clause-leads
returns-clause-leads g c = on_ok_weaker c.flush.result (λ took. leads-settled c.args.self.now c.flush.new.self took.leads) c.flush.ensures.flushed
