use Rattle.std.proofs.Common.{refl}
use Rattle.rubis_engine.proofs.RunFacts.{on_ok}
use Rattle.rubis_engine.specs.Accounts.Ending.{Cut}
use Rattle.rubis_script.proofs.Common.{on_ok_weaker}
use Rattle.rubis_keys.proofs.TakeFacts.{held_keeps, leads_held, rests_there, told_nothing}
use Rattle.rubis_keys.proofs.desk.KeyedDeskService.answer_held.Goals as goal

pub returns-clause-keeps : goal.returns-clause-keeps
returns-clause-keeps g c =
    on_ok_weaker c.flush.result (λ took number. held_keeps c.args.self.now (record c.args.self.now { desk = c.flush.new.self }) _ _ number took refl) c.flush.ensures.flushed

pub returns-clause-none : goal.returns-clause-none
returns-clause-none g c =
    on_ok c.flush.result (λ number. told_nothing (record c.args.self.now { desk = c.flush.new.self }) number Cut c.flush.ensures.empty)

pub returns-clause-rests : goal.returns-clause-rests
returns-clause-rests g c = on_ok c.flush.result (λ number. rests_there (record c.args.self.now { desk = c.flush.new.self }) number c.flush.ensures.empty)

pub returns-clause-leads : goal.returns-clause-leads
returns-clause-leads g c =
    on_ok_weaker c.flush.result (λ took. leads_held c.args.self.now (record c.args.self.now { desk = c.flush.new.self }) _ _ took refl) c.flush.ensures.flushed
