use Rattle.rubis_keep.proofs.Common.{◌∙◌, ◌++◌, ap, refl, on_ok_weaker}
use Rattle.rubis_engine.proofs.RunFacts.{on_err}
use Rattle.rubis_keep.proofs.HistoryFacts.{err-weaker}
use Rattle.rubis_keep.proofs.PutFacts.{put-from, torn-from}
use Rattle.rubis_keep.specs.Outlets.{torn-none}
use Rattle.rubis_keep.proofs.answers.AnswersOutlet.put_all.Goals as goal

pub returns-in_err-drain-clause-err : goal.returns-in_err-drain-clause-err
returns-in_err-drain-clause-err g c =
    on_err c.from_residual.result (torn-from _ _ c.args.self.now _ _ refl refl (torn-none c.args.sink.now _))

pub returns-clause-ok : goal.returns-clause-ok
returns-clause-ok g c =
    on_ok_weaker c.put_text.result (λ put. put-from _ c.args.sink.now c.args.self.now _ c.put_text.new.self refl
    (c.in_ok-drain.ensures.ok ∙ ap (λ t. t ++ c.args.sink.now) c.clear.ensures.items) put) c.put_text.ensures.ok

pub returns-clause-err : goal.returns-clause-err
returns-clause-err g c =
    err-weaker c.put_text.result (λ torn. torn-from _ c.args.sink.now c.args.self.now _ c.put_text.new.self refl
    (c.in_ok-drain.ensures.ok ∙ ap (λ t. t ++ c.args.sink.now) c.clear.ensures.items) torn) c.put_text.ensures.err
