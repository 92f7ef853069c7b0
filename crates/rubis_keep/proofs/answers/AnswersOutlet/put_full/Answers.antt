use Rattle.rubis_keep.proofs.Common.{[], refl, on_ok_weaker}
use Rattle.rubis_serving.proofs.GoFacts.{all-some}
use Rattle.rubis_keep.specs.Turns.{HasPut}
use Rattle.rubis_keep.specs.Outlets.{put-none}
use Rattle.rubis_keep.proofs.answers.AnswersOutlet.put_full.Goals as goal

pub returns-then-is_full-clause-ok : goal.returns-then-is_full-clause-ok
returns-then-is_full-clause-ok g c =
    on_ok_weaker c.put_all.result (λ put. all-some (HasPut g.O.Read.remaining g.F.SiteFiles.history) _ _ _ _ put c.put_all.ensures.empty) c.put_all.ensures.ok

pub returns-clause-ok : goal.returns-clause-ok
returns-clause-ok g c = ([], put-none c.args.self.now, refl)
