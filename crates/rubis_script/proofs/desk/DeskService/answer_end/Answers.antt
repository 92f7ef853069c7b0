use Rattle.rubis_script.proofs.Common.{◌∙◌, [], ◌++◌, ap, append-nil, on_ok_weaker, AtEnd}
use Rattle.rubis_script.proofs.DeskFacts.{leads-settled}
use Rattle.rubis_script.proofs.EndFacts.{rests-there, told-nothing}
use Rattle.rubis_script.proofs.desk.DeskService.answer_end.Goals as goal

pub returns-clause-same : goal.returns-clause-same
returns-clause-same g c = λ i. (c.flush.ensures.same.0 i, c.flush.ensures.same.1 i)

pub returns-clause-text : goal.returns-clause-text
returns-clause-text g c =
    let sink = c.flush.new.reply.sink in
    on_ok_weaker c.flush.result
    (λ took number. (took.text number []).0 AtEnd ∙ ap (λ t. sink ++ t) (told-nothing c.flush.new.self number AtEnd c.flush.ensures.empty) ∙ append-nil sink)
    c.flush.ensures.flushed

pub returns-clause-leads : goal.returns-clause-leads
returns-clause-leads g c =
    on_ok_weaker c.flush.result
    (λ took number. leads-settled c.args.self.now c.flush.new.self took.leads number [] c.flush.new.self (rests-there c.flush.new.self number c.flush.ensures.empty))
    c.flush.ensures.flushed
