use Rattle.std.proofs.Common.{◌∙◌, ◌++◌, [], ap, append-nil, refl}
use Rattle.rubis_engine.specs.Accounts.Ending.{AtEnd}
use Rattle.rubis_script.proofs.Common.{on_ok_weaker}
use Rattle.rubis_keys.proofs.TakeFacts.{held_keeps, leads_held, rests_there, told_nothing}
use Rattle.rubis_keys.proofs.desk.KeyedDeskService.answer_end.Goals as goal

pub returns-clause-text : goal.returns-clause-text
returns-clause-text g c =
    let new = record c.args.self.now { desk = c.flush.new.self } in
    let sink = c.flush.new.reply.sink in
    on_ok_weaker c.flush.result
    (λ took number. (held_keeps c.args.self.now new _ _ number took refl []).0 AtEnd
    ∙ ap (λ t. sink ++ t) (told_nothing new number AtEnd c.flush.ensures.empty) ∙ append-nil sink) c.flush.ensures.flushed

pub returns-clause-leads : goal.returns-clause-leads
returns-clause-leads g c =
    let new = record c.args.self.now { desk = c.flush.new.self } in
    on_ok_weaker c.flush.result
    (λ took number. leads_held c.args.self.now new _ _ took refl number [] new (rests_there new number c.flush.ensures.empty)) c.flush.ensures.flushed
