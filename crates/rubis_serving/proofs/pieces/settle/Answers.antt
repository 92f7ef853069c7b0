use Rattle.std.proofs.Common.{◌+◌, []}
use Rattle.std.proofs.lemmas.Result.{on_ok_weaker}
use Rattle.rubis_engine.proofs.RunFacts.{ends_memory, ends_writer}
use Rattle.rubis_serving.proofs.GoFacts.{all-some, goes-kept, goes-more, goes-put, goes-tears, tears-none, tears-waiting}
use Rattle.rubis_serving.proofs.pieces.settle.Goals as goal

pub returns-in_err-answer_held-clause-settled : goal.returns-in_err-answer_held-clause-settled
returns-in_err-answer_held-clause-settled g c =
    ends_memory _ _ _ c.from_residual.result c.from_residual.ensures (tears-none g.met.O.Outlet.laws [] _)

pub returns-clause-settled : goal.returns-clause-settled
returns-clause-settled g c =
    let n = c.args.run.now.answered + 1 in
    let held = c.in_ok-answer_held.ensures in
    let kept = goes-kept g.met.O.Outlet.laws c.answer_held.new.self c.answer_held.new.reply.sink (held.keeps n) held.leads in
    ends_writer _ _ _ _ c.put_all.result (on_ok_weaker c.put_all.result (λ out. (
      goes-more g.met.O.Outlet.laws kept (goes-put g.met.O.Outlet.laws c.put_all.new.sink c.put_all.new.self (all-some g.O.Outlet.puts _ _ _ _ out c.put_all.ensures.empty)),
      record { empty = c.put_all.ensures.empty; none = held.none n; rests = held.rests n },
    )) c.put_all.ensures.ok)
    (λ torn. goes-tears g.met.O.Outlet.laws c.put_all.new.self kept (tears-waiting g.met.O.Outlet.laws _ c.put_all.new.self torn))
    c.put_all.ensures.err c.put_all.ensures.faults
