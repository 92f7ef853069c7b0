use Rattle.std.proofs.lemmas.Result.{on_err_weaker}
use Rattle.rubis_engine.proofs.RunFacts.{front-longer, front-second, on_err}
use Rattle.rubis_engine.proofs.sink.write_both.Goals as goal

pub returns-in_err-write_text-clause-err : goal.returns-in_err-write_text-clause-err
returns-in_err-write_text-clause-err g c = on_err c.from_residual.result (front-longer _ _ c.args.first.now c.args.second.now c.in_err-write_text.ensures.err)

pub returns-clause-err : goal.returns-clause-err
returns-clause-err g c =
    on_err_weaker c.write_text-2.result (front-second _ _ _ c.args.first.now c.args.second.now c.in_ok-write_text.ensures.ok) c.write_text-2.ensures.err
