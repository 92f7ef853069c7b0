use Rattle.std.proofs.Common.{◌+◌, arith, subst, sym}
use Rattle.rubis_engine.proofs.RunFacts.{ends_memory, ends_write}
use Rattle.rubis_serving.proofs.pieces.end.Goals as goal

pub returns-in_err-answer_end-clause-ended : goal.returns-in_err-answer_end-clause-ended
returns-in_err-answer_end-clause-ended g c =
    ends_memory _ _ _ c.from_residual.result c.from_residual.ensures (g.met.O.Outlet.laws.torn_none _ c.args.outlet.now)

pub returns-in_err-put_all-clause-ended : goal.returns-in_err-put_all-clause-ended
returns-in_err-put_all-clause-ended g c =
    let n = c.args.run.now.answered + 1 in
    ends_write _ _ _ c.from_residual-in_err-put_all.result c.in_err-put_all.field-0.0 c.from_residual-in_err-put_all.ensures c.in_err-put_all.ensures.faults
    (subst (λ t. g.O.Outlet.tears t c.args.outlet.now c.put_all.new.self) (sym (c.in_ok-answer_end.ensures.text n)) c.in_err-put_all.ensures.err)

pub returns-clause-ended : goal.returns-clause-ended
returns-clause-ended g c =
    let n = c.args.run.now.answered + 1 in
    let none = g.met.S.Service.reads_none c.args.service.now n in
    record {
      put = subst (λ t. g.O.Outlet.puts t c.args.outlet.now c.put_all.new.self) (sym (c.in_ok-answer_end.ensures.text n)) c.in_ok-put_all.ensures.ok;
      read = omega (arith, none);
      led = c.in_ok-answer_end.ensures.leads n;
      within = omega arith;
    }
