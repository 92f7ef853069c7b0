use Rattle.rubis_audit.proofs.Common.{refl, input_records, if_ok_so}
use Rattle.rubis_audit.proofs.CheckFacts.{begun, if_err_so, if_some_so}
use Rattle.rubis_audit.proofs.checker.run_check.Goals as goal

pub returns-clause-done : goal.returns-clause-done
returns-clause-done g c =
    let rem = g.R.Read.remaining in
    if_ok_so _ _ c.check_all.result (λ ended whole.
    if_some_so (rem c.args.reader) c.new.ensures (λ input gives.
    whole c.args.grammar c.args.sites _ (input_records input) (begun rem _ _ (input_records input) gives refl refl c.new-2.ensures))) c.check_all.ensures.done

pub returns-clause-broke : goal.returns-clause-broke
returns-clause-broke g c =
    let rem = g.R.Read.remaining in
    if_err_so _ _ c.check_all.result (λ ended whole.
    if_some_so (rem c.args.reader) c.new.ensures (λ input gives.
    whole c.args.grammar c.args.sites _ (input_records input) (begun rem _ _ (input_records input) gives refl refl c.new-2.ensures))) c.check_all.ensures.broke
