use Rattle.std.proofs.Common.{[], false, refl}
use Rattle.rubis_keep.specs.Deeds.{MayLeaveOut, StaysKeyed, without_keys}
use Rattle.rubis_keep.proofs.DeedFacts.{none-more, not-all}
use Rattle.rubis_keep.proofs.keep.leave_keys_out.Goals as goal

pub returns-in_err-find_keys : goal.returns-in_err-find_keys
returns-in_err-find_keys g c =
    not-all (MayLeaveOut c.args.wanted.now) (without_keys c.args.config.now) (StaysKeyed c.args.wanted.now) c.args.history.now.steps c.find_keys.new.history.steps []
    c.from_residual.result _ false c.from_residual.ensures.1 c.in_err-find_keys.ensures.fault (λ e. absurd (cc e))
    (none-more _ _ c.in_err-find_keys.ensures.err) (without_keys c.args.config.now false, refl)
