use Rattle.std.proofs.Common.{[], inr, refl, ◌++◌, ◌∷◌}
use Rattle.std.proofs.lemmas.Result.{on_err_weaker}
use Rattle.rubis_keep.specs.Deeds.{MayLeaveOut, StaysKeyed, whole, without_keys}
use Rattle.rubis_keep.specs.Deeds.FolderDeed.{SetsUp}
use Rattle.rubis_keep.specs.Setups.{renewed}
use Rattle.rubis_keep.proofs.DeedFacts.{all-last, not-first}
use Rattle.rubis_keep.proofs.keep.renew_keyless.Goals as goal

pub returns-in_err-leave_keys_out : goal.returns-in_err-leave_keys_out
returns-in_err-leave_keys_out g c =
    let more = whole (SetsUp (renewed c.args.settings.now.setup) ∷ []) in
    not-first (MayLeaveOut c.args.wanted.now) (MayLeaveOut c.args.wanted.now) (without_keys c.args.settings.now.config)
    (λ keys. without_keys c.args.settings.now.config keys ++ more) (StaysKeyed c.args.wanted.now) (StaysKeyed c.args.wanted.now)
    c.args.history.now.steps c.leave_keys_out.new.history.steps c.from_residual.result _ c.from_residual.ensures.1
    c.in_err-leave_keys_out.ensures (λ steps h. h) (λ keys m. (m, more, refl))

pub returns : goal.returns
returns g c =
    let done = c.in_ok-leave_keys_out.ensures in
    all-last (MayLeaveOut c.args.wanted.now) (λ keys. without_keys c.args.settings.now.config keys ++ whole (SetsUp (renewed c.args.settings.now.setup) ∷ []))
    (StaysKeyed c.args.wanted.now) c.args.history.now.steps c.leave_keys_out.new.history.steps c.set_up.new.history.steps
    (without_keys c.args.settings.now.config done.0) (SetsUp (renewed c.args.settings.now.setup)) c.set_up.result done.0 done.1 done.2 refl
    (rw c.renewed.ensures at c.set_up.ensures.ok) (on_err_weaker c.set_up.result inr (rw c.renewed.ensures at c.set_up.ensures.err)) c.set_up.ensures.fault
