use Rattle.std.proofs.Common.{[], false, inl, inr, refl, sym, ◌∷◌}
use Rattle.std.proofs.lemmas.List.{append-nil}
use Rattle.std.proofs.lemmas.Result.{on_err_weaker}
use Rattle.rubis_keep.specs.Deeds.{MayRenew, StaysOld, renewal, whole}
use Rattle.rubis_keep.specs.Deeds.FolderDeed.{AnswersAnew, SetsUp}
use Rattle.rubis_keep.specs.Deeds.FolderStep.{Began, Ended}
use Rattle.rubis_keep.specs.Setups.{renewed}
use Rattle.rubis_keep.proofs.DeedFacts.{all-last, is-older, not-all}
use Rattle.rubis_keep.proofs.keep.renew.Goals as goal

-- its answers aren't to be written anew
pub returns-then-not-wanted : goal.returns-then-not-wanted
returns-then-not-wanted g c = ([], sym (append-nil _), inl (c.if-version-eq-ANSWERS.false, c.if-version-eq-KEYLESS.false, c.if-not-wanted.true, refl, refl))

-- they couldn't be
pub returns-in_err-upgrade : goal.returns-in_err-upgrade
returns-in_err-upgrade g c =
    let w = c.args.wanted.now in
    let settings = c.args.settings.now in
    let older = is-older w settings.setup settings.config false c.requires.config c.if-version-eq-ANSWERS.false c.if-version-eq-KEYLESS.false
    c.if-not-wanted.false in
    not-all (MayRenew w settings.setup) (renewal w settings.setup) (StaysOld w settings.setup) c.args.history.now.steps c.upgrade.new.history.steps
    (Began (AnswersAnew settings.config) ∷ []) c.from_residual.result _ false c.from_residual.ensures.1 c.in_err-upgrade.ensures.fault older.0
    c.in_err-upgrade.ensures.err (Ended (AnswersAnew settings.config) ∷ whole (SetsUp (renewed settings.setup) ∷ []), older.1)

-- they are
pub returns : goal.returns
returns g c =
    let w = c.args.wanted.now in
    let settings = c.args.settings.now in
    let older = is-older w settings.setup settings.config false c.requires.config c.if-version-eq-ANSWERS.false c.if-version-eq-KEYLESS.false
    c.if-not-wanted.false in
    all-last (MayRenew w settings.setup) (renewal w settings.setup) (StaysOld w settings.setup) c.args.history.now.steps c.upgrade.new.history.steps c.set_up.new.history.steps
    (whole (AnswersAnew settings.config ∷ [])) (SetsUp (renewed settings.setup)) c.set_up.result false older.0 c.in_ok-upgrade.ensures.ok older.1
    (rw c.renewed.ensures at c.set_up.ensures.ok) (on_err_weaker c.set_up.result inr (rw c.renewed.ensures at c.set_up.ensures.err)) c.set_up.ensures.fault
