use Rattle.std.proofs.Common.{[], inl, refl, rules, subst, sym, ◌≡◌, ◌∙◌}
use Rattle.rubis_keep.specs.Deeds.{AreSettings, Serves, service, setup_for}
use Rattle.rubis_keep.specs.declared.setup.Setup.{Setup}
use Rattle.rubis_keep.proofs.HistoryFacts.{err-is}
use Rattle.rubis_keep.proofs.DeedFacts.{is-fit, keeps-served, keeps-unprepared, none-more, stops-failed}
use Rattle.rubis_keep.proofs.keep.keep_found.Goals as goal

-- it couldn't be found
pub returns-in_err-found : goal.returns-in_err-found
returns-in_err-found g c = (
  [],
  none-more _ _ c.in_err-found.ensures.err,
  err-is _ _ c.from_residual.result _ c.from_residual.ensures.1
      (stops-failed c.args.wanted.now [] _ c.in_err-found.ensures.fault (inl refl)),
)

-- it isn't prepared
pub returns-in_err-prepare : goal.returns-in_err-prepare
returns-in_err-prepare g c =
    let w = c.args.wanted.now in
    let found = c.in_ok-found.found in
    let settings = c.in_ok-settings.settings in
    let setup : c.unwrap_or.result ≡ setup_for w found = search rules in
    let is = subst (λ (s : Setup). AreSettings w s settings) setup c.in_ok-settings.ensures.settings in
    keeps-unprepared w found c.args.history.now.steps c.find.new.history.steps c.prepare.new.history.steps c.from_residual-in_err-prepare.result _
    (is-fit w found settings (sym c.lacks.ensures ∙ c.if-lacks.false) is) c.in_ok-found.ensures.ok c.from_residual-in_err-prepare.ensures.1 c.in_err-prepare.ensures

pub returns : goal.returns
returns g c =
    let w = c.args.wanted.now in
    let found = c.in_ok-found.found in
    let settings = c.in_ok-settings.settings in
    let setup : c.unwrap_or.result ≡ setup_for w found = search rules in
    let is = subst (λ (s : Setup). AreSettings w s settings) setup c.in_ok-settings.ensures.settings in
    keeps-served w found c.args.history.now.steps c.find.new.history.steps c.prepare.new.history.steps c.serve.new.history.steps c.serve.result
    (is-fit w found settings (sym c.lacks.ensures ∙ c.if-lacks.false) is) c.in_ok-found.ensures.ok c.in_ok-prepare.ensures
    (subst (λ (s : Setup). Serves (service w s) c.prepare.new.history.steps c.serve.new.history.steps c.serve.result) is.setup c.serve.ensures)
