use Rattle.std.proofs.Common.{[], Some, rules}
use Rattle.rubis_keys.specs.Keys.{keyed_opening}
use Rattle.rubis_script.specs.Replica.{setup_place}
use Rattle.rubis_keep.specs.Telling.{grows-none}
use Rattle.rubis_keep.specs.declared.fault.KeepFault.TheVariants as fault
use Rattle.rubis_keep.proofs.HistoryFacts.{err-is, ok-of-err}
use Rattle.rubis_keep.proofs.RunFacts.{is-new, new-clerk, new-site, opened-at, runs-ended, runs-lived, runs-reply, runs-safe, runs-true, runs-unstarted}
use Rattle.rubis_keep.proofs.site.keep_site.Goals as goal

-- ---- there was no memory for the site: nothing happened

pub returns-in_err-clerk-clause-err : goal.returns-in_err-clerk-clause-err
returns-in_err-clerk-clause-err g c =
    let a = new-site (setup_place c.args.config.now) (keyed_opening c.args.config.now.site) c.args.limit c.args.answers.now.is_live
    (g.O.Read.remaining c.args.answers.now.before) in
    runs-ended c.from_residual.result _ _ _ _ {a = a} _ _ (is-new _ _ _ _ _)
    (err-is _ _ c.from_residual.result fault.Memory c.from_residual.ensures.1 (runs-unstarted _ _ _ _ _ _ fault.Memory (grows-none _) tt))

pub returns-in_err-clerk-clause-safe : goal.returns-in_err-clerk-clause-safe
returns-in_err-clerk-clause-safe g c off h kept old is o opened = rw is (([], grows-none (Some h), opened.safe))

pub returns-in_err-clerk-clause-shown : goal.returns-in_err-clerk-clause-shown
returns-in_err-clerk-clause-shown g c off h kept old is o opened = ok-of-err _ c.from_residual.result c.from_residual.ensures.0

pub returns-in_err-clerk-clause-asked : goal.returns-in_err-clerk-clause-asked
returns-in_err-clerk-clause-asked g c kept old o =
    let a = new-site (setup_place c.args.config.now) (keyed_opening c.args.config.now.site) c.args.limit c.args.answers.now.is_live
    (g.O.Read.remaining c.args.answers.now.before) in
    runs-reply c.from_residual.result _ _ _ _ {a = a} _ _ (is-new _ _ _ _ _)
    (err-is _ _ c.from_residual.result fault.Memory c.from_residual.ensures.1 (runs-unstarted _ _ _ _ _ _ fault.Memory (grows-none _) tt)) o

pub returns-in_err-clerk-clause-fault : goal.returns-in_err-clerk-clause-fault
returns-in_err-clerk-clause-fault g c kept old o =
    let a = new-site (setup_place c.args.config.now) (keyed_opening c.args.config.now.site) c.args.limit c.args.answers.now.is_live
    (g.O.Read.remaining c.args.answers.now.before) in
    runs-true c.from_residual.result _ _ _ _ {a = a} _ _ (is-new _ _ _ _ _)
    (err-is _ _ c.from_residual.result fault.Memory c.from_residual.ensures.1 (runs-unstarted _ _ _ _ _ _ fault.Memory (grows-none _) tt)) o

-- ---- it ran

pub returns-clause-ok : goal.returns-clause-ok
returns-clause-ok g c = rw (c.in_ok-clerk.ensures.site.0, c.in_ok-clerk.ensures.site.1, c.in_ok-clerk.ensures.known) at (runs-lived c.run_kept-ended.result _ _ _ _ _ _
    (new-clerk g.O.Read.remaining c.in_ok-clerk.clerk c.args.answers.now c.in_ok-clerk.ensures.fresh)
    c.run_kept-ended.ensures)

pub returns-clause-err : goal.returns-clause-err
returns-clause-err g c = rw (c.in_ok-clerk.ensures.site.0, c.in_ok-clerk.ensures.site.1, c.in_ok-clerk.ensures.known) at (runs-ended c.run_kept-ended.result _ _ _ _ _ _
    (new-clerk g.O.Read.remaining c.in_ok-clerk.clerk c.args.answers.now c.in_ok-clerk.ensures.fresh)
    c.run_kept-ended.ensures)

pub returns-clause-safe : goal.returns-clause-safe
returns-clause-safe g c off h kept old is o opened =
    rw (c.in_ok-clerk.ensures.site.0, c.in_ok-clerk.ensures.site.1, c.in_ok-clerk.ensures.known) at (runs-safe c.run_kept-ended.result _ _ _ _ h _
    (new-clerk g.O.Read.remaining c.in_ok-clerk.clerk c.args.answers.now c.in_ok-clerk.ensures.fresh) off
    (rw is at c.run_kept-ended.ensures) o (opened-at c.in_ok-clerk.ensures.site.0
    (λ i. record { site = c.in_ok-clerk.ensures.site.1 i; keys = c.in_ok-clerk.ensures.known i }) opened)).0

pub returns-clause-shown : goal.returns-clause-shown
returns-clause-shown g c off h kept old is o opened = (runs-safe c.run_kept-ended.result _ _ _ _ h _
    (new-clerk g.O.Read.remaining c.in_ok-clerk.clerk c.args.answers.now c.in_ok-clerk.ensures.fresh) off
    (rw is at c.run_kept-ended.ensures) o (opened-at c.in_ok-clerk.ensures.site.0
    (λ i. record { site = c.in_ok-clerk.ensures.site.1 i; keys = c.in_ok-clerk.ensures.known i }) opened)).1

pub returns-clause-asked : goal.returns-clause-asked
returns-clause-asked g c kept old o = rw (c.in_ok-clerk.ensures.site.0, c.in_ok-clerk.ensures.site.1, c.in_ok-clerk.ensures.known) at (runs-reply c.run_kept-ended.result _ _ _ _ _ _
    (new-clerk g.O.Read.remaining c.in_ok-clerk.clerk c.args.answers.now c.in_ok-clerk.ensures.fresh)
    c.run_kept-ended.ensures o)

pub returns-clause-fault : goal.returns-clause-fault
returns-clause-fault g c kept old o = rw (c.in_ok-clerk.ensures.site.0, c.in_ok-clerk.ensures.site.1, c.in_ok-clerk.ensures.known, c.in_ok-clerk.ensures.limit)
    at (runs-true c.run_kept-ended.result _ _ _ _ _ _
    (new-clerk g.O.Read.remaining c.in_ok-clerk.clerk c.args.answers.now c.in_ok-clerk.ensures.fresh)
    c.run_kept-ended.ensures o)

pub run_kept-ended-requires : goal.run_kept-ended-requires
run_kept-ended-requires g c = (
  search rules,
  (new-clerk g.O.Read.remaining c.in_ok-clerk.clerk c.args.answers.now c.in_ok-clerk.ensures.fresh).idle,
)
