use Rattle.std.proofs.Common.{rules}
use Rattle.rubis_crew.proofs.both.Both.stay.Goals.{in-Nothing, in_default}
use Rattle.rubis_crew.proofs.both.Both.stay.Goals as goal

pub returns-then-eq-clause-once : goal.returns-then-eq-clause-once
returns-then-eq-clause-once g c =
    let was = c.loop.invariant.once in
    let once = c.help.ensures.once in
    elim c.match-help.branch [
      | in-Nothing w ↦ let then = w.help_or_sleep-found.ensures.once in
          rw w.self-is (λ before h. then.0 before (once.0 before (was.0 before h)), λ before h. then.1 before (once.1 before (was.1 before h)))
      | in_default w ↦ rw w.self-is (λ before h. once.0 before (was.0 before h), λ before h. once.1 before (was.1 before h))
    ]

pub loop-preserved : goal.loop-preserved
loop-preserved g c =
    let was = c.loop.invariant.once in
    let once = c.help.ensures.once in
    record {
      next = search rules;
      ends = search rules;
      at = search rules;
      once = elim c.match-help.branch [
        | in-Nothing w ↦ let then = w.help_or_sleep-found.ensures.once in
            rw w.self-is (λ before h. then.0 before (once.0 before (was.0 before h)), λ before h. then.1 before (once.1 before (was.1 before h)))
        | in_default w ↦ rw w.self-is (λ before h. once.0 before (was.0 before h), λ before h. once.1 before (was.1 before h))
      ];
    }
