use Rattle.rubis_reading.specs.Readings.{all_came, flat}
use Rattle.rubis_reading.proofs.Common.{◌≡◌, ◌++◌, arith, refl, false, rules, subst, sym, true, Advances, IsInput}
use Rattle.rubis_reading.proofs.PieceFacts.{HasInputs, inputs-ends, inputs-starts, inputs-step}
use Rattle.rubis_reading.proofs.stretches.read_all.Goals as goal

pub steps-init : goal.steps-init
steps-init g c = record {
  parsed = λ rows gives.
      inputs-starts g.R.Read.remaining c.args.records.now c.args.sites rows (flat c.args.list.now.items ++ all_came c.args.messages.now.items)
      (rw (c.requires.none.0, c.requires.none.1) refl) gives;
  window = rw (c.requires.none.0, c.requires.none.1) (tt, λ some. omega arith);
}

pub returns-then-not-found : goal.returns-then-not-found
returns-then-not-found g c =
    let none : c.in-Ok.found ≡ false = search rules in
    let takes = subst (λ found. Advances g.R.Read.remaining c.steps.records c.advance.new.self found) none c.in-Ok.ensures.takes in
    record {
      parsed = λ rows gives. inputs-ends g.R.Read.remaining c.steps.records c.advance.new.self c.args.sites rows
          (flat c.steps.list.items ++ all_came c.steps.messages.items) (c.steps.invariant.parsed rows gives) takes;
      window = c.steps.invariant.window;
    }

pub steps-preserved : goal.steps-preserved
steps-preserved g c =
    let some : c.in-Ok.found ≡ true = search rules in
    let takes = subst (λ found. Advances g.R.Read.remaining c.steps.records c.advance.new.self found) some c.in-Ok.ensures.takes in
    let one = subst (λ fields. IsInput c.args.sites fields c.in_ok-input.input) c.fields.ensures c.in_ok-input.ensures in
    record {
      parsed = λ rows gives. subst (λ items. HasInputs g.R.Read.remaining c.advance.new.self c.args.sites rows items) (sym c.in_ok-keep.ensures.records)
          (inputs-step g.R.Read.remaining c.steps.records c.advance.new.self c.args.sites rows
          (flat c.steps.list.items ++ all_came c.steps.messages.items) c.in_ok-input.input (c.steps.invariant.parsed rows gives) takes one);
      window = c.in_ok-keep.ensures.window;
    }

pub steps-smaller : goal.steps-smaller
steps-smaller g c =
    let some : c.in-Ok.found ≡ true = search rules in
    let (rows, gives) = c.requires.known in
    let come = c.steps.invariant.parsed rows gives in
    c.in-Ok.ensures.nearer some come.rest come.gives
