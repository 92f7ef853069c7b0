use Rattle.rubis_reading.proofs.Common.{◌++◌, ap, arith, false, length, length-append, rules, subst, true, strip_bom, nat_tests}
use Rattle.rubis_engine.proofs.SeamFacts.{each-same, each-then}
use Rattle.rubis_reading.specs.Streams.{HasLooked, EndsNoRecord}
use Rattle.rubis_reading.proofs.ChunkFacts.{failed-on, filled-on, on-none}
use Rattle.rubis_reading.proofs.LookFacts.{marked-more}
use Rattle.rubis_reading.proofs.chunks.Chunks.fill.Goals as goal

pub asks-init : goal.asks-init
asks-init g c = record {
  on = each-same (λ text h. on-none _ c.args.self.now);
  none = λ h. h;
  grown = omega arith;
  looked = λ more. c.none-looked.ensures (strip_bom (c.args.self.now.held ++ more));
}

pub returns-then-held-lt-MARKED-clause-asked : goal.returns-then-held-lt-MARKED-clause-asked
returns-then-held-lt-MARKED-clause-asked g c =
    each-then c.asks.invariant.on c.in_ok-fill.ensures.asked (λ l on filled. filled-on l c.args.self.now c.asks.self
    (record { reader = c.fill.new.reader; held = c.fill.new.self; size = c.asks.self.size }) c.in_ok-fill.field-0 true on filled (λ yes. search rules))

pub returns-then-ends-clause-asked : goal.returns-then-ends-clause-asked
returns-then-ends-clause-asked g c =
    each-then c.asks.invariant.on c.in_ok-fill.ensures.asked (λ l on filled. filled-on l c.args.self.now c.asks.self
    (record { reader = c.fill.new.reader; held = c.fill.new.self; size = c.asks.self.size }) c.in_ok-fill.field-0 true on filled (λ yes. search rules))

pub returns-then-not-branch-clause-asked : goal.returns-then-not-branch-clause-asked
returns-then-not-branch-clause-asked g c =
    each-then c.asks.invariant.on c.in_ok-fill.ensures.asked (λ l on filled. filled-on l c.args.self.now c.asks.self
    (record { reader = c.fill.new.reader; held = c.fill.new.self; size = c.asks.self.size }) c.in_ok-fill.field-0 false on filled (λ no. absurd cc))

pub asks-preserved : goal.asks-preserved
asks-preserved g c =
    let put = c.in_ok-fill.ensures.put in record {
      on = each-then c.asks.invariant.on c.in_ok-fill.ensures.asked (λ l on filled. filled-on l c.args.self.now c.asks.self
          (record { reader = c.fill.new.reader; held = c.fill.new.self; size = c.asks.self.size }) c.in_ok-fill.field-0 false on filled (λ no. absurd cc));
      none = λ h. subst EndsNoRecord c.bytes-held.ensures
          (c.look_for_end-looked.ensures.none (grind (arith, nat_tests, c.ends.ensures.value, c.if-ends.false)));
      grown = omega (arith, c.asks.invariant.grown, ap length put.behind, length-append c.asks.self.held put.bytes);
      looked = λ more. subst (λ t. HasLooked (strip_bom (t ++ more)) c.look_for_end-looked.result) c.bytes-held.ensures
          (marked-more c.bytes-held.result.now more c.look_for_end-looked.result (omega (arith, c.if-held-lt-MARKED.false)) c.look_for_end-looked.ensures.looked);
    }

pub returns-in_err-fill-clause-asked : goal.returns-in_err-fill-clause-asked
returns-in_err-fill-clause-asked g c =
    each-then c.asks.invariant.on c.in_err-fill.ensures.asked (λ l on was. failed-on l c.args.self.now c.asks.self
    (record { reader = c.fill.new.reader; held = c.fill.new.self; size = c.asks.self.size }) c.from_residual.result c.in_err-fill.field-0.0
    c.from_residual.ensures.1 on c.asks.invariant.none was)
