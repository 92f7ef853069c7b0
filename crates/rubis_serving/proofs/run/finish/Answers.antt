use Rattle.std.proofs.Common.{[], arith}
use Rattle.rubis_engine.specs.Accounts.Ending.{AtEnd}
use Rattle.rubis_engine.proofs.RunFacts.{ends_on, ends_so}
use Rattle.rubis_engine.proofs.SeamFacts.{each-same}
use Rattle.rubis_reading.proofs.PieceFacts.{match-none, match-some}
use Rattle.rubis_serving.specs.Serving.{Closes, Fills, at, coming, serving}
use Rattle.rubis_serving.proofs.GoFacts.{closes-within, fills-sooner, goes-closes, goes-torn}
use Rattle.rubis_serving.proofs.ServedFacts.{last-each}
use Rattle.rubis_serving.proofs.run.finish.Goals as goal

pub returns-in_err-count-clause-ended : goal.returns-in_err-count-clause-ended
returns-in_err-count-clause-ended g c =
    each-same (λ input whole.
    let k = serving g.S.Service.account g.S.Service.leads g.O.Outlet.puts g.O.Outlet.tears in
    let x = at c.args.service.now c.args.run.now c.args.outlet.now in
    let y = at c.answer_piece.new.service c.answer_piece.new.run c.answer_piece.new.outlet in
    let each = last-each c.args.chunks.now input c.held.result.now in
    ends_on _ _ c.from_residual.result c.in_err-count.field-0.0 c.from_residual.ensures
    (λ long. each (λ r. Fills k c.args.limit r x y) c.requires.last whole c.held.ensures (fills-sooner long [])) absurd
    (λ torn. each (λ r. k.tears (coming k x AtEnd r) x.outlet y.outlet) c.requires.last whole c.held.ensures (torn.torn [])) c.in_err-count.ensures.answered)

pub returns-in-Some-clause-ended : goal.returns-in-Some-clause-ended
returns-in-Some-clause-ended g c =
    each-same (λ input whole.
    let k = serving g.S.Service.account g.S.Service.leads g.O.Outlet.puts g.O.Outlet.tears in
    let x = at c.args.service.now c.args.run.now c.args.outlet.now in
    last-each c.args.chunks.now input c.held.result.now
    (λ r. Closes k c.args.limit r x c.answer_piece.new.service c.answer_piece.new.outlet c.in-Some.count.records) c.requires.last whole c.held.ensures
    (match-some _ _ _ c.in-Some.count c.in_ok-count.ensures.answered c.in-Some.is []))

pub returns-clause-ended : goal.returns-clause-ended
returns-clause-ended g c =
    each-same (λ input whole.
    let k = serving g.S.Service.account g.S.Service.leads g.O.Outlet.puts g.O.Outlet.tears in
    let x = at c.args.service.now c.args.run.now c.args.outlet.now in
    let each = last-each c.args.chunks.now input c.held.result.now in
    let (within, goes) = match-none _ _ _ c.in_ok-count.ensures.answered c.in_default.is in
    ends_so c.end.result
    (λ count over.
    let few = over.within in
    each (λ r. Closes k c.args.limit r x c.end.new.service c.end.new.outlet count.records) c.requires.last whole c.held.ensures
    (goes-closes g.met.O.Outlet.laws goes (closes-within (omega (arith, few, within)) over))) absurd absurd
    (λ torn. each (λ r. k.tears (coming k x AtEnd r) x.outlet c.end.new.outlet) c.requires.last whole c.held.ensures
    (goes-torn g.met.O.Outlet.laws c.end.new.outlet [] goes torn)) c.end.ensures.ended)
