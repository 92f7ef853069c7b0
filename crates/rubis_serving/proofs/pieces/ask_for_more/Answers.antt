use Rattle.std.proofs.Common.{◌≡◌, arith, rules}
use Rattle.rubis_reading.specs.declared.buffer.ChunkFault.TheVariants.{Read}
use Rattle.rubis_engine.proofs.RunFacts.{ends_on}
use Rattle.rubis_engine.proofs.SeamFacts.{each-same, each-so}
use Rattle.rubis_reading.proofs.ChunkFacts.{failed-short}
use Rattle.rubis_serving.proofs.GoFacts.{goes-torn}
use Rattle.rubis_serving.proofs.ServedFacts.{moves-kept}
use Rattle.rubis_serving.proofs.pieces.ask_for_more.Goals as goal

pub returns-in_err-settle-clause-more : goal.returns-in_err-settle-clause-more
returns-in_err-settle-clause-more g c =
    each-same (λ text h. ends_on _ _ c.from_residual.result c.in_err-settle.field-0.0 c.from_residual.ensures absurd absurd
    (λ torn later pending. torn.torn later) c.in_err-settle.ensures.settled)

pub returns-in-Ok-clause-last : goal.returns-in-Ok-clause-last
returns-in-Ok-clause-last g c = let count = c.in_ok-settle.ensures.settled.0.count in (omega (arith, count), c.in-Ok.ensures.last)

pub returns-in-Ok-clause-more : goal.returns-in-Ok-clause-more
returns-in-Ok-clause-more g c =
    each-so (λ l on. (moves-kept on.pending on.come c.in_ok-settle.ensures.settled.0, on.nearer)) c.in-Ok.ensures.asked

pub returns-in-Err-Read-clause-more : goal.returns-in-Err-Read-clause-more
returns-in-Err-Read-clause-more g c =
    let read : c.in-Err-Read.field-0 ≡ Read = search rules in
    let (goes, settled) = c.in_ok-settle.ensures.settled in
    each-so (λ l asked. let failed = failed-short l c.args.chunks.now c.fill.new.self c.in-Err-Read.field-0 read asked in
    record { moves = moves-kept failed.pending failed.come goes; settled = settled; none = failed.none c.requires.none }) c.in-Err-Read.ensures.asked

pub returns-in-Err-Memory-clause-more : goal.returns-in-Err-Memory-clause-more
returns-in-Err-Memory-clause-more g c =
    each-so (λ l asked later pending.
    goes-torn g.met.O.Outlet.laws c.settle.new.outlet later c.in_ok-settle.ensures.settled.0 (g.met.O.Outlet.laws.torn_none _ c.settle.new.outlet))
    c.in-Err-Memory.ensures.asked
