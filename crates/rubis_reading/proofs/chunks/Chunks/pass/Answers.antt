use Rattle.rubis_reading.proofs.Common.{◌∙◌, ◌-◌, ap, arith, length, length-drop, refl, prepend_known, input_records}
use Rattle.rubis_reading.proofs.ChunkFacts.{handed-come, taken}
use Rattle.rubis_reading.proofs.chunks.Chunks.pass.Goals as goal

pub returns-clause-takes : goal.returns-clause-takes
returns-clause-takes g c left rows h =
    let known = left c.args.self.now.reader in
    let t = taken c.args.self.now.held h.bytes known c.args.many c.requires.some c.requires.within c.requires.whole h.source in (
      input_records t.0,
      h.reads ∙ t.2,
      record { bytes = t.0; source = ap (λ held. prepend_known held known) c.pass.ensures ∙ t.1; reads = refl },
    )

pub returns-clause-come : goal.returns-clause-come
returns-clause-come g c left input h =
    handed-come left c.args.self.now (record { reader = c.args.self.now.reader; held = c.pass.new.self; size = c.args.self.now.size }) c.args.many input
    refl c.pass.ensures c.requires.some c.requires.within c.requires.whole h

pub returns-clause-nearer : goal.returns-clause-nearer
returns-clause-nearer g c rem left e =
    let held = c.args.self.now.held in
    (left, e, omega (arith, ap length c.pass.ensures, length-drop (c.args.many - 1) held, c.requires.within))
