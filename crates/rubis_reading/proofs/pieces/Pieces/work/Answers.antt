use Rattle.rubis_reading.proofs.Common.{refl, subst, IsBack, LeadState}
use Rattle.rubis_reading.specs.declared.readings.Reading.{Reading}
use Rattle.rubis_reading.proofs.PieceFacts.{of_put}
use Rattle.rubis_reading.proofs.pieces.Pieces.work.Goals as goal

pub returns-in-Some-clause-pieces : goal.returns-in-Some-clause-pieces
returns-in-Some-clause-pieces g c text h =
    let (job, back, worked) = c.in-Some.ensures.back in
    of_put text c.args.self.now _ c.in-Some.back job h back worked refl refl refl refl c.put.ensures

pub returns-in-Some-work-clause-pieces : goal.returns-in-Some-work-clause-pieces
returns-in-Some-work-clause-pieces g c text h =
    let (job, back, worked) = c.in-Some-work.ensures.back in
    let was = subst (λ (l : LeadState Reading). IsBack l (record { number = c.in-Some-work.back.number; job = job }) c.work.new.lead) c.in_default.ensures.none back in
    of_put text c.args.self.now _ c.in-Some-work.back job h was worked refl refl refl refl c.put-in-Some-work.ensures
