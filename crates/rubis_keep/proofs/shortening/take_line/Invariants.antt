use Rattle.rubis_keep.proofs.Common.{input_records, Some}
use Rattle.rubis_engine.specs.Reading.{bytes_left}
use Rattle.rubis_keys.specs.Desks.{standing_at}
use Rattle.rubis_keep.proofs.ShortenFacts.{SoFar}
use Rattle.rubis_keep.proofs.shortening.take_line.Given as goal

abbrev pub invariant-turns : goal.invariant-turns
invariant-turns g l = SoFar (λ s. Some s.now) l.records (input_records l.line) l.knows_keys l.fn.desk.desk.site.place l.desk.desk.site.place
    (standing_at l.fn.desk) (standing_at l.desk) l.changed

abbrev pub decreases-turns : goal.decreases-turns
decreases-turns g l = bytes_left (λ s. Some s.now) l.records
