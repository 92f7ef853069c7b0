use Rattle.rubis_keep.proofs.Common.{◌≡◌, [], ℕ, List, Appends, Consumes}
use Rattle.rubis_keys.specs.Desks.{standing_at}
use Rattle.rubis_keep.specs.Lines.{HasSoundLines}
use Rattle.rubis_keep.specs.Shortened.{IsShort}
use Rattle.rubis_keep.proofs.shortening.shorten_at.Given as goal

abbrev pub invariant-loop-turn : goal.invariant-loop-turn
invariant-loop-turn g l = record {
  next : (goal.iterator-loop-turn g).can_next l._turn-iterator;
  ends : (goal.iterator-loop-turn g).is_finite l._turn-iterator;
  place : l.desk.desk.site.place ≡ l.fn.desk.desk.site.place;
  come : (bytes told : List ℕ) × Consumes (g.P.Read.remaining l.fn.past) (g.P.Read.remaining l.past) bytes
      × Appends (g.W.Write.contents l.fn.fresh) (g.W.Write.contents l.fresh) told
      × (HasSoundLines [] bytes → IsShort l.knows_keys l.fn.desk.desk.site.place (standing_at l.fn.desk) bytes l.line.items told (standing_at l.desk));
}
