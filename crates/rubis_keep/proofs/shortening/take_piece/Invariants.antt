use Rattle.rubis_keep.proofs.Common.{◌≡◌, ◌++◌, [], ℕ, List, take, KeyedSite}
use Rattle.rubis_keys.specs.Desks.{standing_at}
use Rattle.rubis_keep.specs.Lines.{HasSoundLines}
use Rattle.rubis_keep.specs.Shortened.{IsShort}
use Rattle.rubis_keep.proofs.shortening.take_piece.Given as goal

abbrev pub invariant-loop-byte : goal.invariant-loop-byte
invariant-loop-byte g l = record {
  place : l.desk.desk.site.place ≡ l.fn.desk.desk.site.place;
  short : (s : KeyedSite) (done told : List ℕ) → HasSoundLines [] (done ++ l.piece)
      → IsShort l.knows_keys l.fn.desk.desk.site.place s done l.fn.line.items (told ++ l.fn.text.items) (standing_at l.fn.desk)
      → IsShort l.knows_keys l.fn.desk.desk.site.place s (done ++ take l.byte-index l.piece) l.line.items (told ++ l.text.items) (standing_at l.desk);
}
