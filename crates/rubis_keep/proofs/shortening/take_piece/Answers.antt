use Rattle.rubis_keep.proofs.Common.{◌∙◌, ◌++◌, [], ◌+◌, arith, refl, rules, subst, sym, take, append-nil, take_all}
use Rattle.rubis_keys.specs.Desks.{standing_at}
use Rattle.rubis_keep.specs.Lines.{HasSoundLines}
use Rattle.rubis_keep.specs.Shortened.{IsShort}
use Rattle.rubis_keep.proofs.ShortenFacts.{at-place, done_more, front-sound}
use Rattle.rubis_keep.proofs.shortening.take_piece.Goals as goal

pub loop-byte-init : goal.loop-byte-init
loop-byte-init g c = record {
  place = refl;
  short = λ s done told sound h. subst
      (λ d. IsShort c.args.knows_keys c.args.desk.now.desk.site.place s d c.args.line.now.items (told ++ c.args.text.now.items) (standing_at c.args.desk.now)) (sym (append-nil done)) h;
}

pub loop-byte-preserved : goal.loop-byte-preserved
loop-byte-preserved g c =
    let i = c.loop-byte.byte-index in
    let piece = c.args.piece.now in
    record {
      place = c.in_ok-take_next.ensures.place ∙ c.loop-byte.invariant.place;
      short = λ s done told sound h.
          let more = done_more done piece i (search rules) in
          subst (λ d. IsShort c.args.knows_keys c.args.desk.now.desk.site.place s d c.take_next.new.line.items (told ++ c.take_next.new.text.items) (standing_at c.take_next.new.desk))
          (sym more) (at-place _ _ _ _ c.loop-byte.invariant.place
          (c.in_ok-take_next.ensures.short s (done ++ take i piece) told (subst (HasSoundLines []) more (front-sound done piece (i + 1) sound)))
          (c.loop-byte.invariant.short s done told sound h));
    }

pub returns-clause-short : goal.returns-clause-short
returns-clause-short g c s done told sound h =
    let all = take_all c.loop-byte.byte-index c.args.piece.now (omega arith) in
    subst (λ t. IsShort c.args.knows_keys c.args.desk.now.desk.site.place s (done ++ t) c.loop-byte.line.items (told ++ c.loop-byte.text.items) (standing_at c.loop-byte.desk)) all
    (c.loop-byte.invariant.short s done told sound h)
