use Rattle.std.proofs.Common.{◌∙◌}
use Rattle.rubis_keys.specs.Maps.{known_in}
use Rattle.rubis_keep.proofs.ShortenFacts.{none-taken, plain-taken}
use Rattle.rubis_keep.proofs.shortening.take_record.Goals as goal
use Rattle.rubis_keep.proofs.shortening.take_record.Goals.{in-AskedUnder+else-knows_keys, in-CameUnder+else-knows_keys-2}

pub returns-in-Plain-clause-takes : goal.returns-in-Plain-clause-takes
returns-in-Plain-clause-takes g c =
    plain-taken c.take_input.result c.args.knows_keys c.args.desk.now.desk.site c.take_input.new.site (known_in c.args.desk.now.keys) c.args.fields.now
    c.in-Plain.input (c.in_ok-input.ensures.means ∙ c.in-Plain.is) c.take_input.ensures.takes

pub returns-in-AskedUnder-2-clause-takes : goal.returns-in-AskedUnder-2-clause-takes
returns-in-AskedUnder-2-clause-takes g c = elim c.in-AskedUnder-2-1.branch [
  | in-AskedUnder+else-knows_keys w ↦
      none-taken c.args.knows_keys _ _ c.args.fields.now _ w.if-knows_keys.false (c.in_ok-input.ensures.means ∙ w.in-AskedUnder.is) tt
  | in-CameUnder+else-knows_keys-2 w ↦
      none-taken c.args.knows_keys _ _ c.args.fields.now _ w.if-knows_keys-2.false (c.in_ok-input.ensures.means ∙ w.in-CameUnder.is) tt
]
