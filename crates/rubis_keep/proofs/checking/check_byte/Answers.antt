use Rattle.rubis_keep.proofs.Common.{◌∙◌, rules, ne_eqb}
use Rattle.rubis_keep.proofs.LineFacts.{begun-pushed, begun-stays, sound-ended}
use Rattle.rubis_keep.proofs.checking.check_byte.Goals as goal

pub returns-then-byte-eq10-clause-sound : goal.returns-then-byte-eq10-clause-sound
returns-then-byte-eq10-clause-sound c line h = rw c.if-byte-eq10.true (c.is_sound-sound.ensures ∙ sound-ended line (c.deref.ensures.value ∙ h))

pub returns-in_ok-push-clause-begun : goal.returns-in_ok-push-clause-begun
returns-in_ok-push-clause-begun c line h =
    rw (ne_eqb c.args.byte 10 c.if-byte-eq10.false) (begun-pushed line c.args.byte h (search rules) c.in_ok-push.ensures.items)

pub returns-else-len-le-KEYED_MAX-clause-begun : goal.returns-else-len-le-KEYED_MAX-clause-begun
returns-else-len-le-KEYED_MAX-clause-begun c line h = rw (ne_eqb c.args.byte 10 c.if-byte-eq10.false) (begun-stays line c.args.byte h (search rules))
