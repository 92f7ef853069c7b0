use Rattle.std.proofs.Common.{◌∙◌, ◌++◌, ap, cond, rules, sym}
use Rattle.rubis_keys.specs.Desks.{standing_at}
use Rattle.rubis_keep.proofs.ShortenFacts.{line-taken, next-byte}
use Rattle.rubis_keep.proofs.shortening.take_next.Goals as goal

pub returns-then-byte-ne10-clause-short : goal.returns-then-byte-ne10-clause-short
returns-then-byte-ne10-clause-short g c s done told sound h = next-byte c.args.byte (search rules) c.in_ok-push.ensures h

pub returns-clause-short : goal.returns-clause-short
returns-clause-short g c s done told sound h =
    line-taken c.args.desk.now.desk.site.place (standing_at c.args.desk.now)
    (standing_at c.take_line.new.desk) told c.args.text.now.items c.in_ok-changed.changed
    (search rules) sound h c.in_ok-push.ensures c.deref.ensures.value c.in_ok-changed.ensures.takes
    (c.in_ok-add_if.ensures
    ∙ ap (λ l. cond c.in_ok-changed.changed (c.args.text.now.items ++ l) c.args.text.now.items) (c.deref-2.ensures.value ∙ sym c.deref.ensures.value))
    c.clear.ensures.items
