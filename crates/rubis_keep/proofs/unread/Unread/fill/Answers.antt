use Rattle.rubis_keep.proofs.Common.{◌≡◌, ◌∙◌, ◌-◌, [], ap, arith, drop, length, rules, subst, sym, take, Consumes}
use Rattle.std.proofs.lemmas.List.{with_items_is}
use Rattle.rubis_keep.specs.Turns.{left_to_read}
use Rattle.rubis_keep.proofs.LeftFacts.{left-filled}
use Rattle.rubis_keep.proofs.unread.Unread.fill.Goals as goal

pub returns-in-Ok-clause-same : goal.returns-in-Ok-clause-same
returns-in-Ok-clause-same g c =
    let u = c.self.inside in
    let given = c.in-Ok.given in
    let old = g.R.Read.remaining c.args.live.now in
    let new = g.R.Read.remaining c.read_through_signals.new.reader in
    let none : u.end - u.at ≡ 0 = omega arith in
    let same : given - 0 ≡ given = omega arith in
    let empty : c.args.self.now ≡ [] = sym c.self.view_is ∙ ap (λ n. take n (drop u.at u.piece.items)) none in
    let size : length c.read_through_signals.new.buf ≡ c.self-2.inside.piece.len =
    first_of (search rules, grind (arith, rules), omega (arith, c.deref_mut.ensures.len, c.self-2.inside.piece.ok.0)) in
    let back = with_items_is c.self-2.inside.piece c.read_through_signals.new.buf size in
    rw back
    (subst (λ u. Consumes (left_to_read c.args.self.now old) (left_to_read u new) []) (ap (λ n. take n c.read_through_signals.new.buf) (sym same))
    (subst (λ s. Consumes (left_to_read s old) (left_to_read (take given c.read_through_signals.new.buf) new) []) (sym empty)
    (left-filled (take given c.read_through_signals.new.buf) old new c.in-Ok.ensures.bytes.0)))
