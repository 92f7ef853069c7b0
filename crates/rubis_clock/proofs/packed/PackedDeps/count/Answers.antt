use Rattle.std.proofs.Common.{rules, ◌≡◌, ◌<◌, ◌+◌, ◌*◌, ◌/◌, ◌%◌, length, slice_index, sym, ap, ◌∙◌, subst, cond, nat_eq}
use Rattle.rubis_clock.proofs.TwoRows.{count_at}
use Rattle.rubis_clock.proofs.packed.PackedDeps.count.Goals as goal

pub returns : goal.returns
returns c =
    let low = c.self.inside.low in
    let high = c.self.inside.high in
    let i = c.args.site in
    let one : length low ≡ 16 = search rules in
    let two : length high ≡ 8 = search rules in
    let at = count_at low high c.self.inside.used i (nat_eq (i % 2) 0) (λ e. search rules) (λ e. search rules) one two
    (subst (λ xs. i < length xs) (sym c.self.view_is) c.requires) in
    let a : c.from.result ≡ slice_index low i = search rules in
    let b : c.from-2.result ≡ cond (nat_eq (i % 2) 0) (slice_index high (i / 2) % 16) (slice_index high (i / 2) / 16) = search rules in
    ap (λ x. x + 65536 * c.from-2.result) a ∙ ap (λ x. slice_index low i + 65536 * x) b ∙ at ∙ ap (λ xs. slice_index xs i) c.self.view_is
