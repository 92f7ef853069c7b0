use Rattle.std.proofs.Common.{rules, cond, ◌≡◌, ◌<◌, ◌+◌, ◌*◌, ◌/◌, ◌%◌, ◌++◌, ◌∷◌, [], length, slice_index, slice_set, take, nat_eq, arith, sym, ap, ◌∙◌}
use Rattle.std.proofs.Common.{subst}
use Rattle.rubis_clock.specs.Counts.{counts_of}
use Rattle.rubis_clock.proofs.TwoRows.{counts_more, length_used}
use Rattle.rubis_clock.proofs.packed.PackedDeps.push.Goals as goal

-- there is room for one more
room : (c : goal.After-way_told-1) → c.self.inside.used < 16
room c =
    let used = length_used c.self.inside.low c.self.inside.high c.self.inside.used c.self.told.0 c.self.told.1 c.self.invariant in
    let same = ap length c.self.view_is in
    omega (arith, used, same, c.requires.room)

pub bounds-self-inside-place : goal.bounds-self-inside-place
bounds-self-inside-place c = omega (arith, room c, c.from-place.ensures)

pub bounds-self-inside-place-2 : goal.bounds-self-inside-place-2
bounds-self-inside-place-2 c = omega (arith, room c, c.from-place.ensures)

pub bounds-self-inside-place-3 : goal.bounds-self-inside-place-3
bounds-self-inside-place-3 c =
    let used = length_used c.self.inside.low c.self.inside.high c.self.inside.used c.self.told.0 c.self.told.1 c.self.invariant in
    let same = ap length c.self.view_is in
    omega (arith, used, same, c.requires.room, c.from-place.ensures)

pub invariant_of-self : goal.invariant_of-self
invariant_of-self c =
    let used = length_used c.self.inside.low c.self.inside.high c.self.inside.used c.self.told.0 c.self.told.1 c.self.invariant in
    let same = ap length c.self.view_is in
    omega (arith, used, same, c.requires.room)

pub returns : goal.returns
returns c =
    let low = c.self.inside.low in
    let pairs = c.self.inside.high in
    let i = c.self.inside.used in
    let count = c.args.count in
    let used = length_used low pairs i c.self.told.0 c.self.told.1 c.self.invariant in
    let same = ap length c.self.view_is in
    let upper : count / 65536 < 16 = omega (arith, c.requires.limit) in
    let whole : count % 65536 + 65536 * (count / 65536) ≡ count = omega arith in
    subst (λ p. take (i + 1) (counts_of (slice_set low p (count % 65536)) (slice_set pairs (p / 2) c.with_half.result)) ≡ c.args.self.now ++ count ∷ [])
    (sym c.from-place.ensures)
    (subst (λ h. take (i + 1) (counts_of (slice_set low i (count % 65536)) (slice_set pairs (i / 2) h)) ≡ c.args.self.now ++ count ∷ [])
    (sym (c.with_half.ensures ∙ ap (λ p. cond (nat_eq (p % 2) 0) (slice_index pairs (p / 2) / 16 * 16 + count / 65536) (slice_index pairs (p / 2) % 16 + 16 * (count / 65536))) c.from-place.ensures))
    (counts_more low pairs i (count % 65536) (count / 65536) (nat_eq (i % 2) 0) (λ e. search rules) (λ e. search rules) c.self.told.0 c.self.told.1
    (omega (arith, used, same, c.requires.room)) upper
    ∙ ap (λ n. take i (counts_of low pairs) ++ n ∷ []) whole ∙ ap (λ xs. xs ++ count ∷ []) c.self.view_is))
