use Rattle.rubis_pieces.proofs.Common.{ℕ, ◌≡◌, ◌+◌, ◌*◌, ◌-◌, ◌<◌, ◌≤◌, ◌∙◌, ap, arith, length, subst, sym, Vec, IfOk, AllZip, range_with_len}
use Rattle.rubis_pieces.proofs.Common.{length-map, core, cores, Share}
use Rattle.std.proofs.Common.{◌/◌}
use Rattle.rayon.specs.Numbers.{nat_range}
use Rattle.rayon.proofs.ToStd.{nat_range-All}
use Rattle.rubis_pieces.specs.Batches.{AreOfParts, AreShares, batch_part}
use Rattle.rubis_pieces.proofs.Dealt.{if_ok, each_made, parts_from}
use Rattle.rubis_pieces.proofs.splits.split_parts.Goals as goal

-- each part begins within the batch
pub collect-requires-clause-ready : goal.collect-requires-clause-ready
collect-requires-clause-ready g c κs within =
    let ends = c.into_par_iter.ensures in
    let shards = c.args.shards in
    let first = c.args.first in
    let many = length c.args.batch.now in
    let inside = nat_range-All (λ at. (0 < shards) × (first + many ≤ 1000001) × (at * 1024 ≤ many)) 0 (many / 1024 + 1)
    (λ at low high. (c.requires.shards, c.requires.entries, omega arith)) in
    rw (c.map.ensures.base, c.map.ensures.f, c.with_min_len.ensures.base, ends.0, ends.1) (λ k d lt. (inside k d lt, λ y p. tt))

pub returns : goal.returns
returns g c =
    let h = c.in_ok-parts.ensures in
    let ends = c.into_par_iter.ensures in
    let shards = c.args.shards in
    let first = c.args.first in
    let batch = cores c.args.batch.now in
    let many = length c.args.batch.now / 1024 + 1 in
    let whole : many - 0 ≡ many = omega arith in
    let long = length-map c.args.batch.now core in
    let of_part : ℕ → Vec Share → Type 0 = λ k part. AreShares shards (first + k * 1024) (batch_part (k * 1024) batch) part.items in
    if_ok c.in_ok-parts.parts _ _ _ h.2 (λ v made.
    let chain = rw (c.map.ensures.base, c.map.ensures.f, c.with_min_len.ensures.base) at h.1 in
    let numbers = chain.1 ∙ (λ i. nat_range (ends.0 i) (ends.1 i)) ∙ ap (range_with_len 0) whole in
    let results = subst (λ rs. AllZip (λ k r. IfOk r (of_part k)) chain.0 rs) made.1 chain.2 in
    let each_part = subst (λ ks. AllZip of_part ks made.0) numbers (each_made of_part chain.0 made.0 results) in
    subst (AreOfParts shards first batch) (sym made.2)
    (parts_from shards first first batch 0 many made.0 (λ some. omega arith) (omega (arith, long)) (omega (arith, long)) each_part))
