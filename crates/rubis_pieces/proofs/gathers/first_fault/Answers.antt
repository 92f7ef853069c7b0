use Rattle.rubis_pieces.proofs.Common.{rules, ◌≡◌, ◌<◌, ◌+◌, length, sym, ap, ◌∙◌, refl, subst, arith, true, false, slice_get, Some, length-map}
use Rattle.rubis_pieces.proofs.Common.{length-set}
use Rattle.rubis_pieces.specs.declared.pieces.Done.{Done}
use Rattle.rubis_pieces.specs.Batches.{IsSoundTo, IsSeenTo, StandsBelow, numbers_of}
use Rattle.rubis_pieces.proofs.Folded.{number_at, sound_more, seen_more, flag, seen_one_more, none_true, all_true, one_true_more, one_flag_more}
use Rattle.rubis_pieces.proofs.gathers.first_fault.Goals as goal

pub loop-done-preserved : goal.loop-done-preserved
loop-done-preserved c =
    let ns = numbers_of c.args.list.now in
    let i = c.loop-done.done-index in
    let p = c.number-number.result in
    let at : slice_get ns i ≡ Some p = number_at c.args.list.now i c.done-item.result (search rules) (search rules)
    ∙ ap Some (sym c.number-number.ensures) in
    let low : p < length c.loop-done.seen = search rules in
    let unseen : slice_get c.loop-done.seen p ≡ Some false = flag c.loop-done.seen p false low (search rules) in (
      length-set c.loop-done.seen p true ∙ c.loop-done.invariant.0,
      sound_more (length c.args.seen.now) i p ns c.loop-done.invariant.1 at (subst (λ n. p < n) c.loop-done.invariant.0 low)
          (c.loop-done.invariant.2.no p unseen),
      seen_more i p ns c.loop-done.seen c.loop-done.invariant.2 at low,
      one_true_more c.loop-done.seen p low unseen ∙ ap (λ n. n + 1) c.loop-done.invariant.3,
    )

pub returns-then-not-seen-number-clause-fault : goal.returns-then-not-seen-number-clause-fault
returns-then-not-seen-number-clause-fault c =
    let ns = numbers_of c.args.list.now in
    let p = c.loop-number.number in
    let all : c.loop-done.done-index ≡ length ns = (let w = length-map c.args.list.now (λ (x : Done). x.shard.number) in
    omega (arith, w)) in
    let low : p < length c.loop-done.seen = search rules in
    let unseen : slice_get c.loop-done.seen p ≡ Some false = flag c.loop-done.seen p false low (search rules) in (
      subst (λ m. IsSoundTo (length c.args.seen.now) m ns) all c.loop-done.invariant.1,
      subst (λ n. p < n) c.loop-done.invariant.0 low,
      λ s. c.loop-done.invariant.2.no p unseen (subst (λ m. StandsBelow m ns p) (sym all) s),
      λ k l. subst (λ m. StandsBelow m ns k) (sym (length-map c.args.list.now (λ (x : Done). x.shard.number)))
          (c.loop-number.invariant.0 k l),
    )

pub loop-number-preserved : goal.loop-number-preserved
loop-number-preserved c =
    let ns = numbers_of c.args.list.now in
    let p = c.loop-number.number in
    let all : c.loop-done.done-index ≡ length c.args.list.now = search rules in
    let low : p < length c.loop-done.seen = search rules in
    let seen : slice_get c.loop-done.seen p ≡ Some true = flag c.loop-done.seen p true low (search rules) in (
      seen_one_more (length c.args.list.now) p ns c.loop-done.seen (subst (λ m. IsSeenTo m ns c.loop-done.seen) all
          c.loop-done.invariant.2) seen c.loop-number.invariant.0,
      one_flag_more c.loop-done.seen p seen c.loop-number.invariant.1,
    )

pub returns-clause-none : goal.returns-clause-none
returns-clause-none c =
    let ns = numbers_of c.args.list.now in
    let long : length ns ≡ length c.args.list.now = length-map c.args.list.now (λ (x : Done). x.shard.number) in
    let all : c.loop-done.done-index ≡ length ns = (let w = long in omega (arith, w)) in
    let many : length c.args.seen.now ≡ c.loop-number.number = (let w = c.loop-done.invariant.0 in omega (arith, w)) in
    record {
      sound = subst (λ m. IsSoundTo (length c.args.seen.now) m ns) all c.loop-done.invariant.1;
      all = λ k l. subst (λ m. StandsBelow m ns k) (sym long) (c.loop-number.invariant.0 k (subst (λ m. k < m) many l));
      many =
          let f = all_true c.loop-done.seen (λ k l. c.loop-number.invariant.1 k (let w = c.loop-done.invariant.0 in
          omega (arith, w, many, l))) in
          let g = c.loop-done.invariant.3 in let w = c.loop-done.invariant.0 in omega (arith, f, g, w, all);
    }

pub loop-done-init : goal.loop-done-init
loop-done-init c = (
  refl,
  record { below = λ j n l e. absurd (omega (arith, l)); once = λ j n l e b. absurd (omega (arith, l)) },
  record { yes = λ k e. (let w = c.requires k true e in cc); no = λ k e b. (let w = b.1 in omega (arith, w)) },
  none_true c.args.seen.now c.requires,
)
