use Rattle.rubis_replica.proofs.Common.{◌+◌, map, sym, ap, subst, arc_value, IsPermutation, PassState, bare}
use Rattle.rubis_replica.specs.Folding.{cores_of}
use Rattle.rubis_replica.proofs.GivenOut.{all_fit}
use Rattle.rubis_replica.proofs.hands.fold_all.Goals as goal

pub fan_out-pass-requires-clause-pass : goal.fan_out-pass-requires-clause-pass
fan_out-pass-requires-clause-pass g c κs within =
    let o = c.in_ok-board.ensures.opened in (
      c.requires.lead,
      record {
        board_is = ap (λ (p : PassState). p.board) o.pass;
        span = c.requires.set.batch.span;
        pieces = all_fit (arc_value c.args.batch.now) c.args.shards.items c.in_ok-board.field-0.pass.posted c.requires.set o.posted;
        taken = ap (λ (p : PassState). p.taken) o.pass;
        seen_none = ap (λ (p : PassState). p.seen_none) o.pass;
      },
    )

pub gather_shards-requires-clause-followed : goal.gather_shards-requires-clause-followed
gather_shards-requires-clause-followed g c =
    let b = arc_value c.args.batch.now in (
      b.span.from + 1,
      cores_of b,
      c.args.shards.items,
      record {
        order = c.requires.set.set.order;
        posted = subst (IsPermutation (map bare c.args.shards.items)) (sym c.fan_out-pass.ensures.2) c.in_ok-board.ensures.opened.posted;
        worked = c.fan_out-pass.ensures.4.worked;
      },
    )

pub returns-clause-folded : goal.returns-clause-folded
returns-clause-folded g c =
    let b = arc_value c.args.batch.now in
    record {
      set = c.requires.set.set;
      folded =
          c.gather_shards.ensures.shards (b.span.from + 1) (cores_of b) c.args.shards.items
          (record {
            order = c.requires.set.set.order;
            posted = subst (IsPermutation (map bare c.args.shards.items)) (sym c.fan_out-pass.ensures.2) c.in_ok-board.ensures.opened.posted;
            worked = c.fan_out-pass.ensures.4.worked;
          });
    }
