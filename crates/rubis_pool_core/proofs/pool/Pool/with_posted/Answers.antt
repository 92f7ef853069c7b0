use Rattle.std.proofs.Common.{◌≡◌, List, length, sym, ◌∙◌, arith}
use Rattle.std.specs.Prelude.{None, replicate}
use Rattle.rubis_pieces.specs.declared.pieces.Piece.{Piece}
use Rattle.rubis_pool_core.specs.Machine.{opening_pool}
use Rattle.rubis_pool_core.proofs.Accounts.{all_posted}
use Rattle.rubis_pool_core.proofs.pool.Pool.with_posted.Goals as goal

pub returns : goal.returns
returns c =
    let pieces : List Piece = c.args.pieces.items in
    let count : c.len.result ≡ length pieces = (let a = c.len.ensures in let b = c.args.pieces.ok in omega arith) in
    let many : c.len-2.result ≡ length pieces = (let a = c.len-2.ensures in let b = c.args.pieces.ok in omega arith) in
    let free : c.in_ok-free_workers.field-0.items ≡ replicate c.args.workers None = c.in_ok-free_workers.ensures in
    λ i. record {
      capacity = many i;
      count = count i;
      state = ((λ j. record { posted = c.from_vec.ensures.items j; held = free j; returned = c.new.ensures.items j })
          ∙ sym (all_posted (opening_pool c.args.workers) pieces)) i;
    }
