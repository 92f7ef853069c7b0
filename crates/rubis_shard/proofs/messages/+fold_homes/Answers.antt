use Rattle.rubis_shard.proofs.Common.{◌≡◌, ℕ, ◌+◌, ◌<◌, ◌≤◌, List, length, length-set, get_or, set, refl, sym, ap, ◌∙◌, subst, arith, rules, Some}
use Rattle.rubis_shard.proofs.Common.{slice_get, slice_get_read}
use Rattle.rubis_shard.specs.States.{ShardState, HoldsOwnRows, with_parts, held_by}
use Rattle.rubis_shard.specs.Holdings.{AreInOrder, parts_at, numbered_of, emptied}
use Rattle.rubis_shard.proofs.Homes.{folds_last_ok, folds_sooner, hollow_length, hollow_order, if_ok, own_back, ended_ok, ended_err}
use Rattle.rubis_shard.proofs.messages.+fold_homes.Goals as goal

pub fold_homes-requires : goal.fold_homes-requires
fold_homes-requires t c =
    let ts : List ShardState = c.args.list.now in
    let at : ℕ = c.args.at in
    let next : ℕ = c.next_home-next.result in
    let x : ShardState = c.index-list-at-2.result in
    let there : slice_get ts at ≡ Some x = slice_get_read ts (length ts) at x refl (search rules) c.index-list-at-2.is in
    let left : c.take_store.new.self ≡ emptied x = search rules in
    let many = hollow_length ts at x there in
    let later : at + 1 ≤ next = c.next_home-next.ensures.from in
    let within : next < length ts = search rules in (
      (let same = c.requires.shards in
          omega arith),
      subst (λ y. (c.args.message.now.shards ≡ length (set ts at y)) × (AreInOrder (set ts at y) × (next < length (set ts at y)))) (sym left) (
        c.requires.shards ∙ sym many,
        (
          hollow_order ts at x there c.requires.order,
          omega arith,
        ),
      ),
    )

pub put_store-requires-2 : goal.put_store-requires-2
put_store-requires-2 t c =
    let ts : List ShardState = c.args.list.now in
    let at : ℕ = c.args.at in
    let x : ShardState = c.index-list-at-2.result in
    let mid : List ShardState = c.fold_homes.new.list in
    let s : ShardState = get_or mid at c.index-list-at-3.result in
    let ns = numbered_of c.args.message.now.entry in
    let there : slice_get ts at ≡ Some x = slice_get_read ts (length ts) at x refl (search rules) c.index-list-at-2.is in
    let left : c.take_store.new.self ≡ emptied x = search rules in
    let taken : held_by c.get_mut.result.now ≡ x.folded = search rules in
    let rows : HoldsOwnRows x = search rules in
    let hollow = set ts at c.take_store.new.self in
    own_back ts mid c.args.message.now.shards at ns x c.take_store.new.self s there c.requires.order c.requires.shards left
    (folds_sooner (at + 1) c.next_home-next.result c.args.message.now.shards hollow mid ns
    (c.requires.shards ∙ sym (length-set ts at c.take_store.new.self)) c.next_home-next.ensures.from c.next_home-next.ensures.none c.in_default.ensures.ok)
    (ap (get_or mid at) c.index-list-at-3.is)
    (held_by c.get_mut.result.now) (held_by c.fold_at.new.store) rows taken c.fold_at.ensures

pub returns-clause-ok : goal.returns-clause-ok
returns-clause-ok t c =
    let ts : List ShardState = c.args.list.now in
    let at : ℕ = c.args.at in
    let x : ShardState = c.index-list-at-2.result in
    let mid : List ShardState = c.fold_homes.new.list in
    let s : ShardState = get_or mid at c.index-list-at-3.result in
    let ns = numbered_of c.args.message.now.entry in
    let there : slice_get ts at ≡ Some x = slice_get_read ts (length ts) at x refl (search rules) c.index-list-at-2.is in
    let left : c.take_store.new.self ≡ emptied x = search rules in
    let taken : held_by c.get_mut.result.now ≡ x.folded = search rules in
    let hollow = set ts at c.take_store.new.self in
    ended_ok ts mid c.args.message.now.shards at ns x c.take_store.new.self s there c.requires.order c.requires.shards left
    (folds_sooner (at + 1) c.next_home-next.result c.args.message.now.shards hollow mid ns
    (c.requires.shards ∙ sym (length-set ts at c.take_store.new.self)) c.next_home-next.ensures.from c.next_home-next.ensures.none c.in_default.ensures.ok)
    (ap (get_or mid at) c.index-list-at-3.is)
    c.put_store-2.new.self (held_by c.get_mut.result.now) (held_by c.fold_at.new.store) c.put_store-2.ensures taken c.fold_at.ensures

pub returns-in-Err-clause-err : goal.returns-in-Err-clause-err
returns-in-Err-clause-err t c =
    let ts : List ShardState = c.args.list.now in
    let at : ℕ = c.args.at in
    let x : ShardState = c.index-list-at-2.result in
    let mid : List ShardState = c.fold_homes.new.list in
    let there : slice_get ts at ≡ Some x = slice_get_read ts (length ts) at x refl (search rules) c.index-list-at-2.is in
    let left : c.take_store.new.self ≡ emptied x = search rules in
    let taken : held_by c.in_ok-store.store ≡ x.folded = search rules in
    ended_err ts mid at x c.take_store.new.self (get_or mid at c.index-list-at-in-Err.result) c.put_store.new.self (held_by c.in_ok-store.store)
    there left c.in-Err.ensures.err (ap (get_or mid at) c.index-list-at-in-Err.is) c.put_store.ensures taken

pub returns-then-next-list-clause-ok : goal.returns-then-next-list-clause-ok
returns-then-next-list-clause-ok t c =
    let ts : List ShardState = c.args.list.now in
    let at : ℕ = c.args.at in
    let x : ShardState = c.index-list-at.result in
    let ns = numbered_of c.args.message.now.entry in
    let there : slice_get ts at ≡ Some x = slice_get_read ts (length ts) at x refl (search rules) c.index-list-at.is in
    let read : get_or ts at x ≡ x = sym c.index-list-at.is in
    let number : (get_or ts at x).number ≡ at = ap (λ (s : ShardState). s.number) read ∙ (c.requires.order at x there).0 in
    let many : c.args.message.now.shards ≡ length ts = c.requires.shards in
    folds_last_ok c.fold_message.result ts at at ns x c.fold_message.new.self there
    (if_ok _ _ (λ (is : c.fold_message.new.self ≡ with_parts (get_or ts at x) (parts_at c.args.message.now.shards (get_or ts at x).number ns)).
    is ∙ (λ i. with_parts (read i) (parts_at (many i) (number i) ns))) c.fold_message.result c.fold_message.ensures.ok)
    (λ k low high. absurd (omega (arith, low, high)))
    (λ k low high. ap (λ n. parts_at n k ns) (sym many) ∙ c.next_home-next.ensures.none k low (omega (arith, high, c.if-next-list.true)))
    (omega arith)
