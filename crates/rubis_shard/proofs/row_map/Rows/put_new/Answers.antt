use Rattle.rubis_shard.proofs.Common.{◌≡◌, true, false, refl, sym, ap, ◌∙◌, is_none, Some, row_key}
use Rattle.rubis_shard.specs.Chains.{is_user}
use Rattle.rubis_shard.proofs.InMaps.{all_put_in, found_at, found_there, user_with, other_with, nick_with, cat_with, same_entries, match_put, four, Four}
use Rattle.rubis_shard.proofs.row_map.Rows.put_new.Goals as goal

pub invariant_of-self : goal.invariant_of-self
invariant_of-self c =
    let s = c.args.self.now in
    record {
      are_users = all_put_in (λ k. is_user (row_key k) ≡ true) c.put.result s.users.rows.entries c.put.new.self.rows.entries c.in-User.id c.args.row
          c.put.ensures.put c.put.ensures.same c.in-User.ensures.placed s.are_users;
      are_others = s.are_others;
    }

pub invariant_of-self-in-Other : goal.invariant_of-self-in-Other
invariant_of-self-in-Other c =
    let s = c.args.self.now in
    record {
      are_others = all_put_in (λ k. is_user (row_key k) ≡ false) c.put-in-Other.result s.others.rows.entries c.put-in-Other.new.self.rows.entries
          c.in-Other.id c.args.row
          c.put-in-Other.ensures.put c.put-in-Other.ensures.same c.in-Other.ensures.placed s.are_others;
      are_users = s.are_users;
    }

pub returns-in-User-clause-free : goal.returns-in-User-clause-free
unfolding found_at
returns-in-User-clause-free c =
    c.put.ensures.free
    ∙ ap is_none
    (ap (found_at (four c.args.self.now)) (sym c.in-User.is) ∙ sym
    (found_there (four c.args.self.now) c.args.key c.place_of.result c.place_of.ensures.placed c.place_of.ensures.key))

pub returns-in-User-clause-put : goal.returns-in-User-clause-put
returns-in-User-clause-put c =
    let s = c.args.self.now in
    let r : Four = record {
      users = c.put.new.self.rows.entries;
      others = s.others.rows.entries;
      nicks = s.nicks.entries;
      cats = s.cats.entries;
      are_users = all_put_in (λ k. is_user (row_key k) ≡ true) c.put.result s.users.rows.entries c.put.new.self.rows.entries c.in-User.id c.args.row
          c.put.ensures.put c.put.ensures.same c.in-User.ensures.placed s.are_users;
      are_others = s.are_others;
    } in
    match_put _ _ c.put.result
    (λ yes. user_with (four s) r c.args.key (Some c.args.row) c.in-User.id c.in-User.ensures.placed c.in-User.ensures.key refl refl refl
    (c.put.ensures.found yes))
    (λ no. same_entries (four s) r (c.put.ensures.same no) refl refl refl)

pub returns-in-Other-clause-free : goal.returns-in-Other-clause-free
unfolding found_at
returns-in-Other-clause-free c =
    c.put-in-Other.ensures.free
    ∙ ap is_none
    (ap (found_at (four c.args.self.now)) (sym c.in-Other.is) ∙ sym
    (found_there (four c.args.self.now) c.args.key c.place_of.result c.place_of.ensures.placed c.place_of.ensures.key))

pub returns-in-Other-clause-put : goal.returns-in-Other-clause-put
returns-in-Other-clause-put c =
    let s = c.args.self.now in
    let r : Four = record {
      users = s.users.rows.entries;
      others = c.put-in-Other.new.self.rows.entries;
      nicks = s.nicks.entries;
      cats = s.cats.entries;
      are_users = s.are_users;
      are_others = all_put_in (λ k. is_user (row_key k) ≡ false) c.put-in-Other.result s.others.rows.entries c.put-in-Other.new.self.rows.entries
          c.in-Other.id c.args.row c.put-in-Other.ensures.put c.put-in-Other.ensures.same c.in-Other.ensures.placed s.are_others;
    } in
    match_put _ _ c.put-in-Other.result
    (λ yes. other_with (four s) r c.args.key (Some c.args.row) c.in-Other.id c.in-Other.ensures.placed c.in-Other.ensures.key refl refl refl
    (c.put-in-Other.ensures.found yes))
    (λ no. same_entries (four s) r refl (c.put-in-Other.ensures.same no) refl refl)

pub returns-in-Nick-clause-free : goal.returns-in-Nick-clause-free
unfolding found_at
returns-in-Nick-clause-free c =
    c.put_in.ensures.free
    ∙ ap is_none
    (ap (found_at (four c.args.self.now)) (sym c.in-Nick.is) ∙ sym
    (found_there (four c.args.self.now) c.args.key c.place_of.result c.place_of.ensures.placed c.place_of.ensures.key))

pub returns-in-Nick-clause-put : goal.returns-in-Nick-clause-put
returns-in-Nick-clause-put c =
    let s = c.args.self.now in
    let r : Four = record {
      users = s.users.rows.entries;
      others = s.others.rows.entries;
      nicks = c.put_in.new.rows.entries;
      cats = s.cats.entries;
      are_users = s.are_users;
      are_others = s.are_others;
    } in
    match_put _ _ c.put_in.result
    (λ yes. nick_with (four s) r c.args.key (Some c.args.row) c.in-Nick.nick c.in-Nick.ensures.key refl refl refl (c.put_in.ensures.found yes))
    (λ no. same_entries (four s) r refl refl (c.put_in.ensures.same no) refl)

pub returns-in-Cat-clause-free : goal.returns-in-Cat-clause-free
unfolding found_at
returns-in-Cat-clause-free c =
    c.put_in-in-Cat.ensures.free
    ∙ ap is_none
    (ap (found_at (four c.args.self.now)) (sym c.in-Cat.is) ∙ sym
    (found_there (four c.args.self.now) c.args.key c.place_of.result c.place_of.ensures.placed c.place_of.ensures.key))

pub returns-in-Cat-clause-put : goal.returns-in-Cat-clause-put
returns-in-Cat-clause-put c =
    let s = c.args.self.now in
    let r : Four = record {
      users = s.users.rows.entries;
      others = s.others.rows.entries;
      nicks = s.nicks.entries;
      cats = c.put_in-in-Cat.new.rows.entries;
      are_users = s.are_users;
      are_others = s.are_others;
    } in
    match_put _ _ c.put_in-in-Cat.result
    (λ yes. cat_with (four s) r c.args.key (Some c.args.row) c.in-Cat.cat c.in-Cat.ensures.key refl refl refl (c.put_in-in-Cat.ensures.found yes))
    (λ no. same_entries (four s) r refl refl refl (c.put_in-in-Cat.ensures.same no))
