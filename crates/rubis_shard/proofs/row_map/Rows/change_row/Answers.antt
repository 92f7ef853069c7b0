use Rattle.rubis_shard.proofs.Common.{◌≡◌, true, false, sym, ap, subst, ◌∙◌, refl, bytes_eq, nat_eq, row_key, same_id_key, FreesOnlyNicks, IsNickKey}
use Rattle.rubis_shard.proofs.Common.{Effect}
use Rattle.std.specs.FinMap as map
use Rattle.rubis_shard.specs.Chains.{is_user}
use Rattle.rubis_shard.proofs.Changed.{altered, altered_all, changed_tables, changed_misfit, row_stays_at}
use Rattle.rubis_shard.proofs.InMaps.{found_at, found_there, kept_is_no_nick, user_with, other_with, nick_with, cat_with, same_entries, four, Four}
use Rattle.rubis_shard.proofs.row_map.Rows.change_row.Goals as goal

pub alter-requires : goal.alter-requires
alter-requires c = subst (λ k. FreesOnlyNicks k c.args.change.now) (sym c.in-User.ensures.key) c.requires.frees

pub invariant_of-self : goal.invariant_of-self
invariant_of-self c =
    let s = c.args.self.now in
    record {
      are_users = altered_all (λ k. is_user (row_key k) ≡ true) s.users.rows.entries c.alter.new.self.rows.entries c.in-User.id c.args.change.now
          c.alter.result c.alter.ensures.none c.alter.ensures.some s.are_users;
      are_others = s.are_others;
    }

pub returns-in-User-clause-tables : goal.returns-in-User-clause-tables
unfolding found_at
returns-in-User-clause-tables c =
    let s = c.args.self.now in
    let e : Effect = record { key = c.args.key.now; change = c.args.change.now; frees = c.requires.frees } in
    let other : ¬ IsNickKey e.key = subst (λ k. ¬ IsNickKey k) c.in-User.ensures.key (kept_is_no_nick c.in-User.id) in
    let r : Four = record {
      users = c.alter.new.self.rows.entries;
      others = s.others.rows.entries;
      nicks = s.nicks.entries;
      cats = s.cats.entries;
      are_users = altered_all (λ k. is_user (row_key k) ≡ true) s.users.rows.entries c.alter.new.self.rows.entries c.in-User.id e.change
          c.alter.result c.alter.ensures.none c.alter.ensures.some s.are_users;
      are_others = s.are_others;
    } in
    changed_tables same_id_key s.users.rows.entries c.alter.new.self.rows.entries c.in-User.id e c.alter.result c.alter.ensures.none
    (altered same_id_key s.users.rows.entries c.alter.new.self.rows.entries c.in-User.id e.change c.alter.result c.alter.ensures.none
    c.alter.ensures.some (λ was. row_stays_at e.key e.change was other e.frees))
    _ _
    (found_there (four s) c.args.key.now c.place_of.result c.place_of.ensures.placed c.place_of.ensures.key ∙ ap (found_at (four s)) c.in-User.is)
    c.requires.insert
    (λ stays. ap map.from_entries (same_entries (four s) r stays refl refl refl))
    (λ v. user_with (four s) r c.args.key.now v c.in-User.id c.in-User.ensures.placed c.in-User.ensures.key refl refl refl)

pub returns-in-User-clause-misfit : goal.returns-in-User-clause-misfit
unfolding found_at
returns-in-User-clause-misfit c =
    let s = c.args.self.now in
    let e : Effect = record { key = c.args.key.now; change = c.args.change.now; frees = c.requires.frees } in
    let other : ¬ IsNickKey e.key = subst (λ k. ¬ IsNickKey k) c.in-User.ensures.key (kept_is_no_nick c.in-User.id) in
    changed_misfit same_id_key s.users.rows.entries c.alter.new.self.rows.entries c.in-User.id e c.alter.result c.alter.ensures.none
    (altered same_id_key s.users.rows.entries c.alter.new.self.rows.entries c.in-User.id e.change c.alter.result c.alter.ensures.none
    c.alter.ensures.some (λ was. row_stays_at e.key e.change was other e.frees))
    _
    (found_there (four s) c.args.key.now c.place_of.result c.place_of.ensures.placed c.place_of.ensures.key ∙ ap (found_at (four s)) c.in-User.is)
    c.requires.insert

pub alter-requires-in-Other : goal.alter-requires-in-Other
alter-requires-in-Other c = subst (λ k. FreesOnlyNicks k c.args.change.now) (sym c.in-Other.ensures.key) c.requires.frees

pub invariant_of-self-in-Other : goal.invariant_of-self-in-Other
invariant_of-self-in-Other c =
    let s = c.args.self.now in
    record {
      are_others = altered_all (λ k. is_user (row_key k) ≡ false) s.others.rows.entries c.alter-in-Other.new.self.rows.entries c.in-Other.id
          c.args.change.now c.alter-in-Other.result c.alter-in-Other.ensures.none c.alter-in-Other.ensures.some s.are_others;
      are_users = s.are_users;
    }

pub returns-in-Other-clause-tables : goal.returns-in-Other-clause-tables
unfolding found_at
returns-in-Other-clause-tables c =
    let s = c.args.self.now in
    let e : Effect = record { key = c.args.key.now; change = c.args.change.now; frees = c.requires.frees } in
    let other : ¬ IsNickKey e.key = subst (λ k. ¬ IsNickKey k) c.in-Other.ensures.key (kept_is_no_nick c.in-Other.id) in
    let r : Four = record {
      users = s.users.rows.entries;
      others = c.alter-in-Other.new.self.rows.entries;
      nicks = s.nicks.entries;
      cats = s.cats.entries;
      are_users = s.are_users;
      are_others = altered_all (λ k. is_user (row_key k) ≡ false) s.others.rows.entries c.alter-in-Other.new.self.rows.entries c.in-Other.id e.change
          c.alter-in-Other.result c.alter-in-Other.ensures.none c.alter-in-Other.ensures.some s.are_others;
    } in
    changed_tables same_id_key s.others.rows.entries c.alter-in-Other.new.self.rows.entries c.in-Other.id e c.alter-in-Other.result
    c.alter-in-Other.ensures.none
    (altered same_id_key s.others.rows.entries c.alter-in-Other.new.self.rows.entries c.in-Other.id e.change c.alter-in-Other.result
    c.alter-in-Other.ensures.none c.alter-in-Other.ensures.some (λ was. row_stays_at e.key e.change was other e.frees))
    _ _
    (found_there (four s) c.args.key.now c.place_of.result c.place_of.ensures.placed c.place_of.ensures.key ∙ ap (found_at (four s)) c.in-Other.is)
    c.requires.insert
    (λ stays. ap map.from_entries (same_entries (four s) r refl stays refl refl))
    (λ v. other_with (four s) r c.args.key.now v c.in-Other.id c.in-Other.ensures.placed c.in-Other.ensures.key refl refl refl)

pub returns-in-Other-clause-misfit : goal.returns-in-Other-clause-misfit
unfolding found_at
returns-in-Other-clause-misfit c =
    let s = c.args.self.now in
    let e : Effect = record { key = c.args.key.now; change = c.args.change.now; frees = c.requires.frees } in
    let other : ¬ IsNickKey e.key = subst (λ k. ¬ IsNickKey k) c.in-Other.ensures.key (kept_is_no_nick c.in-Other.id) in
    changed_misfit same_id_key s.others.rows.entries c.alter-in-Other.new.self.rows.entries c.in-Other.id e c.alter-in-Other.result
    c.alter-in-Other.ensures.none
    (altered same_id_key s.others.rows.entries c.alter-in-Other.new.self.rows.entries c.in-Other.id e.change c.alter-in-Other.result
    c.alter-in-Other.ensures.none c.alter-in-Other.ensures.some (λ was. row_stays_at e.key e.change was other e.frees))
    _
    (found_there (four s) c.args.key.now c.place_of.result c.place_of.ensures.placed c.place_of.ensures.key ∙ ap (found_at (four s)) c.in-Other.is)
    c.requires.insert

pub returns-in-Nick-clause-tables : goal.returns-in-Nick-clause-tables
unfolding found_at
returns-in-Nick-clause-tables c =
    let s = c.args.self.now in
    let e : Effect = record { key = c.args.key.now; change = c.args.change.now; frees = c.requires.frees } in
    let r : Four = record {
      users = s.users.rows.entries;
      others = s.others.rows.entries;
      nicks = c.change_in.new.rows.entries;
      cats = s.cats.entries;
      are_users = s.are_users;
      are_others = s.are_others;
    } in
    changed_tables bytes_eq s.nicks.entries c.change_in.new.rows.entries c.in-Nick.nick e c.change_in.result c.change_in.ensures.none
    c.change_in.ensures.some _ _
    (found_there (four s) c.args.key.now c.place_of.result c.place_of.ensures.placed c.place_of.ensures.key ∙ ap (found_at (four s)) c.in-Nick.is)
    c.requires.insert
    (λ stays. ap map.from_entries (same_entries (four s) r refl refl stays refl))
    (λ v. nick_with (four s) r c.args.key.now v c.in-Nick.nick c.in-Nick.ensures.key refl refl refl)

pub returns-in-Nick-clause-misfit : goal.returns-in-Nick-clause-misfit
unfolding found_at
returns-in-Nick-clause-misfit c =
    let s = c.args.self.now in
    let e : Effect = record { key = c.args.key.now; change = c.args.change.now; frees = c.requires.frees } in
    changed_misfit bytes_eq s.nicks.entries c.change_in.new.rows.entries c.in-Nick.nick e c.change_in.result c.change_in.ensures.none c.change_in.ensures.some _
    (found_there (four s) c.args.key.now c.place_of.result c.place_of.ensures.placed c.place_of.ensures.key ∙ ap (found_at (four s)) c.in-Nick.is)
    c.requires.insert

pub returns-in-Cat-clause-tables : goal.returns-in-Cat-clause-tables
unfolding found_at
returns-in-Cat-clause-tables c =
    let s = c.args.self.now in
    let e : Effect = record { key = c.args.key.now; change = c.args.change.now; frees = c.requires.frees } in
    let other : ¬ IsNickKey e.key = subst (λ k. ¬ IsNickKey k) c.in-Cat.ensures.key (λ nick. nick) in
    let r : Four = record {
      users = s.users.rows.entries;
      others = s.others.rows.entries;
      nicks = s.nicks.entries;
      cats = c.alter_in.new.rows.entries;
      are_users = s.are_users;
      are_others = s.are_others;
    } in
    changed_tables nat_eq s.cats.entries c.alter_in.new.rows.entries c.in-Cat.cat e c.alter_in.result c.alter_in.ensures.none
    (altered nat_eq s.cats.entries c.alter_in.new.rows.entries c.in-Cat.cat e.change c.alter_in.result c.alter_in.ensures.none c.alter_in.ensures.some
    (λ was. row_stays_at e.key e.change was other e.frees))
    _ _
    (found_there (four s) c.args.key.now c.place_of.result c.place_of.ensures.placed c.place_of.ensures.key ∙ ap (found_at (four s)) c.in-Cat.is)
    c.requires.insert
    (λ stays. ap map.from_entries (same_entries (four s) r refl refl refl stays))
    (λ v. cat_with (four s) r c.args.key.now v c.in-Cat.cat c.in-Cat.ensures.key refl refl refl)

pub returns-in-Cat-clause-misfit : goal.returns-in-Cat-clause-misfit
unfolding found_at
returns-in-Cat-clause-misfit c =
    let s = c.args.self.now in
    let e : Effect = record { key = c.args.key.now; change = c.args.change.now; frees = c.requires.frees } in
    let other : ¬ IsNickKey e.key = subst (λ k. ¬ IsNickKey k) c.in-Cat.ensures.key (λ nick. nick) in
    changed_misfit nat_eq s.cats.entries c.alter_in.new.rows.entries c.in-Cat.cat e c.alter_in.result c.alter_in.ensures.none
    (altered nat_eq s.cats.entries c.alter_in.new.rows.entries c.in-Cat.cat e.change c.alter_in.result c.alter_in.ensures.none c.alter_in.ensures.some
    (λ was. row_stays_at e.key e.change was other e.frees))
    _
    (found_there (four s) c.args.key.now c.place_of.result c.place_of.ensures.placed c.place_of.ensures.key ∙ ap (found_at (four s)) c.in-Cat.is)
    c.requires.insert
