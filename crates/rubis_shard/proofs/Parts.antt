-- The parts of one message, shard by shard.
use Rattle.rubis_shard.proofs.Common.{◌≡◌, ℕ, ◌≤◌, List, [], ◌∷◌, ◌++◌, length, refl, sym, ap, ◌∙◌, arith, nat_eq, slice_get, filter-append, home, Id}
use Rattle.rubis_shard.proofs.Common.{Numbered, Effect, few_parts, Folded, fold_on, number_parts, parts_of, part_of}
use Rattle.rubis_shadow.specs.declared.parts.TheConstants.{PARTS_MAX}
use Rattle.rubis_model.proofs.Shares.{fold_on_is, share_tables, tables_after}
use Rattle.rubis_shard.specs.Holdings.{parts_at, core_of, numbered_of, at_place, list_of}
use Rattle.rubis_shard.specs.declared.entries.LogEntry.{LogEntry}
use Rattle.rubis_shard.proofs.Openings.{part_twice}

-- at most three parts, place by place
by_place : (entry : ℕ) (id : Id) (es : List Effect) → length es ≤ PARTS_MAX → number_parts entry 1 id es
    ≡ number_parts entry 1 id (list_of (slice_get es 0))
    ++ (number_parts entry 2 id (list_of (slice_get es 1)) ++ number_parts entry 3 id (list_of (slice_get es 2)))
by_place entry id [] few = refl
by_place entry id (a ∷ []) few = refl
by_place entry id (a ∷ b ∷ []) few = refl
by_place entry id (a ∷ b ∷ c ∷ []) few = refl
by_place entry id (a ∷ b ∷ c ∷ d ∷ es) few = absurd (omega (arith, few))

pub parts_at_append : (shards k : ℕ) (a b : List Numbered)
    → parts_at shards k (a ++ b) ≡ parts_at shards k a ++ parts_at shards k b
parts_at_append shards k = filter-append (λ n. nat_eq (home shards n.effect.key) k)

pub none_of_all : (shards k entry : ℕ) (id : Id) (es : List Effect) → length es ≤ PARTS_MAX
    → parts_at shards k (number_parts entry 1 id (list_of (slice_get es 0))) ≡ []
    → parts_at shards k (number_parts entry 2 id (list_of (slice_get es 1))) ≡ []
    → parts_at shards k (number_parts entry 3 id (list_of (slice_get es 2))) ≡ [] → parts_at shards k (number_parts entry 1 id es) ≡ []
none_of_all shards k entry id es few a b c =
    let second = number_parts entry 2 id (list_of (slice_get es 1)) in
    let third = number_parts entry 3 id (list_of (slice_get es 2)) in
    ap (parts_at shards k) (by_place entry id es few)
    ∙ parts_at_append shards k (number_parts entry 1 id (list_of (slice_get es 0))) (second ++ third)
    ∙ (λ i. a i ++ parts_at shards k (second ++ third))
    ∙ parts_at_append shards k second third ∙ (λ i. b i ++ c i)

pub none_at_all : (m : LogEntry) (shards k : ℕ) → parts_at shards k (at_place m 0) ≡ []
    → parts_at shards k (at_place m 1) ≡ []
    → parts_at shards k (at_place m 2) ≡ [] → parts_at shards k (numbered_of m) ≡ []
none_at_all m shards k a b c = none_of_all shards k m.number m.id (parts_of (core_of m)) (few_parts m.id m.red m.shadow.now) a b c

-- rows at home stay so where only parts are folded on whose home it is
pub own_after : (shards k : ℕ) (f g : Folded) (ns : List Numbered) → part_of shards k f.tables ≡ f.tables
    → g ≡ fold_on f (parts_at shards k ns)
    → part_of shards k g.tables ≡ g.tables
own_after shards k f g ns own is = ap (part_of shards k) whole ∙ part_twice shards k (tables_after f.tables ns) ∙ sym whole
  where
    whole : g.tables ≡ part_of shards k (tables_after f.tables ns)
    whole =
        ap (λ (x : Folded). x.tables) (is ∙ fold_on_is f.tables f.misfits (parts_at shards k ns))
        ∙ ap (λ t. tables_after t (parts_at shards k ns)) (sym own)
        ∙ share_tables shards k f.tables ns
