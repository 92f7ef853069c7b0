-- Where there is one shard, it is the home of each row and of each part.
use Rattle.rubis_shard.proofs.Common.{◌≡◌, List, [], ◌∷◌, cond, refl, ap, ◌∙◌, None, nat_eq, home, Tables, RowKey, Numbered, part_of, same_tables}
use Rattle.rubis_shard.proofs.Common.{get-part_of}
use Rattle.std.proofs.Math.Nat.{mod-one}
use Rattle.std.specs.FinMap as map
use Rattle.rubis_schema.specs.declared.row_keys.RowKey.TheVariants as key
use Rattle.rubis_shard.specs.Holdings.{parts_at}

pub home_of_one : (k : RowKey) → home 1 k ≡ 0
unfolding home
home_of_one (key.User i) = mod-one _
home_of_one (key.Item i) = mod-one _
home_of_one (key.Bid i) = mod-one _
home_of_one (key.Purchase i) = mod-one _
home_of_one (key.Comment i) = mod-one _
home_of_one (key.Nick n) = mod-one _
home_of_one (key.Cat k) = mod-one _

pub all_rows : (t : Tables) → part_of 1 0 t ≡ t
all_rows t = same_tables _ _ (λ q. get-part_of 1 0 t q ∙ ap (λ n. cond (nat_eq n 0) (map.get t q) None) (home_of_one q))

pub all_parts : (ns : List Numbered) → parts_at 1 0 ns ≡ ns
all_parts [] = refl
all_parts (n ∷ ns) = λ i. cond (nat_eq (home_of_one n.effect.key i) 0) (n ∷ all_parts ns i) (all_parts ns i)
