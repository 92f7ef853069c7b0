-- Ids, and how they and numbers are written.
use Rattle.std.specs.Prelude.{ℕ, ◌<◌, ◌≤◌, ◌+◌, ℤ, pos, negsuc, List, ◌∷◌, ◌++◌, decimal}
use Rattle.rubis_schema.specs.declared.ids.Id.{Id}
use Rattle.rubis_schema.specs.declared.limits.TheConstants.{SEQ_MAX}

-- a valid id when there are `sites` sites
pub record IsId (sites : ℕ) (id : Id) : Type 0 where
  pub site : id.site < sites
  pub positive : 1 ≤ id.seq
  pub small : id.seq ≤ SEQ_MAX

-- an id is written as its site, a point and its number
abbrev pub id_text : Id → List ℕ
id_text id = decimal id.site ++ 46 ∷ decimal id.seq

-- a whole number is written with `-` in front where it is below 0
abbrev pub int_text : ℤ → List ℕ
int_text (pos n) = decimal n
int_text (negsuc n) = 45 ∷ decimal (n + 1)
