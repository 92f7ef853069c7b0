-- Messages that may be done in either order.
use Rattle.std.specs.Prelude.{◌≡◌, ◌+◌, ◌^◌, ◌≤◌, false, List, [], ◌∷◌, ◌++◌, length}
use Rattle.rubis_shadow.specs.Shadows.{is_red}
use Rattle.rubis_model.specs.Checks.{Checked, Follows}
use Rattle.rubis_model.specs.Log.{Core, fold_of}

-- both orders of the two messages pass the checks after the log, and come to the same tables
pub record Commute (log : List Core) (u v : Core) : Type 0 where
  pub one : Checked (log ++ u ∷ v ∷ [])
  pub other : Checked (log ++ v ∷ u ∷ [])
  pub tables : (fold_of (log ++ u ∷ v ∷ [])).tables ≡ (fold_of (log ++ v ∷ u ∷ [])).tables

-- a blue message and any other one, each of which may follow the log, may follow it in either order: a restock and a purchase
-- of the same item too
abbrev pub BlueMessagesCommute : Type 0
BlueMessagesCommute = (log : List Core) (u v : Core) → Checked log → Follows log u → Follows log v → ¬ (u.id ≡ v.id) → is_red u.shadow ≡ false
    → length log + 2 ≤ 2 ^ 32 → Commute log u v
