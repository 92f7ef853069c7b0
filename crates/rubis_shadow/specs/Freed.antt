-- Which keys are given up.
use Rattle.std.specs.Prelude.{⊤}
use Rattle.std.specs.Coded.{Unit-prop}
use Rattle.rubis_schema.specs.declared.row_keys.RowKey.{RowKey}
use Rattle.rubis_schema.specs.declared.row_keys.RowKey.TheVariants.{Nick}
use Rattle.rubis_shadow.specs.declared.changes.Change.{Change}
use Rattle.rubis_shadow.specs.declared.changes.Change.TheVariants.{NickFreed}

-- the key is a nickname's
abbrev pub IsNickKey : RowKey → Type 0
IsNickKey (Nick n) = ⊤
IsNickKey key = ⊥

-- if the change gives the key up, the key is a nickname's
abbrev pub FreesOnlyNicks : RowKey → Change → Type 0
FreesOnlyNicks key (NickFreed user) = IsNickKey key
FreesOnlyNicks key change = ⊤

-- there is one proof of it at most
pub FreesOnlyNicks-prop : (key : RowKey) (change : Change) → IsProp (FreesOnlyNicks key change)
FreesOnlyNicks-prop (Nick n) (NickFreed user) = Unit-prop
FreesOnlyNicks-prop key (NickFreed user) = λ p q. absurd p
FreesOnlyNicks-prop key change = Unit-prop
