-- What a call lends.
use Rattle.std.specs.Borrow.{Lends, MutBor, Fml}
use denote.RattleType.{RattleType}
use Rattle.rubis_schema.specs.contracts.boxed.Boxed.{the_row}

-- what is in the box in the end is what was last written through the lent reference `r`
abbrev pub LendsValue : (T : RattleType) → MutBor T.Denot → MutBor T.Denot → Fml
LendsValue T b r = Lends (the_row T) T b r (λ w. w)
