-- Small runs, computed on the definitions, that the other examples begin with.
use Rattle.std.proofs.Common.{◌≡◌, ◌++◌, ◌∷◌, [], ℕ, List, refl}
use Rattle.rubis_carrier.specs.declared.values.Carrier.{Carrier}
use Rattle.rubis_carrier.specs.declared.values.ShopPacket.{ShopPacket}
use Rattle.rubis_carrier.specs.declared.values.ShopPacket.TheVariants.{Message}
use Rattle.rubis_carrier.specs.Events.{AreSteps}
use Rattle.rubis_carrier.specs.declared.values.ShopEvent.{ShopEvent}
use Rattle.rubis_carrier.specs.declared.values.ShopEvent.TheVariants.{Accepts, Gives, IsAsked, Opens, Serves, Starts}
use Rattle.rubis_carrier.specs.Shops.{shop_start}
use Rattle.rubis_carrier.proofs.Computed.{are_steps_true}

-- the first message of site 0, of the first ask; and another one of that number, of the second ask
abbrev pub first_message : ShopPacket
first_message = Message 0 1 1

abbrev pub other_message : ShopPacket
other_message = Message 0 1 2

pub not_the_same : first_message ≡ other_message → ⊥
not_the_same e = absurd (cc e)

-- site 0 is started and opened
abbrev pub opening_first : List ShopEvent
opening_first = Starts 0 ∷ Opens 0 ∷ []

-- an ask, of one record, goes to a folder in that life, and is accepted
abbrev pub asking_at : ℕ → ℕ → ℕ → List ShopEvent
asking_at k r life = IsAsked r life 1 ∷ Serves k r ∷ Gives k r ∷ Accepts k r ∷ []

abbrev pub asking : ℕ → ℕ → List ShopEvent
asking r life = asking_at 0 r life

abbrev pub asked_once : List ShopEvent
asked_once = opening_first ++ asking 1 1

pub asked_once_may : (c : Carrier) → AreSteps c shop_start asked_once
asked_once_may c = are_steps_true c shop_start asked_once refl
