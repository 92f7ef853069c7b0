-- A standby takes over while the folder that it stands by for goes on: why a message is appended only at its place, and ok told only
-- once it stands in the stream.
use Rattle.std.proofs.Common.{◌≡◌, inl, inr, ◌++◌, ◌∷◌, [], false, List, refl}
use Rattle.rubis_model.specs.Site.{Has}
use Rattle.rubis_carrier.specs.declared.values.Carrier.TheVariants.{Server}
use Rattle.rubis_carrier.specs.declared.values.Notice.TheVariants.{Ok}
use Rattle.rubis_carrier.specs.Events.{AreSteps, May, after_step, after_steps, may}
use Rattle.rubis_carrier.specs.declared.values.ShopEvent.{ShopEvent}
use Rattle.rubis_carrier.specs.declared.values.ShopEvent.TheVariants.{Appends, IsCopied, Opens, Starts, TakesOver, TellsOk, TellsPublished, Yields}
use Rattle.rubis_carrier.specs.Shops.{Shop, shop_start}
use Rattle.rubis_carrier.proofs.Computed.{are_steps_true, may_not}
use Rattle.rubis_carrier.proofs.Examples.ExampleRuns.{asking, asking_at, first_message, other_message}

-- folder 5 takes over from folder 0, which goes on. Each accepts an ask, under the same number, and folder 0 is the first to append its
-- message, and to tell its asker
abbrev both_go_on : List ShopEvent
both_go_on =
    Starts 0 ∷ Opens 0 ∷ Yields 0 ∷ IsCopied 0 5 ∷ Starts 5 ∷ TakesOver 5 ∷ asking 1 1 ++ asking_at 5 2 2 ++ Appends 0 first_message
    ∷ TellsPublished 0 1 1 ∷ []

both_may : AreSteps Server shop_start both_go_on
both_may = are_steps_true Server shop_start both_go_on refl

-- no standby takes over from a site that doesn't yield
unyielding_is_refused : may Server (after_steps shop_start (Starts 0 ∷ Opens 0 ∷ IsCopied 0 5 ∷ Starts 5 ∷ [])) (TakesOver 5) ≡ false
unyielding_is_refused = refl

-- the other message isn't at its place, and isn't told ok before it stands there
other_is_refused : ¬ (May Server (after_steps shop_start both_go_on) (Appends 5 other_message))
other_is_refused = may_not Server (after_steps shop_start both_go_on) (Appends 5 other_message) refl

early_is_refused : ¬ (May Server (after_steps shop_start both_go_on) (TellsOk 5 2 1))
early_is_refused = may_not Server (after_steps shop_start both_go_on) (TellsOk 5 2 1) refl

-- if it is appended all the same, two asks are told one id; and so if it is told early
abbrev told_twice : Shop
told_twice = after_steps shop_start (both_go_on ++ Appends 5 other_message ∷ TellsPublished 5 2 1 ∷ [])

both_are_told : Has (Ok 1 0 1) told_twice.told × Has (Ok 2 0 1) told_twice.told
both_are_told = (inr (inl refl), inl refl)

early_is_told : Has (Ok 2 0 1) (after_step (after_steps shop_start both_go_on) (TellsOk 5 2 1)).told
early_is_told = inl refl
