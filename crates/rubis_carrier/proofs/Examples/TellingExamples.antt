-- What an asker may be told, and what may be put in the place of what was kept: each rule is needed.
use Rattle.std.proofs.Common.{◌≡◌, inl, ⊎_elim, ◌++◌, ◌∷◌, [], List, refl}
use Rattle.rubis_model.specs.Site.{Has}
use Rattle.rubis_carrier.specs.declared.values.Carrier.TheVariants.{Files, Server}
use Rattle.rubis_carrier.specs.declared.values.ShopPacket.TheVariants.{Message}
use Rattle.rubis_carrier.specs.declared.values.Notice.TheVariants.{No, Ok}
use Rattle.rubis_carrier.specs.Events.{AreSteps, IsUnharmed, May, MayRebuild, MayServe, after_step, after_steps}
use Rattle.rubis_carrier.specs.declared.values.ShopEvent.{ShopEvent}
use Rattle.rubis_carrier.specs.declared.values.ShopEvent.TheVariants.{Accepts, Appends, Gives, IsAsked, IsCopied, IsKilled, LosesEnd, Rebuilds, Serves, Starts}
use Rattle.rubis_carrier.specs.declared.values.ShopEvent.TheVariants.{TellsNothing, TellsOk, WritesAnew}
use Rattle.rubis_carrier.specs.Laws.{IsUnmade}
use Rattle.rubis_carrier.specs.Shops.{Shop, folder, shop_start, stream}
use Rattle.rubis_carrier.specs.Shops.PacketPlace.{InFolder}
use Rattle.rubis_carrier.proofs.Computed.{are_steps_true, may_not}
use Rattle.rubis_carrier.proofs.Examples.ExampleRuns.{asked_once, first_message, opening_first}

-- ---- a copy that answers

-- folder 5 is a copy of folder 0, and runs, but isn't open. An ask names the life of folder 0
abbrev copy_runs : List ShopEvent
copy_runs = opening_first ++ IsCopied 0 5 ∷ Starts 5 ∷ IsAsked 1 1 1 ∷ []

copy_may_not_serve : ¬ (MayServe (after_steps shop_start copy_runs) 5 1)
copy_may_not_serve = may_not Files (after_steps shop_start copy_runs) (Serves 5 1) refl

-- if it serves the ask all the same, it tells that nothing was given to the site, and folder 0 accepts the ask
abbrev copy_answers : Shop
copy_answers = after_steps (after_step (after_steps shop_start copy_runs) (Serves 5 1)) (TellsNothing 5 1 ∷ Serves 0 1 ∷ Gives 0 1 ∷ Accepts 0 1 ∷ [])

copy_goes_on : AreSteps Files (after_step (after_steps shop_start copy_runs) (Serves 5 1)) (TellsNothing 5 1 ∷ Serves 0 1 ∷ Gives 0 1 ∷ Accepts 0 1 ∷ [])
copy_goes_on = are_steps_true Files (after_step (after_steps shop_start copy_runs) (Serves 5 1)) (TellsNothing 5 1 ∷ Serves 0 1 ∷ Gives 0 1 ∷ Accepts 0 1 ∷ []) refl

copy_told_no : Has (No 1) copy_answers.told
copy_told_no = inl refl

copy_is_wrong : IsUnmade copy_answers 1 → ⊥
copy_is_wrong none = none (InFolder 0) 0 1 (inl refl)

-- ---- an ask of two records, and of none

-- the first ask is two records, the second is one
abbrev two_asked : List ShopEvent
two_asked = opening_first ++ IsAsked 1 1 2 ∷ IsAsked 2 1 1 ∷ []

two_are_refused : ¬ (MayServe (after_steps shop_start two_asked) 0 1)
two_are_refused = may_not Files (after_steps shop_start two_asked) (Serves 0 1) refl

-- if it is served all the same, its second record is taken to be the second ask: that is told ok, with the id of another message, and
-- isn't there
abbrev two_lines : List ShopEvent
two_lines = Gives 0 1 ∷ Serves 0 2 ∷ Gives 0 2 ∷ Accepts 0 1 ∷ Accepts 0 1 ∷ TellsOk 0 2 2 ∷ []

abbrev two_served : Shop
two_served = after_steps (after_step (after_steps shop_start two_asked) (Serves 0 1)) two_lines

two_go_on : AreSteps Files (after_step (after_steps shop_start two_asked) (Serves 0 1)) two_lines
two_go_on = are_steps_true Files (after_step (after_steps shop_start two_asked) (Serves 0 1)) two_lines refl

two_told_ok : Has (Ok 2 0 2) two_served.told
two_told_ok = inl refl

two_is_wrong : Has (Message 0 2 2) (folder two_served 0).kept → ⊥
two_is_wrong h = ⊎_elim (λ (e : Message 0 2 2 ≡ Message 0 1 1). absurd (cc e))
    (λ (g : Has (Message 0 2 2) (Message 0 2 1 ∷ [])). ⊎_elim (λ (e : Message 0 2 2 ≡ Message 0 2 1). absurd (cc e)) (λ z. z) g) h

-- an ask of no record is refused as well; if it is served, the refusal of the next ask is told to its asker, and so on
abbrev none_asked : List ShopEvent
none_asked = opening_first ++ IsAsked 1 1 0 ∷ IsAsked 2 1 1 ∷ []

none_is_refused : ¬ (MayServe (after_steps shop_start none_asked) 0 1)
none_is_refused = may_not Files (after_steps shop_start none_asked) (Serves 0 1) refl

-- ---- a folder that is made again without what was left of it

-- site 0 has told ok, and is stopped; nobody has read its message
abbrev told_ok : List ShopEvent
told_ok = asked_once ++ TellsOk 0 1 1 ∷ IsKilled 0 ∷ []

-- folder 5, that a rebuild begins, has nothing of it
dropping_is_refused : ¬ (MayRebuild (after_steps shop_start told_ok) 0 5)
dropping_is_refused = may_not Files (after_steps shop_start told_ok) (Rebuilds 0 5) refl

-- a rebuild is no loss: the folder is whole. But it hasn't the message
rebuilds_are_whole : IsUnharmed (InFolder 0) (Rebuilds 0 5 ∷ [])
rebuilds_are_whole = ((λ h. h), tt)

abbrev dropped : Shop
dropped = after_step (after_steps shop_start told_ok) (Rebuilds 0 5)

was_told_ok : Has (Ok 1 0 1) (after_steps shop_start told_ok).told × Has (Message 0 1 1) (folder (after_steps shop_start told_ok) 0).kept
was_told_ok = (inl refl, inl refl)

dropped_is_lost : Has (Message 0 1 1) (folder dropped 0).kept → ⊥
dropped_is_lost h = h

-- ---- a stream that is written anew from a folder that has less

-- only the stream has the message of an ask that was told ok
abbrev in_stream : List ShopEvent
in_stream = asked_once ++ TellsOk 0 1 1 ∷ Appends 0 first_message ∷ LosesEnd 0 0 ∷ Starts 0 ∷ []

rewriting_is_refused : ¬ (May Server (after_steps shop_start in_stream) (WritesAnew 0))
rewriting_is_refused = may_not Server (after_steps shop_start in_stream) (WritesAnew 0) refl

rewritten_is_lost : stream (after_step (after_steps shop_start in_stream) (WritesAnew 0)) 0 ≡ []
rewritten_is_lost = refl

stream_had_it : Has first_message (stream (after_steps shop_start in_stream) 0)
stream_had_it = inl refl
