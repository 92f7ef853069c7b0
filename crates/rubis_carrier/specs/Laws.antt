-- What holds of a shop, whatever happens to it.
use Rattle.std.specs.Prelude.{◌≡◌, ◌≢◌, ℕ, ◌<◌, ◌≤◌, List, [], ◌∷◌, ◌++◌, ◌⊎◌}
use Rattle.rubis_model.specs.Site.{Has}
use Rattle.rubis_carrier.specs.declared.values.Carrier.{Carrier}
use Rattle.rubis_carrier.specs.declared.values.Carrier.TheVariants.{Server}
use Rattle.rubis_carrier.specs.declared.values.ShopPacket.{ShopPacket}
use Rattle.rubis_carrier.specs.declared.values.ShopPacket.TheVariants.{Message, Pass}
use Rattle.rubis_carrier.specs.Shops.{HoldsToken, highest, name, sender, Folder, IsSeen, PacketPlace, Shop, asks, folder, request, shop_start, stream, there}
use Rattle.rubis_carrier.specs.Shops.PacketPlace.{InFolder, InStream, UnderWay}
use Rattle.rubis_carrier.specs.declared.values.Notice.TheVariants.{No, Ok}
use Rattle.rubis_carrier.specs.Events.{AllCarry, AreSteps, IsUnharmed, May, after_step, after_steps}
use Rattle.rubis_carrier.specs.declared.values.ShopEvent.{ShopEvent}
use Rattle.rubis_carrier.specs.declared.values.ShopEvent.TheVariants.{Accepts, Opens, Refuses, TellsOk, TellsPublished, TakesBack, Yields}

-- the claim holds of a shop after any events, over files and over a server
abbrev pub EveryShop : (Shop → Type 0) → Type 0
EveryShop claim = (c : Carrier) (events : List ShopEvent) → AreSteps c shop_start events → claim (after_steps shop_start events)

-- two packets of one name, wherever they are at that moment, are the same one, but of a site of which a folder was opened uncompared
abbrev pub AreGivenOnce : Shop → Type 0
AreGivenOnce s = (h g : PacketPlace) (x y : ShopPacket) → Has x (there s h) → Has y (there s g) → name x ≡ name y → ¬ (Has (sender x) s.uncompared) → x ≡ y

abbrev pub IdsAreGivenOnce : Type 0
IdsAreGivenOnce = EveryShop AreGivenOnce

-- so a name was given to another packet only where nothing is left that had the first
abbrev pub GivenAgainOnlyWhereLost : Type 0
GivenAgainOnlyWhereLost = (c : Carrier) (before later : List ShopEvent) → AreSteps c shop_start (before ++ later) → (h g : PacketPlace) (x y : ShopPacket)
    → Has x (there (after_steps shop_start before) h) → Has y (there (after_steps shop_start (before ++ later)) g) → name x ≡ name y → x ≢ y
    → ¬ (Has (sender x) (after_steps shop_start (before ++ later)).uncompared) → (f : PacketPlace) → ¬ (Has x (there (after_steps shop_start (before ++ later)) f))

-- ---- what was accepted

-- the folder comes to have the packet, by folders that are started and packets that are carried alone
abbrev pub CanHave : Carrier → Shop → ℕ → ShopPacket → Type 0
CanHave c s k x = (more : List ShopEvent) × AllCarry more × AreSteps c s more × Has x (folder (after_steps s more) k).kept

-- a folder of site i; or, over a server, its stream
abbrev pub IsOf : Carrier → Shop → ℕ → PacketPlace → Type 0
IsOf c s i (InFolder k) = (folder s k).site ≡ i
IsOf c s i (InStream j) = (j ≡ i) × (c ≡ Server)
IsOf c s i UnderWay = ⊥

-- from a folder a server's stream takes messages at their places alone, if a folder of the site was opened uncompared
abbrev pub IsAppended : Carrier → Shop → ℕ → PacketPlace → Type 0
IsAppended c s i (InFolder k) = c ≡ Server → ¬ (Has i s.uncompared)
IsAppended c s i (InStream j) = Unit {0}
IsAppended c s i UnderWay = ⊥

-- a message that stood in a place that is whole since stands there still; and if the place is one of its site's, each folder of another
-- site comes to have it, unless that is full
abbrev pub NothingAcceptedIsLost : Type 0
NothingAcceptedIsLost = (c : Carrier) (before later : List ShopEvent) → AreSteps c shop_start (before ++ later) → (r i n : ℕ) (h : PacketPlace)
    → Has (Message i n r) (there (after_steps shop_start before) h) → IsUnharmed h later
    → let s = after_steps shop_start (before ++ later) in
    Has (Message i n r) (there s h) × (IsOf c s i h → IsAppended c s i h → (k : ℕ) → (folder s k).site ≢ i → ¬ (Has k s.full) → CanHave c s k (Message i n r))

-- where it is told, it stands in the folder
abbrev pub ToldOkIsKept : Type 0
ToldOkIsKept = (c : Carrier) (before : List ShopEvent) (k r n : ℕ) → AreSteps c shop_start (before ++ TellsOk k r n ∷ [])
    → let s = after_steps shop_start (before ++ TellsOk k r n ∷ []) in
    Has (Ok r (folder s k).site n) s.told × Has (Message (folder s k).site n r) (folder s k).kept

-- with `--published`, it stands in the stream
abbrev pub PublishedIsInStream : Type 0
PublishedIsInStream = (c : Carrier) (before : List ShopEvent) (k r n : ℕ) → AreSteps c shop_start (before ++ TellsPublished k r n ∷ [])
    → let s = after_steps shop_start (before ++ TellsPublished k r n ∷ []) in
    Has (Ok r (folder s k).site n) s.told × Has (Message (folder s k).site n r) (stream s (folder s k).site)

-- ---- the token

-- the site of that folder comes to hold the token, by folders that are started and packets that are carried alone
abbrev pub CanHold : Carrier → Shop → ℕ → Type 0
CanHold c s k = (more : List ShopEvent) × AllCarry more × AreSteps c s more × HoldsToken (folder (after_steps s more) k).site (folder (after_steps s more) k).kept

-- the pass of the greatest turn that there ever was, of site i to site j, stands where it did: in a folder of site i that is whole, or
-- in its stream. Then site j holds the token, or reads that pass and holds it
abbrev pub TheTokenComesBack : Type 0
TheTokenComesBack = (c : Carrier) (before later : List ShopEvent) → AreSteps c shop_start (before ++ later) → (i t j a : ℕ) (h : PacketPlace)
    → Has (Pass i t j a) (there (after_steps shop_start before) h) → IsUnharmed h later
    → let s = after_steps shop_start (before ++ later) in
    t ≡ s.turn → IsOf c s i h → (k : ℕ) → (folder s k).site ≡ j → CanHold c s k

-- before the first pass site 0 holds it
abbrev pub TheFirstSiteHolds : Type 0
TheFirstSiteHolds = EveryShop (λ s. s.turn ≡ 0 → (k : ℕ) → (folder s k).site ≡ 0 → HoldsToken 0 (folder s k).kept)

-- ---- what askers are told

-- no message of the ask stands anywhere
abbrev pub IsUnmade : Shop → ℕ → Type 0
IsUnmade s r = (h : PacketPlace) (i n : ℕ) → ¬ (Has (Message i n r) (there s h))

-- an ask that was refused, or of which nothing was given to a site, is never made a message of
abbrev pub WhatIsToldIsTrue : Type 0
WhatIsToldIsTrue = (c : Carrier) (before later : List ShopEvent) → AreSteps c shop_start (before ++ later) → (r : ℕ) → Has (No r) (after_steps shop_start before).told
    → IsUnmade (after_steps shop_start (before ++ later)) r

-- nobody is told of one ask both that it was accepted and that it wasn't
abbrev pub NobodyIsToldBoth : Type 0
NobodyIsToldBoth = EveryShop (λ s. (r i n : ℕ) → Has (Ok r i n) s.told → ¬ (Has (No r) s.told))

-- an ask is accepted once
abbrev pub AsksAreAcceptedOnce : Type 0
AsksAreAcceptedOnce = EveryShop (λ s. (h g : PacketPlace) (r i n j m : ℕ) → Has (Message i n r) (there s h) → Has (Message j m r) (there s g) → (i ≡ j) × (n ≡ m))

-- the life that the ask names took it, and no other will; and it waits nowhere, nor does any site have it to read
pub record IsAskOver (s : Shop) (r : ℕ) : Type 0 where
  pub asked : r ≤ asks s
  pub served : (k : ℕ) → 0 < (folder s k).life → (request s r).life ≡ (folder s k).life → Has r (folder s k).served
  pub waits_nowhere : (k : ℕ) → ¬ (Has r (folder s k).waiting)
  pub given_nowhere : (k : ℕ) → ¬ (Has r (folder s k).given)

-- then, if there is no message of it, there never is
abbrev pub WhatIsOverStays : Type 0
WhatIsOverStays = (c : Carrier) (before later : List ShopEvent) → AreSteps c shop_start (before ++ later) → (r : ℕ) → IsAskOver (after_steps shop_start before) r
    → IsUnmade (after_steps shop_start before) r → IsUnmade (after_steps shop_start (before ++ later)) r

-- as long as an ask that was given to a site has no answer, none that was given after it gets one
abbrev pub AnswersComeInOrder : Type 0
AnswersComeInOrder = (c : Carrier) (events : List ShopEvent) → AreSteps c shop_start events → let s = after_steps shop_start events in
    (k r q : ℕ) (a b d : List ℕ) → (folder s k).given ≡ a ++ r ∷ (b ++ q ∷ d) → ¬ (May c s (Accepts k q)) × ¬ (May c s (Refuses k q))

-- ---- how weak the rule is

-- a supervisor runs the folder, and nothing was asked there in this life
pub record IsFresh (f : Folder) : Type 0 where
  pub runs : 0 < f.life
  pub served : f.served ≡ []
  pub given : f.given ≡ []
  pub lines : f.lines ≡ []

-- the rule asks for no more than it has to: where any place has a message of the folder's site under a greater number, and the site
-- takes asks all the same, allowed steps lead to two messages under one number
abbrev pub ComparingIsNeeded : Type 0
ComparingIsNeeded = (c : Carrier) (events : List ShopEvent) → AreSteps c shop_start events → let s = after_steps shop_start events in
    (k : ℕ) → IsFresh (folder s k) → ¬ (Has k s.full) → (h : PacketPlace) (n r : ℕ) → IsSeen h → Has (Message (folder s k).site n r) (there s h)
    → highest (folder s k).site (folder s k).kept < n → ¬ (Has (folder s k).site s.uncompared)
    → (more : List ShopEvent) × AreSteps c (after_step s (Opens k)) more × ¬ (AreGivenOnce (after_steps (after_step s (Opens k)) more))

-- ---- sites that yield to a standby: what they tell stands in their streams, and any folder of such a site may take over

-- what was told ok with `--published` stands in the stream, as long as that is whole
abbrev pub ToldStaysInStream : Type 0
ToldStaysInStream = (c : Carrier) (before later : List ShopEvent) (k r n : ℕ) → AreSteps c shop_start (before ++ TellsPublished k r n ∷ later)
    → let i = (folder (after_steps shop_start before) k).site in
    IsUnharmed (InStream i) later → Has (Message i n r) (stream (after_steps shop_start (before ++ TellsPublished k r n ∷ later)) i)

-- and no two asks are told one id so, by whichever folders of the site
abbrev pub IdsAreToldOnce : Type 0
IdsAreToldOnce = (c : Carrier) (before between : List ShopEvent) (k j r q n : ℕ)
    → AreSteps c shop_start (before ++ TellsPublished k r n ∷ (between ++ TellsPublished j q n ∷ []))
    → let i = (folder (after_steps shop_start before) k).site in
    (folder (after_steps shop_start (before ++ TellsPublished k r n ∷ between)) j).site ≡ i → IsUnharmed (InStream i) between → r ≡ q

-- the site doesn't take it back that it yields
abbrev pub StaysYielding : ℕ → List ShopEvent → Type 0
StaysYielding i [] = Unit {0}
StaysYielding i (e ∷ rest) = (e ≢ TakesBack i) × StaysYielding i rest

-- all that is told ok of a site from where it yields on stands in its stream, as long as that is whole
abbrev pub WhatYieldsIsPublished : Type 0
WhatYieldsIsPublished = (c : Carrier) (before later : List ShopEvent) (i : ℕ) → AreSteps c shop_start (before ++ Yields i ∷ later)
    → StaysYielding i later → IsUnharmed (InStream i) later
    → let s = after_steps shop_start (before ++ Yields i ∷ later) in
    (r n : ℕ) → Has (Ok r i n) s.told → Has (Ok r i n) (after_steps shop_start before).told ⊎ Has (Message i n r) (stream s i)
