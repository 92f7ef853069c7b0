-- A step of a shop as it stands on a line.
use Rattle.std.specs.Prelude.{◌≡◌, ℕ, ◌++◌, List, [], ◌∷◌, codes, decimal}
use Rattle.rubis_carrier.specs.declared.values.ShopEvent.{ShopEvent}
use Rattle.rubis_carrier.specs.declared.values.ShopEvent.TheVariants as on
use Rattle.rubis_carrier.specs.declared.values.ShopPacket.{ShopPacket}
use Rattle.rubis_carrier.specs.declared.values.ShopPacket.TheVariants as packet

-- the numbers of a packet
abbrev pub packet_numbers : ShopPacket → List ℕ
packet_numbers (packet.Message i n r) = i ∷ n ∷ r ∷ []
packet_numbers (packet.Pass i t j a) = i ∷ t ∷ j ∷ a ∷ []

-- the kind of an event, and its numbers in the order in which it has them
abbrev pub Saying : ShopEvent → List ℕ → List ℕ → Type 0
Saying (on.Starts k) kind numbers = (kind ≡ codes "Starts") × (numbers ≡ k ∷ [])
Saying (on.Opens k) kind numbers = (kind ≡ codes "Opens") × (numbers ≡ k ∷ [])
Saying (on.TakesOver k) kind numbers = (kind ≡ codes "TakesOver") × (numbers ≡ k ∷ [])
Saying (on.OpensAlone k) kind numbers = (kind ≡ codes "OpensAlone") × (numbers ≡ k ∷ [])
Saying (on.Closes k) kind numbers = (kind ≡ codes "Closes") × (numbers ≡ k ∷ [])
Saying (on.GoesOn k) kind numbers = (kind ≡ codes "GoesOn") × (numbers ≡ k ∷ [])
Saying (on.KeeperStarts k) kind numbers = (kind ≡ codes "KeeperStarts") × (numbers ≡ k ∷ [])
Saying (on.IsKilled k) kind numbers = (kind ≡ codes "IsKilled") × (numbers ≡ k ∷ [])
Saying (on.MachineStarts k) kind numbers = (kind ≡ codes "MachineStarts") × (numbers ≡ k ∷ [])
Saying (on.Fills k) kind numbers = (kind ≡ codes "Fills") × (numbers ≡ k ∷ [])
Saying (on.IsRaised k) kind numbers = (kind ≡ codes "IsRaised") × (numbers ≡ k ∷ [])
Saying (on.IsAsked r l n) kind numbers = (kind ≡ codes "IsAsked") × (numbers ≡ r ∷ l ∷ n ∷ [])
Saying (on.Serves k r) kind numbers = (kind ≡ codes "Serves") × (numbers ≡ k ∷ r ∷ [])
Saying (on.Gives k r) kind numbers = (kind ≡ codes "Gives") × (numbers ≡ k ∷ r ∷ [])
Saying (on.Accepts k r) kind numbers = (kind ≡ codes "Accepts") × (numbers ≡ k ∷ r ∷ [])
Saying (on.Refuses k r) kind numbers = (kind ≡ codes "Refuses") × (numbers ≡ k ∷ r ∷ [])
Saying (on.TellsOk k r n) kind numbers = (kind ≡ codes "TellsOk") × (numbers ≡ k ∷ r ∷ n ∷ [])
Saying (on.TellsPublished k r n) kind numbers = (kind ≡ codes "TellsPublished") × (numbers ≡ k ∷ r ∷ n ∷ [])
Saying (on.TellsNothing k r) kind numbers = (kind ≡ codes "TellsNothing") × (numbers ≡ k ∷ r ∷ [])
Saying (on.TellsUnknown k r) kind numbers = (kind ≡ codes "TellsUnknown") × (numbers ≡ k ∷ r ∷ [])
Saying (on.Yields i) kind numbers = (kind ≡ codes "Yields") × (numbers ≡ i ∷ [])
Saying (on.TakesBack i) kind numbers = (kind ≡ codes "TakesBack") × (numbers ≡ i ∷ [])
Saying (on.Passes k j) kind numbers = (kind ≡ codes "Passes") × (numbers ≡ k ∷ j ∷ [])
Saying (on.Appends k x) kind numbers = (kind ≡ codes "Appends") × (numbers ≡ k ∷ packet_numbers x)
Saying (on.Sends k x) kind numbers = (kind ≡ codes "Sends") × (numbers ≡ k ∷ packet_numbers x)
Saying (on.Arrives x) kind numbers = (kind ≡ codes "Arrives") × (numbers ≡ packet_numbers x)
Saying (on.Reads k x) kind numbers = (kind ≡ codes "Reads") × (numbers ≡ k ∷ packet_numbers x)
Saying (on.LosesEnd k n) kind numbers = (kind ≡ codes "LosesEnd") × (numbers ≡ k ∷ n ∷ [])
Saying (on.IsLost k) kind numbers = (kind ≡ codes "IsLost") × (numbers ≡ k ∷ [])
Saying (on.IsCopied k j) kind numbers = (kind ≡ codes "IsCopied") × (numbers ≡ k ∷ j ∷ [])
Saying (on.Finds k x) kind numbers = (kind ≡ codes "Finds") × (numbers ≡ k ∷ packet_numbers x)
Saying (on.Rebuilds k j) kind numbers = (kind ≡ codes "Rebuilds") × (numbers ≡ k ∷ j ∷ [])
Saying (on.StreamLosesEnd i n) kind numbers = (kind ≡ codes "StreamLosesEnd") × (numbers ≡ i ∷ n ∷ [])
Saying on.ServerLosesAll kind numbers = (kind ≡ codes "ServerLosesAll") × (numbers ≡ [])
Saying (on.WritesAnew k) kind numbers = (kind ≡ codes "WritesAnew") × (numbers ≡ k ∷ [])

-- each behind a comma
abbrev pub commas : List ℕ → List ℕ
commas [] = []
commas (n ∷ numbers) = codes "," ++ decimal n ++ commas numbers

-- the line has that kind, and then those numbers
abbrev pub IsStepLine : ShopEvent → List ℕ → Type 0
IsStepLine e line = (kind : List ℕ) × (numbers : List ℕ) × Saying e kind numbers × (line ≡ kind ++ commas numbers)
