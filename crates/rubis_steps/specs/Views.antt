-- What the code holds, as the model has it.
use Rattle.std.specs.Prelude.{ℕ, ◌==◌, ◌&&◌, ◌||◌, Bool, List, cond, [], ◌∷◌, ◌++◌, map, take, true}
use Rattle.std.specs.Global.{Vec}
use Rattle.std.specs.List.{list_all, list_any}
use Rattle.rubis_carrier.specs.declared.values.ShopPacket.{ShopPacket}
use Rattle.rubis_carrier.specs.declared.values.ShopPacket.TheVariants.{Message, Pass}
use Rattle.rubis_carrier.specs.Shops.{sender, Folder, Shop, empty, folder, stream}
use Rattle.rubis_carrier.specs.Events.{are_reached, has_packet, accepting, first_answered, closed, giving, with_packet_kept, next_pass, replaced, stopped, unknown, without}
use Rattle.rubis_steps.specs.declared.folders.Folder.{Folder as CodeFolder}
use Rattle.rubis_carrier.specs.declared.values.ShopEvent.{ShopEvent}
use Rattle.rubis_carrier.specs.declared.values.ShopEvent.TheVariants.{Accepts, Closes, Finds, Gives, GoesOn, IsKilled, IsLost, LosesEnd, MachineStarts, Passes}
use Rattle.rubis_carrier.specs.declared.values.ShopEvent.TheVariants.{Reads, Refuses, Serves, TellsNothing}
use Rattle.rubis_steps.specs.declared.shops.Shop.{Shop as CodeShop}

-- the number that a packet gives, the turn that it brings, or that it passes on, if it is of that site; or else 0
abbrev pub number_in : ℕ → ShopPacket → ℕ
number_in i (Message j n r) = cond (j == i) n 0
number_in i (Pass j t k a) = 0

abbrev pub taken_seen : ℕ → ShopPacket → ℕ
taken_seen i (Message j n r) = 0
taken_seen i (Pass j t k a) = cond (k == i) t 0

abbrev pub passed_in : ℕ → ShopPacket → ℕ
passed_in i (Message j n r) = 0
passed_in i (Pass j t k a) = cond (j == i) t 0

-- in all folders, and in all streams
abbrev pub folders_reached : ℕ → ℕ → ℕ → List CodeFolder → Bool
folders_reached i number turn fs = list_all (λ f. are_reached i number turn f.kept.items) fs

abbrev pub streams_reached : ℕ → ℕ → ℕ → List (Vec ShopPacket) → Bool
streams_reached i number turn xs = list_all (λ v. are_reached i number turn v.items) xs

-- in some folder, or in some stream
abbrev pub in_folders : ShopPacket → List CodeFolder → Bool
in_folders x fs = list_any (λ f. has_packet x f.kept.items) fs

abbrev pub in_streams : ShopPacket → List (Vec ShopPacket) → Bool
in_streams x xs = list_any (λ v. has_packet x v.items) xs

abbrev pub is_found : ShopPacket → List CodeFolder → List (Vec ShopPacket) → Bool
is_found x fs xs = in_folders x fs || in_streams x xs

-- in some folder of its sender
abbrev pub in_own_folder : ShopPacket → List CodeFolder → Bool
in_own_folder x fs = list_any (λ f. (f.site == sender x) && has_packet x f.kept.items) fs

-- ---- what the code holds, as the model has it

abbrev pub folder_of : CodeFolder → Folder
folder_of f = record {
  site = f.site;
  kept = f.kept.items;
  life = f.life;
  is_open = f.is_open;
  remembered = f.remembered;
  served = f.served.items;
  waiting = f.waiting.items;
  given = f.given.items;
  lines = f.lines.items;
  answered = f.answered.items;
}

abbrev pub folders_of : Vec CodeFolder → List Folder
folders_of fs = map folder_of fs.items

abbrev pub packets_seen : Vec ShopPacket → List ShopPacket
packets_seen v = v.items

abbrev pub streams_of : Vec (Vec ShopPacket) → List (List ShopPacket)
streams_of vs = map packets_seen vs.items

abbrev pub shop_of : CodeShop → Shop
shop_of s = record {
  folders = folders_of s.folders;
  streams = streams_of s.streams;
  begun = s.begun;
  requests = s.requests.items;
  yielding = s.yielding.items;
  uncompared = s.uncompared.items;
  full = s.full.items;
  under_way = s.under_way.items;
  told = s.told.items;
  turn = s.turn;
}

-- folder k, and the stream of site i
abbrev pub folder_at : CodeShop → ℕ → Folder
folder_at s k = folder (shop_of s) k

abbrev pub stream_at : CodeShop → ℕ → List ShopPacket
stream_at s i = stream (shop_of s) i

-- what becomes of the folder at which the event happens, if that is all; `records` is how many its ask has
abbrev pub changed : ShopEvent → ℕ → Folder → Folder
changed (Closes k) records f = closed f
changed (GoesOn k) records f = record f { is_open = true }
changed (IsKilled k) records f = stopped f
changed (MachineStarts k) records f = unknown f
changed (Serves k r) records f = record f { served = r ∷ f.served; waiting = r ∷ f.waiting }
changed (Gives k r) records f = giving f r records
changed (Accepts k r) records f = accepting f r
changed (Refuses k r) records f = first_answered f
changed (TellsNothing k r) records f = record f { waiting = without r f.waiting }
changed (Passes k to) records f = with_packet_kept f (next_pass f to)
changed (Reads k x) records f = with_packet_kept f x
changed (LosesEnd k n) records f = replaced f (take n f.kept)
changed (IsLost k) records f = empty f.site
changed (Finds k x) records f = replaced f (f.kept ++ x ∷ [])
changed e records f = f
