-- A shop: the folders of its sites, with what runs them, what its sites send, and what carries packets between them.
use Rattle.std.specs.Prelude.{◌≡◌, ◌⊎◌, ℕ, ◌<◌, ◌≤◌, ◌==◌, ◌&&◌, Bool, false, cond, filter, List, [], ◌∷◌, max, zero, suc, true, get_or, length}
use Rattle.rubis_carrier.specs.declared.values.ShopPacket.{ShopPacket}
use Rattle.rubis_carrier.specs.declared.values.ShopPacket.TheVariants.{Message, Pass}
use Rattle.rubis_model.specs.Site.{Has}
use Rattle.rubis_carrier.specs.declared.values.Answer.{Answer}
use Rattle.rubis_carrier.specs.declared.values.ShopRequest.{ShopRequest}
use Rattle.rubis_carrier.specs.declared.values.Notice.{Notice}

-- the site that sent the packet
abbrev pub sender : ShopPacket → ℕ
sender (Message i n r) = i
sender (Pass i t j a) = i

-- under which name it is given: a message's id, or a turn of a site
pub data Name : Type 0 where
  Id : (site number : ℕ) → Name
  Turn : (site turn : ℕ) → Name

-- the packet's name: a message's id, or the site and turn of a pass
abbrev pub name : ShopPacket → Name
name (Message i n r) = Id i n
name (Pass i t j a) = Turn i t

-- whether two packets are equal in all they have
abbrev pub same_packet : ShopPacket → ShopPacket → Bool
same_packet (Message i n r) (Message j m q) = (i == j) && (n == m) && (r == q)
same_packet (Pass i t j a) (Pass k u l b) = (i == k) && (t == u) && (j == l) && (a == b)
same_packet (Message i n r) (Pass k u l b) = false
same_packet (Pass i t j a) (Message k m q) = false

-- ---- what a list of packets says of a site

-- what the site sent
abbrev pub own : ℕ → List ShopPacket → List ShopPacket
own i kept = filter (λ x. sender x == i) kept

-- the greatest number that the site gave
abbrev pub highest : ℕ → List ShopPacket → ℕ
highest i [] = 0
highest i (Message j n r ∷ rest) = cond (j == i) (max n (highest i rest)) (highest i rest)
highest i (Pass j t k a ∷ rest) = highest i rest

-- the greatest turn that it took
abbrev pub taken_turn : ℕ → List ShopPacket → ℕ
taken_turn i [] = 0
taken_turn i (Message j n r ∷ rest) = taken_turn i rest
taken_turn i (Pass j t k a ∷ rest) = cond (k == i) (max t (taken_turn i rest)) (taken_turn i rest)

-- the greatest turn that it passed on
abbrev pub passed_turn : ℕ → List ShopPacket → ℕ
passed_turn i [] = 0
passed_turn i (Message j n r ∷ rest) = passed_turn i rest
passed_turn i (Pass j t k a ∷ rest) = cond (j == i) (max t (passed_turn i rest)) (passed_turn i rest)

-- the greatest turn that it passed on or took: those that it passes on from now on are later
abbrev pub last_turn : ℕ → List ShopPacket → ℕ
last_turn i kept = max (passed_turn i kept) (taken_turn i kept)

-- the site has the token: it took one, or is the first to have it, and hasn't passed a later one on
abbrev pub HoldsToken : ℕ → List ShopPacket → Type 0
HoldsToken i kept = (passed_turn i kept ≤ taken_turn i kept) × ((i ≡ 0) ⊎ (0 < taken_turn i kept))

-- it has given such a number, or a greater one; it has passed such a turn on, or a later one, or taken one, and never passes it on again
abbrev pub IsReached : ℕ → List ShopPacket → ShopPacket → Type 0
IsReached i kept (Message j n r) = n ≤ highest i kept
IsReached i kept (Pass j t k a) = t ≤ last_turn i kept

-- ---- a shop: the folders of its sites, with what runs them, and what carries packets between them

-- A folder of a site, of which there may be several: a copy is a folder of its own. `kept` is on the disk: all that its site sent and
-- took in, in order. The other fields are in memory: the life in which a supervisor runs the folder, or 0; whether its site may take
-- asks; whether its machine remembers that it has all that it ever told, and was the last of its site that took asks. And of the asks of
-- this life: those that it was sent; those that wait there; those that were given to the site and have no answer, in order; the records
-- that the site has still to read, each as the ask that it came from; and the answers
pub record Folder : Type 0 where
  pub site : ℕ
  pub kept : List ShopPacket
  pub life : ℕ
  pub is_open : Bool
  pub remembered : Bool
  pub served : List ℕ
  pub waiting : List ℕ
  pub given : List ℕ
  pub lines : List ℕ
  pub answered : List Answer

-- a folder that has nothing: a new one, or one that was lost
abbrev pub empty : ℕ → Folder
empty i = record { site = i; kept = []; life = 0; is_open = false; remembered = false; served = []; waiting = []; given = []; lines = []; answered = [] }

-- The folders, by number, and the streams, by site: those that aren't listed have nothing. How many lives were begun; the asks that were
-- asked, from number 1 on; the sites that yield to a standby; those of which a folder was ever opened that was compared with nothing, or
-- took asks on though another one was opened; the folders whose sites are full; the packets whose appends are under way; all that askers
-- were told; and the greatest turn of the token that was passed
pub record Shop : Type 0 where
  pub folders : List Folder
  pub streams : List (List ShopPacket)
  pub begun : ℕ
  pub requests : List ShopRequest
  pub yielding : List ℕ
  pub uncompared : List ℕ
  pub full : List ℕ
  pub under_way : List ShopPacket
  pub told : List Notice
  pub turn : ℕ

-- nothing has happened
abbrev pub shop_start : Shop
shop_start = record {
  folders = [];
  streams = [];
  begun = 0;
  requests = [];
  yielding = [];
  uncompared = [];
  full = [];
  under_way = [];
  told = [];
  turn = 0;
}

-- ---- by number

-- the list with x under that number; what comes to be listed before it has nothing
abbrev pub put : {A : Type 0} → (ℕ → A) → ℕ → A → List A → List A
put nothing zero x [] = x ∷ []
put nothing zero x (y ∷ ys) = x ∷ ys
put nothing (suc k) x [] = nothing 0 ∷ put (λ j. nothing (suc j)) k x []
put nothing (suc k) x (y ∷ ys) = y ∷ put (λ j. nothing (suc j)) k x ys

-- folder k is that of site k, until it becomes a copy of another one
abbrev pub folder_in : List Folder → ℕ → Folder
folder_in folders k = get_or folders k (empty k)

abbrev pub stream_in : List (List ShopPacket) → ℕ → List ShopPacket
stream_in streams i = get_or streams i []

abbrev pub request_in : List ShopRequest → ℕ → ShopRequest
request_in requests zero = record { life = 0; records = 0 }
request_in requests (suc r) = get_or requests r (record { life = 0; records = 0 })

abbrev pub folder : Shop → ℕ → Folder
folder s k = folder_in s.folders k

abbrev pub stream : Shop → ℕ → List ShopPacket
stream s i = stream_in s.streams i

abbrev pub request : Shop → ℕ → ShopRequest
request s r = request_in s.requests r

-- how many asks were asked
abbrev pub asks : Shop → ℕ
asks s = length s.requests

abbrev pub put_folder : ℕ → Folder → List Folder → List Folder
put_folder k f folders = put empty k f folders

abbrev pub put_stream : ℕ → List ShopPacket → List (List ShopPacket) → List (List ShopPacket)
put_stream i xs streams = put (λ j. []) i xs streams

-- the shop with another folder of this number
abbrev pub with_folder : ℕ → Folder → Shop → Shop
with_folder k f s = record s { folders = put_folder k f s.folders }

-- the shop with another stream of this site
abbrev pub with_stream : ℕ → List ShopPacket → Shop → Shop
with_stream i xs s = record s { streams = put_stream i xs s.streams }

-- where packets are
pub data PacketPlace : Type 0 where
  InFolder : (folder : ℕ) → PacketPlace
  InStream : (site : ℕ) → PacketPlace
  UnderWay : PacketPlace

-- the packets that stand at a place
abbrev pub there : Shop → PacketPlace → List ShopPacket
there s (InFolder k) = (folder s k).kept
there s (InStream i) = stream s i
there s UnderWay = s.under_way

-- what is under way nobody can see
abbrev pub IsSeen : PacketPlace → Type 0
IsSeen (InFolder k) = Unit {0}
IsSeen (InStream i) = Unit {0}
IsSeen UnderWay = ⊥

-- ---- may a site take asks?

-- nothing of the folder's site stands there under a number, or a turn, that is greater than those of the folder
abbrev pub IsNotAhead : Shop → ℕ → PacketPlace → Type 0
IsNotAhead s k h = (x : ShopPacket) → Has x (there s h) → sender x ≡ (folder s k).site → IsReached (folder s k).site (folder s k).kept x

-- it was compared with everything that there is: all streams, all folders of other sites, and all copies
abbrev pub IsCompared : Shop → ℕ → Type 0
IsCompared s k = (h : PacketPlace) → IsSeen h → IsNotAhead s k h

-- no other folder of its site takes asks
abbrev pub IsAlone : Shop → ℕ → Type 0
IsAlone s k = (j : ℕ) → (folder s j).is_open ≡ true → (folder s j).site ≡ (folder s k).site → j ≡ k

-- a supervisor runs it, its machine remembers that it lacks nothing, or it was compared; and no other folder of the site is open
pub record MayOpen (s : Shop) (k : ℕ) : Type 0 where
  pub runs : 0 < (folder s k).life
  pub knows : ((folder s k).remembered ≡ true) ⊎ IsCompared s k
  pub alone : IsAlone s k
