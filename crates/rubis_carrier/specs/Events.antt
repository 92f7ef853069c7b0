-- What happens to a shop, event by event: when it may, as a relation and as a test that is computed, and what it leads to.
use Rattle.std.specs.Prelude.{◌≡◌, ◌≢◌, ℕ, ◌+◌, ◌<◌, ◌≤◌, ◌==◌, true, false, not, zero, suc, cond, List, [], ◌∷◌, ◌++◌, filter, map, max, take, ◌&&◌, ◌||◌}
use Rattle.std.specs.Prelude.{nat_le, nat_lt, Bool, ◌↔◌}
use Rattle.rubis_model.specs.Site.{Has}
use Rattle.rubis_carrier.specs.declared.values.Carrier.{Carrier}
use Rattle.rubis_carrier.specs.declared.values.Carrier.TheVariants.{Files, Server}
use Rattle.rubis_carrier.specs.declared.values.ShopPacket.{ShopPacket}
use Rattle.rubis_carrier.specs.declared.values.ShopPacket.TheVariants.{Message, Pass}
use Rattle.rubis_carrier.specs.Shops.{HoldsToken, highest, own, sender, taken_turn, Folder, MayOpen, PacketPlace, Shop, asks, empty, folder, put_folder, request, stream, there}
use Rattle.rubis_carrier.specs.Shops.{with_folder, with_stream, last_turn, passed_turn, same_packet}
use Rattle.rubis_carrier.specs.Shops.PacketPlace.{InFolder, InStream, UnderWay}
use Rattle.rubis_carrier.specs.declared.values.Notice.{Notice}
use Rattle.rubis_carrier.specs.declared.values.Notice.TheVariants as told
use Rattle.rubis_carrier.specs.declared.values.ShopEvent.{ShopEvent}
use Rattle.rubis_carrier.specs.declared.values.ShopEvent.TheVariants.{Accepts, Appends, Arrives, Closes, Fills, Finds, Gives, GoesOn, IsAsked, IsCopied}
use Rattle.rubis_carrier.specs.declared.values.ShopEvent.TheVariants.{IsKilled, IsLost, IsRaised, KeeperStarts, LosesEnd, MachineStarts, Opens, OpensAlone}
use Rattle.rubis_carrier.specs.declared.values.ShopEvent.TheVariants.{Passes, Reads, Rebuilds, Refuses, Sends, ServerLosesAll, Serves, Starts, StreamLosesEnd}
use Rattle.rubis_carrier.specs.declared.values.ShopEvent.TheVariants.{TakesBack, TakesOver, TellsNothing, TellsOk, TellsPublished, TellsUnknown, WritesAnew}
use Rattle.rubis_carrier.specs.declared.values.ShopEvent.TheVariants.{Yields}
use Rattle.std.specs.List.{list_all, list_any}
use Rattle.rubis_carrier.specs.declared.values.Answer.{Answer}

-- ---- when it may happen

-- a site finds the packet: over files in a folder of its sender, over a server in its sender's stream
abbrev pub IsOffered : Carrier → Shop → ShopPacket → Type 0
IsOffered Files s x = (j : ℕ) × ((folder s j).site ≡ sender x) × Has x (folder s j).kept
IsOffered Server s x = Has x (stream s (sender x))

-- a supervisor in the life that the ask names takes it, once, and only if it is one record
pub record MayServe (s : Shop) (k r : ℕ) : Type 0 where
  pub runs : 0 < (folder s k).life
  pub asked : r ≤ asks s
  pub life : (request s r).life ≡ (folder s k).life
  pub one : (request s r).records ≡ 1
  pub once : Has r (folder s k).served → ⊥

-- it is the first of the list
abbrev pub IsFirstEvent : ℕ → List ℕ → Type 0
IsFirstEvent r asks = (rest : List ℕ) × (asks ≡ r ∷ rest)

-- the folder in whose place folder j is put doesn't run, and nothing is lost that was left of it
pub record MayRebuild (s : Shop) (k j : ℕ) : Type 0 where
  pub stopped : (folder s k).life ≡ 0
  pub left : (x : ShopPacket) → Has x (folder s k).kept → Has x (folder s j).kept

-- a full site takes no message
abbrev pub FolderHasRoom : Shop → ℕ → ShopPacket → Type 0
FolderHasRoom s k (Message i n r) = ¬ (Has k s.full)
FolderHasRoom s k (Pass i t j a) = Unit {0}

-- a message is the next of its stream
abbrev pub IsAtItsPlace : Shop → ShopPacket → Type 0
IsAtItsPlace s (Message i n r) = n ≡ highest i (stream s i) + 1
IsAtItsPlace s (Pass i t j a) = Unit {0}

-- of a site of which a folder was opened uncompared a message is appended only at its place
abbrev pub MayStandNext : Shop → ShopPacket → Type 0
MayStandNext s x = Has (sender x) s.uncompared → IsAtItsPlace s x

-- a folder that runs has all that stands in its site's stream, and none of that site was opened uncompared
pub record MayWriteAnew (s : Shop) (k : ℕ) : Type 0 where
  pub runs : 0 < (folder s k).life
  pub has : (x : ShopPacket) → Has x (stream s (folder s k).site) → Has x (own (folder s k).site (folder s k).kept)
  pub compared : ¬ (Has (folder s k).site s.uncompared)

-- when an event may happen
abbrev pub May : Carrier → Shop → ShopEvent → Type 0
May c s (Starts k) = (folder s k).life ≡ 0
May c s (Opens k) = MayOpen s k
May c s (TakesOver k) = (0 < (folder s k).life) × Has (folder s k).site s.yielding
May c s (OpensAlone k) = 0 < (folder s k).life
May c s (Closes k) = Unit {0}
May c s (GoesOn k) = 0 < (folder s k).life
May c s (KeeperStarts k) = Unit {0}
May c s (IsKilled k) = Unit {0}
May c s (MachineStarts k) = Unit {0}
May c s (Fills k) = Unit {0}
May c s (IsRaised k) = (folder s k).life ≡ 0
May c s (IsAsked r life n) = (r ≡ asks s + 1) × (life ≤ s.begun)
May c s (Serves k r) = MayServe s k r
May c s (Gives k r) = ((folder s k).is_open ≡ true) × Has r (folder s k).waiting
May c s (Accepts k r) = ((folder s k).is_open ≡ true) × IsFirstEvent r (folder s k).lines × ¬ (Has k s.full)
May c s (Refuses k r) = IsFirstEvent r (folder s k).lines
May c s (TellsOk k r n) = Has (record { ask = r; number = n }) (folder s k).answered × ¬ (Has (folder s k).site s.yielding)
May c s (TellsPublished k r n) = (c ≡ Server) × Has (record { ask = r; number = n }) (folder s k).answered × Has (Message (folder s k).site n r) (stream s (folder s k).site)
May c s (TellsNothing k r) = Has r (folder s k).waiting
May c s (TellsUnknown k r) = Unit {0}
May c s (Yields i) = Unit {0}
May c s (TakesBack i) = Unit {0}
May c s (Passes k to) = ((folder s k).is_open ≡ true) × HoldsToken (folder s k).site (folder s k).kept × (to ≢ (folder s k).site)
May c s (Appends k x) = (c ≡ Server) × (0 < (folder s k).life) × Has x (folder s k).kept × MayStandNext s x
May c s (Sends k x) = (c ≡ Server) × (0 < (folder s k).life) × Has x (folder s k).kept
May c s (Arrives x) = (c ≡ Server) × Has x s.under_way × MayStandNext s x
May c s (Reads k x) = (0 < (folder s k).life) × (sender x ≢ (folder s k).site) × IsOffered c s x × FolderHasRoom s k x
May c s (LosesEnd k n) = Unit {0}
May c s (IsLost k) = Unit {0}
May c s (IsCopied k j) = Unit {0}
May c s (Finds k x) = ((folder s k).life ≡ 0) × ((h : PacketPlace) × Has x (there s h))
May c s (Rebuilds k j) = MayRebuild s k j
May c s (StreamLosesEnd i n) = Unit {0}
May c s ServerLosesAll = Unit {0}
May c s (WritesAnew k) = (c ≡ Server) × MayWriteAnew s k

-- ---- what it leads to

-- nothing runs it
abbrev pub stopped : Folder → Folder
stopped f = record f { life = 0; is_open = false; served = []; waiting = []; given = []; lines = []; answered = [] }

-- and its machine knows nothing of it
abbrev pub unknown : Folder → Folder
unknown f = record (stopped f) { remembered = false }

-- it has these packets, and nothing runs it
abbrev pub replaced : Folder → List ShopPacket → Folder
replaced f packets = record (unknown f) { kept = packets }

-- no other folder of that site is remembered as the last one that took asks
abbrev pub forgotten : ℕ → Folder → Folder
forgotten i f = record f { remembered = cond (f.site == i) false f.remembered }

-- a list without that ask
abbrev pub without : ℕ → List ℕ → List ℕ
without r asks = filter (λ q. not (q == r)) asks

-- the first of a list, and the others
abbrev pub first_event : List ℕ → ℕ
first_event [] = 0
first_event (r ∷ asks) = r

-- all asks but the first
abbrev pub others : List ℕ → List ℕ
others [] = []
others (r ∷ asks) = asks

-- the ask, n times
abbrev pub times : ℕ → ℕ → List ℕ
times zero r = []
times (suc n) r = r ∷ times n r

-- the next message, of that ask; the next turn of the token
abbrev pub next_message : Folder → ℕ → ShopPacket
next_message f r = Message f.site (highest f.site f.kept + 1) r

-- the next pass of the token: its turn is one above the greatest that the site took
abbrev pub next_pass : Folder → ℕ → ShopPacket
next_pass f to = Pass f.site (taken_turn f.site f.kept + 1) to (highest f.site f.kept)

-- the folder with one packet more on its disk
abbrev pub with_packet_kept : Folder → ShopPacket → Folder
with_packet_kept f x = record f { kept = f.kept ++ x ∷ [] }

-- an ask that waited is given to the site, as n records
abbrev pub giving : Folder → ℕ → ℕ → Folder
giving f r n = record f { waiting = without r f.waiting; given = f.given ++ r ∷ []; lines = f.lines ++ times n r }

-- the first record has its answer, which is taken to be that of the first ask
abbrev pub first_answered : Folder → Folder
first_answered f = record f { given = others f.given; lines = others f.lines }

-- the site accepts a record that came with that ask
abbrev pub accepting : Folder → ℕ → Folder
accepting f r = record (with_packet_kept (first_answered f) (next_message f r)) {
  answered = record { ask = first_event f.given; number = highest f.site f.kept + 1 } ∷ f.answered;
}

-- the shop after an asker was told something
abbrev pub after_telling : Notice → Shop → Shop
after_telling what s = record s { told = what ∷ s.told }

-- its site may take no asks
abbrev pub closed : Folder → Folder
closed f = record f { is_open = false }

-- the folder after a supervisor began to run it, in a new life
abbrev pub started : Folder → ℕ → Folder
started f life = record (stopped f) { life = life }

-- its site may take asks, and its machine knows that no other did since
abbrev pub opened_site : Folder → Folder
opened_site f = record f { is_open = true; remembered = true }

-- packets of other sites
abbrev pub of_others : ℕ → List ShopPacket → List ShopPacket
of_others i packets = filter (λ x. not (sender x == i)) packets

-- the shop where that folder opens: what others of its site sent, and hasn't arrived, arrives no more
abbrev pub opening_folder : ℕ → Shop → Shop
opening_folder k s = record s {
  folders = put_folder k (opened_site (folder s k)) (map (forgotten (folder s k).site) s.folders);
  under_way = of_others (folder s k).site s.under_way;
}

-- the same, where it was compared with nothing
abbrev pub opening_uncompared : ℕ → Shop → Shop
opening_uncompared k s = record (opening_folder k s) { uncompared = (folder s k).site ∷ s.uncompared }

-- the shop where that folder takes asks though another one of its site may do that
abbrev pub going_on : ℕ → Shop → Shop
going_on k s = record (with_folder k (record (folder s k) { is_open = true }) s) { uncompared = (folder s k).site ∷ s.uncompared }

-- what an event leads to
abbrev pub after_step : Shop → ShopEvent → Shop
after_step s (Starts k) = record (with_folder k (started (folder s k) (s.begun + 1)) s) { begun = s.begun + 1 }
after_step s (Opens k) = opening_folder k s
after_step s (TakesOver k) = opening_uncompared k s
after_step s (OpensAlone k) = opening_uncompared k s
after_step s (Closes k) = with_folder k (closed (folder s k)) s
after_step s (GoesOn k) = going_on k s
after_step s (KeeperStarts k) = s
after_step s (IsKilled k) = with_folder k (stopped (folder s k)) s
after_step s (MachineStarts k) = with_folder k (unknown (folder s k)) s
after_step s (Fills k) = record s { full = k ∷ s.full }
after_step s (IsRaised k) = record s { full = without k s.full }
after_step s (IsAsked r life n) = record s { requests = s.requests ++ record { life = life; records = n } ∷ [] }
after_step s (Serves k r) = with_folder k (record (folder s k) { served = r ∷ (folder s k).served; waiting = r ∷ (folder s k).waiting }) s
after_step s (Gives k r) = with_folder k (giving (folder s k) r (request s r).records) s
after_step s (Accepts k r) = with_folder k (accepting (folder s k) r) s
after_step s (Refuses k r) = after_telling (told.No (first_event (folder s k).given)) (with_folder k (first_answered (folder s k)) s)
after_step s (TellsOk k r n) = after_telling (told.Ok r (folder s k).site n) s
after_step s (TellsPublished k r n) = after_telling (told.Ok r (folder s k).site n) s
after_step s (TellsNothing k r) = after_telling (told.No r) (with_folder k (record (folder s k) { waiting = without r (folder s k).waiting }) s)
after_step s (TellsUnknown k r) = after_telling (told.Unknown r) s
after_step s (Yields i) = record s { yielding = i ∷ s.yielding }
after_step s (TakesBack i) = record s { yielding = without i s.yielding }
after_step s (Passes k to) = record (with_folder k (with_packet_kept (folder s k) (next_pass (folder s k) to)) s) { turn = max (taken_turn (folder s k).site (folder s k).kept + 1) s.turn }
after_step s (Appends k x) = with_stream (sender x) (stream s (sender x) ++ x ∷ []) s
after_step s (Sends k x) = record s { under_way = x ∷ s.under_way }
after_step s (Arrives x) = with_stream (sender x) (stream s (sender x) ++ x ∷ []) s
after_step s (Reads k x) = with_folder k (with_packet_kept (folder s k) x) s
after_step s (LosesEnd k n) = with_folder k (replaced (folder s k) (take n (folder s k).kept)) s
after_step s (IsLost k) = with_folder k (empty (folder s k).site) s
after_step s (IsCopied k j) = with_folder j (unknown (folder s k)) s
after_step s (Finds k x) = with_folder k (replaced (folder s k) ((folder s k).kept ++ x ∷ [])) s
after_step s (Rebuilds k j) = with_folder k (replaced (folder s k) (folder s j).kept) s
after_step s (StreamLosesEnd i n) = with_stream i (take n (stream s i)) s
after_step s ServerLosesAll = record s { streams = [] }
after_step s (WritesAnew k) = with_stream (folder s k).site (own (folder s k).site (folder s k).kept) s

-- ---- one event after the other

-- what several events lead to, one after the other
abbrev pub after_steps : Shop → List ShopEvent → Shop
after_steps s [] = s
after_steps s (e ∷ rest) = after_steps (after_step s e) rest

-- each of them may happen where it does
abbrev pub AreSteps : Carrier → Shop → List ShopEvent → Type 0
AreSteps c s [] = Unit {0}
AreSteps c s (e ∷ rest) = May c s e × AreSteps c (after_step s e) rest

-- ---- what is lost

-- the event takes packets from this place, or puts others there
abbrev pub Harms : ShopEvent → PacketPlace → Type 0
Harms (Opens k) h = h ≡ UnderWay
Harms (TakesOver k) h = h ≡ UnderWay
Harms (OpensAlone k) h = h ≡ UnderWay
Harms (LosesEnd k n) h = h ≡ InFolder k
Harms (IsLost k) h = h ≡ InFolder k
Harms (IsCopied k j) h = h ≡ InFolder j
Harms (StreamLosesEnd i n) h = h ≡ InStream i
Harms ServerLosesAll (InStream i) = Unit {0}
Harms e h = ⊥

-- none of these events does
abbrev pub IsUnharmed : PacketPlace → List ShopEvent → Type 0
IsUnharmed h [] = Unit {0}
IsUnharmed h (e ∷ rest) = (Harms e h → ⊥) × IsUnharmed h rest

-- ---- what goes on by itself

-- a folder is started, and packets are carried
abbrev pub Carries : ShopEvent → Type 0
Carries (Starts k) = Unit {0}
Carries (Appends k x) = Unit {0}
Carries (Reads k x) = Unit {0}
Carries e = ⊥

-- each of the events starts a folder or carries a packet
abbrev pub AllCarry : List ShopEvent → Type 0
AllCarry [] = Unit {0}
AllCarry (e ∷ rest) = Carries e × AllCarry rest

-- ---- when an event may happen, as a test that is computed

-- ---- what is in a list

abbrev pub has_number : ℕ → List ℕ → Bool
has_number r numbers = list_any (λ q. q == r) numbers

abbrev pub is_first : ℕ → List ℕ → Bool
is_first r [] = false
is_first r (q ∷ numbers) = q == r

abbrev pub has_answer : ℕ → ℕ → List Answer → Bool
has_answer r n answers = list_any (λ a. (a.ask == r) && (a.number == n)) answers

abbrev pub has_packet : ShopPacket → List ShopPacket → Bool
has_packet x packets = list_any (λ y. same_packet y x) packets

abbrev pub has_packets : List ShopPacket → List ShopPacket → Bool
has_packets xs packets = list_all (λ x. has_packet x packets) xs

-- ---- what a folder, and a shop, has

abbrev pub runs : Folder → Bool
runs f = nat_lt 0 f.life

abbrev pub has_answered : ℕ → ℕ → Folder → Bool
has_answered r n f = has_answer r n f.answered

abbrev pub holds_token : Folder → Bool
holds_token f = nat_le (passed_turn f.site f.kept) (taken_turn f.site f.kept) && ((f.site == 0) || nat_lt 0 (taken_turn f.site f.kept))

-- the packet isn't of that site, or no further than that number, or that turn
abbrev pub is_reached : ℕ → ℕ → ℕ → ShopPacket → Bool
is_reached i number turn (Message j n r) = not (j == i) || nat_le n number
is_reached i number turn (Pass j t k a) = not (j == i) || nat_le t turn

-- nor is any
abbrev pub are_reached : ℕ → ℕ → ℕ → List ShopPacket → Bool
are_reached i number turn packets = list_all (λ x. is_reached i number turn x) packets

abbrev pub reaches_all : ℕ → ℕ → ℕ → Shop → Bool
reaches_all i number turn s = list_all (λ f. are_reached i number turn f.kept) s.folders && list_all (λ xs. are_reached i number turn xs) s.streams

abbrev pub is_compared : Shop → Folder → Bool
is_compared s f = reaches_all f.site (highest f.site f.kept) (last_turn f.site f.kept) s

-- no folder of that site is open but that one, of those that are listed from number n on
abbrev pub is_alone : ℕ → ℕ → ℕ → List Folder → Bool
is_alone k i n [] = true
is_alone k i n (f ∷ folders) = (not (f.is_open && (f.site == i)) || (n == k)) && is_alone k i (n + 1) folders

-- the packet stands somewhere
abbrev pub is_somewhere : Shop → ShopPacket → Bool
is_somewhere s x = list_any (λ f. has_packet x f.kept) s.folders || list_any (λ xs. has_packet x xs) s.streams || has_packet x s.under_way

abbrev pub is_offered : Carrier → Shop → ShopPacket → Bool
is_offered Files s x = list_any (λ f. (f.site == sender x) && has_packet x f.kept) s.folders
is_offered Server s x = has_packet x (stream s (sender x))

abbrev pub is_placed : Shop → ShopPacket → Bool
is_placed s (Message i n r) = not (has_number i s.uncompared) || (n == highest i (stream s i) + 1)
is_placed s (Pass i t j a) = true

abbrev pub has_room : Shop → ℕ → ShopPacket → Bool
has_room s k (Message i n r) = not (has_number k s.full)
has_room s k (Pass i t j a) = true

-- each is of that site, and stands there
abbrev pub are_own : ℕ → List ShopPacket → List ShopPacket → Bool
are_own i kept packets = list_all (λ x. (sender x == i) && has_packet x kept) packets

-- ---- an event

abbrev pub is_server : Carrier → Bool
is_server Files = false
is_server Server = true

abbrev pub may_open : Shop → ℕ → Folder → Bool
may_open s k f = runs f && (f.remembered || is_compared s f) && is_alone k f.site 0 s.folders

abbrev pub may_serve : Shop → Folder → ℕ → Bool
may_serve s f r =
    runs f && nat_le r (asks s) && ((request s r).life == f.life) && ((request s r).records == 1) && not (has_number r f.served)

abbrev pub may_tell_published : Shop → Folder → ℕ → ℕ → Bool
may_tell_published s f r n = has_answered r n f && has_packet (Message f.site n r) (stream s f.site)

abbrev pub may_rebuild : Folder → Folder → Bool
may_rebuild f made = (f.life == 0) && has_packets f.kept made.kept

abbrev pub may_send : Carrier → Folder → ShopPacket → Bool
may_send c f x = is_server c && runs f && has_packet x f.kept

abbrev pub may_write_anew : Shop → Folder → Bool
may_write_anew s f = runs f && not (has_number f.site s.uncompared) && are_own f.site f.kept (stream s f.site)

abbrev pub may : Carrier → Shop → ShopEvent → Bool
may c s (Starts k) = (folder s k).life == 0
may c s (Opens k) = may_open s k (folder s k)
may c s (TakesOver k) = runs (folder s k) && has_number (folder s k).site s.yielding
may c s (OpensAlone k) = runs (folder s k)
may c s (GoesOn k) = runs (folder s k)
may c s (IsRaised k) = (folder s k).life == 0
may c s (IsAsked r life n) = (r == asks s + 1) && nat_le life s.begun
may c s (Serves k r) = may_serve s (folder s k) r
may c s (Gives k r) = (folder s k).is_open && has_number r (folder s k).waiting
may c s (Accepts k r) = (folder s k).is_open && is_first r (folder s k).lines && not (has_number k s.full)
may c s (Refuses k r) = is_first r (folder s k).lines
may c s (TellsOk k r n) = has_answered r n (folder s k) && not (has_number (folder s k).site s.yielding)
may c s (TellsPublished k r n) = is_server c && may_tell_published s (folder s k) r n
may c s (TellsNothing k r) = has_number r (folder s k).waiting
may c s (Passes k to) = (folder s k).is_open && holds_token (folder s k) && not (to == (folder s k).site)
may c s (Appends k x) = may_send c (folder s k) x && is_placed s x
may c s (Sends k x) = may_send c (folder s k) x
may c s (Arrives x) = is_server c && has_packet x s.under_way && is_placed s x
may c s (Reads k x) = runs (folder s k) && not (sender x == (folder s k).site) && is_offered c s x && has_room s k x
may c s (Finds k x) = ((folder s k).life == 0) && is_somewhere s x
may c s (Rebuilds k j) = may_rebuild (folder s k) (folder s j)
may c s (WritesAnew k) = is_server c && may_write_anew s (folder s k)
may c s e = true

-- each of them may happen where it does
abbrev pub are_steps : Carrier → Shop → List ShopEvent → Bool
are_steps c s [] = true
are_steps c s (e ∷ rest) = may c s e && are_steps c (after_step s e) rest

-- the test says when an event may happen
abbrev pub MayIsComputed : Type 0
MayIsComputed = (c : Carrier) (s : Shop) (e : ShopEvent) → (may c s e ≡ true) ↔ May c s e
