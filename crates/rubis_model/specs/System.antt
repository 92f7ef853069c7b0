-- Any number of sites, all packets that they ever sent, what happens there, and what every event keeps.
use Rattle.std.specs.Prelude.{ℕ, ◌+◌, zero, suc, nat_lt, cond, Option, Some, None, Result, Ok, Err, List, [], ◌∷◌, ◌++◌, length, map, slice_get, slice_set}
use Rattle.std.specs.Prelude.{slice_index_or, ⊤, ◌≡◌, ◌<◌, ◌≤◌, reverse, ◌⊎◌, ◌↔◌}
use Rattle.std.specs.List.{range_with_len}
use Rattle.rubis_schema.specs.declared.listings.Listing.{Listing}
use Rattle.rubis_schema.specs.declared.refusals.Refusal.{Refusal}
use Rattle.rubis_schema.specs.declared.refusals.Refusal.TheVariants.{BadEvent, NoSuchPacket}
use Rattle.rubis_shadow.specs.Shadows.{IsAsk, is_red}
use Rattle.rubis_message.specs.declared.answers.Happened.{Happened}
use Rattle.rubis_message.specs.declared.answers.Happened.TheVariants as happened
use Rattle.rubis_message.specs.declared.requests.Request.{Request}
use Rattle.rubis_message.specs.declared.requests.Request.TheVariants as request
use Rattle.rubis_message.specs.declared.tokens.Packet.{Packet}
use Rattle.rubis_message.specs.declared.tokens.Packet.TheVariants as packet
use Rattle.rubis_model.specs.Log.{cores, fold_of}
use Rattle.rubis_model.specs.Site.{listing_rows, Place, Replica, opening_at, asked, arrived, took, passed, Has, Ready, counted}
use Rattle.rubis_message.specs.Message.{Message, dep, IsMessage, sites_of}
use Rattle.rubis_model.specs.Checks.{Fits, IsLimited}
use Rattle.rubis_message.specs.declared.tokens.Token.{Token}

-- the sites' states, and all packets that were ever sent, in the order in which they were sent
pub record World : Type 0 where
  pub sites : List Replica
  pub sent : List Packet

-- a request at a site, or the delivery of a packet: none is ever lost or used up, so it may be delivered never, once or
-- again, and in any order
pub data Event : Type 0 where
  At : (site : ℕ) (request : Request) → Event
  Deliver : (site which : ℕ) → Event

-- an ask is within the limits when there are `sites` sites
abbrev pub IsEvent : ℕ → Event → Type 0
IsEvent sites (At i (request.Ask ask)) = IsAsk sites ask
IsEvent sites (At i (request.Pass to)) = ⊤
IsEvent sites (At i (request.List l)) = ⊤
IsEvent sites (Deliver i k) = ⊤

-- each is an event of `sites` sites
abbrev pub AreEvents : ℕ → List Event → Type 0
AreEvents sites [] = ⊤
AreEvents sites (e ∷ es) = IsEvent sites e × AreEvents sites es

-- the state of a site; past the last one, that of a site with nothing done
abbrev pub site : World → ℕ → Replica
site w i = slice_index_or w.sites i (opening_at 1)

-- which site it is, of how many; all keep equally many messages
abbrev pub place : ℕ → World → ℕ → Place
place keep w i = record { site = i; sites = length w.sites; keep = keep }

-- packet k, counted from 1
abbrev pub packet_at : List Packet → ℕ → Option Packet
packet_at sent zero = None
packet_at sent (suc k) = slice_get sent k

-- a site comes to another state
abbrev pub with_site : World → ℕ → Replica → World
with_site w i s = record w { sites = slice_set w.sites i s }

-- what the site answers goes last on the list, if it isn't a refusal
abbrev pub sending : {A : Type 0} → (A → Packet) → Result A Refusal → List Packet
sending pack (Ok x) = pack x ∷ []
sending pack (Err r) = []

-- the site's new state, and what it sends, if it doesn't refuse, last among the packets
abbrev pub answering : {A : Type 0} → (A → Packet) → World → ℕ → Replica × Result A Refusal → World
answering pack w i p = record { sites = slice_set w.sites i p.0; sent = w.sent ++ sending pack p.1 }

-- what is answered, or the refusal
abbrev pub saying : {A : Type 0} → (A → Happened) → Result A Refusal → Result Happened Refusal
saying word (Ok x) = Ok (word x)
saying word (Err r) = Err r

-- the number of the next packet
abbrev pub next_number : World → ℕ
next_number w = length w.sent + 1

-- the site sends what it answers, and the world says by which number
abbrev pub sends : {A : Type 0} → (A → Packet) → World → ℕ → Replica × Result A Refusal → World × Result Happened Refusal
sends pack w i p = (answering pack w i p, saying (λ _. happened.Sent (next_number w)) p.1)

-- the site takes something in
abbrev pub takes : {A : Type 0} → (A → Happened) → World → ℕ → Replica × Result A Refusal → World × Result Happened Refusal
takes word w i p = (with_site w i p.0, saying word p.1)

-- the rows of a listing; it changes nothing
abbrev pub shown : World → ℕ → Listing → World × Result Happened Refusal
shown w i l = (w, Ok (happened.Rows (listing_rows (site w i).log (fold_of (cores (site w i).log)) l)))

-- the site's whole step, with each refusal
abbrev pub requested : ℕ → World → ℕ → Request → World × Result Happened Refusal
requested keep w i (request.Ask ask) = sends packet.Msg w i (asked (place keep w i) (site w i) ask)
requested keep w i (request.Pass to) = sends packet.Token w i (passed (place keep w i) (site w i) to)
requested keep w i (request.List l) = shown w i l

-- the packet is taken in
abbrev pub coming : ℕ → World → ℕ → Option Packet → World × Result Happened Refusal
coming keep w i None = (w, Err NoSuchPacket)
coming keep w i (Some (packet.Msg m)) = takes happened.Came w i (arrived (place keep w i) (site w i) m)
coming keep w i (Some (packet.Token t)) = takes happened.Token w i (took (place keep w i) (site w i) t)

-- where there is no such site nothing happens
abbrev pub at_site : World → ℕ → World × Result Happened Refusal → World × Result Happened Refusal
at_site w i step = cond (nat_lt i (length w.sites)) step (w, Err BadEvent)

-- what an event leads to, and what is answered: without such a site BadEvent, without such a packet NoSuchPacket, and then nothing changes
abbrev pub happens : ℕ → World → Event → World × Result Happened Refusal
happens keep w (At i r) = at_site w i (requested keep w i r)
happens keep w (Deliver i k) = at_site w i (coming keep w i (packet_at w.sent k))

-- one event after the other
abbrev pub run : ℕ → List Event → World → World
run keep [] w = w
run keep (e ∷ es) w = run keep es (happens keep w e).0

-- n sites with nothing done and nothing sent
abbrev pub start : ℕ → World
start n = record { sites = map opening_at (range_with_len 0 n); sent = [] }

-- ---- which messages precede which, and what order a log keeps

-- u precedes v: v's origin had released u when it made v
abbrev pub Precedes : Message → Message → Type 0
Precedes u v = u.stamp.id.seq ≤ dep v u.stamp.id.site

-- u stands before v in the list
abbrev pub StandsBefore : Message → Message → List Message → Type 0
StandsBefore u v [] = ⊥
StandsBefore u v (x ∷ log) = ((u ≡ x) × Has v log) ⊎ StandsBefore u v log

-- these messages are a RedBlue order: precedence is a strict partial order on them, and any two red ones are ordered
pub record IsRedBlueOrder (all : Message → Type 0) : Type 0 where
  pub irreflexive : (u : Message) → all u → Precedes u u → ⊥
  pub transitive : (u v x : Message) → all u → all v → all x → Precedes u v → Precedes v x → Precedes u x
  pub reds : (u v : Message) → all u → all v → 0 < u.stamp.red → 0 < v.stamp.red → (u ≡ v) ⊎ (Precedes u v ⊎ Precedes v u)

-- the log of site i causally serializes these messages: it has some of them, each once, and with each all that precede
-- it, before it; and what stands before a message of site i itself precedes that one
pub record Serializes (i : ℕ) (all : Message → Type 0) (log : List Message) : Type 0 where
  pub members : (u : Message) → Has u log → all u
  pub distinct : (u : Message) → StandsBefore u u log → ⊥
  pub closed : (u v : Message) → all u → Has v log → Precedes u v → StandsBefore u v log
  pub causal : (u v : Message) → StandsBefore u v log → v.stamp.id.site ≡ i → Precedes u v

-- each was ready when it was released; newest first
abbrev pub Released : List Message → Type 0
Released [] = ⊤
Released (m ∷ past) = Ready past m × Released past

-- what was found of the message when it was made after these, newest first: its shadow fits and is within the limits,
-- and it has a red number if and only if its shadow is red
pub record Decided (past : List Message) (m : Message) : Type 0 where
  pub fits : Fits (cores (reverse past)) m.shadow
  pub limits : IsLimited m.shadow
  pub colour : is_red m.shadow ≡ nat_lt 0 m.stamp.red

-- what v's origin had in its log when it made v, newest first: exactly what precedes v
pub record Foundation (all : Message → Type 0) (v : Message) : Type 0 where
  pub past : List Message
  pub released : Released past
  pub exactly : (u : Message) → Has u past ↔ (all u × Precedes u v)
  pub decided : Decided past v

-- ---- what every event keeps of all sites together

-- how many red messages were sent
abbrev pub red_count : List Packet → ℕ
red_count [] = 0
red_count (packet.Msg m ∷ ps) = red_count ps + cond (nat_lt 0 m.stamp.red) 1 0
red_count (packet.Token t ∷ ps) = red_count ps

-- how many tokens were sent
abbrev pub turns : List Packet → ℕ
turns [] = 0
turns (packet.Msg m ∷ ps) = turns ps
turns (packet.Token t ∷ ps) = turns ps + 1

-- each that site i made counts what stood before it; newest first
abbrev pub CountedBy : ℕ → List Message → Type 0
CountedBy i [] = ⊤
CountedBy i (m ∷ past) = (m.stamp.id.site ≡ i → (j : ℕ) → dep m j ≡ counted j past) × CountedBy i past

-- each that site i made fits after what stood before it; newest first
abbrev pub DecidedBy : ℕ → List Message → Type 0
DecidedBy i [] = ⊤
DecidedBy i (m ∷ past) = (m.stamp.id.site ≡ i → Decided past m) × DecidedBy i past

-- of site i: each message of its log was ready when it was released, its own count all before them and fit
-- after that; the log and the waiting messages were sent, and none that waits is its own
pub record Good (sent : List Packet) (i : ℕ) (log waiting : List Message) : Type 0 where
  pub released : Released (reverse log)
  pub made : CountedBy i (reverse log)
  pub decided : DecidedBy i (reverse log)
  pub log_sent : (m : Message) → Has m (reverse log) → Has (packet.Msg m) sent
  pub waiting_sent : (m : Message) → Has m waiting → Has (packet.Msg m) sent
  pub waiting_others : (m : Message) → Has m waiting → m.stamp.id.site ≡ i → ⊥

-- of each message: one of the sites made it, and has it in its log
pub record HasOrigins (n : ℕ) (log : ℕ → List Message) (sent : List Packet) : Type 0 where
  pub origin : (m : Message) → Has (packet.Msg m) sent → m.stamp.id.site < n
  pub home : (m : Message) → Has (packet.Msg m) sent → Has m (reverse (log m.stamp.id.site))

-- of the red messages: their numbers are 1 to their count, each once, and the smaller number precedes
pub record RedsInOrder (sent : List Packet) : Type 0 where
  pub small : (m : Message) → Has (packet.Msg m) sent → m.stamp.red ≤ red_count sent
  pub single : (u v : Message) → Has (packet.Msg u) sent → Has (packet.Msg v) sent → 0 < u.stamp.red → u.stamp.red ≡ v.stamp.red → u ≡ v
  pub ordered : (u v : Message) → Has (packet.Msg u) sent → Has (packet.Msg v) sent → 0 < u.stamp.red → u.stamp.red < v.stamp.red → Precedes u v
  pub each : (r : ℕ) → 1 ≤ r → r ≤ red_count sent → (m : Message) × (Has (packet.Msg m) sent) × (m.stamp.red ≡ r)

-- the token is at site h and nowhere else: it has issued as many red numbers as were sent, and no packet would still be
-- taken
pub record Stands (n : ℕ) (held : ℕ → Option ℕ) (last : ℕ → ℕ) (sent : List Packet) (h : ℕ) : Type 0 where
  pub within : h < n
  pub here : held h ≡ Some (red_count sent)
  pub alone : (i : ℕ) → (i ≡ h → ⊥) → held i ≡ None
  pub now : last h ≡ turns sent
  pub earlier : (i : ℕ) → last i ≤ turns sent
  pub taken : (t : Token) → Has (packet.Token t) sent → t.turn ≤ last t.to

-- the token is at no site, and in the packet t alone, which is still to be taken
pub record Travels (n : ℕ) (held : ℕ → Option ℕ) (last : ℕ → ℕ) (sent : List Packet) (t : Token) : Type 0 where
  pub within : t.to < n
  pub there : Has (packet.Token t) sent
  pub issued : t.issued ≡ red_count sent
  pub turn : t.turn ≡ turns sent
  pub untaken : last t.to < t.turn
  pub nowhere : (i : ℕ) → held i ≡ None
  pub earlier : (i : ℕ) → last i ≤ turns sent
  pub others : (u : Token) → Has (packet.Token u) sent → (u ≡ t) ⊎ (u.turn ≤ last u.to)

-- the right to make red shadows is at one site, or in one packet that wasn't taken
abbrev pub OneToken : ℕ → (ℕ → Option ℕ) → (ℕ → ℕ) → List Packet → Type 0
OneToken n held last sent = ((h : ℕ) × Stands n held last sent h) ⊎ ((t : Token) × Travels n held last sent t)

-- what every event keeps
pub record Sound (w : World) : Type 0 where
  pub good : (i : ℕ) → Good w.sent i (site w i).log (site w i).waiting
  pub home : HasOrigins (length w.sites) (λ i. (site w i).log) w.sent
  pub reds : RedsInOrder w.sent
  pub token : OneToken (length w.sites) (λ i. (site w i).held) (λ i. (site w i).last) w.sent

-- what any of `sites` sites can take in: a message that meets the conditions of its type and counts exactly these
-- sites, or a token for one of them
abbrev pub IsDeliverable : ℕ → Packet → Type 0
IsDeliverable sites (packet.Msg m) = IsMessage m × (sites_of m ≡ sites)
IsDeliverable sites (packet.Token t) = t.to < sites

-- each packet that was sent can be taken in
abbrev pub AllDeliverable : ℕ → List Packet → Type 0
AllDeliverable sites sent = (p : Packet) → Has p sent → IsDeliverable sites p

-- no site has more messages than it keeps
abbrev pub Room : ℕ → World → Type 0
Room keep w = (i : ℕ) → length (site w i).log + length (site w i).waiting ≤ keep
