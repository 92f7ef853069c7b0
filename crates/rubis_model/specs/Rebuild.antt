-- A site that lost its disk is made again from the messages and tokens that the others have.
use Rattle.std.specs.Prelude.{◌≡◌, ◌↔◌, ℕ, ◌<◌, ◌≤◌, ◌==◌, Bool, ◌&&◌, not, nat_lt, nat_le, bytes_eq, codes, cond, drop, is_some, filter, map, Option, Some}
use Rattle.std.specs.Prelude.{None, Result, List, [], ◌∷◌, ◌++◌, length, ◌⊎◌, ⊤, false}
use Rattle.std.specs.Option.{option_map_or}
use Rattle.rubis_schema.specs.Ids.{id_text}
use Rattle.rubis_schema.specs.declared.limits.TheConstants.{KEEP_MAX, COUNTED_MAX}
use Rattle.rubis_schema.specs.declared.ids.Id.{Id}
use Rattle.rubis_schema.specs.declared.refusals.Refusal.{Refusal}
use Rattle.rubis_shadow.specs.Shadows.{is_red}
use Rattle.rubis_shadow.specs.declared.shadows.Ask.{Ask}
use Rattle.rubis_shadow.specs.declared.shadows.Ask.TheVariants as ask
use Rattle.rubis_schema.specs.declared.offers.NewItem.{NewItem}
use Rattle.rubis_shadow.specs.declared.shadows.Shadow.{Shadow}
use Rattle.rubis_shadow.specs.declared.shadows.Shadow.TheVariants as shadow
use Rattle.rubis_message.specs.Grammar.{ask_record, message_record, IsRequest, packet_record, request_record}
use Rattle.rubis_message.specs.Message.{Message, dep}
use Rattle.rubis_message.specs.declared.requests.Request.{Request}
use Rattle.rubis_message.specs.declared.requests.Request.TheVariants as request
use Rattle.rubis_message.specs.declared.tokens.Packet.{Packet}
use Rattle.rubis_message.specs.declared.tokens.Packet.TheVariants as packet
use Rattle.rubis_message.specs.declared.tokens.Token.{Token}
use Rattle.rubis_model.specs.Site.{after_all, input_step, Has, counted, Place, Replica, opening_at, asked, took, passed, send_row, output_of}
use Rattle.rubis_model.specs.Laws.{Sent, HasExactly, HasReleasedAll, message_count, tables_at}
use Rattle.rubis_model.specs.Log.{cores, fold_of}
use Rattle.rubis_model.specs.Meaning.{item_at}
use Rattle.rubis_model.specs.System.{Precedes, World, Event, AreEvents, site, place, sending, happens, run, start}
use Rattle.rubis_message.specs.declared.inputs.Input.{Input}
use Rattle.rubis_message.specs.declared.inputs.Input.TheVariants.{Asked, Came, Neither}
use Rattle.rubis_model.specs.System.Event.{At, Deliver}
use Rattle.rubis_model.specs.Processes.{site_after}
use Rattle.rubis_message.specs.Inputs.{input_of}

-- ---- what a site sent

-- what the site answers to a request, if it isn't a refusal
abbrev pub sent_here : ℕ → World → ℕ → Request → List Packet
sent_here keep w i (request.Ask ask) = sending packet.Msg (asked (place keep w i) (site w i) ask).1
sent_here keep w i (request.Pass to) = sending packet.Token (passed (place keep w i) (site w i) to).1
sent_here keep w i (request.List l) = []

-- the packets that site i sends in these events, in order
abbrev pub sent_by : ℕ → ℕ → List Event → World → List Packet
sent_by i keep [] w = []
sent_by i keep (At j r ∷ es) w = cond (j == i) (sent_here keep w j r) [] ++ sent_by i keep es (happens keep w (At j r)).0
sent_by i keep (Deliver j k ∷ es) w = sent_by i keep es (happens keep w (Deliver j k)).0

-- ---- what the fresh site is asked

-- the seller of the item, by the message that offered it
abbrev pub seller_in : List Message → Id → Id
seller_in all id = option_map_or (λ (n : NewItem). n.seller) (item_at id (cores all)) (record { site = 0; seq = 0 })

-- the ask of a shadow. A close and a restock don't say the seller, which the item's message does
abbrev pub ask_of : List Message → Shadow → Ask
ask_of all (shadow.User n) = ask.User n
ask_of all (shadow.Item n) = ask.Item n
ask_of all (shadow.Bid b) = ask.Bid b
ask_of all (shadow.Buy p) = ask.Buy p
ask_of all (shadow.Close c) = ask.Close (record { item = c.item; seller = seller_in all c.item })
ask_of all (shadow.Comment c) = ask.Comment c
ask_of all (shadow.Restock r) = ask.Restock (record { item = r.item; seller = seller_in all r.item; quantity = r.quantity })
ask_of all (shadow.Rename r) = ask.Rename (record { user = r.user; nick = r.to })

-- the fields of the ask of a shadow with these fields: a close and a restock name the seller too, and a rename doesn't say the
-- nickname of before
abbrev pub asked_fields : (List ℕ → List ℕ) → List (List ℕ) → List (List ℕ)
asked_fields seller (word ∷ id ∷ rest) =
    cond (bytes_eq word (codes "close")) (word ∷ id ∷ seller id ∷ [])
    (cond (bytes_eq word (codes "restock")) (word ∷ id ∷ seller id ∷ rest)
    (cond (bytes_eq word (codes "rename")) (word ∷ id ∷ drop 1 rest)
    (word ∷ id ∷ rest)))
asked_fields seller fields = fields

-- so the record of an ask is read off that of its message, whose shadow stands behind six fields
abbrev pub AsksAreReadOff : Type 0
AsksAreReadOff = (all : List Message) (m : Message) (seller : List ℕ → List ℕ) → ((item : Id) → seller (id_text item) ≡ id_text (seller_in all item))
    → ask_record (ask_of all m.shadow) ≡ asked_fields seller (drop 6 (message_record m))

-- ---- what it is given before

-- u is another site's, message m counts it, and the log lacks it
abbrev pub is_lacking : ℕ → List Message → Message → Message → Bool
is_lacking i log m u =
    not (u.stamp.id.site == i) && (nat_lt (counted u.stamp.id.site log) u.stamp.id.seq && nat_le u.stamp.id.seq (dep m u.stamp.id.site))

-- of all messages those that m counts and the log hasn't, in the order in which they stand
abbrev pub lacking : ℕ → List Message → Message → List Message → List Message
lacking i log m all = filter (is_lacking i log m) all

-- of two tokens the one with the smaller turn
abbrev pub sooner : Token → Option Token → Token
sooner t None = t
sooner t (Some u) = cond (nat_le t.turn u.turn) t u

-- of these tokens the one for site i that has the smallest turn above this
abbrev pub next_token : ℕ → ℕ → List Token → Option Token
next_token i last [] = None
next_token i last (t ∷ tokens) = cond ((t.to == i) && nat_lt last t.turn) (Some (sooner t (next_token i last tokens))) (next_token i last tokens)

abbrev pub with_token : Place → Replica → Option Token → Replica
with_token p s None = s
with_token p s (Some t) = (took p s t).0

-- a site that doesn't hold the token is given its next one
abbrev pub holding : Place → List Token → Replica → Replica
holding p tokens s = cond (is_some s.held) s (with_token p s (next_token p.site s.last tokens))

-- the site that makes message m: with what m counts, and with the token if m is red
abbrev pub prepared : Place → List Token → List Message → Replica → Message → Replica
prepared p tokens all s m = cond (is_red m.shadow) (holding p tokens (after_all p s (lacking p.site s.log m all))) (after_all p s (lacking p.site s.log m all))

-- ---- the rebuilt site

-- what a site comes to, and what it sends
abbrev pub sends_as : {A : Type 0} → (A → Packet) → Replica × Result A Refusal → Replica × List Packet
sends_as pack a = (a.0, sending pack a.1)

-- what was sent is sent again: a message by the ask of its shadow, a token by passing it
abbrev pub sent_again : Place → List Token → List Message → Replica → Packet → Replica × List Packet
sent_again p tokens all s (packet.Msg m) = sends_as packet.Msg (asked p (prepared p tokens all s m) (ask_of all m.shadow))
sent_again p tokens all s (packet.Token t) = sends_as packet.Token (passed p (holding p tokens s) t.to)

-- what a site comes to, and what it sends, where its packets are sent again one after the other: for each it is given what it needs, and
-- its ask
abbrev pub rebuilt : Place → List Token → List Message → Replica → List Packet → Replica × List Packet
rebuilt p tokens all s [] = (s, [])
rebuilt p tokens all s (x ∷ packets) = (
  (rebuilt p tokens all (sent_again p tokens all s x).0 packets).0,
  (sent_again p tokens all s x).1 ++
      (rebuilt p tokens all (sent_again p tokens all s x).0 packets).1,
)

-- ---- the law

-- v is w with another state at site i: the same was sent, and all other sites are as they were
pub record InPlaceOf (i : ℕ) (w v : World) : Type 0 where
  pub sent : v.sent ≡ w.sent
  pub sites : length v.sites ≡ length w.sites
  pub others : (j : ℕ) → (j ≡ i → ⊥) → site v j ≡ site w j

-- m is a message of site i, or one that a message of site i counts
abbrev pub Concerns : ℕ → World → Message → Type 0
Concerns i w m = (m.stamp.id.site ≡ i) ⊎ ((u : Message) × Sent w u × (u.stamp.id.site ≡ i) × Precedes m u)

-- site i, which sent these packets in a run to w, was rebuilt to this state, and sent those packets
pub record IsRebuilt (n keep i : ℕ) (tokens : List Token) (w : World) (packets : List Packet) (result : Replica × List Packet) : Type 0 where
  -- it sends again what it had sent, in order
  pub again : result.1 ≡ packets
  -- its log has exactly what it sent, and what that counts; all of that was in the log that was lost
  pub log : (m : Message) → Has m result.0.log ↔ (Sent w m × Concerns i w m)
  pub within : (m : Message) → Has m result.0.log → Has m (site w i).log
  pub none_waits : result.0.waiting ≡ []
  -- if the token is lost with the site, it holds it again once it is given its next one
  pub token : (issued : ℕ) → (site w i).held ≡ Some issued → (holding (record { site = i; sites = n; keep = keep }) tokens result.0).held ≡ Some issued
  -- with it in place of site i the sites are again a run, that sent the same
  pub events : List Event
  pub are_events : AreEvents n events
  pub in_place : InPlaceOf i w (run keep events (start n))
  pub here : site (run keep events (start n)) i ≡ result.0

-- whatever happened at n sites: each site can be rebuilt from what it sent, the messages that this counts, and the tokens for it.
-- These may stand in any order, and other messages and tokens that were sent may be lacking, or be there too
abbrev pub SitesAreRebuilt : Type 0
SitesAreRebuilt = (n keep i : ℕ) (events : List Event) (all : List Message) (tokens : List Token) → keep ≤ KEEP_MAX → i < n → AreEvents n events
    → ((m : Message) → Has m all → Sent (run keep events (start n)) m)
    → ((m : Message) → Sent (run keep events (start n)) m → Concerns i (run keep events (start n)) m → Has m all)
    → ((t : Token) → Has t tokens → Has (packet.Token t) (run keep events (start n)).sent)
    → ((t : Token) → Has (packet.Token t) (run keep events (start n)).sent → t.to ≡ i → Has t tokens)
    → IsRebuilt n keep i tokens (run keep events (start n)) (sent_by i keep events (start n))
    (rebuilt (record { site = i; sites = n; keep = keep }) tokens all (opening_at i) (sent_by i keep events (start n)))

-- ---- as a list of inputs

-- what a fresh site is given for its token, where it doesn't hold it
abbrev pub token_as : Option Token → List Input
token_as None = []
token_as (Some t) = Came (packet.Token t) ∷ []

abbrev pub token_before : Place → List Token → Replica → List Input
token_before p tokens s = cond (is_some s.held) [] (token_as (next_token p.site s.last tokens))

abbrev pub inputs_before : Place → List Token → List Message → Replica → Message → List Input
inputs_before p tokens all s m =
    map (λ u. Came (packet.Msg u)) (lacking p.site s.log m all) ++ cond (is_red m.shadow) (token_before p tokens
    (after_all p s (lacking p.site s.log m all))) []

abbrev pub inputs_for : Place → List Token → List Message → Replica → Packet → List Input
inputs_for p tokens all s (packet.Msg m) = inputs_before p tokens all s m ++ Asked (request.Ask (ask_of all m.shadow)) ∷ []
inputs_for p tokens all s (packet.Token t) = token_before p tokens s ++ Asked (request.Pass t.to) ∷ []

-- what the rebuilt site is given, as a list of inputs
abbrev pub inputs_to_rebuild : Place → List Token → List Message → Replica → List Packet → List Input
inputs_to_rebuild p tokens all s [] = []
inputs_to_rebuild p tokens all s (x ∷ packets) = inputs_for p tokens all s x ++ inputs_to_rebuild p tokens all (sent_again p tokens all s x).0 packets

-- a site after these inputs, and the packets that it sends (the number of an input is only for its answer)
abbrev pub after_inputs : Place → Replica → List Input → Replica
after_inputs p s [] = s
after_inputs p s (x ∷ inputs) = after_inputs p (input_step p s 1 x).0 inputs

abbrev pub sent_on : Place → Replica → Input → List Packet
sent_on p s (Asked (request.Ask a)) = sending packet.Msg (asked p s a).1
sent_on p s (Asked (request.Pass to)) = sending packet.Token (passed p s to).1
sent_on p s (Asked (request.List l)) = []
sent_on p s (Came x) = []
sent_on p s Neither = []

abbrev pub sent_on_inputs : Place → Replica → List Input → List Packet
sent_on_inputs p s [] = []
sent_on_inputs p s (x ∷ inputs) = sent_on p s x ++ sent_on_inputs p (input_step p s 1 x).0 inputs

-- the rebuilt site is one that was given these inputs, and each packet among them is one of those that were sent
abbrev pub InputsRebuild : Type 0
InputsRebuild = (p : Place) (sent : List Packet) (all : List Message) (tokens : List Token) (s : Replica) (packets : List Packet)
    → ((m : Message) → Has m all → Has (packet.Msg m) sent) → ((t : Token) → Has t tokens → Has (packet.Token t) sent)
    → (after_inputs p s (inputs_to_rebuild p tokens all s packets) ≡ (rebuilt p tokens all s packets).0)
    × (sent_on_inputs p s (inputs_to_rebuild p tokens all s packets) ≡ (rebuilt p tokens all s packets).1)
    × ((x : Packet) → Has (Came x) (inputs_to_rebuild p tokens all s packets) → Has x sent)

-- ---- a new site that is given all messages of a run, one after the other or as many at a time as one likes

-- these are all messages that were sent in these events at n sites, in any order and repeated at will; site i sent nothing, and
-- keeps as many as were sent
pub record AreAllFor (n keep i : ℕ) (events : List Event) (messages : List Message) : Type 0 where
  pub within : i < n
  pub sends_nothing : sent_by i keep events (start n) ≡ []
  pub all : (m : Message) → Has m messages ↔ Sent (run keep events (start n)) m
  pub room : message_count (run keep events (start n)).sent ≤ keep

-- site i with nothing done, after these messages arrived
abbrev pub given : ℕ → ℕ → ℕ → List Message → Replica
given n keep i messages = after_all (record { site = i; sites = n; keep = keep }) (opening_at i) messages

-- a new site that is given all messages has released exactly these, and nothing waits there
abbrev pub GivenAreReleased : Type 0
GivenAreReleased = (n keep i : ℕ) (events : List Event) (messages : List Message) → 1 ≤ n → keep ≤ KEEP_MAX → AreEvents n events
    → AreAllFor n keep i events messages → HasExactly (Sent (run keep events (start n))) (given n keep i messages)

-- so two of them have the same tables, and those of each site of the run that has released all messages
abbrev pub GivenConverge : Type 0
GivenConverge = (n keep i j : ℕ) (events : List Event) (messages others : List Message) → 1 ≤ n → keep ≤ KEEP_MAX → AreEvents n events
    → AreAllFor n keep i events messages → AreAllFor n keep j events others
    → (fold_of (cores (given n keep i messages).log)).tables ≡ (fold_of (cores (given n keep j others).log)).tables

abbrev pub GivenHaveTheTablesOfTheRun : Type 0
GivenHaveTheTablesOfTheRun = (n keep i j : ℕ) (events : List Event) (messages : List Message) → 1 ≤ n → keep ≤ KEEP_MAX → AreEvents n events
    → AreAllFor n keep i events messages → HasReleasedAll (run keep events (start n)) j
    → (fold_of (cores (given n keep i messages).log)).tables ≡ tables_at (run keep events (start n)) j

-- ---- the records from which a lost site is made again, and what a fresh site makes of them

-- ---- the records

-- the record that says an input
abbrev pub input_record : Input → List (List ℕ)
input_record (Asked r) = request_record r
input_record (Came x) = packet_record x
input_record Neither = []

-- what a fresh site is given for these packets of the lost one, in order
abbrev pub records_to_rebuild : Place → List Token → List Message → List Packet → List (List (List ℕ))
records_to_rebuild p tokens all packets = map input_record (inputs_to_rebuild p tokens all (opening_at p.site) packets)

-- ---- a run whose requests were records

-- the request that an event is is one that a record can say
abbrev pub IsWritten : ℕ → Event → Type 0
IsWritten sites (At i q) = IsRequest sites q
IsWritten sites (Deliver i k) = ⊤

abbrev pub AreWritten : ℕ → List Event → Type 0
AreWritten sites [] = ⊤
AreWritten sites (e ∷ es) = IsWritten sites e × AreWritten sites es

-- ---- what a fresh site makes of the records

-- the row is sent to the other sites
abbrev pub is_send : List (List ℕ) → Bool
is_send [] = false
is_send (word ∷ fields) = bytes_eq word (codes "send")

-- a fresh site that reads the records for these packets
pub record RebuildsByRecords (p : Place) (tokens : List Token) (all : List Message) (packets : List Packet) : Type 0 where
  -- reads each as the input that it is there for,
  pub read : map (input_of p.sites) (records_to_rebuild p tokens all packets) ≡ inputs_to_rebuild p tokens all (opening_at p.site) packets
  -- comes to be the rebuilt site,
  pub state : site_after p (opening_at p.site) 1 (records_to_rebuild p tokens all packets) ≡ (rebuilt p tokens all (opening_at p.site) packets).0
  -- and sends exactly the records of these packets, in order
  pub sent : filter is_send (output_of p (records_to_rebuild p tokens all packets)) ≡ map (λ x. send_row (packet_record x)) packets

-- whatever happened at n sites that were asked by records: each site is rebuilt by the records for what it sent, where the
-- messages and tokens are as for `SitesAreRebuilt`
abbrev pub RecordsRebuild : Type 0
RecordsRebuild = (n keep i : ℕ) (events : List Event) (all : List Message) (tokens : List Token) → n ≤ COUNTED_MAX → keep ≤ KEEP_MAX → i < n
    → AreWritten n events
    → ((m : Message) → Has m all → Sent (run keep events (start n)) m)
    → ((m : Message) → Sent (run keep events (start n)) m → Concerns i (run keep events (start n)) m → Has m all)
    → ((t : Token) → Has t tokens → Has (packet.Token t) (run keep events (start n)).sent)
    → ((t : Token) → Has (packet.Token t) (run keep events (start n)).sent → t.to ≡ i → Has t tokens)
    → RebuildsByRecords (record { site = i; sites = n; keep = keep }) tokens all (sent_by i keep events (start n))
