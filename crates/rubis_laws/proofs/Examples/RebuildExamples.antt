-- A worked example of a site that is rebuilt, computed on the definitions.
use Rattle.rubis_laws.proofs.Common.{ℕ, ◌≡◌, ◌∙◌, ◌<◌, ◌≤◌, List, [], ◌∷◌, ◌++◌, refl, sym, ap, subst, arith, Some, inl, inr, ◌↔◌, codes, nat_lt, nat_le, ◌&&◌}
use Rattle.rubis_laws.proofs.Common.{true, digits, and_parts, ltb-true, leb-true, IsId, Id, NewItem, Shadow, Message, Packet, Token, decision, Rows, Sent}
use Rattle.rubis_laws.proofs.Common.{cores, meaning_row, after_all, IsRebuilt, ask_of, holding, lacking, prepared, rebuilt, sent_again, sent_by, sent_here}
use Rattle.rubis_laws.proofs.Common.{sends_as, Has, Place, Replica, asked, generating, opening_at, passed, rows_at, standing_of, World, Event, AreEvents, site}
use Rattle.rubis_laws.proofs.Common.{run, start, At, Deliver, Ask, Request}
use Rattle.rubis_shadow.specs.Shadows.{IsNewItem, IsNewBid}
use Rattle.rubis_shadow.specs.declared.shadows.NewBid.{NewBid}
use Rattle.rubis_model.specs.Rebuild.{records_to_rebuild}
use Rattle.rubis_laws.proofs.Runs.Delivering.{run_by, same_run}
use Rattle.rubis_laws.proofs.Runs.SoundSteps.{start_sound, room_start}
use Rattle.rubis_laws.proofs.Rebuilding.RebuiltSites.{sites_are_rebuilt}
use Rattle.rubis_laws.proofs.Runs.EveryRun.{every_run, is_log, log_at}

abbrev id : ℕ → ℕ → Id
id s q = record { site = s; seq = q }

abbrev message : ℕ → ℕ → ℕ → List ℕ → Shadow → Message
message s q red deps x = record { stamp = record { id = id s q; red = red; deps = deps }; shadow = x }

abbrev lamp : NewItem
lamp = record { seller = id 0 1; name = codes "lamp"; cat = 7; stock = 1; start = 100; price = 0 }

abbrev offer : NewBid
offer = record { item = id 0 3; bidder = id 0 2; amount = 500 }

-- site 0 has two users and an item, and passes the token; site 1, which has that all, makes a bid
abbrev first_events : List Event
first_events =
    At 0 (Request.Ask (Ask.User (codes "ann"))) ∷ At 0 (Request.Ask (Ask.User (codes "bob"))) ∷ At 0 (Request.Ask (Ask.Item lamp)) ∷ At 0 (Request.Pass 1)
    ∷ Deliver 1 3 ∷ Deliver 1 2 ∷ Deliver 1 1 ∷ Deliver 1 4 ∷ []

abbrev bid_event : Event
bid_event = At 1 (Request.Ask (Ask.Bid offer))

abbrev events : List Event
events =
    At 0 (Request.Ask (Ask.User (codes "ann"))) ∷ At 0 (Request.Ask (Ask.User (codes "bob"))) ∷ At 0 (Request.Ask (Ask.Item lamp)) ∷ At 0 (Request.Pass 1)
    ∷ Deliver 1 3 ∷ Deliver 1 2 ∷ Deliver 1 1 ∷ Deliver 1 4 ∷ At 1 (Request.Ask (Ask.Bid offer)) ∷ []

abbrev ann : Message
ann = message 0 1 1 (0 ∷ 0 ∷ []) (Shadow.User (codes "ann"))

abbrev bob : Message
bob = message 0 2 2 (1 ∷ 0 ∷ []) (Shadow.User (codes "bob"))

abbrev item : Message
item = message 0 3 0 (2 ∷ 0 ∷ []) (Shadow.Item lamp)

abbrev bid : Message
bid = message 1 1 3 (3 ∷ 0 ∷ []) (Shadow.Bid offer)

abbrev packets : List Packet
packets = Packet.Msg ann ∷ Packet.Msg bob ∷ Packet.Msg item ∷ Packet.Token (record { turn = 1; to = 1; issued = 2 }) ∷ Packet.Msg bid ∷ []

-- the messages, not in the order in which they were sent
abbrev messages : List Message
messages = bid ∷ item ∷ ann ∷ bob ∷ []

abbrev tokens : List Token
tokens = record { turn = 1; to = 1; issued = 2 } ∷ []

small_id : {i : Id} → (nat_lt i.site 2 && (nat_le 1 i.seq && nat_le i.seq 1000000)) ≡ true → IsId 2 i
small_id {i} e =
    let a = and_parts (nat_lt i.site 2) (nat_le 1 i.seq && nat_le i.seq 1000000) e in
    let b = and_parts (nat_le 1 i.seq) (nat_le i.seq 1000000) a.1 in
    record { site = ltb-true i.site 2 a.0; positive = leb-true 1 i.seq b.0; small = leb-true i.seq 1000000 b.1 }

lamp_in_limits : IsNewItem 2 lamp
lamp_in_limits = record {
  seller = small_id refl;
  cat = omega arith;
  stock = record { positive = omega arith; small = omega arith };
  start = record { positive = omega arith; small = omega arith };
  price = omega arith;
}

offer_in_limits : IsNewBid 2 offer
offer_in_limits = record { item = small_id refl; bidder = small_id refl; amount = record { positive = omega arith; small = omega arith } }

first_are_events : AreEvents 2 first_events
first_are_events = (tt, (tt, (lamp_in_limits, (tt, (tt, (tt, (tt, (tt, tt))))))))

are_events : AreEvents 2 events
are_events = (tt, (tt, (lamp_in_limits, (tt, (tt, (tt, (tt, (tt, (offer_in_limits, tt)))))))))

-- what was sent
sent_by_meaning : (run_by 1000000 events (start 2)).sent ≡ packets
unfolding meaning_row
sent_by_meaning = refl

all_sent : (run 1000000 events (start 2)).sent ≡ packets
all_sent = ap (λ (w : World). w.sent) (same_run 1000000 (omega arith) events (start 2) are_events (start_sound 2 (omega arith)) (room_start 1000000 2))
    ∙ sent_by_meaning

-- ---- site 1 is rebuilt

abbrev place_1 : Place
place_1 = record { site = 1; sites = 2; keep = 1000000 }

-- before its bid it is given what the bid counts, in whatever order that stands, and the token
is_given : lacking 1 [] bid messages ≡ item ∷ ann ∷ bob ∷ []
is_given = refl

abbrev before_bid : Replica
before_bid = record { log = ann ∷ bob ∷ item ∷ []; waiting = []; held = Some 2; last = 1 }

is_prepared : prepared place_1 tokens messages (opening_at 1) bid ≡ before_bid
is_prepared = refl

-- what it then comes to and sends, from the rows of its tables
abbrev bid_by : Rows → Replica × List Packet
bid_by rows = sends_as Packet.Msg (generating place_1 before_bid (decision rows (standing_of 1000000 before_bid) (ask_of messages (Shadow.Bid offer))))

abbrev after_bid : Replica
after_bid = record { log = ann ∷ bob ∷ item ∷ bid ∷ []; waiting = []; held = Some 3; last = 1 }

bid_by_meaning : bid_by (meaning_row (cores (ann ∷ bob ∷ item ∷ []))) ≡ (after_bid, Packet.Msg bid ∷ [])
unfolding meaning_row
bid_by_meaning = refl

-- the log of site 1 before the bid, in the run
log_by_meaning : (site (run_by 1000000 first_events (start 2)) 1) ≡ before_bid
unfolding meaning_row
log_by_meaning = refl

first_run : run 1000000 first_events (start 2) ≡ run_by 1000000 first_events (start 2)
first_run = same_run 1000000 (omega arith) first_events (start 2) first_are_events (start_sound 2 (omega arith)) (room_start 1000000 2)

log_before : (site (run 1000000 first_events (start 2)) 1).log ≡ ann ∷ bob ∷ item ∷ []
log_before = ap (λ (w : World). (site w 1).log) first_run ∙ ap (λ (r : Replica). r.log) log_by_meaning

rows_before : rows_at (ann ∷ bob ∷ item ∷ []) ≡ meaning_row (cores (ann ∷ bob ∷ item ∷ []))
rows_before = subst (λ l. rows_at l ≡ meaning_row (cores l)) log_before
    (λ k q. ((every_run 2 1000000 first_events (omega arith) (omega arith) first_are_events).invariants.meaning (log_at (run 1000000 first_events (start 2)) 1)
    (is_log (run 1000000 first_events (start 2)) 1)).rows q k)

bid_is_made_again : sent_again place_1 tokens messages (opening_at 1) (Packet.Msg bid) ≡ (after_bid, Packet.Msg bid ∷ [])
bid_is_made_again = ap bid_by rows_before ∙ bid_by_meaning

site_1_is_rebuilt : rebuilt place_1 tokens messages (opening_at 1) (Packet.Msg bid ∷ []) ≡ (after_bid, Packet.Msg bid ∷ [])
site_1_is_rebuilt = ap (λ q. (q.0, q.1 ++ [])) bid_is_made_again

-- ---- the records for it: the messages and the token as they were sent, and the ask

site_1_records : records_to_rebuild place_1 tokens messages (Packet.Msg bid ∷ []) ≡
    (codes "msg" ∷ codes "1" ∷ codes "0" ∷ codes "3" ∷ codes "0" ∷ codes "2:0" ∷ codes "item" ∷ codes "0.1" ∷ codes "lamp" ∷ codes "7" ∷ codes "1" ∷ codes "100"
    ∷ codes "0" ∷ []) ∷ (codes "msg" ∷ codes "1" ∷ codes "0" ∷ codes "1" ∷ codes "1" ∷ codes "0:0" ∷ codes "user" ∷ codes "ann" ∷ []) ∷
    (codes "msg" ∷ codes "1" ∷ codes "0" ∷ codes "2" ∷ codes "2" ∷ codes "1:0" ∷ codes "user" ∷ codes "bob" ∷ []) ∷
    (codes "token" ∷ codes "1" ∷ codes "1" ∷ codes "1" ∷ codes "2" ∷ []) ∷ (codes "bid" ∷ codes "0.3" ∷ codes "0.2" ∷ codes "500" ∷ []) ∷ []
unfolding digits
site_1_records = refl

-- ---- by the law, in the run

sent_by_rows : sent_here 1000000 (run_by 1000000 first_events (start 2)) 1 (Request.Ask (Ask.Bid offer)) ≡ (bid_by (rows_at (ann ∷ bob ∷ item ∷ []))).1
unfolding meaning_row
sent_by_rows = refl

site_1_sent : sent_by 1 1000000 events (start 2) ≡ Packet.Msg bid ∷ []
site_1_sent =
    ap (λ w. sent_here 1000000 w 1 (Request.Ask (Ask.Bid offer)) ++ []) first_run
    ∙ ap (λ (ps : List Packet). ps ++ []) (sent_by_rows ∙ ap (λ rows. (bid_by rows).1) rows_before ∙ ap (λ (q : Replica × List Packet). q.1) bid_by_meaning)

streams : (m : Message) → Has m messages ↔ Has (Packet.Msg m) packets
streams m = (to m, from m)
  where
    to : (m : Message) → Has m messages → Has (Packet.Msg m) packets
    to m (inl e) = inr (inr (inr (inr (inl (ap (λ x. Packet.Msg x) e)))))
    to m (inr (inl e)) = inr (inr (inl (ap (λ x. Packet.Msg x) e)))
    to m (inr (inr (inl e))) = inl (ap (λ x. Packet.Msg x) e)
    to m (inr (inr (inr (inl e)))) = inr (inl (ap (λ x. Packet.Msg x) e))
    to m (inr (inr (inr (inr h)))) = absurd h

    from : (m : Message) → Has (Packet.Msg m) packets → Has m messages
    from m (inl e) = inr (inr (inl (cc)))
    from m (inr (inl e)) = inr (inr (inr (inl (cc))))
    from m (inr (inr (inl e))) = inr (inl (cc))
    from m (inr (inr (inr (inl e)))) = absurd (cc)
    from m (inr (inr (inr (inr (inl e))))) = inl (cc)
    from m (inr (inr (inr (inr (inr h))))) = absurd h

streams_of_run : (m : Message) → Has m messages ↔ Sent (run 1000000 events (start 2)) m
streams_of_run m = subst (λ ps. Has m messages ↔ Has (Packet.Msg m) ps) (sym all_sent) (streams m)

tokens_of_run : (t : Token) → Has t tokens ↔ Has (Packet.Token t) (run 1000000 events (start 2)).sent
tokens_of_run t = subst (λ ps. Has t tokens ↔ Has (Packet.Token t) ps) (sym all_sent) (to t, from t)
  where
    to : (t : Token) → Has t tokens → Has (Packet.Token t) packets
    to t (inl e) = inr (inr (inr (inl (ap (λ x. Packet.Token x) e))))
    to t (inr h) = absurd h

    from : (t : Token) → Has (Packet.Token t) packets → Has t tokens
    from t (inl e) = absurd (cc)
    from t (inr (inl e)) = absurd (cc)
    from t (inr (inr (inl e))) = absurd (cc)
    from t (inr (inr (inr (inl e)))) = inl (cc)
    from t (inr (inr (inr (inr (inl e))))) = absurd (cc)
    from t (inr (inr (inr (inr (inr h))))) = absurd h

site_1_is_in_a_run : IsRebuilt 2 1000000 1 tokens (run 1000000 events (start 2)) (Packet.Msg bid ∷ []) (after_bid, Packet.Msg bid ∷ [])
site_1_is_in_a_run =
    subst (IsRebuilt 2 1000000 1 tokens (run 1000000 events (start 2)) (Packet.Msg bid ∷ [])) site_1_is_rebuilt
    (subst (λ ps. IsRebuilt 2 1000000 1 tokens (run 1000000 events (start 2)) ps (rebuilt place_1 tokens messages (opening_at 1) ps)) site_1_sent
    (sites_are_rebuilt 2 1000000 1 events messages tokens (omega arith) (omega arith) are_events (λ m. (streams_of_run m).0) (λ m h _. (streams_of_run m).1 h)
    (λ t. (tokens_of_run t).0) (λ t h _. (tokens_of_run t).1 h)))

-- ---- wrong definitions

-- a site is rebuilt in some way, which says what it comes to and sends
abbrev Way : Type 0
Way = Place → List Token → List Message → Replica → List Packet → Replica × List Packet

-- what the law says first, of another way
abbrev SendsAgain : Way → Type 0
SendsAgain way = (n keep i : ℕ) (events : List Event) (all : List Message) (tokens : List Token) → keep ≤ 1000000 → i < n → AreEvents n events
    → ((m : Message) → Has m all ↔ Sent (run keep events (start n)) m) → ((t : Token) → Has t tokens ↔ Has (Packet.Token t) (run keep events (start n)).sent)
    → (way (record { site = i; sites = n; keep = keep }) tokens all (opening_at i) (sent_by i keep events (start n))).1 ≡ sent_by i keep events (start n)

-- by what the site is given before each message
abbrev by_giving : (Place → List Token → List Message → Replica → Message → Replica) → Way
by_giving give p ts all s [] = (s, [])
by_giving give p ts all s (Packet.Msg m ∷ packets) =
    let a = sends_as Packet.Msg (asked p (give p ts all s m) (ask_of all m.shadow)) in
    let b = by_giving give p ts all a.0 packets in (b.0, a.1 ++ b.1)
by_giving give p ts all s (Packet.Token t ∷ packets) =
    let a = sends_as Packet.Token (passed p (holding p ts s) t.to) in
    let b = by_giving give p ts all a.0 packets in (b.0, a.1 ++ b.1)

abbrev without_messages : Place → List Token → List Message → Replica → Message → Replica
without_messages p ts all s m = holding p ts s

abbrev without_token : Place → List Token → List Message → Replica → Message → Replica
without_token p ts all s m = after_all p s (lacking p.site s.log m all)

none_sent : {ps : List Packet} → ps ≡ [] → ps ≡ Packet.Msg bid ∷ [] → ⊥
none_sent e f = absurd (cc)

refuted : (way : Way) → (way place_1 tokens messages (opening_at 1) (Packet.Msg bid ∷ [])).1 ≡ [] → SendsAgain way → ⊥
refuted way e law = none_sent e (subst (λ ps. (way place_1 tokens messages (opening_at 1) ps).1 ≡ ps) site_1_sent
    (law 2 1000000 1 events messages tokens (omega arith) (omega arith) are_events streams_of_run tokens_of_run))

-- the right way is `by_giving prepared`
right_way : (by_giving prepared place_1 tokens messages (opening_at 1) (Packet.Msg bid ∷ [])) ≡ (after_bid, Packet.Msg bid ∷ [])
right_way = site_1_is_rebuilt

messages_are_needed : SendsAgain (by_giving without_messages) → ⊥
messages_are_needed = refuted (by_giving without_messages) refl

token_is_needed : SendsAgain (by_giving without_token) → ⊥
token_is_needed = refuted (by_giving without_token) refl
