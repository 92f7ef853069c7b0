-- Keys of records: what a site that knows keys makes of its records.
use Rattle.std.specs.Prelude.{ℕ, ◌+◌, ◌++◌, ◌∷◌, ◌&&◌, ◌==◌, [], Bool, List, None, Option, Result, Ok, Err, Some, bytes_eq, codes, cond, false}
use Rattle.std.specs.Prelude.{length, nat_le, nat_lt, not, true, unwrap_or}
use Rattle.std.specs.List.{list_all}
use Rattle.rubis_schema.specs.FieldForms.{is_printable}
use Rattle.rubis_schema.specs.Ids.{id_text}
use Rattle.rubis_schema.specs.Keys.{same_id}
use Rattle.rubis_schema.specs.contracts.offers.NewItemPartialEq.TheImpl as item
use Rattle.rubis_schema.specs.contracts.rows.CommentRowPartialEq.TheImpl as comment
use Rattle.rubis_schema.specs.contracts.rows.PurchaseRowPartialEq.TheImpl as purchase
use Rattle.rubis_schema.specs.declared.ids.Id.{Id}
use Rattle.rubis_schema.specs.declared.refusals.Refusal.{Refusal}
use Rattle.rubis_shadow.specs.Shadows.{is_red}
use Rattle.rubis_shadow.specs.contracts.shadows.NewBidPartialEq.TheImpl as bid
use Rattle.rubis_shadow.specs.declared.shadows.Ask.{Ask}
use Rattle.rubis_shadow.specs.declared.shadows.Ask.TheVariants as ask
use Rattle.rubis_shadow.specs.declared.shadows.Shadow.{Shadow}
use Rattle.rubis_shadow.specs.declared.shadows.Shadow.TheVariants as shadow
use Rattle.rubis_message.specs.Grammar.{message_record}
use Rattle.rubis_message.specs.Inputs.{input_of}
use Rattle.rubis_message.specs.Message.{Message}
use Rattle.rubis_message.specs.declared.answers.Arrival.{Arrival}
use Rattle.rubis_message.specs.declared.answers.Arrival.TheVariants as arrival
use Rattle.rubis_message.specs.declared.inputs.Input.{Input}
use Rattle.rubis_message.specs.declared.inputs.Input.TheVariants as input
use Rattle.rubis_message.specs.declared.requests.Request.TheVariants as request
use Rattle.rubis_message.specs.declared.tokens.Packet.TheVariants as packet
use Rattle.rubis_model.specs.Site.{Place, Replica, arrived, arrived_rows, asked, input_step, opening_at, refused_row, reply, send_row}
use Rattle.rubis_keys.specs.declared.inputs.KeyedInput.{KeyedInput}
use Rattle.rubis_keys.specs.declared.inputs.KeyedInput.TheVariants.{Plain, AskedUnder, CameUnder}
use Rattle.rubis_keys.specs.declared.inputs.TheConstants.{KEY_MAX}
use Rattle.rubis_keys.specs.declared.keys.Known.{Known}

-- ---- records under keys

-- a key: 1 to KEY_MAX printable bytes
abbrev pub is_key : List ℕ → Bool
is_key key = nat_lt 0 (length key) && (nat_le (length key) KEY_MAX && list_all is_printable key)

-- an ask or a message under a key; nothing else has one
abbrev pub under : List ℕ → Input → KeyedInput
under key (input.Asked (request.Ask a)) = AskedUnder key a
under key (input.Came (packet.Msg m)) = CameUnder key m
under key other = Plain input.Neither

-- what a record is: one that begins with the word `key` and a key is under that key
abbrev pub keyed_input : ℕ → List (List ℕ) → KeyedInput
keyed_input sites (word ∷ key ∷ rest) =
    cond (bytes_eq word (codes "key")) (cond (is_key key) (under key (input_of sites rest)) (Plain input.Neither)) (Plain (input_of sites (word ∷ key ∷ rest)))
keyed_input sites fields = Plain (input_of sites fields)

-- ---- what is known under keys

-- the message that is known under a key of a colour, if one is
abbrev pub Keys : Type 0
Keys = List ℕ → Bool → Option Known

-- nothing is known
abbrev pub no_keys : Keys
no_keys key red = None

abbrev pub same_colour : Bool → Bool → Bool
same_colour one other = cond one other (not other)

-- a message is known under a key, and under that of its colour alone; the first one stays
abbrev pub noted : Keys → List ℕ → Known → Keys
noted keys key new k red = cond (bytes_eq key k && same_colour (is_red new.shadow) red) (Some (unwrap_or (keys k red) new)) (keys k red)

abbrev pub known_of : Message → Known
known_of m = record { id = m.stamp.id; shadow = m.shadow }

-- the colour of an ask is that of its shadow
abbrev pub is_red_ask : Ask → Bool
is_red_ask (ask.User n) = true
is_red_ask (ask.Item n) = false
is_red_ask (ask.Bid b) = true
is_red_ask (ask.Buy p) = true
is_red_ask (ask.Close c) = true
is_red_ask (ask.Comment c) = false
is_red_ask (ask.Restock r) = false
is_red_ask (ask.Rename r) = true

-- a shadow answers this ask, whoever asks for a close or a restock: the shadow doesn't say who
abbrev pub answers_ask : Shadow → Ask → Bool
answers_ask (shadow.User n) (ask.User m) = bytes_eq n m
answers_ask (shadow.Item n) (ask.Item m) = (item.ghosts).eq n m
answers_ask (shadow.Bid b) (ask.Bid c) = (bid.ghosts).eq b c
answers_ask (shadow.Buy b) (ask.Buy c) = (purchase.ghosts).eq b c
answers_ask (shadow.Close c) (ask.Close a) = same_id c.item a.item
answers_ask (shadow.Comment c) (ask.Comment a) = (comment.ghosts).eq c a
answers_ask (shadow.Restock r) (ask.Restock a) = same_id r.item a.item && (r.quantity == a.quantity)
answers_ask (shadow.Rename r) (ask.Rename a) = same_id r.user a.user && bytes_eq r.to a.nick
answers_ask x a = false

-- ---- what a site makes of a record

-- a site, and what it knows under keys
pub record KeyedSite : Type 0 where
  pub site : Replica
  pub keys : Keys

-- with nothing done, and nothing known
abbrev pub keyed_opening : ℕ → KeyedSite
keyed_opening site = record { site = opening_at site; keys = no_keys }

-- the id that it was told then
abbrev pub again_row : ℕ → Id → List (List ℕ)
again_row n id = reply n (codes "again" ∷ id_text id ∷ [])

-- another ask was accepted under that key
abbrev pub key_taken_row : ℕ → List (List ℕ)
key_taken_row n = reply n (codes "refused" ∷ codes "40" ∷ codes "KeyTaken" ∷ [])

-- an ask under a key under which a message is known is answered by the id of that, if it is the same ask, and nothing is sent
abbrev pub known_rows : ℕ → Known → Ask → List (List (List ℕ))
known_rows n k a = cond (answers_ask k.shadow a) (again_row n k.id) (key_taken_row n) ∷ []

-- an accepted ask is answered by its id, and sent under its key
abbrev pub asked_under_rows : ℕ → List ℕ → Result Message Refusal → List (List (List ℕ))
asked_under_rows n key (Ok m) = reply n (codes "ok" ∷ id_text m.stamp.id ∷ []) ∷ send_row (codes "key" ∷ key ∷ message_record m) ∷ []
asked_under_rows n key (Err r) = refused_row n r ∷ []

-- a message that was made makes its key known; a refusal doesn't
abbrev pub noted_made : Keys → List ℕ → Result Message Refusal → Keys
noted_made keys key (Ok m) = noted keys key (known_of m)
noted_made keys key (Err r) = keys

-- a message that came, and is released or waits from then on, makes its key known; one that came before or is refused doesn't
abbrev pub noted_came : Keys → List ℕ → Message → Result Arrival Refusal → Keys
noted_came keys key m (Ok (arrival.Released k)) = noted keys key (known_of m)
noted_came keys key m (Ok arrival.Held) = noted keys key (known_of m)
noted_came keys key m other = keys

-- an ask under a key is answered by what is known, or else decided
abbrev pub ask_step : Place → KeyedSite → ℕ → List ℕ → Ask → Option Known → KeyedSite × List (List (List ℕ))
ask_step p s n key a (Some k) = (s, known_rows n k a)
ask_step p s n key a None =
    (record { site = (asked p s.site a).0; keys = noted_made s.keys key (asked p s.site a).1 }, asked_under_rows n key (asked p s.site a).1)

-- the site after record n, and the records that answer it. Without keys that is what the site makes of it
abbrev pub keyed_step : Place → KeyedSite → ℕ → KeyedInput → KeyedSite × List (List (List ℕ))
keyed_step p s n (Plain i) = (record s { site = (input_step p s.site n i).0 }, (input_step p s.site n i).1)
keyed_step p s n (AskedUnder key a) = ask_step p s n key a (s.keys key (is_red_ask a))
keyed_step p s n (CameUnder key m) =
    (record { site = (arrived p s.site m).0; keys = noted_came s.keys key m (arrived p s.site m).1 }, arrived_rows n (arrived p s.site m).1)

-- the site after these records, the first of which has that number
abbrev pub keyed_after : Place → KeyedSite → ℕ → List (List (List ℕ)) → KeyedSite
keyed_after p s n [] = s
keyed_after p s n (fields ∷ rest) = keyed_after p (keyed_step p s n (keyed_input p.sites fields)).0 (n + 1) rest

-- the records that answer them
unfoldable pub keyed_answers : Place → KeyedSite → ℕ → List (List (List ℕ)) → List (List (List ℕ))
keyed_answers p s n [] = []
keyed_answers p s n (fields ∷ rest) =
    (keyed_step p s n (keyed_input p.sites fields)).1 ++ keyed_answers p (keyed_step p s n (keyed_input p.sites fields)).0 (n + 1) rest
