-- The packets of a folder are what its site's records sent and took in, and the site gives the names that the model of shops says.
use Rattle.std.specs.Prelude.{◌≡◌, ◌≢◌, ℕ, ◌+◌, ◌==◌, cond, List, [], ◌∷◌, ◌++◌, Result, Ok, Err}
use Rattle.rubis_schema.specs.declared.refusals.Refusal.{Refusal}
use Rattle.rubis_shadow.specs.declared.shadows.Ask.{Ask}
use Rattle.rubis_message.specs.Message.{Message}
use Rattle.rubis_message.specs.declared.answers.Arrival.{Arrival}
use Rattle.rubis_message.specs.declared.answers.Taken.{Taken}
use Rattle.rubis_message.specs.declared.answers.Taken.TheVariants as taken_as
use Rattle.rubis_message.specs.declared.requests.Request.TheVariants as request
use Rattle.rubis_message.specs.declared.tokens.Packet.TheVariants as packet
use Rattle.rubis_message.specs.declared.tokens.Token.{Token}
use Rattle.rubis_model.specs.Processes.{site_after}
use Rattle.rubis_message.specs.Inputs.{input_of}
use Rattle.rubis_message.specs.declared.inputs.Input.{Input}
use Rattle.rubis_model.specs.Site.{input_step, counted, Place, Replica, arrived, asked, opening_at, passed, took}
use Rattle.rubis_message.specs.declared.inputs.Input.TheVariants.{Asked, Came, Neither}
use Rattle.rubis_carrier.specs.declared.values.ShopPacket.{ShopPacket}
use Rattle.rubis_carrier.specs.declared.values.ShopPacket.TheVariants as known
use Rattle.rubis_carrier.specs.Shops.{HoldsToken, highest, taken_turn}

-- a message as the carrier knows it, if `ask` says of which ask each message was made
abbrev pub known_as : (Message → ℕ) → Message → ShopPacket
known_as ask m = known.Message m.stamp.id.site m.stamp.id.seq (ask m)

-- ---- what one record sends, or takes in

-- what an ask sends: its message, unless it is refused
abbrev pub sent_for_ask : (Message → ℕ) → Result Message Refusal → List ShopPacket
sent_for_ask ask (Ok m) = known_as ask m ∷ []
sent_for_ask ask (Err r) = []

-- what a pass sends: the pass with its turn, unless it is refused
abbrev pub passed_by : Place → Replica → Result Token Refusal → List ShopPacket
passed_by p s (Ok t) = known.Pass p.site t.turn t.to (counted p.site s.log) ∷ []
passed_by p s (Err r) = []

-- what an arriving message brings: itself, unless it is refused or the site's own
abbrev pub came_by : (Message → ℕ) → Place → Message → Result Arrival Refusal → List ShopPacket
came_by ask p m (Ok a) = cond (m.stamp.id.site == p.site) [] (known_as ask m ∷ [])
came_by ask p m (Err r) = []

-- a token doesn't say who sent it: `from` does
abbrev pub took_by : (Token → ℕ) → Token → Result Taken Refusal → List ShopPacket
took_by from t (Ok taken_as.Holding) = known.Pass (from t) t.turn t.to 0 ∷ []
took_by from t (Ok taken_as.Repeat) = []
took_by from t (Err r) = []

-- the packets that one record sends or takes in
abbrev pub packets_by : (Message → ℕ) → (Token → ℕ) → Place → Replica → Input → List ShopPacket
packets_by ask from p s (Asked (request.Ask a)) = sent_for_ask ask (asked p s a).1
packets_by ask from p s (Asked (request.Pass to)) = passed_by p s (passed p s to).1
packets_by ask from p s (Asked (request.List l)) = []
packets_by ask from p s (Came (packet.Msg m)) = came_by ask p m (arrived p s m).1
packets_by ask from p s (Came (packet.Token t)) = took_by from t (took p s t).1
packets_by ask from p s Neither = []

-- ---- all records of a folder

-- the first of which has that number
abbrev pub packets_of : (Message → ℕ) → (Token → ℕ) → Place → Replica → ℕ → List (List (List ℕ)) → List ShopPacket
packets_of ask from p s n [] = []
packets_of ask from p s n (fields ∷ rest) =
    packets_by ask from p s (input_of p.sites fields) ++ packets_of ask from p (input_step p s n (input_of p.sites fields)).0 (n + 1) rest

-- what a site with that state, and these packets, gives next
pub record GivesTheseNames (p : Place) (s : Replica) (kept : List ShopPacket) : Type 0 where
  -- a message that it accepts has its site, and the next number
  pub messages : (a : Ask) (m : Message) → (asked p s a).1 ≡ Ok m → (m.stamp.id.site ≡ p.site) × (m.stamp.id.seq ≡ highest p.site kept + 1)
  -- it passes the token on only where it holds it, under the next turn, and not to itself
  pub passes : (to : ℕ) (t : Token) → (passed p s to).1 ≡ Ok t → HoldsToken p.site kept × (t.turn ≡ taken_turn p.site kept + 1) × (to ≢ p.site)

abbrev pub SitesGiveTheseNames : Type 0
SitesGiveTheseNames = (ask : Message → ℕ) (from : Token → ℕ) (p : Place) → ((t : Token) → from t ≢ p.site) → (records : List (List (List ℕ)))
    → GivesTheseNames p (site_after p (opening_at p.site) 1 records) (packets_of ask from p (opening_at p.site) 1 records)
