-- One site: when a message can be released, its state, what it answers to each kind of input, and the records that it writes.
use Rattle.std.specs.Prelude.{◌≡◌, ◌≢◌, ℕ, ◌+◌, ◌<◌, ◌≤◌, ◌==◌, Bool, ◌&&◌, ◌||◌, cond, nat_lt, nat_le, zero, suc, Option, Some, None, List, [], ◌∷◌, ◌++◌}
use Rattle.std.specs.Prelude.{length, ◌-◌, false, not, is_some, unwrap_or, option_map, Result, Ok, Err, map, codes, decimal}
use Rattle.std.specs.List.{list_all, range_with_len, list_any}
use Rattle.rubis_message.specs.Message.{Message, dep}
pub use Rattle.rubis_schema.specs.Tables.{Has}
use Rattle.std.specs.Option.{option_map_or}
use Rattle.rubis_schema.specs.Keys.{same_id}
use Rattle.rubis_schema.specs.declared.refusals.Refusal.{Refusal}
use Rattle.rubis_schema.specs.declared.refusals.Refusal.TheVariants.{Full, NoToken, BadTarget, LastTurn, NotOurs, NotForMe, BadRecord}
use Rattle.rubis_shadow.specs.Shadows.{is_red}
use Rattle.rubis_shadow.specs.declared.shadows.Ask.{Ask}
use Rattle.rubis_shadow.specs.declared.shadows.Shadow.{Shadow}
use Rattle.rubis_message.specs.declared.tokens.Token.{Token}
use Rattle.rubis_message.specs.declared.answers.Arrival.{Arrival}
use Rattle.rubis_message.specs.declared.answers.Arrival.TheVariants as arrival
use Rattle.rubis_message.specs.declared.answers.Taken.{Taken}
use Rattle.rubis_message.specs.declared.answers.Taken.TheVariants as taken
use Rattle.rubis_generate.specs.Decision.{Rows, row_by_key, decision}
use Rattle.rubis_generate.specs.declared.standing.Standing.{Standing}
use Rattle.rubis_model.specs.Log.{cores, fold_of, Folded}
use Rattle.rubis_schema.specs.Ids.{id_text}
use Rattle.rubis_schema.specs.Refusals.{code_of, refusal_name}
use Rattle.rubis_message.specs.Grammar.{message_record, token_record}
use Rattle.rubis_schema.specs.declared.listings.Listing.{Listing}
use Rattle.rubis_schema.specs.declared.listings.Listing.TheVariants.{Log, Misfits}
use Rattle.rubis_message.specs.Inputs.{input_of}
use Rattle.rubis_message.specs.declared.inputs.Input.{Input}
use Rattle.rubis_message.specs.declared.inputs.Input.TheVariants.{Asked, Came, Neither}
use Rattle.rubis_message.specs.declared.requests.Request.TheVariants as request
use Rattle.rubis_message.specs.declared.tokens.Packet.TheVariants as packet
use Rattle.rubis_model.specs.Listings.{log_rows, misfit_rows, table_rows}

-- how many messages of a log have origin j
abbrev pub counted : ℕ → List Message → ℕ
counted j [] = 0
counted j (m ∷ log) = counted j log + cond (m.stamp.id.site == j) 1 0

-- how many of them are red
abbrev pub reds : List Message → ℕ
reds [] = 0
reds (m ∷ log) = reds log + cond (nat_lt 0 m.stamp.red) 1 0

-- the message is the next one of its origin, all that its origin had released elsewhere is there, and a red one has
-- the next red number
pub record Ready (log : List Message) (m : Message) : Type 0 where
  pub next : m.stamp.id.seq ≡ counted m.stamp.id.site log + 1
  pub released : (j : ℕ) → j ≢ m.stamp.id.site → dep m j ≤ counted j log
  pub number : 0 < m.stamp.red → m.stamp.red ≡ reds log + 1

-- the same as a test
abbrev pub is_ready : List Message → Message → Bool
is_ready log m =
    (m.stamp.id.seq == counted m.stamp.id.site log + 1)
    && list_all (λ j. (j == m.stamp.id.site) || nat_le (dep m j) (counted j log)) (range_with_len 0 (length m.stamp.deps))
    && ((m.stamp.red == 0) || (m.stamp.red == reds log + 1))

-- log and waiting messages settle to these: the earliest-arrived ready one is released, again until none is ready
pub data Settles : List Message → List Message → List Message → List Message → Type 0 where
  -- none is ready
  Rest : (log waiting : List Message) → ((x : Message) → Has x waiting → Ready log x → ⊥) → Settles log waiting log waiting
  -- m is the first that is ready; the others then settle after it
  Release : (log front back log' waiting' : List Message) (m : Message) → ((x : Message) → Has x front → Ready log x → ⊥) → Ready log m
      → Settles (log ++ m ∷ []) (front ++ back) log' waiting' → Settles log (front ++ m ∷ back) log' waiting'

-- with m in front of the rest
abbrev pub behind : Message → Option (Message × List Message) → Option (Message × List Message)
behind m None = None
behind m (Some p) = Some (p.0, m ∷ p.1)

-- the first of the waiting ones that is ready after the log, and the others in their order
abbrev pub first_ready : List Message → List Message → Option (Message × List Message)
first_ready log [] = None
first_ready log (m ∷ rest) = cond (is_ready log m) (Some (m, rest)) (behind m (first_ready log rest))

-- what they settle to, where at most n are released
abbrev pub settle : ℕ → List Message → List Message → List Message × List Message
settle zero log waiting = (log, waiting)
settle (suc n) log waiting = elim (first_ready log waiting) [ None ↦ (log, waiting) | Some p ↦ settle n (log ++ p.0 ∷ []) p.1 ]

-- ---- one site: its state, and what it answers to each kind of input

-- which site it is, of how many, and how many messages it keeps
pub record Place : Type 0 where
  pub site : ℕ
  pub sites : ℕ
  pub keep : ℕ

-- the released messages in release order, the waiting ones in arrival order, how many red numbers were issued if the
-- site holds the token, and the greatest turn that it took
pub record Replica : Type 0 where
  pub log : List Message
  pub waiting : List Message
  pub held : Option ℕ
  pub last : ℕ

-- a site with nothing done; site 0 holds the token
abbrev pub opening_at : ℕ → Replica
opening_at site = record { log = []; waiting = []; held = cond (site == 0) (Some 0) None; last = 0 }

-- once nothing more is ready
abbrev pub settled : Replica → Replica
settled s = record s { log = (settle (length s.waiting) s.log s.waiting).0; waiting = (settle (length s.waiting) s.log s.waiting).1 }

-- ---- asks

-- the site has as many messages, released or waiting, as it keeps
abbrev pub is_full : ℕ → Replica → Bool
is_full keep s = nat_le keep (length s.log + length s.waiting)

-- the red count is what the token has issued
abbrev pub is_current : Replica → Bool
is_current s = option_map_or (λ issued. reds s.log == issued) s.held false

-- what a decision has to know of its site: whether it is full, holds the token, and has every red message that was issued
abbrev pub standing_of : ℕ → Replica → Standing
standing_of keep s = record { full = is_full keep s; holds = is_some s.held; current = is_current s }

-- the rows of the tables of a log
abbrev pub rows_at : List Message → Rows
rows_at log = row_by_key (fold_of (cores log)).tables

-- a red shadow takes the next red number of the token, a blue one has 0
abbrev pub red_for : Shadow → Option ℕ → ℕ
red_for x held = cond (is_red x) (unwrap_or held 0 + 1) 0

-- the red numbers issued once the message is made
abbrev pub issued_after : Shadow → Option ℕ → Option ℕ
issued_after x held = cond (is_red x) (option_map (λ issued. issued + 1) held) held

-- how many messages of each site the log has
abbrev pub counts : ℕ → List Message → List ℕ
counts sites log = map (λ j. counted j log) (range_with_len 0 sites)

-- the message that the site makes of a shadow: its next one, which names all that the log has
abbrev pub made : Place → Replica → Shadow → Message
made p s x = record {
  stamp = record { id = record { site = p.site; seq = counted p.site s.log + 1 }; red = red_for x s.held; deps = counts p.sites s.log };
  shadow = x;
}

-- the site after it made the message, which is released at once
abbrev pub after_made : Place → Replica → Shadow → Replica
after_made p s x = settled (record s { log = s.log ++ made p s x ∷ []; held = issued_after x s.held })

-- what a site comes to, and what it answers; where it refuses, nothing changes
abbrev pub generating : Place → Replica → Result Shadow Refusal → Replica × Result Message Refusal
generating p s (Ok x) = (after_made p s x, Ok (made p s x))
generating p s (Err r) = (s, Err r)

-- an ask is decided against the tables of the log
abbrev pub asked : Place → Replica → Ask → Replica × Result Message Refusal
asked p s ask = generating p s (decision (rows_at s.log) (standing_of p.keep s) ask)

-- ---- messages that arrive

-- this site would have made it, and didn't
abbrev pub not_ours : Place → Replica → Message → Bool
not_ours p s m = (m.stamp.id.site == p.site) && nat_lt (counted p.site s.log) m.stamp.id.seq

-- its id is released or waiting
abbrev pub is_repeat : Replica → Message → Bool
is_repeat s m = list_any (λ u. same_id m.stamp.id u.stamp.id) s.log || list_any (λ u. same_id m.stamp.id u.stamp.id) s.waiting

-- put last among the waiting ones, and settled
abbrev pub after_came : Replica → Message → Replica
after_came s m = settled (record s { waiting = s.waiting ++ m ∷ [] })

-- held, or how many were released
abbrev pub arrival_of : ℕ → Arrival
arrival_of n = cond (n == 0) arrival.Held (arrival.Released n)

-- a message that arrives is refused if it falsely claims to be the site's own, a repeat if its id is released or waiting, and refused if
-- the site is full; else it is put last among the waiting ones, and the site settles
abbrev pub arrived : Place → Replica → Message → Replica × Result Arrival Refusal
arrived p s m =
    cond (not_ours p s m) (s, Err NotOurs)
    (cond (is_repeat s m) (s, Ok arrival.Repeat)
    (cond (is_full p.keep s) (s, Err Full)
    (after_came s m, Ok (arrival_of (length (after_came s m).log - length s.log)))))

-- ---- the token

-- a token is refused if it is for another site, and a repeat if its turn isn't above the last taken; else the site holds it
abbrev pub took : Place → Replica → Token → Replica × Result Taken Refusal
took p s t =
    cond (not (t.to == p.site)) (s, Err NotForMe)
    (cond (nat_le t.turn s.last) (s, Ok taken.Repeat)
    (record s { held = Some t.issued; last = t.turn }, Ok taken.Holding))

-- the token for the next turn
abbrev pub token_for : Replica → ℕ → ℕ → Token
token_for s to issued = record { turn = s.last + 1; to = to; issued = issued }

-- the token goes to another site, with all red numbers issued so far; where that is refused, nothing changes
abbrev pub passing : Place → Replica → ℕ → Option ℕ → Replica × Result Token Refusal
passing p s to None = (s, Err NoToken)
passing p s to (Some issued) =
    cond (nat_le p.sites to || (to == p.site)) (s, Err BadTarget)
    (cond (nat_le 1000000000 s.last) (s, Err LastTurn)
    (record s { held = None }, Ok (token_for s to issued)))

-- the site after it passed the token on, and the token that it sent
abbrev pub passed : Place → Replica → ℕ → Replica × Result Token Refusal
passed p s to = passing p s to s.held

-- ---- messages that arrive at a site one after the other, and what it makes of them

-- what a site comes to by messages that arrive, and what it answers to each
abbrev pub after_all : Place → Replica → List Message → Replica
after_all p s [] = s
after_all p s (m ∷ ms) = after_all p (arrived p s m).0 ms

-- what a site answers to messages that arrive one after the other
abbrev pub answers_to : Place → Replica → List Message → List (Result Arrival Refusal)
answers_to p s [] = []
answers_to p s (m ∷ ms) = (arrived p s m).1 ∷ answers_to p (arrived p s m).0 ms

-- ---- the records that a site writes

-- the answer to record n
abbrev pub reply : ℕ → List (List ℕ) → List (List ℕ)
reply n rest = codes "reply" ∷ decimal n ∷ rest

-- the answer that refuses: the refusal's number and name
abbrev pub refused_row : ℕ → Refusal → List (List ℕ)
refused_row n r = reply n (codes "refused" ∷ decimal (code_of r) ∷ refusal_name r ∷ [])

-- what other sites are sent
abbrev pub send_row : List (List ℕ) → List (List ℕ)
send_row fields = codes "send" ∷ fields

-- an accepted ask is answered by its id, and sent
abbrev pub asked_rows : ℕ → Result Message Refusal → List (List (List ℕ))
asked_rows n (Ok m) = reply n (codes "ok" ∷ id_text m.stamp.id ∷ []) ∷ send_row (message_record m) ∷ []
asked_rows n (Err r) = refused_row n r ∷ []

-- a token that was handed on is sent
abbrev pub passed_rows : ℕ → Result Token Refusal → List (List (List ℕ))
passed_rows n (Ok t) = reply n (codes "passed" ∷ []) ∷ send_row (token_record t) ∷ []
passed_rows n (Err r) = refused_row n r ∷ []

-- a message that arrived: how many were released, or that it waits, or that it had come before
abbrev pub arrival_row : ℕ → Arrival → List (List ℕ)
arrival_row n (arrival.Released k) = reply n (codes "released" ∷ decimal k ∷ [])
arrival_row n arrival.Held = reply n (codes "held" ∷ [])
arrival_row n arrival.Repeat = reply n (codes "repeat" ∷ [])

-- the records that answer a message that arrived
abbrev pub arrived_rows : ℕ → Result Arrival Refusal → List (List (List ℕ))
arrived_rows n (Ok a) = arrival_row n a ∷ []
arrived_rows n (Err r) = refused_row n r ∷ []

-- a token that arrived: the site holds it, or its turn had come before
abbrev pub taken_row : ℕ → Taken → List (List ℕ)
taken_row n taken.Holding = reply n (codes "holding" ∷ [])
taken_row n taken.Repeat = reply n (codes "repeat" ∷ [])

-- the records that answer a token that arrived
abbrev pub took_rows : ℕ → Result Taken Refusal → List (List (List ℕ))
took_rows n (Ok t) = taken_row n t ∷ []
took_rows n (Err r) = refused_row n r ∷ []

-- a listing is answered by the number of its rows, and the rows
abbrev pub listed_rows : ℕ → Result (List (List (List ℕ))) Refusal → List (List (List ℕ))
listed_rows n (Ok rows) = reply n (codes "rows" ∷ decimal (length rows) ∷ []) ∷ rows
listed_rows n (Err r) = refused_row n r ∷ []

-- ---- what a site answers to a list of records

-- the rows of a listing: of the log, or of what is folded of it
abbrev pub listing_rows : List Message → Folded → Listing → List (List (List ℕ))
listing_rows log f Log = log_rows log
listing_rows log f Misfits = misfit_rows f.misfits
listing_rows log f l = table_rows l f.tables

-- what a listing shows at a site; it changes nothing
abbrev pub listed : Replica → Listing → Replica × Result (List (List (List ℕ))) Refusal
listed s l = (s, Ok (listing_rows s.log (fold_of (cores s.log)) l))

-- what a step comes to, and its answer as records
abbrev pub told : {A : Type 0} → (Result A Refusal → List (List (List ℕ))) → Replica × Result A Refusal → Replica × List (List (List ℕ))
told rows step = (step.0, rows step.1)

-- the site after record n, and the records that answer it
abbrev pub input_step : Place → Replica → ℕ → Input → Replica × List (List (List ℕ))
input_step p s n (Asked (request.Ask a)) = told (asked_rows n) (asked p s a)
input_step p s n (Asked (request.Pass to)) = told (passed_rows n) (passed p s to)
input_step p s n (Asked (request.List l)) = told (listed_rows n) (listed s l)
input_step p s n (Came (packet.Msg m)) = told (arrived_rows n) (arrived p s m)
input_step p s n (Came (packet.Token t)) = told (took_rows n) (took p s t)
input_step p s n Neither = (s, refused_row n BadRecord ∷ [])

-- the records that answer these records, the first of which has that number
unfoldable pub answers : Place → Replica → ℕ → List (List (List ℕ)) → List (List (List ℕ))
answers p s n [] = []
answers p s n (fields ∷ rest) = (input_step p s n (input_of p.sites fields)).1 ++ answers p (input_step p s n (input_of p.sites fields)).0 (n + 1) rest

-- all that a site answers to a run of records: of its configuration this knows only `Place`
abbrev pub output_of : Place → List (List (List ℕ)) → List (List (List ℕ))
output_of p records = answers p (opening_at p.site) 1 records
