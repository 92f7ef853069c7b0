-- The forms of records: the grammar of the manual, a line for each form, and when a field is as its rule says.
use Prim.Native.String.{String}
use Rattle.std.specs.Prelude.{ℕ, ◌+◌, ◌-◌, ◌==◌, ◌&&◌, Bool, true, false, if◌then◌else◌, bytes_eq, codes, find, length, slice_get, unwrap_or, List, [], ◌∷◌}
use Rattle.std.specs.Prelude.{Option, Some, None, ◌||◌, is_some, nat_le, nat_lt}
use Rattle.rubis_schema.specs.declared.limits.TheConstants.{PASS_MAX, RECORDS_MAX, COUNT_MAX}
use Rattle.rubis_audit.specs.declared.forms.Form.{Form as Row}
use Rattle.rubis_audit.specs.declared.forms.Section.{Section}
use Rattle.rubis_audit.specs.declared.forms.Section.TheVariants.{Request, Message, Token, At, Event, LogSite, LogRow}
use Rattle.rubis_audit.specs.declared.forms.TheConstants.{AMOUNT, CATEGORY, COUNT, PRICE, QUANTITY, SEQ, TURN}
use Rattle.rubis_audit.specs.declared.rules.Rule.{Rule}
use Rattle.rubis_audit.specs.declared.rules.Rule.TheVariants.{Blue, Counts, Effect, First, Id, Name, Nick, Number, Rating, Red, Second, Shown, Site, Text, Told}
use Rattle.rubis_audit.specs.declared.rules.Rule.TheVariants.{Version, Winner, Positive}
use Rattle.rubis_model.specs.AuditRecords.{Line}
use Rattle.rubis_model.specs.AuditRecords.Line.{Begin, Claim, Next}
use Rattle.rubis_model.specs.Verdict.{Log}
use Rattle.rubis_audit.specs.declared.widener.LinePlace.{LinePlace}
use Rattle.rubis_audit.specs.declared.widener.LinePlace.TheVariants.{BeforeLogs, InMessages, InRows}
use Rattle.rubis_schema.specs.FieldForms.{id_of, is_name, is_nick, is_text}
use Rattle.rubis_schema.specs.NumberForms.{number_of, rating_of}
use Rattle.rubis_message.specs.Counts.{deps_of}

-- a form: its section, its first word, the word that tells it, `at` fields behind the first, what a record of it is called, what its fields
-- after the first may be, and whether more may follow
pub record RecordForm : Type 0 where
  pub section : Section
  pub first : List ℕ
  pub at : ℕ
  pub told : List ℕ
  pub name : List ℕ
  pub rules : List Rule
  pub is_open : Bool

abbrev pub row : Row → RecordForm
row r = record { section = r.section; first = r.first.now; at = r.at; told = r.told.now; name = r.name.now; rules = r.rules.now; is_open = r.is_open }

abbrev pub plain : Section → String → String → Bool → List Rule → RecordForm
plain s word name more rules =
    record { section = s; first = codes word; at = 0; told = codes word; name = codes name; rules = rules; is_open = more }

abbrev pub listed_form : String → String → List Rule → RecordForm
listed_form word name rules =
    record { section = Request; first = codes "list"; at = 1; told = codes word; name = codes name; rules = Told ∷ rules; is_open = false }

-- a message says in its seventh field what it does
abbrev pub sent : Rule → Rule → String → String → List Rule → RecordForm
sent version red word name rules =
    let head = version ∷ Site ∷ SEQ ∷ red ∷ Counts ∷ Told ∷ rules in
    record { section = Message; first = codes "msg"; at = 6; told = codes word; name = codes name; rules = head; is_open = false }

-- all forms; those that begin with one word stand in the order in which they are tried
abbrev pub forms : List RecordForm
forms =
    sent First Red "user" "a message with a user" (Nick ∷ [])
    ∷ sent First Blue "item" "a message with an item" (Id ∷ Name ∷ CATEGORY ∷ QUANTITY ∷ AMOUNT ∷ PRICE ∷ [])
    ∷ sent First Red "bid" "a message with a bid" (Id ∷ Id ∷ AMOUNT ∷ [])
    ∷ sent First Red "buy" "a message with a buy" (Id ∷ Id ∷ QUANTITY ∷ [])
    ∷ sent First Red "close" "a message with a close" (Id ∷ CATEGORY ∷ Winner ∷ [])
    ∷ sent First Blue "comment" "a message with a comment" (Id ∷ Id ∷ Id ∷ Rating ∷ Text ∷ [])
    ∷ sent Second Blue "restock" "a message with a restock" (Id ∷ QUANTITY ∷ [])
    ∷ sent Second Red "rename" "a message with a rename" (Id ∷ Nick ∷ Nick ∷ [])
    ∷ plain Message "msg" "a message" true (Version ∷ Site ∷ SEQ ∷ COUNT ∷ Counts ∷ Effect ∷ [])
    ∷ plain Token "token" "a token" false (First ∷ TURN ∷ Site ∷ COUNT ∷ [])
    ∷ plain LogSite "site" "the site of a log" false (Site ∷ [])
    ∷ plain LogRow "row" "a row" true []
    ∷ plain Request "user" "a user" false (Nick ∷ [])
    ∷ plain Request "item" "an item" false (Id ∷ Name ∷ CATEGORY ∷ QUANTITY ∷ AMOUNT ∷ PRICE ∷ [])
    ∷ plain Request "bid" "a bid" false (Id ∷ Id ∷ AMOUNT ∷ [])
    ∷ plain Request "buy" "a buy" false (Id ∷ Id ∷ QUANTITY ∷ [])
    ∷ plain Request "close" "a close" false (Id ∷ Id ∷ [])
    ∷ plain Request "comment" "a comment" false (Id ∷ Id ∷ Id ∷ Rating ∷ Text ∷ [])
    ∷ plain Request "restock" "a restock" false (Id ∷ Id ∷ QUANTITY ∷ [])
    ∷ plain Request "rename" "a rename" false (Id ∷ Nick ∷ [])
    ∷ plain Request "pass" "a pass" false (Number PASS_MAX ∷ [])
    ∷ listed_form "users" "a list of users" []
    ∷ listed_form "items" "a list of items" (CATEGORY ∷ [])
    ∷ listed_form "bids" "a list of bids" (Id ∷ [])
    ∷ listed_form "purchases" "a list of purchases" (Id ∷ [])
    ∷ listed_form "comments" "a list of comments" (Id ∷ [])
    ∷ listed_form "categories" "a list of categories" []
    ∷ listed_form "log" "a list of the log" []
    ∷ listed_form "misfits" "a list of misfits" []
    ∷ listed_form "tables" "a list of the tables" []
    ∷ plain Request "list" "a list" true (Shown ∷ [])
    ∷ plain At "at" "a request at a site" true (Site ∷ Told ∷ [])
    ∷ plain Event "deliver" "a delivery" false (Site ∷ Number RECORDS_MAX ∷ [])
    ∷ plain Event "audit" "an audit" false []
    ∷ []

-- the field with that number, from 1; nothing where there is none
abbrev pub field_at : List (List ℕ) → ℕ → List ℕ
field_at fields number = if number == 0 then [] else unwrap_or (slice_get fields (number - 1)) []

-- the words of a record tell the form, the first of them in the field with the number `start`
abbrev pub is_told : ℕ → List (List ℕ) → RecordForm → Bool
is_told start fields form = bytes_eq (field_at fields start) form.first && bytes_eq (field_at fields (start + form.at)) form.told

-- the form that the words tell first
abbrev pub form_of : ℕ → List (List ℕ) → Option RecordForm
form_of start fields = find (is_told start fields) forms

-- how many fields a record of the form has, or has at least
abbrev pub wanted : ℕ → RecordForm → ℕ
wanted start form = start + length form.rules

-- ---- where the records of an audit stand

-- after the records of a log: whether it claims rows
abbrev pub place_in : Option (List (List (List ℕ))) → LinePlace
place_in None = InMessages
place_in (Some rows) = InRows

-- after the records of these logs, newest first
abbrev pub place_in_logs : List Log → LinePlace
place_in_logs [] = BeforeLogs
place_in_logs (log ∷ logs) = place_in log.rows

-- the least logs after whose records it is
abbrev pub logs_at : LinePlace → List Log
logs_at BeforeLogs = []
logs_at InMessages = record { site = 0; messages = []; rows = None } ∷ []
logs_at InRows = record { site = 0; messages = []; rows = Some [] } ∷ []

-- the place after a record that says this, if it may stand here
abbrev pub place_after : LinePlace → Line → Option LinePlace
place_after place (Begin site) = Some InMessages
place_after BeforeLogs line = None
place_after InMessages (Next m) = Some InMessages
place_after InRows (Next m) = None
place_after place (Claim row) = Some InRows

-- ---- when a field is as its rule says

-- there is a number, and the test holds of it
abbrev pub holds_of : (ℕ → Bool) → Option ℕ → Bool
holds_of test None = false
holds_of test (Some n) = test n

-- a number from `low` to `high`
abbrev pub is_within : ℕ → ℕ → List ℕ → Bool
is_within low high field = holds_of (nat_le low) (number_of high field)

-- a field is as the rule says when there are `sites` sites; a rule that isn't about a field alone holds of none
abbrev pub fits : ℕ → Rule → List ℕ → Bool
fits sites Nick field = is_nick field
fits sites Name field = is_name field
fits sites Text field = is_text field
fits sites Rating field = is_some (rating_of field)
fits sites Id field = is_some (id_of sites field)
fits sites Winner field = bytes_eq field (codes "none") || is_some (id_of sites field)
fits sites Site field = nat_lt 0 sites && is_within 0 (sites - 1) field
fits sites Counts field = is_some (deps_of sites field)
fits sites (Number high) field = is_within 0 high field
fits sites (Positive high) field = is_within 1 high field
fits sites Red field = is_within 1 COUNT_MAX field
fits sites Blue field = bytes_eq field (codes "0")
fits sites First field = bytes_eq field (codes "1")
fits sites Second field = bytes_eq field (codes "2")
fits sites Version field = bytes_eq field (codes "1") || bytes_eq field (codes "2")
fits sites Told field = true
fits sites other field = false
