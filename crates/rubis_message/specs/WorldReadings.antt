-- What a record is to several sites in one run.
use Rattle.std.specs.Prelude.{◌≡◌, ℕ, bytes_eq, codes, List, [], ◌∷◌, Option, Some, None, Result, Ok, Err, option_and_then, unwrap_or, ⊤}
use Rattle.std.specs.Option.{option_or}
use Rattle.rubis_schema.specs.declared.limits.TheConstants.{RECORDS_MAX}
use Rattle.rubis_message.specs.Readings.{Form, ◌>>=◌, ◌>>◌, check, give, one, take_number, take_site, whole, request_of}
use Rattle.rubis_message.specs.Grammar.{IsRequest}
use Rattle.rubis_message.specs.declared.faults.ReadFault.{ReadFault}
use Rattle.rubis_message.specs.declared.faults.ReadFault.TheVariants.{BadRecord, Memory}
use Rattle.rubis_message.specs.declared.world_inputs.WorldInput.{WorldInput}
use Rattle.rubis_message.specs.declared.world_inputs.WorldInput.TheVariants.{Asked, Delivered, Audit, Neither}

-- a field with exactly that word
abbrev pub take_word : List ℕ → Form (Unit {0})
take_word word = one Some >>= (λ field. check (bytes_eq field word))

-- `at`, then the number of a site, below `sites`
unfoldable pub take_at : ℕ → Form ℕ
take_at sites = take_word (codes "at") >> take_site sites

-- at least one field is left after the number of the site; they are a request, or not
abbrev pub asked_with : ℕ → ℕ → List (List ℕ) → Option WorldInput
asked_with sites i [] = None
asked_with sites i (field ∷ rest) = Some (Asked i (request_of sites (field ∷ rest)))

-- `at`, a site below `sites`, and at least one field: the request, or fields that are none
unfoldable pub request_at : ℕ → List (List ℕ) → Option WorldInput
request_at sites fields = option_and_then (λ p. asked_with sites p.0 p.1) (take_at sites fields)

-- `deliver`, then the number of a site, below `sites`, and the number of a packet
unfoldable pub take_delivery : ℕ → Form WorldInput
take_delivery sites = do
  take_word (codes "deliver")
  site ← take_site sites
  which ← take_number RECORDS_MAX
  give (Delivered site which)

-- `audit` alone
unfoldable pub take_audit : Form WorldInput
take_audit = take_word (codes "audit") >> give Audit

-- what a record says to a world: a request at a site, a delivery, an audit, or none of these
abbrev pub world_input : ℕ → List (List ℕ) → WorldInput
world_input sites fields =
    unwrap_or (option_or (request_at sites fields) (option_or (whole (take_delivery sites) fields) (whole take_audit fields))) Neither

-- a request is within the limits
abbrev pub IsWorldInput : ℕ → WorldInput → Type 0
IsWorldInput sites (Asked i (Some r)) = IsRequest sites r
IsWorldInput sites (Asked i None) = ⊤
IsWorldInput sites (Delivered i k) = ⊤
IsWorldInput sites Audit = ⊤
IsWorldInput sites Neither = ⊤

-- what reading promises of all fields of a record
abbrev pub Reads : {A : Type 0} → Option A → Result A ReadFault → Type 0
Reads found (Ok x) = found ≡ Some x
Reads found (Err BadRecord) = found ≡ None
Reads found (Err Memory) = ⊤
