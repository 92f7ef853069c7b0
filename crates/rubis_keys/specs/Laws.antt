-- What keys are for, of any records of a site.
use Rattle.std.specs.Prelude.{◌≡◌, ◌+◌, ◌++◌, ◌∷◌, ◌⊎◌, [], ℕ, Bool, List, Some, codes, cond, drop, is_some, length}
use Rattle.rubis_schema.specs.Ids.{id_text}
use Rattle.rubis_schema.specs.Tables.{Has}
use Rattle.rubis_schema.specs.declared.ids.Id.{Id}
use Rattle.rubis_shadow.specs.Shadows.{is_red}
use Rattle.rubis_shadow.specs.declared.shadows.Ask.{Ask}
use Rattle.rubis_message.specs.Message.{Message}
use Rattle.rubis_model.specs.Processes.{site_after}
use Rattle.rubis_model.specs.Site.{Place, opening_at, reply}
use Rattle.rubis_keys.specs.Keys.{KeyedSite, again_row, answers_ask, is_red_ask, key_taken_row, keyed_after, keyed_answers, keyed_input, keyed_opening}
use Rattle.rubis_keys.specs.Keys.{keyed_step, known_of}
use Rattle.rubis_keys.specs.declared.inputs.KeyedInput.{KeyedInput}
use Rattle.rubis_keys.specs.declared.inputs.KeyedInput.TheVariants.{Plain, AskedUnder, CameUnder}
use Rattle.rubis_keys.specs.declared.keys.Known.{Known}

-- a site after these records, the first ones of all
abbrev pub after_records : Place → List (List (List ℕ)) → KeyedSite
after_records p records = keyed_after p (keyed_opening p.site) 1 records

-- the records that answer the next record after these
abbrev pub next_rows : Place → List (List (List ℕ)) → List (List ℕ) → List (List (List ℕ))
next_rows p records fields = (keyed_step p (after_records p records) (length records + 1) (keyed_input p.sites fields)).1

-- what is answered to records is what is answered to the first, and then to the next ones after these
abbrev pub AnswersGoOn : Type 0
AnswersGoOn = (p : Place) (s : KeyedSite) (n : ℕ) (records more : List (List (List ℕ)))
    → keyed_answers p s n (records ++ more) ≡ keyed_answers p s n records ++ keyed_answers p (keyed_after p s n records) (n + length records) more

-- ---- keys change nothing

-- a record without its key; none, where an ask is answered by what is known
abbrev pub bare_records : KeyedSite → KeyedInput → List (List ℕ) → List (List (List ℕ))
bare_records s (Plain i) fields = fields ∷ []
bare_records s (AskedUnder key a) fields = cond (is_some (s.keys key (is_red_ask a))) [] (drop 2 fields ∷ [])
bare_records s (CameUnder key m) fields = drop 2 fields ∷ []

-- records without keys, and without the asks that are answered by what is known
abbrev pub bare_of : Place → KeyedSite → List (List (List ℕ)) → List (List (List ℕ))
bare_of p s [] = []
bare_of p s (fields ∷ rest) =
    bare_records s (keyed_input p.sites fields) fields ++ bare_of p (keyed_step p s 1 (keyed_input p.sites fields)).0 rest

-- the site is that of these
abbrev pub KeysChangeNothing : Type 0
KeysChangeNothing = (p : Place) (records : List (List (List ℕ)))
    → (after_records p records).site ≡ site_after p (opening_at p.site) 1 (bare_of p (keyed_opening p.site) records)

-- ---- a key is known exactly while a message under it is released or waits

-- a message that is known is of that colour, and is released or waits
abbrev pub KnownIsThere : Type 0
KnownIsThere = (p : Place) (records : List (List (List ℕ))) (key : List ℕ) (red : Bool) (k : Known) → (after_records p records).keys key red ≡ Some k
    → (is_red k.shadow ≡ red)
    × ((m : Message) × (known_of m ≡ k) × (Has m (after_records p records).site.log ⊎ Has m (after_records p records).site.waiting))

-- and it stays known, whatever follows
abbrev pub KnownStays : Type 0
KnownStays = (p : Place) (s : KeyedSite) (n : ℕ) (records : List (List (List ℕ))) (key : List ℕ) (red : Bool) (k : Known)
    → s.keys key red ≡ Some k → (keyed_after p s n records).keys key red ≡ Some k

-- ---- asks under keys

-- a record asks so under a key, for something of that colour
abbrev pub AsksUnder : Place → List (List ℕ) → List ℕ → Bool → Ask → Type 0
AsksUnder p fields key red a = (keyed_input p.sites fields ≡ AskedUnder key a) × (is_red_ask a ≡ red)

-- these rows accept an ask: they give an id, and send a message
abbrev pub Accept : List (List (List ℕ)) → Type 0
Accept rows = (n : ℕ) × (id : Id) × (sent : List (List ℕ)) × (rows ≡ reply n (codes "ok" ∷ id_text id ∷ []) ∷ sent ∷ [])

-- of two asks of one colour under one key at most one is accepted
abbrev pub OneAskAKey : Type 0
OneAskAKey = (p : Place) (first between : List (List (List ℕ))) (one other : List (List ℕ)) (key : List ℕ) (red : Bool) (a b : Ask)
    → AsksUnder p one key red a → AsksUnder p other key red b
    → Accept (next_rows p first one) → Accept (next_rows p (first ++ one ∷ between) other) → ⊥

-- once a message is known under a key, each ask of its colour is told its id if the message answers it, and else that the key is taken
abbrev pub AnsweredAsThen : Type 0
AnsweredAsThen = (p : Place) (first between : List (List (List ℕ))) (fields : List (List ℕ)) (key : List ℕ) (red : Bool) (k : Known) (a : Ask)
    → (after_records p first).keys key red ≡ Some k → AsksUnder p fields key red a
    → next_rows p (first ++ between) fields
    ≡ cond (answers_ask k.shadow a) (again_row (length (first ++ between) + 1) k.id) (key_taken_row (length (first ++ between) + 1)) ∷ []
