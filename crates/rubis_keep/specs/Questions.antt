-- What a site answers to a question, and how a run answers those of its input.
use Rattle.std.specs.Prelude.{ℕ, ◌∷◌, [], List, codes, decimal, length, ◌≡◌, ◌==◌, ◌++◌, Bool, Option, None, Some, IfSome, bytes_eq, cond, drop, false, take}
use Rattle.std.specs.Prelude.{true, nat_le, not, option_map, ◌⊎◌, MatchResult, Result, map}
use Rattle.std.specs.Option.{option_map_or}
use Rattle.rubis_message.specs.Readings.{request_of}
use Rattle.rubis_message.specs.declared.requests.Request.{Request}
use Rattle.rubis_message.specs.declared.requests.Request.TheVariants as request
use Rattle.rubis_model.specs.Log.{cores, fold_of}
use Rattle.rubis_model.specs.Site.{listing_rows, Replica, counted, Place, counts, rows_at}
use Rattle.rubis_schema.specs.FieldForms.{text_of, id_of, nick_of}
use Rattle.rubis_schema.specs.NumberForms.{number_of}
use Rattle.rubis_schema.specs.declared.listings.Listing.{Listing}
use Rattle.rubis_schema.specs.declared.listings.Listing.TheVariants as listing
use Rattle.rubis_keep.specs.declared.pages.Listed.{Listed}
use Rattle.rubis_keep.specs.declared.pages.Page.{Page}
use Rattle.rubis_keep.specs.declared.pages.TheConstants.{PAGE_MAX, PLACE_MAX}
use Rattle.rubis_message.specs.Grammar.{deps_text}
use Rattle.rubis_model.specs.Listings.{row_record}
use Rattle.rubis_schema.specs.Ids.{id_text}
use Rattle.rubis_schema.specs.declared.limits.TheConstants.{CAT_MAX}
use Rattle.rubis_schema.specs.declared.row_keys.RowKey.{RowKey}
use Rattle.rubis_schema.specs.declared.row_keys.RowKey.TheVariants as key
use Rattle.rubis_schema.specs.declared.rows.Row.{Row}
use Rattle.rubis_schema.specs.declared.rows.Row.TheVariants as row
use Rattle.rubis_engine.specs.Text.{input_records, rows_text}
use Rattle.rubis_keep.specs.Lines.{closes_quotes, line_max, Asked, asked_after, whole_lines}
use Rattle.rubis_keep.specs.declared.questions.Question.{Question}
use Rattle.rubis_keep.specs.declared.questions.Question.TheVariants as question
use Rattle.std.specs.Io.KnownBytes.{Consumes}
use Rattle.rubis_keep.specs.History.{FolderEvent, Grows, History}
use Rattle.rubis_keep.specs.History.FolderEvent.{Replied}
use Rattle.rubis_keep.specs.Shortened.{state_after}
use Rattle.rubis_keep.specs.declared.site.Clerk.{Clerk}
use Rattle.rubis_keys.specs.Keys.{KeyedSite}

-- a question is refused, for this reason
abbrev pub refused_as : List ℕ → List (List (List ℕ))
refused_as reason = (codes "refused" ∷ reason ∷ []) ∷ []

-- how many rows there are, and the rows
abbrev pub counted_rows : List (List (List ℕ)) → List (List (List ℕ))
counted_rows rows = (codes "rows" ∷ decimal (length rows) ∷ []) ∷ rows

-- ---- pages of listings

-- ---- what is asked

-- a listing has pages unless it is of all tables, whose rows have no names
abbrev pub has_pages : Listing → Bool
has_pages listing.Tables = false
has_pages l = true

abbrev pub paged_by : Option Request → Option Listing
paged_by (Some (request.List l)) = cond (has_pages l) (Some l) None
paged_by (Some (request.Ask a)) = None
paged_by (Some (request.Pass to)) = None
paged_by None = None

abbrev pub page_with : Option ℕ → Option ℕ → Option (List ℕ) → Option Listing → Option Page
page_with (Some most) (Some from) (Some after) (Some l) = Some (record { most = most; from = from; after = after; listing = l })
page_with most from after l = None

-- the page that these fields ask for: how many rows at most, where the named row is looked for, its name, and a request for a listing
abbrev pub page_asked : ℕ → List (List ℕ) → Option Page
page_asked sites (word ∷ most ∷ from ∷ after ∷ request) =
    cond (bytes_eq word (codes "page")) (page_with (number_of PAGE_MAX most) (number_of PLACE_MAX from) (text_of after) (paged_by (request_of sites request))) None
page_asked sites fields = None

-- ---- its rows

-- a row's name is its key, which stands behind the two words for its kind; of what didn't fit it is the entry and the part
abbrev pub row_name : List (List ℕ) → List ℕ
row_name (row ∷ kind ∷ key ∷ next ∷ rest) = cond (bytes_eq kind (codes "misfit")) (key ++ 46 ∷ next) key
row_name fields = []

-- the rows behind the first one of this name, if there is one
abbrev pub rows_behind_name : List ℕ → List (List (List ℕ)) → Option (List (List (List ℕ)))
rows_behind_name name [] = None
rows_behind_name name (row ∷ rows) = cond (bytes_eq (row_name row) name) (Some rows) (rows_behind_name name rows)

-- the rows of a listing from where a page begins: the named row is looked for from a place on, and without a name the page begins at that place
abbrev pub rows_of_page : Page → List (List (List ℕ)) → Option (List (List (List ℕ)))
rows_of_page p rows = cond (length p.after == 0) (Some (drop p.from rows)) (rows_behind_name p.after (drop p.from rows))

-- what answers that asks for a page of these rows
abbrev pub page_rows : Page → List (List (List ℕ)) → List (List (List ℕ))
page_rows p rows = option_map_or (λ later. counted_rows (take p.most later)) (rows_of_page p rows) (refused_as (codes "NoRow"))

-- ---- what is held of a listing

-- the rows of a listing in this state
abbrev pub rows_in : Replica → Listing → List (List (List ℕ))
rows_in s l = listing_rows s.log (fold_of (cores s.log)) l

-- the rows that are held, if any are, are those of their listing in this state
abbrev pub AreListed : Replica → Option Listed → Type 0
AreListed s held = IfSome held (λ h. h.rows ≡ rows_in s h.listing)

-- ---- what a site answers to a question

-- ---- what a line asks

-- these fields are the word `state` alone
abbrev pub says_state : List (List ℕ) → Bool
says_state (word ∷ []) = bytes_eq word (codes "state")
says_state fields = false

-- the key that two words say: a table, and what names a row of it
abbrev pub asked_key : ℕ → List ℕ → List ℕ → Option RowKey
asked_key sites table name =
    cond (bytes_eq table (codes "user")) (option_map key.User (id_of sites name))
    (cond (bytes_eq table (codes "item")) (option_map key.Item (id_of sites name))
    (cond (bytes_eq table (codes "bid")) (option_map key.Bid (id_of sites name))
    (cond (bytes_eq table (codes "purchase")) (option_map key.Purchase (id_of sites name))
    (cond (bytes_eq table (codes "comment")) (option_map key.Comment (id_of sites name))
    (cond (bytes_eq table (codes "category")) (option_map key.Cat (number_of CAT_MAX name))
    (cond (bytes_eq table (codes "nickname")) (option_map key.Nick (nick_of name)) None))))))

-- the row that these fields ask for
abbrev pub row_asked : ℕ → List (List ℕ) → Option RowKey
row_asked sites (word ∷ table ∷ name ∷ []) = cond (bytes_eq word (codes "row")) (asked_key sites table name) None
row_asked sites fields = None

-- the first that is there
abbrev pub asked_or : Option RowKey → Option Question → Option Question
asked_or (Some k) other = Some (question.Row k)
asked_or None other = other

abbrev pub paged_or : Option Page → Option Question → Option Question
paged_or (Some p) other = Some (question.Page p)
paged_or None other = other

-- a question has the form of a request for a listing
abbrev pub listed_by : Option Request → Option Question
listed_by (Some (request.List l)) = Some (question.List l)
listed_by (Some (request.Ask a)) = None
listed_by (Some (request.Pass to)) = None
listed_by None = None

abbrev pub question_of : ℕ → List (List ℕ) → Option Question
question_of sites fields =
    cond (says_state fields) (Some question.State)
    (asked_or (row_asked sites fields) (paged_or (page_asked sites fields) (listed_by (request_of sites fields))))

-- a question is one record
abbrev pub question_in : ℕ → List (List (List ℕ)) → Option Question
question_in sites (fields ∷ []) = question_of sites fields
question_in sites records = None

-- ---- its answer

-- the turn of the token, if the site holds it
abbrev pub token_text : Replica → List ℕ
token_text s = option_map_or (λ issued. decimal s.last) s.held (codes "none")

-- how many records were answered; how many messages the site released of its own, and of each site; the turn of the token, if it holds it;
-- the greatest turn that it took; and how many messages wait
abbrev pub state_row : Place → Replica → ℕ → List (List ℕ)
state_row p s answered =
    codes "state" ∷ decimal answered ∷ decimal (counted p.site s.log) ∷ deps_text (counts p.sites s.log) ∷ token_text s ∷ decimal s.last
    ∷ decimal (length s.waiting) ∷ []

-- the record of the row at a key, as listings show it, or of the user who has a nickname
abbrev pub row_shown : RowKey → Option Row → List (List (List ℕ))
row_shown (key.Nick nick) (Some (row.Nick id)) = (codes "row" ∷ codes "nickname" ∷ nick ∷ id_text id ∷ []) ∷ []
row_shown k (Some r) = row_record k r
row_shown k None = []

abbrev pub or_none : List (List (List ℕ)) → List (List (List ℕ))
or_none [] = (codes "none" ∷ []) ∷ []
or_none (r ∷ rs) = r ∷ rs

-- what a site shows that answered this number of records; a question changes nothing of it
abbrev pub shown_to : Place → Replica → ℕ → Option Question → List (List (List ℕ))
shown_to p s answered (Some (question.List l)) = counted_rows (rows_in s l)
shown_to p s answered (Some (question.Page page)) = page_rows page (rows_in s page.listing)
shown_to p s answered (Some (question.Row k)) = or_none (row_shown k (rows_at s.log k))
shown_to p s answered (Some question.State) = state_row p s answered ∷ []
shown_to p s answered None = refused_as (codes "BadQuestion")

-- the rows that answer a line that is a question. The text after the '?' is read as the text of a record is
abbrev pub reply_rows : Place → Replica → ℕ → List ℕ → List (List (List ℕ))
reply_rows p s answered line =
    cond (not (nat_le (length line) line_max)) (refused_as (codes "TooLong"))
    (cond (not (closes_quotes (drop 1 line))) (refused_as (codes "OpenQuote"))
    (shown_to p s answered (question_in p.sites (input_records (drop 1 line ++ 10 ∷ [])))))

-- the text of an answer: '?', and the text of its rows
abbrev pub reply_text : List (List (List ℕ)) → List ℕ
reply_text rows = 63 ∷ rows_text rows

-- ---- how a run answers the questions of its input

-- ---- what is replied

-- a question, and the text that answers it
pub record Reply : Type 0 where
  pub question : List ℕ
  pub text : List ℕ

-- what a history replied, question by question
abbrev pub replied_in : List FolderEvent → List Reply
replied_in [] = []
replied_in (Replied question text ∷ later) = record { question = question; text = text } ∷ replied_in later
replied_in (e ∷ later) = replied_in later

-- the answer of a site that had begun in state s, to a question: it has answered the records that were kept before it
abbrev pub reply_to : Place → KeyedSite → Asked → Reply
reply_to p s a = record {
  question = a.question;
  text = reply_text (reply_rows p (state_after p s (input_records a.kept)).site (length (input_records a.kept)) a.question);
}

-- the answers to the questions of these bytes of an input, where `kept` was kept before
abbrev pub replies : Place → KeyedSite → List ℕ → List ℕ → List Reply
replies p s kept bytes = map (reply_to p s) (asked_after true kept [] bytes)

-- these are the first ones, the last of which may be cut off
abbrev pub AreFirst : List Reply → List Reply → Type 0
AreFirst xs all = ((rest : List Reply) × (xs ++ rest ≡ all))
    ⊎ ((first rest : List Reply) × (r : Reply) × (n : ℕ) × (xs ≡ first ++ record r { text = take n r.text } ∷ []) × (first ++ r ∷ rest ≡ all))

-- a run that began with `kept` in its folder, and read these bytes of its input, has replied to the questions of them in their order;
-- if it ended with a fault, to the first ones
abbrev pub RepliesTo : {T E : Type 0} → Place → KeyedSite → List ℕ → Option (List ℕ) → Option (List ℕ) → Option History → Option History → Result T E → Type 0
RepliesTo p s kept input input2 old new r = (bytes : List ℕ) × Consumes input input2 bytes × (events : List FolderEvent) × Grows old new events
    × MatchResult r (λ _. replied_in events ≡ replies p s (whole_lines kept) bytes) (λ _. AreFirst (replied_in events) (replies p s (whole_lines kept) bytes))

-- a question was replied to, if it was asked; at a fault nothing happened, or some first bytes of its answer stand there
abbrev pub RepliesIf : {T E : Type 0} → Bool → Option History → Option History → Result T E → List ℕ → List ℕ → Type 0
RepliesIf asked old new r question text = MatchResult r (λ _. Grows old new (cond asked (Replied question text ∷ []) []))
    (λ _. (asked ≡ true) × (Grows old new [] ⊎ ((n : ℕ) × Grows old new (Replied question (take n text) ∷ []))))

-- nothing of what a clerk answers has changed, nor what it holds
pub record IsUnmoved {G : Type 0} (old new : Clerk G) : Type 0 where
  pub place : new.keyed.desk.site.place ≡ old.keyed.desk.site.place
  pub state : new.keyed.desk.site.state ≡ old.keyed.desk.site.state
  pub keys : new.keyed.keys ≡ old.keyed.keys
  pub answered : new.served.answered ≡ old.served.answered
  pub window : new.keyed.desk.window.items ≡ old.keyed.desk.window.items
  pub first : new.keyed.desk.first ≡ old.keyed.desk.first
  pub sink : new.served.reply.sink ≡ old.served.reply.sink
  pub limit : new.limit ≡ old.limit
