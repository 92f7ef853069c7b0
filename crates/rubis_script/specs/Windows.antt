-- Messages that a run holds, to take them in together, what the records of a reply have, and text that is written out in part.
use Rattle.std.specs.Prelude.{◌≡◌, ◌≤◌, ℕ, List, length, true, ◌++◌, Option, ◌+◌, ◌∷◌, [], Result}
use Rattle.rubis_schema.specs.FieldList.{is_plain}
use Rattle.rubis_schema.specs.declared.counted.Counted.{Counted}
use Rattle.rubis_engine.specs.Text.{rows_text}
use Rattle.std.specs.Io.KnownBytes.{Appends}
use Rattle.rubis_schema.specs.declared.listings.Listing.{Listing}
use Rattle.rubis_message.specs.declared.requests.Request.TheVariants as request
use Rattle.rubis_message.specs.declared.inputs.Input.TheVariants.{Asked, Came}
use Rattle.rubis_model.specs.Site.{input_step, arrived_rows, answers, Place, Replica, arrived}
use Rattle.rubis_replica.specs.State.{SiteState, after_all}
use Rattle.rubis_schema.specs.declared.refusals.Refusal.{Refusal}
use Rattle.rubis_message.specs.Message.{Message}
use Rattle.rubis_message.specs.declared.answers.Arrival.{Arrival}
use Rattle.rubis_message.specs.declared.tokens.Packet.TheVariants.{Msg}
use Rattle.rubis_engine.specs.Accounts.{Account}

-- the text is that of these rows, and the count their number
abbrev pub HasRows : List (List (List ℕ)) → Counted (List ℕ) → Type 0
HasRows rows listing = (listing.rows ≡ rows_text rows) × (listing.count ≡ length rows)

-- it is one of the words that replies have: it calls for no quotes, and has at most eight letters
abbrev pub IsWord : List ℕ → Type 0
IsWord word = (is_plain word ≡ true) × (length word ≤ 8)

-- ---- text that is written out in part

-- the front of a text was written out, and `left` is what is left of it
pub record WritesOff (text left : List ℕ) (before after : Option (List ℕ)) : Type 0 where
  pub out : List ℕ
  pub appended : Appends before after out
  pub parts : text ≡ out ++ left

-- the front of a text was written out, no matter what is left of it
abbrev pub WritesFront : List ℕ → Option (List ℕ) → Option (List ℕ) → Type 0
WritesFront text before after = (left : List ℕ) × WritesOff text left before after

-- what waits to be written, and what the site answers to record n, which asks for that listing
abbrev pub listed_behind : List ℕ → SiteState → ℕ → Listing → List ℕ
listed_behind sink s n l = sink ++ rows_text (input_step s.place s.state n (Asked (request.List l))).1

-- ---- messages that a run holds, to take them in together

-- the rows that say what became of messages, the first of which was record n
abbrev pub arrivals_rows : ℕ → List (Result Arrival Refusal) → List (List (List ℕ))
arrivals_rows n [] = []
arrivals_rows n (answer ∷ answers) = arrived_rows n answer ++ arrivals_rows (n + 1) answers

-- the rows with which a site answers messages, the first of which is record n
abbrev pub window_rows : Place → Replica → ℕ → List Message → List (List (List ℕ))
window_rows p s n [] = []
window_rows p s n (m ∷ ms) = (input_step p s n (Came (Msg m))).1 ++ window_rows p (arrived p s m).0 (n + 1) ms

-- what is still to be made at a site that holds messages, the first of which was record `first`, of these and of the records from n on
abbrev pub made_of_held : SiteState → List Message → ℕ → ℕ → Account
made_of_held s window first n = record {
  text = λ ending records. rows_text (window_rows s.place s.state first window ++ answers s.place (after_all s.place s.state window) n records);
  read = λ records. length records;
}
