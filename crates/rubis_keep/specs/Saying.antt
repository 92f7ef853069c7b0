-- What a site says of its records.
use Rattle.std.specs.Prelude.{ℕ, length}
use Rattle.rubis_model.specs.Site.{Place, counts}
use Rattle.rubis_engine.specs.Accounts.{Account}
use Rattle.rubis_engine.specs.Accounts.Ending.{AtEnd}
use Rattle.rubis_engine.specs.Text.{rows_text}
use Rattle.rubis_keys.specs.Keys.{KeyedSite, keyed_answers}
use Rattle.rubis_keep.specs.History.{Says}
use Rattle.rubis_keep.specs.Questions.{reply_rows, reply_text}
use Rattle.rubis_keep.specs.Shortened.{state_after}

-- however a run ends after some records, from record n on, its text is that of the site's answers to them; it reads all of them
abbrev pub keyed_account : Place → KeyedSite → ℕ → Account
keyed_account p s n = record { text = λ ending records. rows_text (keyed_answers p s n records); read = λ records. length records }

-- the site had begun in state s at place p, and `all` is the account of its records
abbrev pub says_by : Account → Place → KeyedSite → Says
says_by all p s = record {
  text = all.text AtEnd;
  counts = λ records. counts p.sites (state_after p s records).site.log;
  reply = λ records question. reply_text (reply_rows p (state_after p s records).site (length records) question);
}

-- what a site says in a state: the answers to the records from there on, and what it replies to a question
abbrev pub says_of : Place → KeyedSite → Says
says_of p s = says_by (keyed_account p s 1) p s
