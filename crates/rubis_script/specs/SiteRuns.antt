-- What a site makes of its records.
use Rattle.std.specs.Prelude.{ℕ, length}
use Rattle.rubis_model.specs.Site.{answers, Place, Replica, opening_at}
use Rattle.rubis_replica.specs.State.{SiteState}
use Rattle.rubis_engine.specs.Accounts.{Account}
use Rattle.rubis_engine.specs.Text.{rows_text}

-- however the run ends after some records, from record n on, its text is that of the site's answers to them; it reads all of
-- them
abbrev pub site_account : Place → Replica → ℕ → Account
site_account p s n = record { text = λ ending records. rows_text (answers p s n records); read = λ records. length records }

-- what a site with nothing done makes of its records: the text of `output_of`
abbrev pub site_answers : Place → Account
site_answers p = site_account p (opening_at p.site) 1

-- what is still to be made at a site
abbrev pub told_by : SiteState → ℕ → Account
told_by s n = site_account s.place s.state n
