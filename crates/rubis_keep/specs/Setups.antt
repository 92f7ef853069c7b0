-- How a site in a folder is set up, by what is asked for and what the folder has.
use Rattle.std.specs.Prelude.{◌≡◌, ◌≤◌, unwrap_or}
use Rattle.rubis_schema.specs.declared.limits.TheConstants.{KEEP_MAX}
use Rattle.rubis_script.specs.Replica.{IsSetup, Setup as SiteSetup}
use Rattle.rubis_keep.specs.declared.keep.Wanted.{Wanted}
use Rattle.rubis_keep.specs.declared.setup.Setup.{Setup}
use Rattle.rubis_keep.specs.declared.setup.TheConstants.{ANSWERS}

-- a new site: where nothing is asked for, it is site 0 of one, and keeps 1,000,000 messages
abbrev pub opening_setup : Wanted → Setup
opening_setup w = record { site = unwrap_or w.site 0; sites = unwrap_or w.sites 1; keep = unwrap_or w.keep KEEP_MAX; answers = ANSWERS }

-- what is asked for is the site that the folder has, which may keep more from now on
abbrev pub GoesOn : Wanted → Setup → Type 0
GoesOn w s = (unwrap_or w.site s.site ≡ s.site) × (unwrap_or w.sites s.sites ≡ s.sites) × (s.keep ≤ unwrap_or w.keep s.keep)

-- the site of the folder, which from now on keeps as much as is asked for
abbrev pub next_setup : Wanted → Setup → Setup
next_setup w s = record s { keep = unwrap_or w.keep s.keep }

-- how a site is set up in this version
abbrev pub renewed : Setup → Setup
renewed s = record s { answers = ANSWERS }

-- the configuration of a site that is set up so, with the shards, workers and batches that are asked for
abbrev pub config_of : Wanted → Setup → SiteSetup
config_of w s = record { site = s.site; sites = s.sites; shards = w.shards; workers = w.workers; batch = w.batch; keep = s.keep }

-- a site can be set up so
abbrev pub IsPossible : Setup → Type 0
IsPossible s = IsSetup (record { site = s.site; sites = s.sites; shards = 1; workers = 1; batch = 1; keep = s.keep })
