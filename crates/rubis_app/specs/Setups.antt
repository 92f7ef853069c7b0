-- What a command line asks for, but for the configuration of one site.
use Rattle.std.specs.Prelude.{Bool, not, is_some, unwrap_or, ◌&&◌, ◌||◌}
use Rattle.rubis_schema.specs.declared.limits.TheConstants.{KEEP_MAX}
use Rattle.rubis_command.specs.declared.options.KeepOptions.{KeepOptions}
use Rattle.rubis_command.specs.declared.options.LackOptions.{LackOptions}
use Rattle.rubis_command.specs.declared.options.Options.{Options}
use Rattle.rubis_command.specs.declared.options.SetupOptions.{SetupOptions}
use Rattle.rubis_keep.specs.declared.keep.Wanted.{Wanted}
use Rattle.rubis_world.specs.Worlds.{WorldSetup}

-- the options of a site whose input is read for what waits: site 0, which keeps as many messages as a site can, where nothing else is said
abbrev pub waiting_options : LackOptions → Options
waiting_options l = record {
  site = unwrap_or l.site 0;
  setup = record { sites = l.sites; shards = 4; workers = 1; batch = 64; keep = unwrap_or l.keep KEEP_MAX };
}

-- it is said which site it is, or how many messages it keeps, and that is of no use for logs
abbrev pub names_a_site : LackOptions → Bool
names_a_site l = not l.waiting && (is_some l.site || is_some l.keep)

-- the configuration of several sites
abbrev pub world_setup_of : SetupOptions → WorldSetup
world_setup_of s = record { sites = s.sites; shards = s.shards; workers = s.workers; batch = s.batch; keep = s.keep }

-- what is asked for of a site in a folder
abbrev pub wanted_of : KeepOptions → Wanted
wanted_of k = record {
  site = k.site;
  sites = k.sites;
  keep = k.keep;
  shards = k.shards;
  workers = k.workers;
  batch = k.batch;
  is_synced = k.sync;
  shortens = k.shorten;
  upgrades = k.upgrade;
}
