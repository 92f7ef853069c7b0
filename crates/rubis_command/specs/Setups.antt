-- The configuration that a command line asks for.
use Rattle.rubis_replica.specs.State.{Setup}
use Rattle.rubis_command.specs.declared.options.Options.{Options}

-- the configuration of one site
abbrev pub site_setup : Options → Setup
site_setup o = record { site = o.site; sites = o.setup.sites; shards = o.setup.shards; workers = o.setup.workers; batch = o.setup.batch; keep = o.setup.keep }
