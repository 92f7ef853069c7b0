-- The words of one site's run, passed on.
pub use Rattle.rubis_script.specs.Replica.{IsSetup, Setup, SiteState, setup_place}
