use Rattle.rubis_lives.proofs.MomentFacts.{answered-before-more, kills-leave-files, power-failures-leave-files}
use Rattle.rubis_lives.proofs.RewritingFacts.{site-texts-extend}
use Rattle.rubis_lives.proofs.laws.moments_leave_files.Goals as goal

pub returns : goal.returns
returns c = record { kills = kills-leave-files; power_failures = power-failures-leave-files; sites = site-texts-extend; answered = answered-before-more }
