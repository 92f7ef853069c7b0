use Rattle.rubis_lives.proofs.SiteLivesFacts.{lives-are-histories, shop-lives-are-runs}
use Rattle.rubis_lives.proofs.laws.shop_lives_are_runs.Goals as goal

pub returns : goal.returns
returns c = record { histories = lives-are-histories; runs = shop-lives-are-runs }
