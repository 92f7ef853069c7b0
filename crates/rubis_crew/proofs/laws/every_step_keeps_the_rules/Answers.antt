use Rattle.rubis_crew.proofs.Giving.{begins, gives, says}
use Rattle.rubis_crew.proofs.Handing.{shares, hands, receives, settles, takes}
use Rattle.rubis_crew.proofs.Paying.{results_begin, names, pays, collects, joins}
use Rattle.rubis_crew.proofs.laws.every_step_keeps_the_rules.Goals as goal

pub returns : goal.returns
returns g c =
    record {
      jobs = record {
        opening = begins g.J.Job.Fits;
        give = λ room place v x leads number fits. gives g.J.Job.Fits place v leads room x number fits;
        say_over = λ room place v leads. says g.J.Job.Fits place v leads room;
        take = takes g.J.Job.Fits;
        share = shares g.J.Job.Fits;
        hand = hands g.J.Job.Fits;
        receive = receives g.J.Job.Fits;
        settle = λ place v x leads held. settles g.J.Job.Fits place v leads x held;
      };
      results = record {
        opening = results_begin g.J.Job.Worked;
        name = λ room place v token is. names g.J.Job.Worked place v room token is;
        pay = λ room place v queue p of paid. pays g.J.Job.Worked place v room queue p of paid;
        collect = collects g.J.Job.Worked;
        join = λ place v queue of. joins g.J.Job.Worked place v queue of;
      };
    }
