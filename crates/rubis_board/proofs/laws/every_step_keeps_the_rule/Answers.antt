use Rattle.rubis_board.proofs.Views.{begins, posts}
use Rattle.rubis_board.proofs.Takes.{takes, marks, forks, merges}
use Rattle.rubis_board.proofs.laws.every_step_keeps_the_rule.Goals as goal

pub returns : goal.returns
returns c =
    record {
      opening = begins;
      post = λ room place v p may_post. posts place v may_post room p;
      take = takes;
      mark = λ room place v some_part. marks place v some_part room;
      split = forks;
      join = merges;
    }
