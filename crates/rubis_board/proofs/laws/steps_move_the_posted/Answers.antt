use Rattle.std.proofs.Common.{refl, [], ◌∷◌}
use Rattle.rubis_board.specs.declared.rule.Item.TheVariants.{Work}
use Rattle.rubis_board.proofs.Views.{content_append, content_marked}
use Rattle.rubis_board.proofs.Takes.{moves}
use Rattle.rubis_board.proofs.laws.steps_move_the_posted.Goals as goal

pub returns : goal.returns
returns c =
    record {
      post = λ items p. content_append items (Work p ∷ []);
      take = λ items p. refl;
      mark = content_marked;
      take_mark = λ items. refl;
      all = moves;
    }
