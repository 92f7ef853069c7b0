use Rattle.std.proofs.Common.{length, rules}
use Rattle.std.proofs.lemmas.List.{drop-replicate}
use Rattle.rubis_schema.specs.FieldForms.{IsNick}
use Rattle.rubis_schema.specs.declared.limits.TheConstants.{NICK_MAX}
use Rattle.rubis_schema.proofs.Nicknames.{nick_padded}
use Rattle.rubis_schema.proofs.nicks.Nick.read.Goals as goal

pub invariant_of-result : goal.invariant_of-result
invariant_of-result c =
    let nick : IsNick c.args.text.now = search rules in
    nick_padded c.args.text.now _ _ nick c.copy_from_slice.ensures.after (drop-replicate (length c.args.text.now) NICK_MAX 0)
