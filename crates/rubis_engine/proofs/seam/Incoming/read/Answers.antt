use Rattle.std.proofs.Common.{[], append-nil, arith, rules, sym, take}
use Rattle.std.proofs.lemmas.Bool.Decides.{nat_tests}
use Rattle.rubis_engine.proofs.SeamFacts.{came-each, consumed-none, each-so, err-match, none-consumed}
use Rattle.rubis_engine.proofs.seam.Incoming.read.Goals as goal

pub returns-in_err-given-clause-bytes : goal.returns-in_err-given-clause-bytes
returns-in_err-given-clause-bytes g c =
    each-so (λ l came. err-match _ c.from_residual.result c.in_err-given.field-0.0 c.from_residual.ensures.1 (none-consumed _ _ came.0))
    (came-each c.args.self.now _ [] c.if-self.false (sym (append-nil c.args.self.now.came.bytes))
    (consumed-none _ _ c.in_err-given.ensures.bytes) (λ e. absurd cc))

pub returns-clause-bytes : goal.returns-clause-bytes
returns-clause-bytes g c =
    each-so (λ l came. (came.0, λ none some. came.1 (grind (arith, nat_tests))))
    (came-each c.args.self.now _ (take c.in_ok-given.given c.read_through_signals.new.buf) c.if-self.false c.add.ensures
    c.in_ok-given.ensures.bytes.0 (λ e. c.in_ok-given.ensures.bytes.1 (grind (arith, nat_tests)) (search rules)))
