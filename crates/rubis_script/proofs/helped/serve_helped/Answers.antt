use Rattle.rubis_script.proofs.Common.{◌≡◌, rules, at}
use Rattle.rubis_script.proofs.StretchFacts.{ends-at}
use Rattle.rubis_script.proofs.helped.serve_helped.Goals as goal

pub returns-clause-run : goal.returns-clause-run
returns-clause-run g c =
    let new = c.join_mut-served.new.g in
    let chunks : new.2.now ≡ c.chunks-1.given.0 = search rules in
    let desk : new.3.now ≡ c.desk-1.given.0 = search rules in
    let run : new.4.now ≡ c.run-1.given.0 = search rules in
    let writer : new.5.now ≡ c.writer-1.given.0 = search rules in
    ends-at g.W.Write.contents c.args.limit g.R.Read.remaining c.args.chunks.now new.2.now c.chunks-1.given.0
    (at c.args.desk.now c.args.run.now c.args.writer.now) (at new.3.now new.4.now new.5.now) (at c.desk-1.given.0 c.run-1.given.0 c.writer-1.given.0)
    c.join_mut-served.result.1 chunks (λ i. at (desk i) (run i) (writer i)) c.join_mut-served.ensures.1.met.1.0
