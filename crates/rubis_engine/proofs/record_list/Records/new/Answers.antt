use Rattle.std.proofs.Common.{◌∙◌, inr}
use Rattle.rubis_engine.proofs.ReadingFacts.{holds-start}
use Rattle.rubis_engine.proofs.record_list.Records.new.Goals as goal

pub returns : goal.returns
returns g c =
    let r = c.from_reader-reader.ensures in
    let e = c.flexible.ensures in
    let d = c.has_headers.ensures in
    holds-start _ _ _ (rw (e, d) at r.trim ∙ c.new.ensures.trim) (inr (inr (rw (e, d) at r.has_headers, r.headers)))
    (rw (e, d) at r.config ∙ c.new.ensures.config) r.state r.source
