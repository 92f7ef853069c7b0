use Rattle.std.proofs.Common.{◌≤◌, ◌∙◌, ℕ, List, ap, drop, length, subst, sym}
use Rattle.rubis_reading.proofs.ChunkFacts.{range-passed}
use Rattle.rubis_reading.proofs.buffer.Buffer.pass.Goals as goal

pub returns : goal.returns
returns c =
    let is = c.self.view_is in
    range-passed c.self.inside.buffer.items c.self.inside.start c.self.inside.end c.args.many
    (subst (λ (l : List ℕ). c.args.many ≤ length l) (sym is) c.requires)
    ∙ ap (drop c.args.many) is
