use Rattle.std.proofs.Common.{[], ◌+◌, ◌∷◌, refl, ap, sym, ◌∙◌, ◌++◌, append_assoc, drop}
use Rattle.std.proofs.lemmas.List.{drop_more}
use Rattle.std.specs.String.{string_bytes}
use Rattle.rubis_keep.specs.KeptLine.{numbers_behind}
use lib.Utf8.{encode}
use Rattle.rubis_keep.proofs.counts.kept_line.Goals as goal

pub loop-count-preserved : goal.loop-count-preserved
unfolding encode
loop-count-preserved c = (
  (58 ∷ [], (refl, refl)),
  ap (λ t. t ++ numbers_behind (58 ∷ []) (drop (c.loop-count.count-index + 1) c.args.counts.now))
      (c.in_ok-push_str.ensures.bytes ∙ ap (λ t. string_bytes c.loop-count.line ++ t) (c.as_str.ensures.value ∙ c.in_ok-format.ensures.ok))
      ∙ append_assoc (string_bytes c.loop-count.line) _ _
      ∙ ap (λ xs. string_bytes c.loop-count.line ++ numbers_behind c.loop-count.mark.now xs)
      (sym (drop_more c.args.counts.now c.loop-count.count-index 0 c.loop-count-test.true)) ∙ c.loop-count.invariant.1,
)
