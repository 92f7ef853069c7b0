use Rattle.rubis_keep.proofs.Common.{◌∙◌, ap, arith, take_rest}
use Rattle.rubis_keep.specs.Faults.{ends_in, last_line, same_in}
use Rattle.rubis_keep.proofs.DifferenceFacts.{is-difference, shown-of}
use Rattle.rubis_keep.proofs.comparing.difference.Goals as goal

pub returns : goal.returns
returns c =
    let begun = c.last_line-line.ensures ∙ ap last_line c.split_at.ensures.front in
    is-difference c.args.at c.common-same.result c.args.text.now c.args.found.now c.args.lines _ c.requires
    (c.common-same.ensures.same ∙ ap (same_in c.args.found.now) (take_rest c.args.text.now c.args.at))
    (λ l. omega (arith, l, ap ends_in c.split_at.ensures.front))
    (c.in_ok-show_line.ensures ∙ shown-of begun (take_rest c.args.found.now c.common-same.result))
    (c.in_ok-show_line-2.ensures ∙ shown-of begun c.split_at.ensures.back)
