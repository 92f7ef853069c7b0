use Rattle.rubis_audit.proofs.Common.{◌≡◌, ◌∙◌, ◌+◌, ◌++◌, None, ap, rules, sym, append-nil, rows_text}
use Rattle.rubis_audit.specs.Checking.{fault_for, no_lines, row_for}
use Rattle.rubis_audit.proofs.checker.Check.check_row.Goals as goal

pub returns-in_default-clause-checks : goal.returns-in_default-clause-checks
returns-in_default-clause-checks g c =
    let was = c.args.self.now in
    let none : fault_for was.checker.grammar was.checker.sites was.checker.place was.records.row ≡ None = search rules in
    record {
      checker = search rules;
      rows = (
        no_lines,
        sym (append-nil was.sink)
            ∙ ap (λ f. was.sink ++ rows_text (row_for was.checker.sites (was.checker.tally.records + 1) no_lines was.records.row f)) (sym none),
      );
    }
