use Rattle.std.proofs.Common.{rules, ◌∙◌, ap, sym, subst}
use Rattle.std.specs.Prelude.{IfErr, map, string_bytes}
use Rattle.std.proofs.lemmas.Result.{err_from_is_err_and}
use Rattle.clap.specs.Words.{HasKind, fault_of, found_of, is_simple_and_free, rows_of}
use Rattle.rubis_command.specs.CommandLine.{IsFaultAmong, command_line}
use Rattle.rubis_command.proofs.Words.{entered_by, entered_line, fault_among, fits_line, line_is_free}
use Rattle.rubis_command.proofs.reading.read_options.Goals as goal

pub returns-in_err-program-clause-fault : goal.returns-in_err-program-clause-fault
returns-in_err-program-clause-fault c = search rules

pub returns-in_err-matches-clause-fault : goal.returns-in_err-matches-clause-fault
returns-in_err-matches-clause-fault c =
    let words = map string_bytes c.args.words.now in
    let kinds = fault_of command_line words in
    let error = c.in_err-matches.field-0.0 in
    let line = c.in_ok-program.ensures in
    let has = c.in_err-matches.ensures.kinds (ap is_simple_and_free line ∙ line_is_free) in
    let ours : HasKind kinds error = subst (λ a. HasKind (fault_of a words) error) line has in
    let fault = err_from_is_err_and _ c.from_residual-in_err-matches.ensures.1 in
    let among = subst (IsFaultAmong kinds) (sym fault.2) (fault_among kinds error ours) in
    subst (λ r. IfErr r (IsFaultAmong kinds)) (sym fault.1) among

pub returns-clause-fits : goal.returns-clause-fits
returns-clause-fits c =
    let line = c.in_ok-program.ensures in
    fits_line _ _ line (c.in_ok-matches.ensures.kinds (ap is_simple_and_free line ∙ line_is_free))

pub returns-clause-ok : goal.returns-clause-ok
returns-clause-ok c =
    let entered = entered_by _ _ _ c.in-Some.name.now _ c.in-Some.ensures.name c.in-Some.ensures.rows in (
      c.in-Some.name.now,
      rows_of (found_of c.in-Some.options.now),
      entered_line _ _ c.in_ok-matches.matches _ c.in_ok-program.ensures c.in_ok-matches.ensures.matches entered,
      c.in_ok-asked_of-in-Some.ensures,
    )
