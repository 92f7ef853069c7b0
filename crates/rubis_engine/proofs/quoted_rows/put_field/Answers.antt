use Rattle.std.proofs.Common.{◌≡◌, ◌≢◌, false, rules}
use Rattle.std.specs.Result.{is_err}
use Rattle.csv.proofs.ReadFacts.{on-ok}
use Rattle.csv.specs.Writing.{writer_setup}
use Rattle.csv.specs.declared.writer.QuoteStyle.TheVariants as style
use Rattle.rubis_engine.proofs.RowFacts.{begun-more}
use Rattle.rubis_engine.proofs.quoted_rows.put_field.Goals as goal

pub returns : goal.returns
returns c start done h =
    let good : is_err c.write_field.result ≡ false = search rules in
    let quotes : (writer_setup c.args.rows.now).style ≢ style.NonNumeric = rw h.setup (λ e. cc e) in
    let wrote = on-ok _ good c.write_field.ensures.wrote in
    begun-more start c.args.rows.now c.write_field.new.self done c.args.field.now h
    (on-ok _ good c.write_field.ensures.text quotes)
    (on-ok _ good c.write_field.ensures.same)
    (on-ok _ good c.write_field.ensures.count)
    (λ none. wrote none quotes)
    (on-ok _ good c.write_field.ensures.stays)
