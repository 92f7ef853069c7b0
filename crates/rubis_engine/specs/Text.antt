-- The records of an input, and the text of rows.
use Rattle.std.specs.Prelude.{ℕ, List, true}
use Rattle.std.specs.List.{flat_map}
use Rattle.csv.specs.Reading.{default_config, records, strip_bom}
use Rattle.csv.specs.Writing.{default_writer, with_flexible}
pub use Rattle.csv.specs.Writing.{row_text}
use Rattle.csv.specs.declared.writer.WriterBuilder.{WriterBuilder}

-- CSV as it is mostly written, for rows of any lengths
abbrev pub plain_writer : WriterBuilder
plain_writer = with_flexible default_writer true

-- the text of these rows
abbrev pub rows_text : List (List (List ℕ)) → List ℕ
rows_text rows = flat_map (row_text plain_writer) rows

-- the records of these bytes, of any lengths and with no header row; a byte order mark at their start is taken off
unfoldable pub input_records : List ℕ → List (List (List ℕ))
input_records bytes = records default_config (strip_bom bytes)
