-- Why a record is outside the grammar, in words.
use Rattle.std.specs.Prelude.{ℕ, ◌+◌, ◌==◌, ◌&&◌, ◌||◌, not, if◌then◌else◌, bytes_eq, codes, decimal, filter, length, map, min, nat_lt, slice_index, take, List}
use Rattle.std.specs.Prelude.{[], ◌++◌, Option, Some, None}
use Rattle.std.specs.List.{list_all}
use Rattle.rubis_schema.specs.FieldForms.{is_digit, is_printable}
use Rattle.rubis_schema.specs.declared.limits.TheConstants.{COUNT_MAX}
use Rattle.rubis_audit.specs.Forms.{RecordForm, field_at, form_of, wanted}
use Rattle.rubis_audit.specs.declared.reasons.Lines.{Lines}
use Rattle.rubis_audit.specs.declared.record_faults.RecordFault.{RecordFault}
use Rattle.rubis_audit.specs.declared.rules.Rule.{Rule}
use Rattle.rubis_audit.specs.declared.rules.Rule.TheVariants.{BeforeRows, Blue, Count, Counts, Effect, First, Id, InGrammar, Log, Name, NewNick, Next, Nick}
use Rattle.rubis_audit.specs.declared.rules.Rule.TheVariants.{Number, OneLine, Positive, Rating, Record, Red, Request, Second, Shown, Site, Text, Version}
use Rattle.rubis_audit.specs.declared.rules.Rule.TheVariants.{Winner}

-- what is said of a rule, or what comes before what is said of the field
abbrev pub words_of : Rule → List ℕ
words_of Nick = codes "a nickname has 1 to 20 of a-z, 0-9 and _, the first a letter"
words_of Name = codes "a name has 1 to 64 bytes from space to ~"
words_of Text = codes "a text has up to 200 bytes from space to ~"
words_of Rating = codes "a rating is 0, 1 to 5 or -1 to -5"
words_of Id = codes "an id is site.number, the site below "
words_of Winner = codes "a winner is none or site.number, the site below "
words_of Site = codes "a site is below "
words_of (Number high) = codes "below 1"
words_of (Positive high) = codes "below 1"
words_of Red = codes "a red message has a red number from 1"
words_of Blue = codes "a blue message has the red number 0"
words_of First = codes "the version is 1"
words_of Second = codes "the version is 2"
words_of Version = codes "the version is 1 or 2"
words_of Effect = codes "no message has "
words_of Shown = codes "no list is of "
words_of Record = codes "no record begins with "
words_of Request = codes "no request begins with "
words_of Next = codes "a message counts as many of its own site as came before it"
words_of NewNick = codes "the new nickname is the old one"
words_of Log = codes "no log has begun: site,0 begins that of site 0"
words_of BeforeRows = codes "no message follows the rows of a log"
words_of InGrammar = codes "not in the grammar"
words_of other = []

-- a byte from space to ~ is shown as it is, and any other as a question mark
abbrev pub shown_byte : ℕ → ℕ
shown_byte byte = if is_printable byte then byte else 63

-- at most 20 bytes of a word are shown
abbrev pub named_text : List ℕ → List ℕ → List ℕ
named_text words word = words ++ map shown_byte (take (min (length word) 20) word)

-- what is no number, or is beyond the limit
abbrev pub number_text : List ℕ → ℕ → List ℕ → List ℕ
number_text beyond limit field =
    if (length field == 0) || not (list_all is_digit field) then codes "a number has digits alone"
    else if nat_lt 1 (length field) && (slice_index field 0 == 48) then codes "a number has no leading zero"
    else beyond ++ decimal limit

-- what is no number up to `high`; only where the least is 1 it may be 0
abbrev pub above_text : Rule → ℕ → List ℕ → List ℕ
above_text rule high field = if bytes_eq field (codes "0") then words_of rule else number_text (codes "above ") high field

abbrev pub marks : List ℕ → ℕ
marks field = length (filter (λ b. b == 58) field)

abbrev pub counts_text : ℕ → List ℕ → List ℕ
counts_text sites field =
    if marks field + 1 == sites then codes "a count is a number up to " ++ decimal COUNT_MAX
    else if sites == 1 then codes "1 site has 1 count, here are " ++ decimal (marks field + 1)
    else decimal sites ++ (codes " sites have " ++ (decimal sites ++ (codes " counts, here are " ++ decimal (marks field + 1))))

abbrev pub has : RecordForm → List ℕ
has form = if form.is_open then codes " has at least " else codes " has "

abbrev pub noun : ℕ → List ℕ
noun n = if n == 1 then codes " field" else codes " fields"

-- how many fields a record of the form has, and how many this one has
abbrev pub count_by : ℕ → ℕ → Option RecordForm → List ℕ
count_by start given None = []
count_by start given (Some form) =
    form.name ++ (has form ++ (decimal (wanted start form) ++ (noun (wanted start form) ++ (codes ", this record has " ++ decimal given))))

abbrev pub count_text : ℕ → List (List ℕ) → List ℕ
count_text start fields = count_by start (length fields) (form_of start fields)

abbrev pub quote_text : Lines → List ℕ
quote_text lines = codes "a quote that opened at line " ++ (decimal lines.opened ++ (codes " closes at line " ++ decimal lines.closed))

abbrev pub text_by : ℕ → Lines → List (List ℕ) → List ℕ → Rule → List ℕ
text_by sites lines fields field Id = words_of Id ++ (decimal sites ++ codes ", the number from 1 to 1000000")
text_by sites lines fields field Winner = words_of Winner ++ (decimal sites ++ codes ", the number from 1 to 1000000")
text_by sites lines fields field Site = number_text (words_of Site) sites field
text_by sites lines fields field Counts = counts_text sites field
text_by sites lines fields field (Number high) = above_text (Number high) high field
text_by sites lines fields field (Positive high) = above_text (Positive high) high field
text_by sites lines fields field Red = above_text Red COUNT_MAX field
text_by sites lines fields field Record =
    if bytes_eq field (codes "send") then codes "this is an answer of a site: leave out the first field" else named_text (words_of Record) field
text_by sites lines fields field Effect = named_text (words_of Effect) field
text_by sites lines fields field Shown = named_text (words_of Shown) field
text_by sites lines fields field Request = named_text (words_of Request) field
text_by sites lines fields field (Count start) = count_text start fields
text_by sites lines fields field OneLine = quote_text lines
text_by sites lines fields field rule = words_of rule

-- why the record is wrong, in words
abbrev pub reason_text : ℕ → Lines → RecordFault → List (List ℕ) → List ℕ
reason_text sites lines fault fields = text_by sites lines fields (field_at fields fault.field) fault.rule
