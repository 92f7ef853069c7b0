-- A shop of two sites, computed on the definitions: the bytes of both folders, lives that end anywhere, and the run that they are.
use Rattle.rubis_lives.proofs.Common.{◌≡◌, ◌∙◌, inl, inr, ◌<◌, ◌+◌, ◌++◌, ◌∷◌, [], ℕ, zero, suc, Bool, true, false, List, Some, None, cond, eqb, drop}
use Rattle.rubis_lives.proofs.Common.{length, refl, sym, ap, subst, arith, append-nil, take, MatchBool, Result, codes, map, ⊤, next_record, escaped}
use Rattle.rubis_lives.proofs.Common.{fields_text, is_blank, Refusal, KEEP_MAX, decision, Rows, Message, Moment, has_read}
use Rattle.rubis_lives.proofs.Common.{Reads, Replays, Restarts, answers, Replica, generating, opening_at, rows_at, standing_of, World, run}
use Rattle.rubis_lives.proofs.Common.{sending, site, start, input_records, rows_text, Files, AreSafe, FolderEvent, FileState, after_file_event, after_file_events, records_in}
use Rattle.rubis_lives.proofs.Common.{Began, Flushed, Kept, Settled, Shown, Told, HasSoundLines, IsAtStart}
use Rattle.std.specs.Fmt.{digits}
use Rattle.csv.specs.Reading.{records_from, strip_bom}
use Rattle.rubis_numbers.specs.Numbers.{number_of}
use Rattle.rubis_schema.specs.FieldForms.{nick_of}
use Rattle.rubis_message.specs.Counts.{deps_of}
use Rattle.rubis_message.specs.Readings.{take_positive, take_site, packet_of, request_of, take_kind, take_listing, take_message, take_packet}
use Rattle.rubis_message.specs.Readings.{take_request, take_shadow, take_shown, take_stamp, kind_of, shown_of}
use Rattle.rubis_message.specs.declared.tokens.Packet.{Packet}
use Rattle.rubis_model.specs.Listings.{log_from}
use Rattle.rubis_model.specs.Meaning.{meaning_row}
use Rattle.rubis_model.specs.Processes.{CarriedWithRestarts, WasEverSent, read_on}
use Rattle.rubis_model.specs.Site.{Has, counts}
use Rattle.rubis_model.specs.System.{Event as SystemEvent, happens}
use Rattle.rubis_model.specs.System.Event.{At, Deliver}
use Rattle.rubis_laws.proofs.Rows.FoldIsMeaning.{fold_is_meaning}
use Rattle.rubis_laws.proofs.Processes.AreARun.{is_itself, is_other}
use Rattle.rubis_laws.proofs.Examples.ProcessExamples.{ann_is_answered, ann_is_asked, ann_is_sent, no_packet_asked, not_some}
use Rattle.rubis_keep.specs.History.{Answers}
use Rattle.rubis_keep.specs.Shortened.{LeavesOut, state_after}
use Rattle.rubis_keys.specs.Keys.{asked_under_rows, keyed_answers, keyed_opening}
use Rattle.rubis_keys.specs.Laws.{after_records, bare_of}
use Rattle.rubis_keep.specs.Telling.{answers-append}
use Rattle.rubis_keep.proofs.HistoryFacts.{answers-shown, answers-told, safe-answers, safe-append, safe-keeps, safe-last}
use Rattle.rubis_shadow.specs.declared.shadows.Ask.TheVariants as ask
use Rattle.rubis_shadow.specs.declared.shadows.Shadow.TheVariants as shadow
use Rattle.rubis_message.specs.declared.requests.Request.TheVariants as request
use Rattle.rubis_message.specs.declared.tokens.Packet.TheVariants as packet
use Rattle.rubis_lives.specs.Folders.{AreFoldersOfARun}
use Rattle.rubis_lives.specs.Histories.{ShortensKept, FolderStep, answered_on, keep_after, keeps, moments_in, most_kept, shortened_to, site_keeping, stand_after, is_placed_at}
use Rattle.rubis_lives.specs.Histories.{from_disk, opened_again, taken_by, taken_in, AreLives, AreShopLives, SiteLife, happening, own_steps, steps_of}
use Rattle.rubis_lives.specs.Histories.FolderStep.{Does, Fails, Happens, Raises, Shortens}
use Rattle.rubis_lives.specs.Shops.{IsPrefix, process_text, process_words}
use Rattle.rubis_lives.specs.Histories.End.{IsRewritten, PowerFails}
use Rattle.rubis_lives.proofs.FolderFacts.{folders-are-a-run}
use Rattle.rubis_lives.proofs.KeyFacts.{Records}
use Rattle.rubis_lives.proofs.SiteLivesFacts.{shortened-opened}

-- ---- what is kept and told

-- the line of `user,ann` under the key `k`
abbrev asked : List ℕ
asked = codes "key,k,user,ann" ++ 10 ∷ []

-- and the line of the message that is made of it
abbrev sent : List ℕ
sent = codes "key,k,msg,1,0,1,1,0:0,user,ann" ++ 10 ∷ []

abbrev under_k : List (List ℕ) → List (List ℕ)
under_k fields = codes "key" ∷ codes "k" ∷ fields

abbrev listing : List (List ℕ)
listing = codes "list" ∷ codes "log" ∷ []

abbrev listed : List ℕ
listed = codes "list,log" ++ 10 ∷ []

abbrev told_to_ask : List ℕ
told_to_ask = (codes "reply,1,ok,0.1" ++ 10 ∷ []) ++ (codes "send,key,k,msg,1,0,1,1,0:0,user,ann" ++ 10 ∷ [])

abbrev told_to_message : List ℕ
told_to_message = codes "reply,1,released,1" ++ 10 ∷ []

abbrev told_to_listing : List ℕ
told_to_listing = (codes "reply,2,rows,1" ++ 10 ∷ []) ++ (codes "row,log,1,msg,1,0,1,1,0:0,user,ann" ++ 10 ∷ [])

asked-read : records_in asked ≡ under_k ann_is_asked ∷ []
unfolding input_records records_from next_record strip_bom
asked-read = refl

sent-read : records_in sent ≡ under_k ann_is_sent ∷ []
unfolding input_records records_from next_record strip_bom
sent-read = refl

both-read : records_in (sent ++ listed) ≡ under_k ann_is_sent ∷ listing ∷ []
unfolding input_records records_from next_record strip_bom
both-read = refl

none-read-in : records_in [] ≡ []
unfolding input_records records_from next_record strip_bom
none-read-in = refl

none-told : (i : ℕ) → process_text (site_keeping 2 i KEEP_MAX) (records_in []) ≡ []
unfolding keyed_answers
none-told i = ap (process_text (site_keeping 2 i KEEP_MAX)) none-read-in

-- what site 0 comes to and answers, from the rows of its tables
abbrev by_rows : Rows → Replica × Result Message Refusal
by_rows rows = generating (site_keeping 2 0 KEEP_MAX) (opening_at 0) (decision rows (standing_of KEEP_MAX (opening_at 0)) (ask.User (codes "ann")))

no-rows : rows_at [] ≡ meaning_row []
no-rows = λ i key. (fold_is_meaning [] tt (omega arith)).0.rows key i

abbrev told_under : Records
told_under = (codes "reply" ∷ codes "1" ∷ codes "ok" ∷ codes "0.1" ∷ []) ∷ (codes "send" ∷ under_k ann_is_sent) ∷ []

abbrev told_by : Rows → Records
told_by rows = asked_under_rows 1 (codes "k") (by_rows rows).1 ++ []

ask-answered : keyed_answers (site_keeping 2 0 KEEP_MAX) (keyed_opening 0) 1 (under_k ann_is_asked ∷ []) ≡ told_by (rows_at [])
unfolding keyed_answers request_of take_request take_kind kind_of nick_of
ask-answered = refl

told-by-meaning : told_by (meaning_row []) ≡ told_under
unfolding meaning_row digits
told-by-meaning = refl

ask-written : rows_text told_under ≡ told_to_ask
unfolding escaped fields_text is_blank
ask-written = refl

ask-told : process_text (site_keeping 2 0 KEEP_MAX) (records_in asked) ≡ told_to_ask
ask-told =
    ap (process_text (site_keeping 2 0 KEEP_MAX)) asked-read ∙ ap rows_text (ask-answered ∙ ap told_by no-rows ∙ told-by-meaning) ∙ ask-written

abbrev released : Records
released = (codes "reply" ∷ codes "1" ∷ codes "released" ∷ codes "1" ∷ []) ∷ []

abbrev shown : Records
shown = (codes "reply" ∷ codes "2" ∷ codes "rows" ∷ codes "1" ∷ []) ∷ (codes "row" ∷ codes "log" ∷ codes "1" ∷ ann_is_sent) ∷ []

message-answered : keyed_answers (site_keeping 2 1 KEEP_MAX) (keyed_opening 1) 1 (under_k ann_is_sent ∷ []) ≡ released
unfolding keyed_answers request_of take_request take_kind kind_of packet_of take_packet take_message take_stamp take_site take_positive number_of deps_of take_shadow
    nick_of digits
message-answered = refl

listing-answered : keyed_answers (site_keeping 2 1 KEEP_MAX) (keyed_opening 1) 1 (under_k ann_is_sent ∷ listing ∷ []) ≡ released ++ shown
unfolding keyed_answers request_of take_request take_kind kind_of packet_of take_packet take_message take_stamp take_site take_positive number_of deps_of take_shadow
    nick_of take_listing take_shown shown_of log_from digits
listing-answered = refl

message-written : rows_text released ≡ told_to_message
unfolding escaped fields_text is_blank
message-written = refl

both-written : rows_text (released ++ shown) ≡ told_to_message ++ told_to_listing
unfolding escaped fields_text is_blank
both-written = refl

message-told : process_text (site_keeping 2 1 KEEP_MAX) (records_in sent) ≡ told_to_message
message-told = ap (process_text (site_keeping 2 1 KEEP_MAX)) sent-read ∙ ap rows_text message-answered ∙ message-written

both-told : process_text (site_keeping 2 1 KEEP_MAX) (records_in (sent ++ listed)) ≡ told_to_message ++ told_to_listing
both-told = ap (process_text (site_keeping 2 1 KEEP_MAX)) both-read ∙ ap rows_text listing-answered ∙ both-written

asked-sound : HasSoundLines [] asked
asked-sound = (refl, tt)

sent-sound : HasSoundLines [] sent
sent-sound = (refl, tt)

both-sound : HasSoundLines [] (sent ++ listed)
both-sound = (refl, (refl, tt))

-- ---- the lives of both sites

nothing : FileState
nothing = from_disk (record { log = []; out = [] })

-- the power fails while site 0 answers the ask: of the answer some first bytes are left
torn : Files
torn = record { log = asked; out = take 4 told_to_ask }

-- each site begins with no records
abbrev beginning : List FolderEvent
beginning = Settled ∷ Began 0 (0 ∷ 0 ∷ []) ∷ []

abbrev answering : List FolderEvent
answering = beginning ++ map (λ b. Kept b) asked ++ Flushed ∷ map (λ b. Told b) (take 20 told_to_ask)

-- then it answers the ask again, and finds what is left of its answer
abbrev answering_again : List FolderEvent
answering_again = map (λ b. Told b) (drop 4 told_to_ask)

-- site 1 is given the message, lists its log, and is shortened
abbrev taking : List FolderEvent
taking = beginning ++ map (λ b. Kept b) sent ++ Flushed ∷ (map (λ b. Told b) told_to_message ++ map (λ b. Shown b) told_to_message) ++ map
    (λ b. Kept b) listed ++ Flushed ∷ map (λ b. Told b) told_to_listing

-- and is killed while it answers what is left
abbrev taking_again : List FolderEvent
taking_again = map (λ b. Told b) (take 5 told_to_message)

abbrev lives : ℕ → List SiteLife
lives zero = record { events = answering; end = PowerFails torn } ∷ []
lives (suc zero) = record { events = taking; end = IsRewritten sent } ∷ []
lives (suc (suc i)) = []

abbrev running : ℕ → List FolderEvent
running zero = answering_again
running (suc zero) = taking_again
running (suc (suc i)) = []

abbrev told : ℕ → List ℕ → List FolderStep → List FolderStep
told i text later = happening i (map (λ b. Told b) text) later

abbrev shows : ℕ → List ℕ → List FolderStep → List FolderStep
shows i text later = happening i (map (λ b. Shown b) text) later

abbrev begun : ℕ → List FolderStep → List FolderStep
begun i later = happening i beginning later

abbrev kept : ℕ → List ℕ → List FolderStep → List FolderStep
kept i lines later = happening i (map (λ b. Kept b) lines) (Happens i Flushed ∷ later)

-- what happens at site 0: the last of it first
abbrev once_torn : List FolderStep
once_torn = Fails 0 torn ∷ Does (Restarts 0) ∷ Does (Replays 0 ann_is_asked) ∷ told 0 (drop 4 told_to_ask) []

abbrev once_asked : List FolderStep
once_asked = Does (Reads 0 ann_is_asked) ∷ told 0 (take 20 told_to_ask) once_torn

abbrev steps_of_0 : List FolderStep
steps_of_0 = begun 0 (kept 0 asked once_asked)

-- and then at site 1
abbrev once_shortened : List FolderStep
once_shortened = Does (Restarts 1) ∷ Shortens 1 sent ∷ Does (Replays 1 ann_is_sent) ∷ told 1 (take 5 told_to_message) []

abbrev once_listed : List FolderStep
once_listed = Does (Reads 1 listing) ∷ told 1 told_to_listing once_shortened

abbrev once_sent : List FolderStep
once_sent = Does (Reads 1 ann_is_sent) ∷ told 1 told_to_message (shows 1 told_to_message (kept 1 listed once_listed))

abbrev steps_of_1 : List FolderStep
steps_of_1 = begun 1 (kept 1 sent once_sent)

abbrev steps : List FolderStep
steps = steps_of_0 ++ steps_of_1

abbrev keep : ℕ → ℕ
keep i = KEEP_MAX

-- ---- each life keeps the files safe

is-open : (i : ℕ) → IsAtStart (process_text (site_keeping 2 i KEEP_MAX)) nothing
unfolding nothing
is-open i = shortened-opened (process_text (site_keeping 2 i KEEP_MAX)) tt

once-begun : FileState
once-begun = after_file_events nothing beginning

beginning-safe : (i : ℕ) → AreSafe (process_words (site_keeping 2 i KEEP_MAX)) nothing beginning
unfolding nothing
beginning-safe i =
    let safe = (is-open i).safe in (
      safe,
      (sym (none-told i), refl),
      (
        record { sound = safe.sound; flushed = safe.flushed; told = safe.told; shown = safe.shown },
        (
          sym (none-told i),
          ap length (sym none-read-in),
          ap (λ records. counts 2 (state_after (site_keeping 2 i KEEP_MAX) (keyed_opening i) records).site.log) (sym none-read-in),
          refl,
          refl,
        ),
        record { sound = safe.sound; flushed = safe.flushed; told = safe.told; shown = ([], refl) },
      ),
    )

answering-safe : AreSafe (process_words (site_keeping 2 0 KEEP_MAX)) nothing answering
unfolding nothing once-begun
answering-safe =
    let says = process_words (site_keeping 2 0 KEEP_MAX) in
    let lines = map (λ b. Kept b) asked in
    let begins = beginning-safe 0 in
    let first = safe-keeps says asked (safe-last says nothing beginning begins) (refl, refl) refl asked-sound in
    let s = after_file_events once-begun lines in
    let answer = map (λ b. Told b) (take 20 told_to_ask) in
    safe-append says nothing beginning (lines ++ Flushed ∷ answer) begins (safe-append says once-begun lines (Flushed ∷ answer) first (
      safe-last says once-begun lines first,
      tt,
      safe-answers says true answer [] (take 20 told_to_ask) (after_file_event s Flushed) refl asked-sound ([], refl) (refl, refl) (drop 20 told_to_ask, sym ask-told),
    ))

answering-again-safe : AreSafe (process_words (site_keeping 2 0 KEEP_MAX)) (from_disk torn) answering_again
unfolding torn
answering-again-safe =
    safe-answers (process_words (site_keeping 2 0 KEEP_MAX)) false answering_again [] [] (from_disk torn) refl asked-sound ([], refl) (refl, (refl, refl))
    ([], sym ask-told)

taking-safe : AreSafe (process_words (site_keeping 2 1 KEEP_MAX)) nothing taking
unfolding nothing once-begun
taking-safe =
    let says = process_words (site_keeping 2 1 KEEP_MAX) in
    let lines = map (λ b. Kept b) sent in
    let begins = beginning-safe 1 in
    let first = safe-keeps says sent (safe-last says nothing beginning begins) (refl, refl) refl sent-sound in
    let s = after_file_event (after_file_events once-begun lines) Flushed in
    let answer = map (λ b. Told b) told_to_message ++ map (λ b. Shown b) told_to_message in
    let is_shown : Answers true answer [] [] =
    answers-append true (map (λ b. Told b) told_to_message) (map (λ b. Shown b) told_to_message) [] told_to_message [] (answers-told true told_to_message [])
    (answers-shown told_to_message []) in
    let answered = safe-answers says true answer [] [] s is_shown sent-sound ([], refl) (refl, refl) ([], sym message-told) in
    let t = after_file_events s answer in
    let more = map (λ b. Kept b) listed in
    let second = safe-keeps says listed (safe-last says s answer answered) (refl, refl) refl both-sound in
    let rows = map (λ b. Told b) told_to_listing in
    safe-append says nothing beginning (lines ++ Flushed ∷ answer ++ more ++ Flushed ∷ rows) begins
    (safe-append says once-begun lines (Flushed ∷ answer ++ more ++ Flushed ∷ rows) first (
      safe-last says once-begun lines first,
      tt,
      safe-append says s answer (more ++ Flushed ∷ rows) answered (safe-append says t more (Flushed ∷ rows) second (
        safe-last says t more second,
        tt,
        safe-answers says true rows [] told_to_listing (after_file_event (after_file_events t more) Flushed) refl both-sound ([], refl) (refl, refl) ([], sym both-told),
      )),
    ))

taking-again-safe : AreSafe (process_words (site_keeping 2 1 KEEP_MAX)) (shortened_to sent) taking_again
taking-again-safe =
    safe-answers (process_words (site_keeping 2 1 KEEP_MAX)) false taking_again [] [] (shortened_to sent) refl sent-sound ([], refl) (refl, (refl, refl))
    (drop 5 told_to_message, sym message-told)

-- the listing changed nothing
listing-left-out : LeavesOut true (site_keeping 2 1 KEEP_MAX) (keyed_opening 1) (under_k ann_is_sent ∷ []) (under_k ann_is_sent ∷ listing ∷ [])
unfolding request_of take_request take_kind kind_of take_listing take_shown shown_of
listing-left-out = inr ([], refl, inl (refl, refl))

without-listing : ShortensKept (site_keeping 2 1 KEEP_MAX) (sent ++ listed) sent
without-listing = record {
  sound = sent-sound;
  without = subst (λ l. LeavesOut true (site_keeping 2 1 KEEP_MAX) (keyed_opening 1) l (records_in (sent ++ listed))) (sym sent-read)
      (subst (LeavesOut true (site_keeping 2 1 KEEP_MAX) (keyed_opening 1) (under_k ann_is_sent ∷ [])) (sym both-read) listing-left-out);
}

lived : (i : ℕ) → AreLives 2 i KEEP_MAX nothing (lives i) (running i)
unfolding nothing torn
lived zero = (
  ([], λ _. answering-safe),
  (([], refl), ([], refl), (drop 4 (take 20 told_to_ask), refl)),
  ([], λ _. answering-again-safe),
)
lived (suc zero) = (([], λ _. taking-safe), without-listing, ([], λ _. taking-again-safe))
lived (suc (suc i)) = ([], λ _. (is-open (suc (suc i))).safe)

-- ---- what happens elsewhere

abbrev Elsewhere : ℕ → List FolderStep → Type 0
Elsewhere i [] = ⊤
Elsewhere i (Happens j e ∷ later) = (eqb j i ≡ false) × Elsewhere i later
Elsewhere i (Fails j files ∷ later) = (eqb j i ≡ false) × Elsewhere i later
Elsewhere i (Shortens j short ∷ later) = (eqb j i ≡ false) × Elsewhere i later
Elsewhere i (Raises j more ∷ later) = (eqb j i ≡ false) × Elsewhere i later
Elsewhere i (Does (Reads j fields) ∷ later) = (eqb j i ≡ false) × Elsewhere i later
Elsewhere i (Does (Restarts j) ∷ later) = (eqb j i ≡ false) × Elsewhere i later
Elsewhere i (Does (Replays j fields) ∷ later) = (eqb j i ≡ false) × Elsewhere i later

happens-elsewhere : (i j : ℕ) (events : List FolderEvent) (later : List FolderStep) → eqb j i ≡ false → Elsewhere i later → Elsewhere i (happening j events later)
happens-elsewhere i j [] later e h = h
happens-elsewhere i j (x ∷ events) later e h = (e, happens-elsewhere i j events later e h)

begun-elsewhere : (i j : ℕ) (later : List FolderStep) → eqb j i ≡ false → Elsewhere i later → Elsewhere i (begun j later)
begun-elsewhere i j later e h = happens-elsewhere i j beginning later e h

kept-elsewhere : (i j : ℕ) (lines : List ℕ) (later : List FolderStep) → eqb j i ≡ false → Elsewhere i later → Elsewhere i (kept j lines later)
kept-elsewhere i j lines later e h = happens-elsewhere i j (map (λ b. Kept b) lines) (Happens j Flushed ∷ later) e (e, h)

told-elsewhere : (i j : ℕ) (text : List ℕ) (later : List FolderStep) → eqb j i ≡ false → Elsewhere i later → Elsewhere i (told j text later)
told-elsewhere i j text later e h = happens-elsewhere i j (map (λ b. Told b) text) later e h

elsewhere-both : (i : ℕ) (a b : List FolderStep) → Elsewhere i a → Elsewhere i b → Elsewhere i (a ++ b)
elsewhere-both i [] b f g = g
elsewhere-both i (Happens j e ∷ a) b f g = (f.0, elsewhere-both i a b f.1 g)
elsewhere-both i (Fails j files ∷ a) b f g = (f.0, elsewhere-both i a b f.1 g)
elsewhere-both i (Shortens j short ∷ a) b f g = (f.0, elsewhere-both i a b f.1 g)
elsewhere-both i (Raises j more ∷ a) b f g = (f.0, elsewhere-both i a b f.1 g)
elsewhere-both i (Does (Reads j fields) ∷ a) b f g = (f.0, elsewhere-both i a b f.1 g)
elsewhere-both i (Does (Restarts j) ∷ a) b f g = (f.0, elsewhere-both i a b f.1 g)
elsewhere-both i (Does (Replays j fields) ∷ a) b f g = (f.0, elsewhere-both i a b f.1 g)

shows-elsewhere : (i j : ℕ) (text : List ℕ) (later : List FolderStep) → eqb j i ≡ false → Elsewhere i later → Elsewhere i (shows j text later)
shows-elsewhere i j text later e h = happens-elsewhere i j (map (λ b. Shown b) text) later e h

skip : {A : Type 0} {b : Bool} (x y : A) → b ≡ false → cond b x y ≡ y
skip x y e = ap (λ c. cond c x y) e

none-own : (i : ℕ) (a b : List FolderStep) → Elsewhere i a → own_steps i (a ++ b) ≡ own_steps i b
none-own i [] b h = refl
none-own i (Happens j e ∷ a) b h = skip (Happens j e ∷ own_steps i (a ++ b)) (own_steps i (a ++ b)) h.0 ∙ none-own i a b h.1
none-own i (Fails j files ∷ a) b h = skip (Fails j files ∷ own_steps i (a ++ b)) (own_steps i (a ++ b)) h.0 ∙ none-own i a b h.1
none-own i (Shortens j short ∷ a) b h = skip (Shortens j short ∷ own_steps i (a ++ b)) (own_steps i (a ++ b)) h.0 ∙ none-own i a b h.1
none-own i (Raises j more ∷ a) b h = skip (Raises j more ∷ own_steps i (a ++ b)) (own_steps i (a ++ b)) h.0 ∙ none-own i a b h.1
none-own i (Does (Reads j fields) ∷ a) b h = none-own i a b h.1
none-own i (Does (Restarts j) ∷ a) b h = skip (Does (Restarts j) ∷ own_steps i (a ++ b)) (own_steps i (a ++ b)) h.0 ∙ none-own i a b h.1
none-own i (Does (Replays j fields) ∷ a) b h = none-own i a b h.1

first-elsewhere : (i : ℕ) → eqb 0 i ≡ false → Elsewhere i steps_of_0
unfolding torn
first-elsewhere i e =
    begun-elsewhere i 0 (kept 0 asked once_asked) e (kept-elsewhere i 0 asked once_asked e (
      e,
      told-elsewhere i 0 (take 20 told_to_ask) once_torn e (e, (e, (e, told-elsewhere i 0 (drop 4 told_to_ask) [] e tt))),
    ))

second-elsewhere : (i : ℕ) → eqb 1 i ≡ false → Elsewhere i steps_of_1
second-elsewhere i e =
    begun-elsewhere i 1 (kept 1 sent once_sent) e (kept-elsewhere i 1 sent once_sent e (
      e,
      told-elsewhere i 1 told_to_message (shows 1 told_to_message (kept 1 listed once_listed)) e
          (shows-elsewhere i 1 told_to_message (kept 1 listed once_listed) e (kept-elsewhere i 1 listed once_listed e (
            e,
            told-elsewhere i 1 told_to_listing once_shortened e (e, (e, (e, told-elsewhere i 1 (take 5 told_to_message) [] e tt))),
          ))),
    ))

not-0 : (i : ℕ) → eqb 0 (suc (suc i)) ≡ false
not-0 i = is_other 0 (suc (suc i)) (λ e. absurd (omega (arith, e)))

not-1 : (i : ℕ) → eqb 1 (suc (suc i)) ≡ false
not-1 i = is_other 1 (suc (suc i)) (λ e. absurd (omega (arith, e)))

own : (i : ℕ) → own_steps i steps ≡ steps_of i (lives i) (running i)
own zero = refl
own (suc zero) = refl
own (suc (suc i)) =
    none-own (suc (suc i)) steps_of_0 steps_of_1 (first-elsewhere (suc (suc i)) (not-0 i))
    ∙ ap (own_steps (suc (suc i))) (sym (append-nil steps_of_1)) ∙ none-own (suc (suc i)) steps_of_1 [] (second-elsewhere (suc (suc i)) (not-1 i))

-- ---- what the processes read, from step to step

-- what may be read or shortened in one step, where the process of site i has read `had` since its start, and `n` records were answered
abbrev MayRead : ℕ → ℕ → ℕ → FileState → Records → ℕ → FolderStep → Type 0
MayRead sites i keep s had n (Happens j e) = ⊤
MayRead sites i keep s had n (Fails j files) = ⊤
MayRead sites i keep s had n (Shortens j short) = MatchBool (eqb j i) (n ≡ length (taken_in (site_keeping sites i keep) s.kept)) ⊤
MayRead sites i keep s had n (Raises j more) = ⊤
MayRead sites i keep s had n (Does (Reads j fields)) = MatchBool (eqb j i) (length had ≡ n) ⊤
MayRead sites i keep s had n (Does (Restarts j)) = ⊤
MayRead sites i keep s had n (Does (Replays j fields)) = MatchBool (eqb j i) (length had < n) ⊤

abbrev ReadsOn : ℕ → ℕ → ℕ → FileState → Records → ℕ → List FolderStep → Type 0
ReadsOn sites i keep s had n [] = IsPrefix had (taken_in (site_keeping sites i keep) s.flushed)
ReadsOn sites i keep s had n (x ∷ later) = IsPrefix had (taken_in (site_keeping sites i keep) s.flushed) × MayRead sites i keep s had n x
    × ReadsOn sites i (keep_after i keep x) (stand_after i s x) (read_on i had (moments_in (x ∷ []))) (answered_on sites i keep n (x ∷ [])) later

reads-here : (sites i keep : ℕ) (s : FileState) (had : Records) (n : ℕ) (later : List FolderStep) → ReadsOn sites i keep s had n later
    → IsPrefix had (taken_in (site_keeping sites i keep) s.flushed)
reads-here sites i keep s had n [] h = h
reads-here sites i keep s had n (x ∷ later) h = h.0

reads-later : (sites i keep : ℕ) (s : FileState) (had : Records) (n : ℕ) (a b : List FolderStep) → ReadsOn sites i keep s had n (a ++ b)
    → ReadsOn sites i (keeps i keep a) (is_placed_at i s a) (read_on i had (moments_in a)) (answered_on sites i keep n a) b
reads-later sites i keep s had n [] b h = h
reads-later sites i keep s had n (Happens j e ∷ a) b h = reads-later sites i keep (stand_after i s (Happens j e)) had n a b h.2
reads-later sites i keep s had n (Fails j files ∷ a) b h = reads-later sites i keep (stand_after i s (Fails j files)) had n a b h.2
reads-later sites i keep s had n (Shortens j short ∷ a) b h =
    reads-later sites i keep (stand_after i s (Shortens j short)) had (cond (eqb j i) (length (taken_in (site_keeping sites i keep) short)) n) a b h.2
reads-later sites i keep s had n (Raises j more ∷ a) b h = reads-later sites i (cond (eqb j i) more keep) s had n a b h.2
reads-later sites i keep s had n (Does (Reads j fields) ∷ a) b h =
    reads-later sites i keep s (cond (eqb j i) (had ++ fields ∷ []) had) (cond (eqb j i) (n + 1) n) a b h.2
reads-later sites i keep s had n (Does (Restarts j) ∷ a) b h = reads-later sites i keep (stand_after i s (Does (Restarts j))) (cond (eqb j i) [] had) n a b h.2
reads-later sites i keep s had n (Does (Replays j fields) ∷ a) b h = reads-later sites i keep s (cond (eqb j i) (had ++ fields ∷ []) had) n a b h.2

-- where nothing happens at the site, it has read what it had
reads-elsewhere : (sites i keep : ℕ) (s : FileState) (had : Records) (n : ℕ) (a b : List FolderStep) → Elsewhere i a → ReadsOn sites i keep s had n b
    → ReadsOn sites i keep s had n (a ++ b)
reads-elsewhere sites i keep s had n [] b e h = h
reads-elsewhere sites i keep s had n (Happens j x ∷ a) b e h = (
  reads-here sites i keep s had n b h,
  tt,
  subst (λ c. ReadsOn sites i keep (cond c (after_file_event s x) s) had n (a ++ b)) (sym e.0) (reads-elsewhere sites i keep s had n a b e.1 h),
)
reads-elsewhere sites i keep s had n (Fails j files ∷ a) b e h = (
  reads-here sites i keep s had n b h,
  tt,
  subst (λ c. ReadsOn sites i keep (cond c (from_disk files) s) had n (a ++ b)) (sym e.0) (reads-elsewhere sites i keep s had n a b e.1 h),
)
reads-elsewhere sites i keep s had n (Shortens j short ∷ a) b e h = (
  reads-here sites i keep s had n b h,
  subst (λ c. MatchBool c (n ≡ length (taken_in (site_keeping sites i keep) s.kept)) ⊤) (sym e.0) tt,
  subst (λ c. ReadsOn sites i keep (cond c (shortened_to short) s) had (cond c (length (taken_in (site_keeping sites i keep) short)) n) (a ++ b)) (sym e.0)
      (reads-elsewhere sites i keep s had n a b e.1 h),
)
reads-elsewhere sites i keep s had n (Raises j more ∷ a) b e h = (
  reads-here sites i keep s had n b h,
  tt,
  subst (λ c. ReadsOn sites i (cond c more keep) s had n (a ++ b)) (sym e.0) (reads-elsewhere sites i keep s had n a b e.1 h),
)
reads-elsewhere sites i keep s had n (Does (Reads j fields) ∷ a) b e h = (
  reads-here sites i keep s had n b h,
  subst (λ c. MatchBool c (length had ≡ n) ⊤) (sym e.0) tt,
  subst (λ c. ReadsOn sites i keep s (cond c (had ++ fields ∷ []) had) (cond c (n + 1) n) (a ++ b)) (sym e.0) (reads-elsewhere sites i keep s had n a b e.1 h),
)
reads-elsewhere sites i keep s had n (Does (Restarts j) ∷ a) b e h = (
  reads-here sites i keep s had n b h,
  tt,
  subst (λ c. ReadsOn sites i keep (cond c (opened_again s) s) (cond c [] had) n (a ++ b)) (sym e.0) (reads-elsewhere sites i keep s had n a b e.1 h),
)
reads-elsewhere sites i keep s had n (Does (Replays j fields) ∷ a) b e h = (
  reads-here sites i keep s had n b h,
  subst (λ c. MatchBool c (length had < n) ⊤) (sym e.0) tt,
  subst (λ c. ReadsOn sites i keep s (cond c (had ++ fields ∷ []) had) n (a ++ b)) (sym e.0) (reads-elsewhere sites i keep s had n a b e.1 h),
)

-- bytes that are kept or told leave what was flushed
reads-kept : (sites i keep : ℕ) (lines : List ℕ) (s : FileState) (had : Records) (n : ℕ) (later : List FolderStep) → eqb i i ≡ true
    → IsPrefix had (taken_in (site_keeping sites i keep) s.flushed) → ReadsOn sites i keep (after_file_events s (map (λ b. Kept b) lines)) had n later
    → ReadsOn sites i keep s had n (happening i (map (λ b. Kept b) lines) later)
reads-kept sites i keep [] s had n later is p h = h
reads-kept sites i keep (b ∷ lines) s had n later is p h = (
  p,
  tt,
  subst (λ c. ReadsOn sites i keep (cond c (after_file_event s (Kept b)) s) had n (happening i (map (λ b. Kept b) lines) later)) (sym is)
      (reads-kept sites i keep lines (after_file_event s (Kept b)) had n later is p h),
)

reads-begun : (sites i keep : ℕ) (s : FileState) (had : Records) (n : ℕ) (later : List FolderStep) → eqb i i ≡ true
    → IsPrefix had (taken_in (site_keeping sites i keep) s.flushed) → ReadsOn sites i keep (after_file_events s beginning) had n later
    → ReadsOn sites i keep s had n (begun i later)
reads-begun sites i keep s had n later is p h = (
  p,
  tt,
  subst (λ c. ReadsOn sites i keep (cond c (after_file_event s Settled) s) had n (happening i (Began 0 (0 ∷ 0 ∷ []) ∷ []) later)) (sym is) (
    p,
    tt,
    subst (λ c. ReadsOn sites i keep (cond c (after_file_events s beginning) (after_file_event s Settled)) had n later) (sym is) h,
  ),
)

reads-told : (sites i keep : ℕ) (text : List ℕ) (s : FileState) (had : Records) (n : ℕ) (later : List FolderStep) → eqb i i ≡ true
    → IsPrefix had (taken_in (site_keeping sites i keep) s.flushed) → ReadsOn sites i keep (after_file_events s (map (λ b. Told b) text)) had n later
    → ReadsOn sites i keep s had n (happening i (map (λ b. Told b) text) later)
reads-told sites i keep [] s had n later is p h = h
reads-told sites i keep (b ∷ text) s had n later is p h = (
  p,
  tt,
  subst (λ c. ReadsOn sites i keep (cond c (after_file_event s (Told b)) s) had n (happening i (map (λ b. Told b) text) later)) (sym is)
      (reads-told sites i keep text (after_file_event s (Told b)) had n later is p h),
)

reads-shown : (sites i keep : ℕ) (text : List ℕ) (s : FileState) (had : Records) (n : ℕ) (later : List FolderStep) → eqb i i ≡ true
    → IsPrefix had (taken_in (site_keeping sites i keep) s.flushed) → ReadsOn sites i keep (after_file_events s (map (λ b. Shown b) text)) had n later
    → ReadsOn sites i keep s had n (happening i (map (λ b. Shown b) text) later)
reads-shown sites i keep [] s had n later is p h = h
reads-shown sites i keep (b ∷ text) s had n later is p h = (
  p,
  tt,
  subst (λ c. ReadsOn sites i keep (cond c (after_file_event s (Shown b)) s) had n (happening i (map (λ b. Shown b) text) later)) (sym is)
      (reads-shown sites i keep text (after_file_event s (Shown b)) had n later is p h),
)

-- ---- what both sites have read

-- what a site takes of these records
abbrev taken_from : ℕ → Records → Records
taken_from i records = taken_by (site_keeping 2 i KEEP_MAX) (opening_at i) (bare_of (site_keeping 2 i KEEP_MAX) (keyed_opening i) records)

ask-taken-read : taken_from 0 (under_k ann_is_asked ∷ []) ≡ ann_is_asked ∷ []
unfolding request_of take_request take_kind kind_of nick_of
ask-taken-read = refl

ask-taken : taken_in (site_keeping 2 0 KEEP_MAX) asked ≡ ann_is_asked ∷ []
ask-taken = ap (taken_from 0) asked-read ∙ ask-taken-read

message-taken-read : taken_from 1 (under_k ann_is_sent ∷ []) ≡ ann_is_sent ∷ []
unfolding request_of take_request take_kind kind_of packet_of take_packet take_message take_stamp take_site take_positive number_of deps_of take_shadow
    nick_of digits
message-taken-read = refl

message-taken : taken_in (site_keeping 2 1 KEEP_MAX) sent ≡ ann_is_sent ∷ []
message-taken = ap (taken_from 1) sent-read ∙ message-taken-read

both-taken-read : taken_from 1 (under_k ann_is_sent ∷ listing ∷ []) ≡ ann_is_sent ∷ listing ∷ []
unfolding request_of take_request take_kind kind_of packet_of take_packet take_message take_stamp take_site take_positive number_of deps_of take_shadow
    nick_of take_listing take_shown shown_of digits
both-taken-read = refl

both-taken : taken_in (site_keeping 2 1 KEEP_MAX) (sent ++ listed) ≡ ann_is_sent ∷ listing ∷ []
both-taken = ap (taken_from 1) both-read ∙ both-taken-read

none-read : (sites i : ℕ) (s : FileState) → IsPrefix [] (taken_in (site_keeping sites i KEEP_MAX) s.flushed)
none-read sites i s = (taken_in (site_keeping sites i KEEP_MAX) s.flushed, refl)

ask-read : IsPrefix (ann_is_asked ∷ []) (taken_in (site_keeping 2 0 KEEP_MAX) asked)
ask-read = ([], sym ask-taken)

message-read : IsPrefix (ann_is_sent ∷ []) (taken_in (site_keeping 2 1 KEEP_MAX) sent)
message-read = ([], sym message-taken)

message-read-first : IsPrefix (ann_is_sent ∷ []) (taken_in (site_keeping 2 1 KEEP_MAX) (sent ++ listed))
message-read-first = (listing ∷ [], sym both-taken)

both-read-too : IsPrefix (ann_is_sent ∷ listing ∷ []) (taken_in (site_keeping 2 1 KEEP_MAX) (sent ++ listed))
both-read-too = ([], sym both-taken)

-- the files of a process that has begun where there were none, and has shown this
abbrev begun_with : Files → List ℕ → FileState
begun_with files text = record { kept = files.log; flushed = files.log; cut = []; out = files.out; settled = true; begun = true; shown = text }

reads-0 : ReadsOn 2 0 KEEP_MAX nothing [] 0 steps
unfolding nothing torn once-begun
reads-0 =
    let s = begun_with (record { log = asked; out = [] }) [] in
    let rest : ReadsOn 2 0 KEEP_MAX (after_file_events (from_disk torn) answering_again) (ann_is_asked ∷ []) 1 steps_of_1 =
    subst (ReadsOn 2 0 KEEP_MAX (after_file_events (from_disk torn) answering_again) (ann_is_asked ∷ []) 1) (append-nil steps_of_1)
    (reads-elsewhere 2 0 KEEP_MAX (after_file_events (from_disk torn) answering_again) (ann_is_asked ∷ []) 1 steps_of_1 [] (second-elsewhere 0 refl) ask-read) in
    let again = reads-told 2 0 KEEP_MAX (drop 4 told_to_ask) (from_disk torn) (ann_is_asked ∷ []) 1 steps_of_1 refl ask-read rest in
    let failed : ReadsOn 2 0 KEEP_MAX (after_file_events s (map (λ b. Told b) (take 20 told_to_ask))) (ann_is_asked ∷ []) 1 (once_torn ++ steps_of_1) =
    (ask-read, tt, (ask-read, tt, (none-read 2 0 (from_disk torn), omega arith, again))) in
    let answered = reads-told 2 0 KEEP_MAX (take 20 told_to_ask) s (ann_is_asked ∷ []) 1 (once_torn ++ steps_of_1) refl ask-read failed in
    reads-begun 2 0 KEEP_MAX nothing [] 0 (kept 0 asked once_asked ++ steps_of_1) refl (none-read 2 0 nothing)
    (reads-kept 2 0 KEEP_MAX asked once-begun [] 0 (Happens 0 Flushed ∷ once_asked ++ steps_of_1) refl (none-read 2 0 once-begun)
    (none-read 2 0 once-begun, tt, (none-read 2 0 s, refl, answered)))

reads-1 : ReadsOn 2 1 KEEP_MAX nothing [] 0 steps
unfolding nothing torn once-begun
reads-1 =
    let s = begun_with (record { log = sent; out = [] }) [] in
    let unshown = begun_with (record { log = sent; out = told_to_message }) [] in
    let answered = begun_with (record { log = sent; out = told_to_message }) told_to_message in
    let t = begun_with (record { log = sent ++ listed; out = told_to_message }) told_to_message in
    let size = length (taken_in (site_keeping 2 1 KEEP_MAX) sent) in
    let last = reads-told 2 1 KEEP_MAX (take 5 told_to_message) (shortened_to sent) (ann_is_sent ∷ []) size [] refl message-read message-read in
    let shorter : ReadsOn 2 1 KEEP_MAX (after_file_events t (map (λ b. Told b) told_to_listing)) (ann_is_sent ∷ listing ∷ []) 2 once_shortened = (
      both-read-too,
      tt,
      (
        none-read 2 1 t,
        ap length (sym both-taken),
        (none-read 2 1 (shortened_to sent), subst (λ l. 0 < length l) (sym message-taken) (omega arith), last),
      ),
    ) in
    let rows = reads-told 2 1 KEEP_MAX told_to_listing t (ann_is_sent ∷ listing ∷ []) 2 once_shortened refl both-read-too shorter in
    let more = reads-kept 2 1 KEEP_MAX listed answered (ann_is_sent ∷ []) 1 (Happens 1 Flushed ∷ once_listed) refl message-read
    (message-read, tt, (message-read-first, refl, rows)) in
    let all = reads-shown 2 1 KEEP_MAX told_to_message unshown (ann_is_sent ∷ []) 1 (kept 1 listed once_listed) refl message-read more in
    let first = reads-told 2 1 KEEP_MAX told_to_message s (ann_is_sent ∷ []) 1 (shows 1 told_to_message (kept 1 listed once_listed)) refl message-read all in
    reads-elsewhere 2 1 KEEP_MAX nothing [] 0 steps_of_0 steps_of_1 (first-elsewhere 1 refl)
    (reads-begun 2 1 KEEP_MAX nothing [] 0 (kept 1 sent once_sent) refl (none-read 2 1 nothing)
    (reads-kept 2 1 KEEP_MAX sent once-begun [] 0 (Happens 1 Flushed ∷ once_sent) refl (none-read 2 1 once-begun)
    (none-read 2 1 once-begun, tt, (none-read 2 1 s, refl, first))))

all-read : (i : ℕ) → ReadsOn 2 i KEEP_MAX nothing [] 0 steps
all-read zero = reads-0
all-read (suc zero) = reads-1
all-read (suc (suc i)) =
    let at = suc (suc i) in
    reads-elsewhere 2 at KEEP_MAX nothing [] 0 steps_of_0 steps_of_1 (first-elsewhere at (not-0 i))
    (subst (ReadsOn 2 at KEEP_MAX nothing [] 0) (append-nil steps_of_1)
    (reads-elsewhere 2 at KEEP_MAX nothing [] 0 steps_of_1 [] (second-elsewhere at (not-1 i)) (none-read 2 at nothing)))

at-step : (i : ℕ) (before later : List FolderStep) → steps ≡ before ++ later → ReadsOn 2 i (keeps i KEEP_MAX before) (is_placed_at i nothing before)
    (has_read i (moments_in before)) (answered_on 2 i KEEP_MAX 0 before) later
at-step i before later e = reads-later 2 i KEEP_MAX nothing [] 0 before later (subst (ReadsOn 2 i KEEP_MAX nothing [] 0) e (all-read i))

-- ---- the shop

are-lives : AreShopLives 2 keep (λ i. nothing) lives running steps
are-lives = record {
  opened = is-open;
  lived = lived;
  own = own;
  ahead = λ i before later e. reads-here 2 i (keeps i KEEP_MAX before) (is_placed_at i nothing before) (has_read i (moments_in before))
      (answered_on 2 i KEEP_MAX 0 before) later (at-step i before later e);
  anew = λ i fields before later e.
      subst (λ b. MatchBool b (length (has_read i (moments_in before)) ≡ answered_on 2 i KEEP_MAX 0 before) ⊤) (is_itself refl)
      (at-step i before (Does (Reads i fields) ∷ later) e).1;
  again = λ i fields before later e.
      subst (λ b. MatchBool b (length (has_read i (moments_in before)) < answered_on 2 i KEEP_MAX 0 before) ⊤) (is_itself refl)
      (at-step i before (Does (Replays i fields) ∷ later) e).1;
  answered = λ i short before later e.
      subst (λ b. MatchBool b (answered_on 2 i KEEP_MAX 0 before
      ≡ length (taken_in (site_keeping 2 i (keeps i KEEP_MAX before)) (is_placed_at i nothing before).kept)) ⊤) (is_itself refl)
      (at-step i before (Shortens i short ∷ later) e).1;
}

-- what its processes read
abbrev moments : List Moment
moments = Reads 0 ann_is_asked ∷ Restarts 0 ∷ Replays 0 ann_is_asked ∷ Reads 1 ann_is_sent ∷ Reads 1 listing ∷ Restarts 1 ∷ Replays 1 ann_is_sent ∷ []

what-is-read : moments_in steps ≡ moments
unfolding torn
what-is-read = refl

no-packet-listed : packet_of 2 listing ≡ None
unfolding packet_of take_packet
no-packet-listed = refl

no-packet : {fields known : List (List ℕ)} {p : Packet} → known ≡ fields → packet_of 2 known ≡ None → packet_of 2 fields ≡ Some p → ⊥
no-packet {known} same none is = not_some (packet_of 2 known) none (ap (packet_of 2) same ∙ is)

-- the message that site 1 reads was sent by site 0, before the power failed and again
sent-before : WasEverSent 2 most_kept (Reads 0 ann_is_asked ∷ Restarts 0 ∷ Replays 0 ann_is_asked ∷ []) ann_is_sent
sent-before = (
  0,
  omega arith,
  Reads 0 ann_is_asked ∷ Restarts 0 ∷ Replays 0 ann_is_asked ∷ [],
  [],
  refl,
  subst (Has (codes "send" ∷ ann_is_sent)) (sym ann_is_answered) (inr (inl refl)),
)

is-carried : CarriedWithRestarts 2 most_kept moments
is-carried [] later i fields p e is = absurd (no-packet (let same : ann_is_asked ≡ fields = cc e in same) no_packet_asked is)
is-carried (a ∷ []) later i fields p e is = absurd (cc e)
is-carried (a ∷ b ∷ []) later i fields p e is = absurd (cc e)
is-carried (a ∷ b ∷ c ∷ []) later i fields p e is =
    let first : Reads 0 ann_is_asked ≡ a = cc e in
    let second : Restarts 0 ≡ b = cc e in
    let third : Replays 0 ann_is_asked ≡ c = cc e in
    let same : ann_is_sent ≡ fields = cc e in
    subst (WasEverSent 2 most_kept (a ∷ b ∷ c ∷ [])) same (subst (λ m. WasEverSent 2 most_kept (m ∷ b ∷ c ∷ []) ann_is_sent) first
    (subst (λ m. WasEverSent 2 most_kept (Reads 0 ann_is_asked ∷ m ∷ c ∷ []) ann_is_sent) second
    (subst (λ m. WasEverSent 2 most_kept (Reads 0 ann_is_asked ∷ Restarts 0 ∷ m ∷ []) ann_is_sent) third sent-before)))
is-carried (a ∷ b ∷ c ∷ d ∷ []) later i fields p e is =
    absurd (no-packet (let same : listing ≡ fields = cc e in same) no-packet-listed is)
is-carried (a ∷ b ∷ c ∷ d ∷ f ∷ []) later i fields p e is = absurd (cc e)
is-carried (a ∷ b ∷ c ∷ d ∷ f ∷ g ∷ []) later i fields p e is = absurd (cc e)
is-carried (a ∷ b ∷ c ∷ d ∷ f ∷ g ∷ h ∷ before) later i fields p e is = absurd (nothing-left before (cc e))
  where
    nothing-left : (before : List Moment) → [] ≡ before ++ Reads i fields ∷ later → ⊥
    nothing-left [] e = cc e
    nothing-left (x ∷ before) e = cc e

-- so it is a run, which keeps the promises
the-run : AreFoldersOfARun 2 keep (λ i. nothing) steps
the-run = folders-are-a-run 2 keep (λ i. nothing) lives running steps (omega arith) (omega arith) (λ i. omega arith) are-lives
    (subst (CarriedWithRestarts 2 most_kept) (sym what-is-read) is-carried)

-- ---- the run, by computation

-- ann is asked for at site 0, and the message is delivered to site 1
abbrev happened : List SystemEvent
happened = At 0 (request.Ask (ask.User (codes "ann"))) ∷ Deliver 1 1 ∷ []

abbrev ann : Message
ann = record { stamp = record { id = record { site = 0; seq = 1 }; red = 1; deps = 0 ∷ 0 ∷ [] }; shadow = shadow.User (codes "ann") }

abbrev at_0 : Replica
at_0 = record { log = ann ∷ []; waiting = []; held = Some 1; last = 0 }

abbrev at_1 : Replica
at_1 = record { log = ann ∷ []; waiting = []; held = None; last = 0 }

abbrev world_by : Rows → World
world_by rows = (happens KEEP_MAX (record { sites = (by_rows rows).0 ∷ opening_at 1 ∷ []; sent = sending packet.Msg (by_rows rows).1 }) (Deliver 1 1)).0

world-by-meaning : world_by (meaning_row []) ≡ record { sites = at_0 ∷ at_1 ∷ []; sent = packet.Msg ann ∷ [] }
unfolding meaning_row
world-by-meaning = refl

the-world : run KEEP_MAX happened (start 2) ≡ record { sites = at_0 ∷ at_1 ∷ []; sent = packet.Msg ann ∷ [] }
the-world = ap world_by no-rows ∙ world-by-meaning

asked-by-rows : (after_records (site_keeping 2 0 KEEP_MAX) (under_k ann_is_asked ∷ [])).site ≡ (by_rows (rows_at [])).0
unfolding request_of take_request take_kind kind_of nick_of
asked-by-rows = refl

asked-by-meaning : (by_rows (meaning_row [])).0 ≡ at_0
unfolding meaning_row
asked-by-meaning = refl

sent-leads : (after_records (site_keeping 2 1 KEEP_MAX) (under_k ann_is_sent ∷ [])).site ≡ at_1
unfolding request_of take_request take_kind kind_of packet_of take_packet take_message take_stamp take_site take_positive number_of deps_of take_shadow nick_of
    digits
sent-leads = refl

-- what both folders have kept leads to the states of its sites
folder-0 : (after_records (site_keeping 2 0 KEEP_MAX) (records_in asked)).site ≡ site (run KEEP_MAX happened (start 2)) 0
folder-0 =
    ap (λ (r : Records). (after_records (site_keeping 2 0 KEEP_MAX) r).site) asked-read ∙ asked-by-rows ∙ ap (λ rows. (by_rows rows).0) no-rows ∙ asked-by-meaning
    ∙ ap (λ w. site w 0) (sym the-world)

folder-1 : (after_records (site_keeping 2 1 KEEP_MAX) (records_in sent)).site ≡ site (run KEEP_MAX happened (start 2)) 1
folder-1 = ap (λ (r : Records). (after_records (site_keeping 2 1 KEEP_MAX) r).site) sent-read ∙ sent-leads ∙ ap (λ w. site w 1) (sym the-world)
