-- Sites that are killed at any moment, lose their power or are full, and shops whose sites' histories and lives are interleaved in any way.
use Rattle.std.specs.Prelude.{◌≡◌, ◌≤◌, ◌&&◌, ◌||◌, ◌∷◌, [], ℕ, Bool, List, cond, false, map, not, ◌≢◌, ◌++◌, ◌⊎◌, Option, Some, true, ◌<◌, ◌+◌, ◌==◌}
use Rattle.std.specs.Prelude.{MatchBool, length, ⊤}
use Rattle.rubis_message.specs.Inputs.{input_of}
use Rattle.rubis_message.specs.declared.inputs.Input.{Input}
use Rattle.rubis_message.specs.declared.inputs.Input.TheVariants.{Asked, Came, Neither}
use Rattle.rubis_message.specs.declared.requests.Request.TheVariants as request
use Rattle.rubis_message.specs.declared.tokens.Packet.TheVariants as packet
use Rattle.rubis_model.specs.Processes.{site_after, CarriedWithRestarts, Moment, NeverStopped, has_read}
use Rattle.rubis_model.specs.Rebuild.{sent_on_inputs}
use Rattle.rubis_model.specs.Site.{input_step, Place, Replica, is_full, is_repeat, not_ours, opening_at}
use Rattle.rubis_keep.specs.History.{records_in, IsFrontOf, Files, AreSafe, FolderEvent, FileState, IsAllAnswered, Says, after_file_events, Ended, Lived, MayFollow, IsSafe, after_file_event}
use Rattle.rubis_keep.specs.Shortened.{LeavesOut}
use Rattle.rubis_keys.specs.Keys.{KeyedSite, keyed_answers, keyed_opening}
use Rattle.rubis_lives.specs.Shops.{bare_in, process_text, AreAgreed, IsPrefix, IsSomeRun, process_words}
use Rattle.rubis_engine.specs.Accounts.{Account}
use Rattle.rubis_engine.specs.Accounts.Ending.{AtEnd, Cut}
use Rattle.rubis_engine.specs.Text.{rows_text}
use Rattle.rubis_keep.specs.History.FolderEvent.{Began, Kept, Shown, Told}
use Rattle.rubis_keep.specs.Lines.{whole_lines, HasSoundLines}
use Rattle.rubis_keep.specs.Lives.{IsAtStart}
use Rattle.rubis_schema.specs.declared.limits.TheConstants.{COUNTED_MAX, KEEP_MAX}
use Rattle.rubis_model.specs.Processes.Moment.{Reads, Replays, Restarts}

-- a site refuses an ask, and a message that is new to it, where it has as many messages as it keeps
abbrev pub refuses_as_full : Place → Replica → Input → Bool
refuses_as_full p s (Asked (request.Ask a)) = is_full p.keep s
refuses_as_full p s (Asked (request.Pass to)) = false
refuses_as_full p s (Asked (request.List l)) = false
refuses_as_full p s (Came (packet.Msg m)) = is_full p.keep s && not (not_ours p s m || is_repeat s m)
refuses_as_full p s (Came (packet.Token t)) = false
refuses_as_full p s Neither = false

-- the other ones of these records
abbrev pub taken_by : Place → Replica → List (List (List ℕ)) → List (List (List ℕ))
taken_by p s [] = []
taken_by p s (fields ∷ rest) = cond (refuses_as_full p s (input_of p.sites fields)) (taken_by p s rest)
    (fields ∷ taken_by p (input_step p s 1 (input_of p.sites fields)).0 rest)

-- those of what was kept
abbrev pub taken_in : Place → List ℕ → List (List (List ℕ))
taken_in p kept = taken_by p (opening_at p.site) (bare_in p kept)

abbrev pub keeping_at_most : Place → ℕ → Place
keeping_at_most p keep = record { site = p.site; sites = p.sites; keep = keep }

-- a site that keeps more messages comes to the same state by those that it takes, and sends the same packets
abbrev pub RefusedAsFullAreNoEvents : Type 0
RefusedAsFullAreNoEvents = (p : Place) (keep : ℕ) (s : Replica) (records : List (List (List ℕ))) → p.keep ≤ keep
    → (site_after p s 1 records ≡ site_after (keeping_at_most p keep) s 1 (taken_by p s records))
    × (sent_on_inputs p s (map (input_of p.sites) records) ≡ sent_on_inputs (keeping_at_most p keep) s (map (input_of p.sites) (taken_by p s records)))

-- and where all that it told is the beginning of what it tells when it keeps more, it refuses the same records as full
abbrev pub RaisedKeepsTakeTheSame : Type 0
RaisedKeepsTakeTheSame = (p : Place) (keep : ℕ) (kept : List ℕ) → p.keep ≤ keep
    → IsFrontOf (process_text p (records_in kept)) (process_text (keeping_at_most p keep) (records_in kept)) → taken_in p kept ≡ taken_in (keeping_at_most p keep) kept

-- ---- a site that is killed at any moment, or loses its power

-- what is told of some records stays when more come
abbrev pub Extends : (List (List (List ℕ)) → List ℕ) → Type 0
Extends text = (records more : List (List (List ℕ))) → IsFrontOf (text records) (text (records ++ more))

-- the text of a site's answers is such a text
abbrev pub SiteTextsExtend : Type 0
SiteTextsExtend = (p : Place) (s : KeyedSite) (n : ℕ) → Extends (λ records. rows_text (keyed_answers p s n records))

-- the files as the next process finds them, which has said nothing yet: after the one before was killed, and after a power failure
abbrev pub opened_again : FileState → FileState
opened_again s = record s { settled = false; begun = false; shown = [] }

-- the files as the next process finds them after a power failure: whatever is there was flushed
abbrev pub from_disk : Files → FileState
from_disk files = record { kept = files.log; flushed = files.log; cut = []; out = files.out; settled = false; begun = false; shown = [] }

-- this holds at each moment of these events, also within a write
abbrev pub AtEachMoment : FileState → List FolderEvent → (FileState → Type 0) → Type 0
AtEachMoment s events holds = (first later : List FolderEvent) → first ++ later ≡ events → holds (after_file_events s first)

-- a process that is killed at any moment leaves files with which the next one can begin, and no line that was kept whole is lost
abbrev pub KillsLeaveFiles : Type 0
KillsLeaveFiles = (says : Says) (s : FileState) (events : List FolderEvent) → Extends says.text → AreSafe says s events
    → AtEachMoment s events (λ t. IsAtStart says.text (opened_again t) × IsFrontOf (whole_lines s.kept) t.kept)

-- what a power failure may leave: of `kept` a prefix that is no shorter than what was flushed, which may have what was cut off since, and any
-- prefix of `out`, which is never flushed
abbrev pub SurvivesIn : FileState → Files → Type 0
SurvivesIn t files = IsFrontOf t.flushed files.log × IsFrontOf files.log (t.kept ++ t.cut) × IsFrontOf files.out t.out

-- where flushed bytes survive, the next process can begin with what is left at any moment, and all that was told is told again
abbrev pub PowerFailuresLeaveFiles : Type 0
PowerFailuresLeaveFiles = (says : Says) (s : FileState) (events : List FolderEvent) → Extends says.text → AreSafe says s events
    → AtEachMoment s events (λ t. (files : Files) → SurvivesIn t files
    → IsAtStart says.text (from_disk files) × IsFrontOf t.out (says.text (records_in files.log)))

-- before a process keeps a byte it has shown the line `kept,..`, at a moment at which all that was kept was answered
abbrev pub AnsweredBeforeMore : Type 0
AnsweredBeforeMore = (says : Says) (s : FileState) (first later : List FolderEvent) (b : ℕ) → s.begun ≡ false → AreSafe says s (first ++ Kept b ∷ later)
    → (before since : List FolderEvent) × (n : ℕ) × (counts : List ℕ) × (first ≡ before ++ Began n counts ∷ since) × IsAllAnswered says.text (after_file_events s before)

-- A start that keeps more messages lets the site answer all that was kept as it was told, and then compares. So it ends with both files as
-- they were, or whatever was told of what was kept is the beginning of the answers from now on
abbrev pub RaisedKeepsTellTheSame : Type 0
RaisedKeepsTellTheSame = (before raised : Account) (files mid : Files) (done log1 out1 input later log out : Option (List ℕ)) (told : List ℕ)
    → ((records : List (List (List ℕ))) → before.text Cut records ≡ before.text AtEnd records)
    → Lived before files.log files.out (Some []) done log1 out1 → log1 ≡ Some mid.log → out1 ≡ Some mid.out
    → IsFrontOf told (before.text AtEnd (records_in files.log))
    → (Lived raised mid.log mid.out input later log out → IsFrontOf told (raised.text AtEnd (records_in mid.log)))
    × (Ended raised mid.log mid.out input later log out
    → ((log ≡ Some mid.log) × (out ≡ Some mid.out)) ⊎ IsFrontOf told (raised.text AtEnd (records_in mid.log)))

-- ---- histories that are refused

-- a byte is told where nothing is flushed: before lines are kept, or once they are kept and not flushed yet
abbrev pub ToldTooEarlyIsUnsafe : Type 0
ToldTooEarlyIsUnsafe = (says : Says) (s : FileState) (lines : List ℕ) (b : ℕ) (later : List FolderEvent) → says.text (records_in []) ≡ []
    → s.flushed ≡ [] → s.out ≡ [] → AreSafe says s (map (λ c. Kept c) lines ++ Told b ∷ later) → ⊥

-- a byte is shown before the line `kept,..`, or that `out` doesn't have
abbrev pub ShownTooEarlyIsUnsafe : Type 0
ShownTooEarlyIsUnsafe = (says : Says) (s : FileState) (b : ℕ) (later : List FolderEvent) → (s.begun ≡ false) ⊎ (s.shown ≡ s.out)
    → AreSafe says s (Shown b ∷ later) → ⊥

-- a byte is kept before the line `kept,..`, or before all that was told is shown
abbrev pub KeptTooEarlyIsUnsafe : Type 0
KeptTooEarlyIsUnsafe = (says : Says) (s : FileState) (b : ℕ) (later : List FolderEvent) → (s.begun ≡ false) ⊎ (s.shown ≢ s.out)
    → AreSafe says s (Kept b ∷ later) → ⊥

-- the line `kept,..` is shown before it is written down how the site is set up, or a second time
abbrev pub BegunTooEarlyIsUnsafe : Type 0
BegunTooEarlyIsUnsafe = (says : Says) (s : FileState) (n : ℕ) (counts : List ℕ) (later : List FolderEvent)
    → (s.settled ≡ false) ⊎ (s.begun ≡ true) → AreSafe says s (Began n counts ∷ later) → ⊥

-- ---- shops whose sites' histories are interleaved in any way

-- something happens to the files of a site; its power fails, and these files are left; what it kept is shortened to these lines, and `out`
-- is empty then; it keeps more messages from now on; or its process reads a record, or is killed and started again
pub data FolderStep : Type 0 where
  Happens : (site : ℕ) (event : FolderEvent) → FolderStep
  Fails : (site : ℕ) (files : Files) → FolderStep
  Shortens : (site : ℕ) (short : List ℕ) → FolderStep
  Raises : (site : ℕ) (keep : ℕ) → FolderStep
  Does : (moment : Moment) → FolderStep

abbrev pub moments_in : List FolderStep → List Moment
moments_in [] = []
moments_in (Happens i e ∷ later) = moments_in later
moments_in (Fails i files ∷ later) = moments_in later
moments_in (Shortens i short ∷ later) = moments_in later
moments_in (Raises i keep ∷ later) = moments_in later
moments_in (Does m ∷ later) = m ∷ moments_in later

-- the files once what was kept is shortened
abbrev pub shortened_to : List ℕ → FileState
shortened_to short = from_disk (record { log = short; out = [] })

-- how the files of site i stand after one step
abbrev pub stand_after : ℕ → FileState → FolderStep → FileState
stand_after i s (Happens j e) = cond (j == i) (after_file_event s e) s
stand_after i s (Fails j files) = cond (j == i) (from_disk files) s
stand_after i s (Shortens j short) = cond (j == i) (shortened_to short) s
stand_after i s (Raises j keep) = s
stand_after i s (Does (Reads j fields)) = s
stand_after i s (Does (Restarts j)) = cond (j == i) (opened_again s) s
stand_after i s (Does (Replays j fields)) = s

abbrev pub is_placed_at : ℕ → FileState → List FolderStep → FileState
is_placed_at i s [] = s
is_placed_at i s (e ∷ later) = is_placed_at i (stand_after i s e) later

-- how many messages site i keeps after one step, and after some
abbrev pub keep_after : ℕ → ℕ → FolderStep → ℕ
keep_after i keep (Happens j e) = keep
keep_after i keep (Fails j files) = keep
keep_after i keep (Shortens j short) = keep
keep_after i keep (Raises j more) = cond (j == i) more keep
keep_after i keep (Does m) = keep

abbrev pub keeps : ℕ → ℕ → List FolderStep → ℕ
keeps i keep [] = keep
keeps i keep (e ∷ later) = keeps i (keep_after i keep e) later

-- these lines are kept as they are, and are what was kept without some records that change nothing: what `shorten` promises of what it
-- writes
pub record ShortensKept (p : Place) (kept short : List ℕ) : Type 0 where
  pub sound : HasSoundLines [] short
  pub without : LeavesOut true p (keyed_opening p.site) (records_in short) (records_in kept)

-- a site keeps more messages from now on: all that was kept is flushed and answered, and the answers are the beginning of those that it gives
-- when it keeps more
pub record RaisesKeep (p : Place) (s : FileState) (keep : ℕ) : Type 0 where
  pub more : p.keep ≤ keep
  pub most : keep ≤ KEEP_MAX
  pub flushed : s.flushed ≡ s.kept
  pub answered : IsAllAnswered (process_text p) s
  pub told : IsFrontOf s.out (process_text (keeping_at_most p keep) (records_in s.kept))

-- what may happen at a site: what its process does to its files, as `keep_site` promises; a power failure leaves what was flushed
abbrev pub MayHappen : Place → FileState → FolderStep → Type 0
MayHappen p s (Happens j e) = MatchBool (j == p.site) (MayFollow (process_words p) s e) ⊤
MayHappen p s (Fails j files) = MatchBool (j == p.site) (SurvivesIn s files) ⊤
MayHappen p s (Shortens j short) = MatchBool (j == p.site) (ShortensKept p s.kept short) ⊤
MayHappen p s (Raises j keep) = MatchBool (j == p.site) (RaisesKeep p s keep) ⊤
MayHappen p s (Does m) = ⊤

-- site i of a shop of `sites` sites, which keeps at most `keep` messages
abbrev pub site_keeping : ℕ → ℕ → ℕ → Place
site_keeping sites i keep = record { site = i; sites = sites; keep = keep }

-- the files of a site are safe at each step
abbrev pub IsHistory : ℕ → ℕ → ℕ → FileState → List FolderStep → Type 0
IsHistory sites i keep s [] = IsSafe (process_text (site_keeping sites i keep)) s
IsHistory sites i keep s (e ∷ later) = IsSafe (process_text (site_keeping sites i keep)) s × MayHappen (site_keeping sites i keep) s e
    × IsHistory sites i (keep_after i keep e) (stand_after i s e) later

-- how many of the records that site i has kept and takes were answered after these steps, if `n` of them were before
abbrev pub answered_on : ℕ → ℕ → ℕ → ℕ → List FolderStep → ℕ
answered_on sites i keep n [] = n
answered_on sites i keep n (Happens j e ∷ later) = answered_on sites i keep n later
answered_on sites i keep n (Fails j files ∷ later) = answered_on sites i keep n later
answered_on sites i keep n (Shortens j short ∷ later) =
    answered_on sites i keep (cond (j == i) (length (taken_in (site_keeping sites i keep) short)) n) later
answered_on sites i keep n (Raises j more ∷ later) = answered_on sites i (cond (j == i) more keep) n later
answered_on sites i keep n (Does (Reads j fields) ∷ later) = answered_on sites i keep (cond (j == i) (n + 1) n) later
answered_on sites i keep n (Does (Restarts j) ∷ later) = answered_on sites i keep n later
answered_on sites i keep n (Does (Replays j fields) ∷ later) = answered_on sites i keep n later

-- what a site has kept and takes after these steps, if it kept at most `keep` messages before them; and how many of these records were answered
abbrev pub kept_takes : ℕ → ℕ → ℕ → FileState → List FolderStep → List (List (List ℕ))
kept_takes sites i keep s steps = taken_in (site_keeping sites i (keeps i keep steps)) (is_placed_at i s steps).flushed

-- how many of the records that a site takes were answered after these steps
abbrev pub answered_by : ℕ → ℕ → ℕ → List FolderStep → ℕ
answered_by sites i keep steps = answered_on sites i keep 0 steps

-- each site's files have such a history. A process reads the records that its site has kept and flushed, from the first one on, without their
-- keys; those that it refuses as full, or answers by what it knows under a key, are no moments. It reads anew, and not again, where it has read all
-- of them that were answered before. What was kept is shortened once all of it is answered
pub record AreHistories (sites : ℕ) (keep : ℕ → ℕ) (start : ℕ → FileState) (steps : List FolderStep) : Type 0 where
  pub safe : (i : ℕ) → IsHistory sites i (keep i) (start i) steps
  pub ahead : (i : ℕ) (before later : List FolderStep) → steps ≡ before ++ later
      → IsPrefix (has_read i (moments_in before)) (kept_takes sites i (keep i) (start i) before)
  pub anew : (i : ℕ) (fields : List (List ℕ)) (before later : List FolderStep) → steps ≡ before ++ Does (Reads i fields) ∷ later
      → length (has_read i (moments_in before)) ≡ answered_by sites i (keep i) before
  pub again : (i : ℕ) (fields : List (List ℕ)) (before later : List FolderStep) → steps ≡ before ++ Does (Replays i fields) ∷ later
      → length (has_read i (moments_in before)) < answered_by sites i (keep i) before
  pub answered : (i : ℕ) (short : List ℕ) (before later : List FolderStep) → steps ≡ before ++ Shortens i short ∷ later
      → answered_by sites i (keep i) before
      ≡ length (taken_in (site_keeping sites i (keeps i (keep i) before)) (is_placed_at i (start i) before).kept)

-- sites that keep as many messages as a site can. What a site refuses as full is no moment, so all sites are such ones in what follows
abbrev pub most_kept : ℕ → ℕ
most_kept i = KEEP_MAX

-- so they are processes that never stop, which are a run of the model, if each packet that one reads was sent before by one of them
abbrev pub HistoriesAreRuns : Type 0
HistoriesAreRuns = (sites : ℕ) (keep : ℕ → ℕ) (start : ℕ → FileState) (steps : List FolderStep) → 1 ≤ sites → sites ≤ COUNTED_MAX
    → ((i : ℕ) → keep i ≤ KEEP_MAX)
    → AreHistories sites keep start steps → CarriedWithRestarts sites most_kept (moments_in steps)
    → NeverStopped sites most_kept (moments_in steps) × IsSomeRun sites most_kept (moments_in steps) × AreAgreed sites most_kept (moments_in steps)

-- ---- the lives of sites, each as `keep_site` promises it, which end anywhere and are interleaved in any way

-- a process ends: it is killed, or ends by itself; or the power fails, and these files are left; or it ends and what was kept is
-- shortened to these lines, or the site keeps more messages from then on
pub data End : Type 0 where
  Stops : End
  PowerFails : (files : Files) → End
  IsRewritten : (short : List ℕ) → End
  IsRaised : (keep : ℕ) → End

-- what a process did to the files of its site, and how it ended
pub record SiteLife : Type 0 where
  pub events : List FolderEvent
  pub end : End

-- a power failure leaves what was flushed
abbrev pub MayEnd : Place → FileState → End → Type 0
MayEnd p s Stops = ⊤
MayEnd p s (PowerFails files) = SurvivesIn s files
MayEnd p s (IsRewritten short) = ShortensKept p s.kept short
MayEnd p s (IsRaised keep) = RaisesKeep p s keep

-- the files as the next process finds them
abbrev pub left_by : FileState → End → FileState
left_by s Stops = opened_again s
left_by s (PowerFails files) = from_disk files
left_by s (IsRewritten short) = shortened_to short
left_by s (IsRaised keep) = opened_again s

-- how many messages the site keeps then
abbrev pub next_keep : ℕ → End → ℕ
next_keep keep Stops = keep
next_keep keep (PowerFails files) = keep
next_keep keep (IsRewritten short) = keep
next_keep keep (IsRaised more) = more

-- what `keep_site` promises of a process that does this to the files, and then `later`, if it isn't killed before: if it can begin with
-- them, it keeps them safe at each moment
abbrev pub IsLife : Says → FileState → List FolderEvent → Type 0
IsLife says s events = (later : List FolderEvent) × (IsAtStart says.text s → AreSafe says s (events ++ later))

-- lives of one site, each over what the one before has left; the last one goes on
abbrev pub AreLives : ℕ → ℕ → ℕ → FileState → List SiteLife → List FolderEvent → Type 0
AreLives sites i keep s [] running = IsLife (process_words (site_keeping sites i keep)) s running
AreLives sites i keep s (life ∷ lives) running =
    IsLife (process_words (site_keeping sites i keep)) s life.events × MayEnd (site_keeping sites i keep) (after_file_events s life.events) life.end
    × AreLives sites i (next_keep keep life.end) (left_by (after_file_events s life.events) life.end) lives running

-- ---- as steps of a shop

-- the end of a life of site i, as steps: the process of the next life is started after it
abbrev pub ending : ℕ → End → List FolderStep → List FolderStep
ending i Stops later = Does (Restarts i) ∷ later
ending i (PowerFails files) later = Fails i files ∷ Does (Restarts i) ∷ later
ending i (IsRewritten short) later = Does (Restarts i) ∷ Shortens i short ∷ later
ending i (IsRaised keep) later = Does (Restarts i) ∷ Raises i keep ∷ later

abbrev pub happening : ℕ → List FolderEvent → List FolderStep → List FolderStep
happening i [] later = later
happening i (e ∷ events) later = Happens i e ∷ happening i events later

-- the lives of one site, one after the other, as steps of a shop; the last one is still running
abbrev pub steps_of : ℕ → List SiteLife → List FolderEvent → List FolderStep
steps_of i [] running = happening i running []
steps_of i (life ∷ lives) running = happening i life.events (ending i life.end (steps_of i lives running))

-- those of the steps that the files of site i have a part in
abbrev pub own_steps : ℕ → List FolderStep → List FolderStep
own_steps i [] = []
own_steps i (Happens j e ∷ later) = cond (j == i) (Happens j e ∷ own_steps i later) (own_steps i later)
own_steps i (Fails j files ∷ later) = cond (j == i) (Fails j files ∷ own_steps i later) (own_steps i later)
own_steps i (Shortens j short ∷ later) = cond (j == i) (Shortens j short ∷ own_steps i later) (own_steps i later)
own_steps i (Raises j keep ∷ later) = cond (j == i) (Raises j keep ∷ own_steps i later) (own_steps i later)
own_steps i (Does (Reads j fields) ∷ later) = own_steps i later
own_steps i (Does (Restarts j) ∷ later) = cond (j == i) (Does (Restarts j) ∷ own_steps i later) (own_steps i later)
own_steps i (Does (Replays j fields) ∷ later) = own_steps i later

-- lives of a site keep its files safe at each step, whatever happens at other sites in between
abbrev pub LivesAreHistories : Type 0
LivesAreHistories = (sites i keep : ℕ) (s : FileState) (lives : List SiteLife) (running : List FolderEvent) (steps : List FolderStep)
    → IsAtStart (process_text (site_keeping sites i keep)) s → AreLives sites i keep s lives running → own_steps i steps ≡ steps_of i lives running
    → IsHistory sites i keep s steps

-- sites whose lives are interleaved so. A process reads the records that its site has kept and flushed, from the first one on, without their
-- keys; those that it refuses as full, or answers by what it knows under a key, are no moments. It reads anew, and not again, where it has read all
-- of them that were answered before. What was kept is shortened once all of it is answered
pub record AreShopLives (sites : ℕ) (keep : ℕ → ℕ) (start : ℕ → FileState) (lives : ℕ → List SiteLife) (running : ℕ → List FolderEvent)
    (steps : List FolderStep) : Type 0 where
  pub opened : (i : ℕ) → IsAtStart (process_text (site_keeping sites i (keep i))) (start i)
  pub lived : (i : ℕ) → AreLives sites i (keep i) (start i) (lives i) (running i)
  pub own : (i : ℕ) → own_steps i steps ≡ steps_of i (lives i) (running i)
  pub ahead : (i : ℕ) (before later : List FolderStep) → steps ≡ before ++ later
      → IsPrefix (has_read i (moments_in before)) (kept_takes sites i (keep i) (start i) before)
  pub anew : (i : ℕ) (fields : List (List ℕ)) (before later : List FolderStep) → steps ≡ before ++ Does (Reads i fields) ∷ later
      → length (has_read i (moments_in before)) ≡ answered_by sites i (keep i) before
  pub again : (i : ℕ) (fields : List (List ℕ)) (before later : List FolderStep) → steps ≡ before ++ Does (Replays i fields) ∷ later
      → length (has_read i (moments_in before)) < answered_by sites i (keep i) before
  pub answered : (i : ℕ) (short : List ℕ) (before later : List FolderStep) → steps ≡ before ++ Shortens i short ∷ later
      → answered_by sites i (keep i) before
      ≡ length (taken_in (site_keeping sites i (keeps i (keep i) before)) (is_placed_at i (start i) before).kept)

-- so they are processes that never stop, which are a run of the model, if each packet that one reads was sent before by one of them
abbrev pub ShopLivesAreRuns : Type 0
ShopLivesAreRuns = (sites : ℕ) (keep : ℕ → ℕ) (start : ℕ → FileState) (lives : ℕ → List SiteLife) (running : ℕ → List FolderEvent) (steps : List FolderStep)
    → 1 ≤ sites → sites ≤ COUNTED_MAX → ((i : ℕ) → keep i ≤ KEEP_MAX)
    → AreShopLives sites keep start lives running steps → CarriedWithRestarts sites most_kept (moments_in steps)
    → NeverStopped sites most_kept (moments_in steps) × IsSomeRun sites most_kept (moments_in steps) × AreAgreed sites most_kept (moments_in steps)
