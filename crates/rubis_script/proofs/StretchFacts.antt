-- A run whose text is read by helpers, and how it goes on by records that were read ahead.
use Rattle.rubis_script.proofs.Common.{◌≡◌, ◌∙◌, ◌+◌, ◌-◌, ◌++◌, ℕ, List, Option, ap, drop, subst, sym, take, ◌∷◌, zero, suc, [], All, append-nil}
use Rattle.rubis_script.proofs.Common.{arith, length, length-append, refl, Err, None, Ok, Result, Some, site_after, after_all, Count, RunFault}
use Rattle.rubis_script.proofs.Common.{held_text, AreOf, AreInputs, FitsWindow, all_came, flat, of_stretch, Chunks, are_outlets, Message, sites_of}
use Rattle.rubis_script.proofs.Common.{FitsIn, Input, Came, Msg, answers, input_records, rows_text, came-length}
use Rattle.std.specs.Prelude.{IfNone, IfOk, OnOk}
use Rattle.rubis_engine.specs.Seam.{Lefts, OfEach}
use Rattle.rubis_reading.specs.Chunked.{IsChunk}
use Rattle.rubis_reading.specs.Readings.{AreRead, KeepFor, TakesPiece, FitWindow}
use Rattle.rubis_reading.specs.declared.pieces.Pieces.{Pieces}
use Rattle.rubis_reading.specs.declared.pieces.ReadPiece.{ReadPiece}
use Rattle.rubis_reading.specs.declared.stretches.Stretch.{Stretch}
use Rattle.rubis_serving.specs.Serving.{At, Finishes, Turns, Goes, Tears}
use Rattle.rubis_serving.proofs.GoFacts.{goes-kept, goes-as, goes-more, goes-none, goes-one, goes-tears, tears-as, tears-none, tears-sooner}
use Rattle.rubis_serving.proofs.ServedFacts.{moves-kept, turns-on}
use Rattle.rubis_message.specs.Inputs.{IsInput}
use Rattle.rubis_reading.proofs.PieceFacts.{all-fit}
use Rattle.rubis_serving.specs.Outlets.{IsOutlet, writes, writes_front}
use Rattle.rubis_script.specs.Desks.{KeepsAllButTables, KeepsSetup, left_at, setup_of, TakesHeld, WritesNext, WritesPrefixFrom}
use Rattle.rubis_script.specs.Runs.{by_desk, AreHeld, BreaksAhead, GoesAhead, IsSound}
use Rattle.rubis_script.specs.Windows.{made_of_held, window_rows}
use Rattle.rubis_script.specs.declared.desk.Desk.{Desk}
use Rattle.rubis_script.proofs.DeskFacts.{leads-on, leads-settled}
use Rattle.rubis_script.proofs.WindowFacts.{leads_all, rows_all}

pub kept-more : (old mid new : Pieces) → KeepFor old mid → KeepFor mid new → KeepFor old new
kept-more old mid new one two = (two.0 ∙ one.0, two.1 ∙ one.1, two.2 ∙ one.2)

-- the desk is set up as it was
pub held-on : {R T : Type 0} (chunks chunks2 : Chunks R) (d d2 : Desk T) (old new : Pieces) → AreHeld chunks d old → KeepFor old new → KeepsSetup d d2
    → AreOf (held_text chunks2) new → AreHeld chunks2 d2 new
held-on chunks chunks2 d d2 old new held keeps setup pieces =
    record {
      pieces = pieces;
      sites = keeps.1 ∙ held.sites ∙ sym (ap (λ p. p.sites) setup.0);
      window = keeps.2 ∙ held.window ∙ sym (ap (λ p. p.window) setup.1);
    }

-- what was read is read as for this desk
pub read-held : {R T : Type 0} (chunks : Chunks R) (d : Desk T) (old new : Pieces) (text : List ℕ) (list : List Stretch) → AreHeld chunks d old
    → KeepFor old new → AreRead new.sites new.window text list → AreRead d.site.place.sites d.plan.window text list
read-held chunks d old new text list held keeps is =
    subst (λ k. AreRead k d.plan.window text list) (keeps.1 ∙ held.sites)
    (subst (λ k. AreRead new.sites k text list) (keeps.2 ∙ held.window) is)

pub read-on : {T : Type 0} (d d2 : Desk T) (text : List ℕ) (list : List Stretch) → KeepsSetup d d2
    → AreRead d.site.place.sites d.plan.window text list → AreRead d2.site.place.sites d2.plan.window text list
read-on d d2 text list setup is =
    subst (λ p. AreRead p.sites d2.plan.window text list) (sym setup.0) (subst (λ q. AreRead d.site.place.sites q.window text list) (sym setup.1) is)

-- a piece was taken off
pub takes-one : (text : List ℕ) (o : Option ReadPiece) (p : ReadPiece) (s : Pieces) → TakesPiece text o s → o ≡ Some p
    → IsChunk p.many text × AreRead s.sites s.window (take p.many text) p.list.items × AreOf (drop (p.many - 1) text) s
takes-one text o p s h is = subst (λ x. TakesPiece text x s) is h

-- there was none
pub takes-none : (text : List ℕ) (o : Option ReadPiece) (s : Pieces) → TakesPiece text o s → o ≡ None → (other : List ℕ) → AreOf other s
takes-none text o s h is = subst (λ x. TakesPiece text x s) is h

-- what holds whether the run goes on or not
pub if-on : (P : Type 0) (r : Result (Option Count) RunFault) → P → IfOk r (λ over. IfNone over P)
if-on P (Ok None) so = so
if-on P (Ok (Some count)) so = tt
if-on P (Err e) so = tt

pub held-after : {Q : Type 0} (P : Type 0) (r : Result (Option Count) RunFault) → (Q → P) → OnOk r Q → IfOk r (λ over. IfNone over P)
held-after P (Ok None) so h = so h
held-after P (Ok (Some count)) so h = tt
held-after P (Err e) so h = tt

-- a desk that is set up as it was
pub as-setup : {T : Type 0} (d d2 : Desk T) → setup_of d2 ≡ setup_of d → KeepsSetup d d2
as-setup d d2 same = (ap (λ p. p.0) same, ap (λ p. p.1) same)

-- what it leaves, as it is named otherwise
pub ends-at : {R T W : Type 0} (contents : W → Option (List ℕ)) (limit : ℕ) (rem : R → Option (List ℕ)) (chunks c1 c2 : Chunks R) (x y1 y2 : At (Desk T) W)
    (result : Result Count RunFault) → c1 ≡ c2 → y1 ≡ y2
    → OfEach rem chunks.reader c1.reader (λ left. Finishes (by_desk contents) limit left chunks x c1 y1 result)
    → OfEach rem chunks.reader c2.reader (λ left. Finishes (by_desk contents) limit left chunks x c2 y2 result)
ends-at contents limit rem chunks c1 c2 x y1 y2 result c_is y_is h =
    subst (λ y. OfEach rem chunks.reader c2.reader (λ left. Finishes (by_desk contents) limit left chunks x c2 y result)) y_is
    (subst (λ c. OfEach rem chunks.reader c.reader (λ left. Finishes (by_desk contents) limit left chunks x c y1 result)) c_is h)

-- messages are folded, and the run goes on from there
pub folded-turns : {R T W : Type 0} (contents : W → Option (List ℕ)) (limit : ℕ) (rem : Lefts R) (chunks chunks2 : Chunks R) (x : At (Desk T) W)
    (d2 : Desk T) (y : At (Desk T) W) (result : Result (Option Count) RunFault) → KeepsAllButTables x.service d2
    → Turns (by_desk contents) limit rem chunks (record x { service = d2 }) chunks2 y result → Turns (by_desk contents) limit rem chunks x chunks2 y result
folded-turns contents limit rem chunks chunks2 x d2 y result f h =
    let d = x.service in
    let place = f.setup.0 in
    let state = f.state in
    let (held, number) = f.held in
    let n = x.answered + 1 in
    let same : left_at d n ≡ left_at d2 n = λ i. made_of_held (record { place = sym place i; state = sym state i; progress = d.site.progress; batch = d.site.batch })
    (sym held i) (sym number i) n in
    turns-on (are_outlets contents) limit chunks2 y result
    (moves-kept (λ rows h. h) (λ input h. h) (goes-kept (are_outlets contents) d2 x.sink
    (λ more. (λ ending. ap (λ a. x.sink ++ a.text ending more) same, ap (λ a. a.read more) same))
    (λ k more last (none, at, is). (none, at ∙ place, is ∙ (λ i. site_after (place i) (after_all (place i) (state i) (held i)) k more))))) h

-- ---- how a run goes on by records that were read ahead

-- ---- records and what they were read as

first_read : (sites : ℕ) (rows : List (List (List ℕ))) (p : Input) (left : List Input) → AreInputs sites rows (p ∷ left)
    → (fields : List (List ℕ)) × (more : List (List (List ℕ))) × (rows ≡ fields ∷ more) × IsInput sites fields p × AreInputs sites more left
unfolding AreInputs
first_read sites [] p left h = absurd h
first_read sites (fields ∷ more) p left h = (fields, more, refl, h.0, h.1)

split_read : (sites : ℕ) (rows : List (List (List ℕ))) (ps left : List Input) → AreInputs sites rows (ps ++ left)
    → (front back : List (List (List ℕ))) × (rows ≡ front ++ back) × AreInputs sites front ps × AreInputs sites back left
unfolding AreInputs
split_read sites rows [] left h = ([], rows, refl, tt, h)
split_read sites [] (p ∷ ps) left h = absurd h
split_read sites (fields ∷ rows) (p ∷ ps) left h =
    let (front, back, parts, one, two) = split_read sites rows ps left h.1 in
    (fields ∷ front, back, ap (λ r. fields ∷ r) parts, (h.0, one), two)

none_read : (sites : ℕ) (rows : List (List (List ℕ))) → AreInputs sites rows [] → rows ≡ []
unfolding AreInputs
none_read sites [] h = refl
none_read sites (fields ∷ rows) h = absurd h

length_read : (sites : ℕ) (rows : List (List (List ℕ))) (ps : List Input) → AreInputs sites rows ps → length rows ≡ length ps
unfolding AreInputs
length_read sites [] [] h = refl
length_read sites [] (p ∷ ps) h = absurd h
length_read sites (r ∷ rows) [] h = absurd h
length_read sites (r ∷ rows) (p ∷ ps) h = ap suc (length_read sites rows ps h.1)

pub all-sites : (sites : ℕ) (ms : List Message) → All (λ p. FitsIn sites p) (all_came ms) → All (λ m. sites_of m ≡ sites) ms
all-sites sites [] h k d lt = absurd (omega (arith, lt))
all-sites sites (m ∷ ms) h zero d lt = (h zero (Came (Msg d)) (omega arith)).1
all-sites sites (m ∷ ms) h (suc k) d lt = all-sites sites ms (λ j e l. h (suc j) e (omega (arith, l))) k d (omega (arith, lt))

all-front : (sites : ℕ) (xs ys : List Input) → All (λ p. FitsIn sites p) (xs ++ ys) → All (λ p. FitsIn sites p) xs
all-front sites [] ys h k d lt = absurd (omega (arith, lt))
all-front sites (x ∷ xs) ys h zero d lt = h zero d (omega arith)
all-front sites (x ∷ xs) ys h (suc k) d lt = all-front sites xs ys (λ j e l. h (suc j) e (omega (arith, l))) k d (omega (arith, lt))

all-back : (sites : ℕ) (xs ys : List Input) → All (λ p. FitsIn sites p) (xs ++ ys) → All (λ p. FitsIn sites p) ys
all-back sites [] ys h = h
all-back sites (x ∷ xs) ys h = all-back sites xs ys (λ j e l. h (suc j) e (omega (arith, l)))

-- ---- what the desk is set up as

pub setup-on : {T : Type 0} (a b c : Desk T) → KeepsSetup a b → KeepsSetup b c → KeepsSetup a c
setup-on a b c one two = (two.0 ∙ one.0, two.1 ∙ one.1)

pub sound-kept : {T : Type 0} (d d2 : Desk T) (ahead : List Stretch) → KeepsSetup d d2 → IsSound d ahead → IsSound d2 ahead
sound-kept d d2 ahead (place, plan) h = record {
  fits = subst (λ p. All (λ x. FitsIn p.sites x) (flat ahead)) (sym place) h.fits;
  windows = subst (λ p. FitWindow p.window ahead) (sym plan) h.windows;
}

-- the next stretch, and those after it
pub sound-front : {T : Type 0} (d : Desk T) (ahead left : List Stretch) (stretch : Stretch) → ahead ≡ stretch ∷ left → IsSound d ahead
    → All (λ p. FitsIn d.site.place.sites p) (of_stretch stretch) × FitsWindow d.plan.window stretch × IsSound d left
sound-front d ahead left stretch parts h =
    let fits = subst (λ l. All (λ p. FitsIn d.site.place.sites p) (flat l)) parts h.fits in
    let windows = subst (λ l. FitWindow d.plan.window l) parts h.windows in (
      all-front d.site.place.sites (of_stretch stretch) (flat left) fits,
      windows.0,
      record { fits = all-back d.site.place.sites (of_stretch stretch) (flat left) fits; windows = windows.1 },
    )

-- what was read is of this desk's system
pub sound-read : {T : Type 0} (d : Desk T) (ahead list : List Stretch) (text : List ℕ) → ahead ≡ list → AreRead d.site.place.sites d.plan.window text list
    → IsSound d ahead × AreInputs d.site.place.sites (input_records text) (flat ahead)
sound-read d ahead list text is (parsed, fits) =
    let read = subst (λ l. AreInputs d.site.place.sites (input_records text) (flat l)) (sym is) parsed in (
      record {
        fits = all-fit d.site.place.sites (input_records text) (flat ahead) read;
        windows = subst (λ l. FitWindow d.plan.window l) (sym is) fits;
      },
      read,
    )

-- ---- records that are answered

laws : {W : Type 0} (contents : W → Option (List ℕ)) → IsOutlet (writes contents) (writes_front contents)
laws contents = are_outlets contents

pub ahead-none : {T W : Type 0} (contents : W → Option (List ℕ)) (x : At (Desk T) W) → GoesAhead contents [] x x
ahead-none contents x rows inputs = goes-as (sym (none_read x.service.site.place.sites rows inputs)) (goes-none (laws contents) x)

pub ahead-more : {T W : Type 0} (contents : W → Option (List ℕ)) (ps qs : List Input) {x y z : At (Desk T) W} → KeepsSetup x.service y.service
    → GoesAhead contents ps x y → GoesAhead contents qs y z → GoesAhead contents (ps ++ qs) x z
ahead-more contents ps qs {x} {y} setup f g rows inputs =
    let (front, back, parts, one, two) = split_read x.service.site.place.sites rows ps qs inputs in
    goes-as (sym parts) (goes-more (laws contents) (f front one) (g back (subst (λ p. AreInputs p.sites back qs) (sym setup.0) two)))

-- what waited was put
pub ahead-put : {T W : Type 0} (contents : W → Option (List ℕ)) (ps : List Input) {x y z : At (Desk T) W} → GoesAhead contents ps x y
    → Goes (by_desk contents) [] y z → GoesAhead contents ps x z
ahead-put contents ps f g rows inputs = goes-as (append-nil rows) (goes-more (laws contents) (f rows inputs) g)

pub breaks-put : {T W : Type 0} (contents : W → Option (List ℕ)) (ps : List Input) {x y : At (Desk T) W} {after : W} → GoesAhead contents ps x y
    → Tears (by_desk contents) [] y after → BreaksAhead contents ps x after
breaks-put contents ps {after = after} f g rows inputs = tears-as (append-nil rows) (goes-tears (laws contents) after (f rows inputs) g)

-- of those that came first the writer failed, or of those that come later
pub breaks-sooner : {T W : Type 0} (contents : W → Option (List ℕ)) (ps qs : List Input) {x : At (Desk T) W} {after : W} → BreaksAhead contents ps x after
    → BreaksAhead contents (ps ++ qs) x after
breaks-sooner contents ps qs {x} f rows inputs =
    let (front, back, parts, one, two) = split_read x.service.site.place.sites rows ps qs inputs in
    tears-as (sym parts) (tears-sooner front (f front one) back)

pub breaks-later : {T W : Type 0} (contents : W → Option (List ℕ)) (ps qs : List Input) {x y : At (Desk T) W} (after : W) → KeepsSetup x.service y.service
    → GoesAhead contents ps x y → BreaksAhead contents qs y after → BreaksAhead contents (ps ++ qs) x after
breaks-later contents ps qs {x} after setup f g rows inputs =
    let (front, back, parts, one, two) = split_read x.service.site.place.sites rows ps qs inputs in
    tears-as (sym parts) (goes-tears (laws contents) after (f front one) (g back (subst (λ p. AreInputs p.sites back qs) (sym setup.0) two)))

-- nothing was written
pub breaks-none : {T W : Type 0} (contents : W → Option (List ℕ)) (ps : List Input) (x : At (Desk T) W) → BreaksAhead contents ps x x.outlet
breaks-none contents ps x rows inputs = tears-none (laws contents) rows x

-- ---- one record

pub goes-next : {T W : Type 0} (contents : W → Option (List ℕ)) (x : At (Desk T) W) (d2 : Desk T) (sink2 : List ℕ) (after : W) (p : Input)
    → WritesNext p (x.answered + 1) x.service d2 x.sink sink2 (contents x.outlet) (contents after)
    → GoesAhead contents (p ∷ []) x (record { service = d2; outlet = after; sink = sink2; answered = x.answered + 1 })
goes-next contents x d2 sink2 after p next rows inputs =
    let sites = x.service.site.place.sites in
    let (fields, more, parts, one, others) = first_read sites rows p [] inputs in
    let wrote = next.text fields one.means in
    goes-as (sym (parts ∙ ap (λ r. fields ∷ r) (none_read sites more others)))
    (goes-one (laws contents) d2 sink2 after fields (record { out = wrote.out; put = wrote.appended; answers = wrote.answers })
    (leads-on x.service d2 (x.answered + 1) fields p one.means next.leads))

pub breaks-next : {T W : Type 0} (contents : W → Option (List ℕ)) (x : At (Desk T) W) (after : W) (p : Input)
    → WritesPrefixFrom p (x.answered + 1) x.service x.sink (contents x.outlet) (contents after) → BreaksAhead contents (p ∷ []) x after
breaks-next contents x after p breaks rows inputs =
    let sites = x.service.site.place.sites in
    let (fields, more, parts, one, others) = first_read sites rows p [] inputs in
    tears-as (sym (parts ∙ ap (λ r. fields ∷ r) (none_read sites more others))) (record { torn = breaks fields one.means })

-- ---- messages that came together: those that were held are taken in, and these are held

pub goes-messages : {T W : Type 0} (contents : W → Option (List ℕ)) (x : At (Desk T) W) (mid d2 : Desk T) (sink2 : List ℕ) (count : ℕ) (ms : List Message)
    → KeepsSetup x.service mid → TakesHeld x.service mid x.sink sink2 → mid.window.items ≡ [] → d2.site.place ≡ mid.site.place
    → d2.site.state ≡ mid.site.state → d2.window.items ≡ ms → d2.first ≡ x.answered + 1 → count ≡ x.answered + length ms
    → GoesAhead contents (all_came ms) x (record { service = d2; outlet = x.outlet; sink = sink2; answered = count })
goes-messages contents x mid d2 sink2 count ms setup held none place state items number many rows inputs =
    let p = mid.site.place in
    let s = mid.site.state in
    let n = x.answered + 1 in
    let k = count + 1 in
    let here : AreInputs p.sites rows (all_came ms) = subst (λ q. AreInputs q.sites rows (all_came ms)) (sym setup.0) inputs in
    let long : length rows ≡ length ms = length_read p.sites rows (all_came ms) here ∙ came-length ms in
    let text : (more : List (List (List ℕ))) → window_rows p s mid.first mid.window.items ++ answers p (after_all p s mid.window.items) n (rows ++ more)
    ≡ window_rows d2.site.place d2.site.state d2.first d2.window.items ++ answers d2.site.place (after_all d2.site.place d2.site.state d2.window.items) k more =
    λ more. (λ i. window_rows p s mid.first (none i) ++ answers p (after_all p s (none i)) n (rows ++ more))
    ∙ rows_all p s n n k [] ms rows more (omega arith) (omega (arith, many, long)) here
    ∙ (λ i. window_rows (sym place i) (sym state i) (sym number i) (sym items i)
    ++ answers (sym place i) (after_all (sym place i) (sym state i) (sym items i)) k more) in
    let led : (more : List (List (List ℕ))) → site_after d2.site.place (after_all d2.site.place d2.site.state d2.window.items) k more
    ≡ site_after p (after_all p s mid.window.items) n (rows ++ more) =
    λ more. (λ i. site_after (place i) (after_all (place i) (state i) (items i)) k more)
    ∙ sym (leads_all p s n k [] ms rows more (omega (arith, many, long)) here)
    ∙ (λ i. site_after p (after_all p s (sym none i)) n (rows ++ more)) in
    goes-more (laws contents) (goes-kept (laws contents) mid sink2 (held.text n) (leads-settled x.service mid held.leads)) (record {
      text = [];
      put = (laws contents).none x.outlet;
      told = λ ending more. ap (λ r. sink2 ++ rows_text r) (text more);
      count = omega (arith, many, long);
      read = λ more. length-append rows more;
      led = λ more last (none, at, is). (none, at ∙ place, is ∙ led more);
    })
