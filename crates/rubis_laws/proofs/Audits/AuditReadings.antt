-- The records of an audit are read back, and what an entry's content says.
use Rattle.rubis_laws.proofs.Common.{◌≡◌, ◌≤◌, List, [], ◌∷◌, true, false, refl, sym, ap, ◌∙◌, subst, Option, Some, None, ◌&&◌, not, option_map, is_some}
use Rattle.rubis_laws.proofs.Common.{IfSome, IsSome, All, list_any, All-cons, All-head, All-nil, All-weaker, true≢false, and_from, and_parts, le-leb, leb-true}
use Rattle.rubis_laws.proofs.Common.{not-false, not_from_true, or_from, or_parts, Decides-same_id, same_id, Id, RowKey, refers_of, winner_key, Shadow, Close}
use Rattle.rubis_laws.proofs.Common.{Message, dep, Fits, StandsIn, nick_taken, stock_short, wrong_category, wrong_winner, Core, core, cores, as_bid, as_item}
use Rattle.rubis_laws.proofs.Common.{as_user, at_id, best_bid, bids_on, higher, Precedes, HasBidOnItem, IsMadeBy, Preceded, RefersToPast, Has, comes_before}
use Rattle.rubis_laws.proofs.Common.{makes_row, is_known, ℕ, ◌+◌, ◌<◌, ◌^◌, ◌++◌, Bool, cond, inl, inr, ⊎_elim, arith, append_assoc, append-nil, ◌⊎◌, ◌≢◌}
use Rattle.rubis_laws.proofs.Common.{bytes_eq, codes, map, option_and_then, reverse, unwrap_or, Result, Ok, Err, bytes_decides, flat_map, option_or, map-append}
use Rattle.rubis_laws.proofs.Common.{reverse-append, reverse-reverse, COUNTED_MAX, followed_by, no_more, take_site, whole, packet_of, Packet, packet_is, Line}
use Rattle.rubis_laws.proofs.Common.{IsLine, line_of, line_record, logs_after, with_line, Begin, Next, Claim, Log, has_back, push_cases}
use Rattle.std.proofs.lemmas.List.Elements.{All-tail}
use Rattle.rubis_laws.proofs.Rows.Choices.{IsChoice, choose_is, higher_ranks}
use Rattle.rubis_laws.proofs.Rows.Cores.{core_of, has_core}
use Rattle.rubis_laws.proofs.Order.FitsByKind.{by_kind, stands_at}
use Rattle.rubis_laws.proofs.Audits.Tests.{any_has, has_any}
use Rattle.std.proofs.lemmas.List.Concat.{flat_map-append}
use Rattle.rubis_message.specs.Readings.{check, mapped}
use Rattle.rubis_message.specs.Grammar.{IsMessageAmong, message_record}
use Rattle.rubis_message.proofs.Forms.{IsForm, check_only, made_back, made_only, site_form, whole_back, whole_only}
use Rattle.rubis_model.specs.AuditRecords.{IsLogAmong, LinesAreReadAsWritten, LogsAreReadAsWritten, claim_of, log_records, next_of, take_begin}

-- a message makes the row at the key if and only if it passes the test
made : (k : RowKey) (u : Message) → makes_row k u ≡ true → IsMadeBy k u
made (RowKey.User i) u e = let s = and_parts (same_id i u.stamp.id) (is_some (as_user u.shadow)) e in ((Decides-same_id i u.stamp.id).0 s.0, s.1)
made (RowKey.Item i) u e = let s = and_parts (same_id i u.stamp.id) (is_some (as_item u.shadow)) e in ((Decides-same_id i u.stamp.id).0 s.0, s.1)
made (RowKey.Bid i) u e = let s = and_parts (same_id i u.stamp.id) (is_some (as_bid u.stamp.red u.shadow)) e in ((Decides-same_id i u.stamp.id).0 s.0, s.1)
made k u e = absurd (true≢false (sym e))

makes : (k : RowKey) (u : Message) → IsMadeBy k u → makes_row k u ≡ true
makes (RowKey.User i) u h = and_from (same_id i u.stamp.id) (is_some (as_user u.shadow)) ((Decides-same_id i u.stamp.id).1 h.0) h.1
makes (RowKey.Item i) u h = and_from (same_id i u.stamp.id) (is_some (as_item u.shadow)) ((Decides-same_id i u.stamp.id).1 h.0) h.1
makes (RowKey.Bid i) u h = and_from (same_id i u.stamp.id) (is_some (as_bid u.stamp.red u.shadow)) ((Decides-same_id i u.stamp.id).1 h.0) h.1
makes k u h = absurd h

-- the row at the key was made before v
abbrev MadeBefore : List Message → Message → RowKey → Type 0
MadeBefore own v k = Preceded (λ u. Has u own) v (IsMadeBy k)

-- ---- the tests of one shadow. They are of the log before v, and of x, the shadow of v
pub record Passes (own : List Message) (v : Message) (x : Shadow) : Type 0 where
  pub known : list_any (λ k. not (is_known own v k)) (refers_of x) ≡ false
  pub category : wrong_category (cores own) x ≡ false
  pub nick : nick_taken (cores own) x ≡ false
  pub stock : stock_short (cores own) x ≡ false
  pub winner : wrong_winner (cores own) x ≡ false

-- ---- what passes fits
module _ (own : List Message) (v : Message) where
  made_before : (k : RowKey) → not (is_known own v k) ≡ false → MadeBefore own v k
  made_before k e =
      let w = any_has (λ u. makes_row k u && comes_before u v) own (not-false (is_known own v k) e) in
      let t = and_parts (makes_row k w.0) (comes_before w.0 v) w.2 in
      (w.0, w.1, made k w.0 t.0, leb-true w.0.stamp.id.seq (dep v w.0.stamp.id.site) t.1)

  all_made : (ks : List RowKey) → list_any (λ k. not (is_known own v k)) ks ≡ false → All (MadeBefore own v) ks
  all_made [] e = All-nil (MadeBefore own v)
  all_made (k ∷ ks) e =
      let r = or_parts (not (is_known own v k)) (list_any (λ j. not (is_known own v j)) ks) e in
      All-cons (MadeBefore own v) k ks (made_before k r.0) (all_made ks r.1)

  stands : {X : Type 0} (f : Core → Option X) {i : Id} → Preceded (λ u. Has u own) v (λ m. (i ≡ m.stamp.id) × IsSome (f (core m))) →
      IsSome (at_id f i (cores own))
  stands f r = subst (λ j. IsSome (at_id f j (cores own))) (sym r.2.0) (stands_at f (cores own) (core r.0) (has_core r.0 own r.1) r.2.1)

  stands_in : (k : RowKey) → MadeBefore own v k → StandsIn (cores own) k
  stands_in (RowKey.User i) r = stands (λ c. as_user c.shadow) {i = i} r
  stands_in (RowKey.Item i) r = stands (λ c. as_item c.shadow) r
  stands_in (RowKey.Bid i) r = stands (λ c. as_bid c.red c.shadow) r
  stands_in k r = absurd r.2

  -- the winner is the highest bid, and precedes v
  bid : (j : Id) (o : Option Id) → o ≡ option_map (λ (m : Core). m.id) (best_bid j (cores own)) → All (MadeBefore own v) (winner_key o)
      → IfSome o (λ i. Preceded (λ u. Has u own) v (λ m. (i ≡ m.stamp.id) × (bids_on j m.shadow ≡ true)))
  bid j None e k = tt
  bid j (Some i) e k = at (best_bid j (cores own)) (choose_is higher_ranks (λ m. bids_on j m.shadow) (cores own)) e
    where
      before : (u : Message) → i ≡ u.stamp.id → Precedes u v
      before u s = let w = All-head (MadeBefore own v) (RowKey.Bid i) [] k in subst (λ (x : Id). x.seq ≤ dep v x.site) (sym w.2.0 ∙ s) w.3

      at : (b : Option Core) → IsChoice higher (λ m. bids_on j m.shadow) (cores own) b → Some i ≡ option_map (λ (m : Core). m.id) b
          → Preceded (λ u. Has u own) v (λ m. (i ≡ m.stamp.id) × (bids_on j m.shadow ≡ true))
      at None h e = absurd cc
      at (Some m) h e =
          let u = core_of m own h.there in
          let s : i ≡ m.id = cc in
          let q = s ∙ ap (λ (c : Core). c.id) (sym u.2) in
          (u.0, u.1, (q, ap (λ (c : Core). bids_on j c.shadow) u.2 ∙ h.passes), before u.0 q)

  bid_on_item : (x : Shadow) → Fits (cores own) x → All (MadeBefore own v) (refers_of x) → HasBidOnItem (λ u. Has u own) v x
  bid_on_item (Close c) f m = bid c.item c.winner (by_kind (cores own) (Close c) f).2 (All-tail (MadeBefore own v) (RowKey.Item c.item) (winner_key c.winner) m)
  bid_on_item x f m = tt

  pub fits : (x : Shadow) → Passes own v x → Fits (cores own) x × RefersToPast (λ u. Has u own) v x
  fits x p =
      let m = all_made (refers_of x) p.known in
      let f : Fits (cores own) x = record {
        known = All-weaker (MadeBefore own v) (StandsIn (cores own)) stands_in (refers_of x) m;
        category = p.category;
        nick = p.nick;
        stock = p.stock;
        winner = p.winner;
      } in
      (f, (m, bid_on_item x f m))

-- ---- what fits passes
module _ (own : List Message) (v : Message) where
  known : (k : RowKey) → MadeBefore own v k → not (is_known own v k) ≡ false
  known k r = not_from_true (is_known own v k) (has_any (λ u. makes_row k u && comes_before u v) own r.0 r.1
      (and_from (makes_row k r.0) (comes_before r.0 v) (makes k r.0 r.2) (le-leb r.0.stamp.id.seq (dep v r.0.stamp.id.site) r.3)))

  all_known : (ks : List RowKey) → All (MadeBefore own v) ks → list_any (λ k. not (is_known own v k)) ks ≡ false
  all_known [] h = refl
  all_known (k ∷ ks) h = or_from _ _ (known k (All-head (MadeBefore own v) k ks h)) (all_known ks (All-tail (MadeBefore own v) k ks h))

  pub passes : {x : Shadow} → Fits (cores own) x → RefersToPast (λ u. Has u own) v x → Passes own v x
  passes {x} f r = record { known = all_known (refers_of x) r.0; category = f.category; nick = f.nick; stock = f.stock; winner = f.winner }

-- ---- the records of an audit are read as the logs that they are written for, and as nothing else

-- ---- one record

-- `site` and its number
abbrev IsBegin : ℕ → Line → Type 0
IsBegin sites (Begin site) = site < sites
IsBegin sites line = ⊥

begin_back : {sites : ℕ} → sites < 2 ^ 8 → (x : Line) (rest : List (List ℕ)) → IsBegin sites x → take_begin sites (line_record x ++ rest) ≡ Some (x, rest)
unfolding take_begin
begin_back {sites} few (Begin site) rest h = made_back (site_form sites few) Begin site rest h
begin_back few (Next m) rest h = absurd h
begin_back few (Claim row) rest h = absurd h

begin_only : {sites : ℕ} → sites < 2 ^ 8 → (fields rest : List (List ℕ)) (x : Line) → take_begin sites fields ≡ Some (x, rest)
    → IsBegin sites x × (fields ≡ line_record x ++ rest)
unfolding take_begin
begin_only few [] rest x e = absurd cc
begin_only {sites} few (word ∷ more) rest x e =
    let c = check_only (bytes_eq word (codes "site")) more rest (mapped Begin (take_site sites)) x e in
    let w = (bytes_decides word (codes "site")).0 c.0 in
    made_only (site_form sites few) Begin (λ y behind. IsBegin sites y × (word ∷ more ≡ line_record y ++ behind)) more rest x c.1
    (λ site behind h is. (h, (λ i. w i ∷ is i)))

begin_form : {sites : ℕ} → sites < 2 ^ 8 → IsForm (IsBegin sites) line_record (take_begin sites)
begin_form {sites} few = record { back = begin_back few; only = begin_only few }

-- any record whose first field is `row`
claim_only : (fields : List (List ℕ)) {x : Line} → claim_of fields ≡ Some x → (rest : List (List ℕ)) × (fields ≡ codes "row" ∷ rest) × (x ≡ Claim fields)
claim_only [] e = absurd cc
claim_only (word ∷ rest) {x} e = at (bytes_eq word (codes "row")) refl e
  where
    at : (b : Bool) → bytes_eq word (codes "row") ≡ b → cond b (Some (Claim (word ∷ rest))) None ≡ Some x
        → (behind : List (List ℕ)) × (word ∷ rest ≡ codes "row" ∷ behind) × (x ≡ Claim (word ∷ rest))
    at false q e = absurd cc
    at true q e = (rest, (λ i. (bytes_decides word (codes "row")).0 q i ∷ rest), (let s : Claim (word ∷ rest) ≡ x = cc in sym s))

next_only : (o : Option Packet) {x : Line} → option_and_then next_of o ≡ Some x → (m : Message) × (o ≡ Some (Packet.Msg m)) × (x ≡ Next m)
next_only None e = absurd cc
next_only (Some (Packet.Msg m)) {x} e = (m, refl, (let s : Next m ≡ x = cc in sym s))
next_only (Some (Packet.Token t)) e = absurd cc

-- which of three it is
first_or : {X : Type 0} (o p : Option X) {x : X} → option_or o p ≡ Some x → (o ≡ Some x) ⊎ (p ≡ Some x)
first_or None p e = inr e
first_or (Some y) p e = inl e

few_sites : {sites : ℕ} → sites ≤ COUNTED_MAX → sites < 2 ^ 8
few_sites top = omega (arith, top)

pub line_only : (sites : ℕ) → sites ≤ COUNTED_MAX → (fields : List (List ℕ)) (x : Line) → line_of sites fields ≡ Some x
    → IsLine sites x × (fields ≡ line_record x)
line_only sites top fields x e = ⊎_elim begins (λ f. ⊎_elim claims says (first_or _ _ f)) (first_or _ _ e)
  where
    is_line : (y : Line) → IsBegin sites y → IsLine sites y
    is_line (Begin site) h = h
    is_line (Next m) h = absurd h
    is_line (Claim row) h = absurd h

    begins : whole (take_begin sites) fields ≡ Some x → IsLine sites x × (fields ≡ line_record x)
    begins f = let w = whole_only (begin_form (few_sites top)) fields x f in (is_line x w.0, w.1)

    claims : claim_of fields ≡ Some x → IsLine sites x × (fields ≡ line_record x)
    claims f = let w = claim_only fields f in subst (λ (y : Line). IsLine sites y × (fields ≡ line_record y)) (sym w.2) ((w.0, w.1), refl)

    says : option_and_then next_of (packet_of sites fields) ≡ Some x → IsLine sites x × (fields ≡ line_record x)
    says f =
        let w = next_only (packet_of sites fields) f in
        let p = (packet_is sites (few_sites top) top fields (Packet.Msg w.0)).0 w.1 in
        subst (λ (y : Line). IsLine sites y × (fields ≡ line_record y)) (sym w.2) p

-- what doesn't begin with `site` begins no log
no_begin : (sites : ℕ) (word : List ℕ) (more : List (List ℕ)) → bytes_eq word (codes "site") ≡ false → whole (take_begin sites) (word ∷ more) ≡ None
unfolding take_begin
no_begin sites word more e = ap (λ b. no_more (followed_by (check b more) (λ _. mapped Begin (take_site sites)))) e

line_back : {sites : ℕ} → sites ≤ COUNTED_MAX → (x : Line) → IsLine sites x → line_of sites (line_record x) ≡ Some x
line_back {sites} top (Begin site) h =
    ap (λ o. option_or o (option_or (claim_of (line_record (Begin site))) (option_and_then next_of (packet_of sites (line_record (Begin site))))))
    (whole_back (begin_form (few_sites top)) (line_record (Begin site)) (Begin site) h refl)
line_back {sites} top (Next m) h = ap
    (λ o. option_or o (option_or (claim_of (message_record m)) (option_and_then next_of (packet_of sites (message_record m)))))
    (no_begin sites (codes "msg") _ refl) ∙ ap (option_and_then next_of) ((packet_is sites (few_sites top) top (message_record m) (Packet.Msg m)).1 (h, refl))
line_back {sites} top (Claim row) h = subst (λ (r : List (List ℕ)). line_of sites r ≡ Some (Claim r)) (sym h.1) (
    ap (λ o. option_or o (option_or (claim_of (codes "row" ∷ h.0)) (option_and_then next_of (packet_of sites (codes "row" ∷ h.0)))))
    (no_begin sites (codes "row") h.0 refl)
    )

pub line_is : LinesAreReadAsWritten
line_is sites top fields x = (line_only sites top fields x, (λ h. subst (λ f. line_of sites f ≡ Some x) (sym h.1) (line_back top x h.0)))

-- ---- all records of an audit

-- the records of logs, the newest log in front
pub written : List Log → List (List (List ℕ))
written [] = []
written (log ∷ logs) = written logs ++ log_records log

unfoldable pub AllAmong : ℕ → List Log → Type 0
AllAmong sites logs = (log : Log) → Has log logs → IsLogAmong sites log

written_is : (logs : List Log) → written logs ≡ flat_map log_records (reverse logs)
unfolding written
written_is [] = refl
written_is (log ∷ logs) =
    ap (λ l. l ++ log_records log) (written_is logs) ∙ ap (λ l. flat_map log_records (reverse logs) ++ l) (sym (append-nil (log_records log)))
    ∙ sym (flat_map-append log_records (reverse logs) (log ∷ [])) ∙ ap (flat_map log_records) (sym (reverse-append (log ∷ []) logs))

-- ---- each record goes on with what is written
not_nothing : {A : Type 0} (xs : List A) (x : A) → Some (xs ++ x ∷ []) ≢ Some []
not_nothing [] x e = cc
not_nothing (y ∷ xs) x e = cc

-- a message, where no row was claimed
next_records : (log : Log) (m : Message) → log.rows ≡ None → log_records log ++ message_record m ∷ [] ≡ log_records
    (record log { messages = log.messages ++ m ∷ [] })
next_records log m q = ap (λ l. line_record (Begin log.site) ∷ l) (
    ap (λ o. (map message_record log.messages ++ unwrap_or o []) ++ message_record m ∷ []) q
    ∙ ap (λ l. l ++ message_record m ∷ []) (append-nil (map message_record log.messages)) ∙ sym (map-append message_record log.messages (m ∷ []))
    ∙ sym (append-nil (map message_record (log.messages ++ m ∷ []))) ∙ ap (λ o. map message_record (log.messages ++ m ∷ []) ++ unwrap_or o []) (sym q)
    )

claim_records : (log : Log) (row : List (List ℕ)) → log_records log ++ row ∷ [] ≡ log_records (record log { rows = Some (unwrap_or log.rows [] ++ row ∷ []) })
claim_records log row = ap (λ l. line_record (Begin log.site) ∷ l) (append_assoc (map message_record log.messages) (unwrap_or log.rows []) (row ∷ []))

-- the newest log in another state
newest : {sites : ℕ} (log : Log) {next : Log} (logs : List Log) (fields : List (List ℕ)) → AllAmong sites (log ∷ logs) → IsLogAmong sites next
    → log_records log ++ fields ∷ [] ≡ log_records next → AllAmong sites (next ∷ logs) × (written (log ∷ logs) ++ fields ∷ [] ≡ written (next ∷ logs))
unfolding AllAmong written
newest {sites} log logs fields a n e = (
  (λ l k. ⊎_elim (λ q. subst (IsLogAmong sites) (sym q) n) (λ r. a l (inr r)) k),
  append_assoc (written logs) (log_records log) (fields ∷ []) ∙ ap (λ l. written logs ++ l) e,
)

first_among : {sites : ℕ} {log : Log} (logs : List Log) → AllAmong sites (log ∷ logs) → IsLogAmong sites log
unfolding AllAmong
first_among {log} logs a = a log (inl refl)

with_next : {sites : ℕ} {log : Log} (m : Message) → log.rows ≡ None → IsMessageAmong sites m → IsLogAmong sites log
    → IsLogAmong sites (record log { messages = log.messages ++ m ∷ [] })
with_next {sites} {log} m q h a = record {
  site = a.site;
  messages = λ x k. ⊎_elim (a.messages x) (λ s. subst (IsMessageAmong sites) (sym s) h) (push_cases x m log.messages k);
  some = a.some;
  rows = a.rows;
}

with_claim : {sites : ℕ} {log : Log} {row : List (List ℕ)} → IsLine sites (Claim row) → IsLogAmong sites log
    → IsLogAmong sites (record log { rows = Some (unwrap_or log.rows [] ++ row ∷ []) })
with_claim {sites} {log} {row} h a = record {
  site = a.site;
  messages = a.messages;
  some = not_nothing (unwrap_or log.rows []) row;
  rows = λ r k. ⊎_elim (a.rows r) (λ s. subst (λ x. IsLine sites (Claim x)) (sym s) h) (push_cases r row (unwrap_or log.rows []) k);
}

goes_on : (sites : ℕ) (logs : List Log) {more : List Log} (line : Line) → with_line logs line ≡ Some more → IsLine sites line → AllAmong sites logs
    → AllAmong sites more × (written logs ++ line_record line ∷ [] ≡ written more)
unfolding AllAmong written
goes_on sites logs {more} (Begin site) e h a =
    let s : record { site = site; messages = []; rows = None } ∷ logs ≡ more = cc in
    subst (λ (l : List Log). ((log : Log) → Has log l → IsLogAmong sites log) × (written logs ++ line_record (Begin site) ∷ [] ≡ written l)) s (
      (λ log k. ⊎_elim (λ q. subst (IsLogAmong sites) (sym q) (record { site = h; messages = λ m x. absurd x; some = λ x. cc; rows = λ r x. absurd x }))
          (a log) k),
      refl,
    )
goes_on sites [] (Next m) e h a = absurd cc
goes_on sites [] (Claim row) e h a = absurd cc
goes_on sites (log ∷ logs) {more} (Next m) e h a = at log.rows refl e
  where
    at : (o : Option (List (List (List ℕ)))) → log.rows ≡ o
        → elim o as (λ _. Option (List Log)) [ None ↦ Some (record log { messages = log.messages ++ m ∷ [] } ∷ logs) | Some rows ↦ None ] ≡ Some more
        → AllAmong sites more × (written (log ∷ logs) ++ message_record m ∷ [] ≡ written more)
    at (Some rows) q e = absurd cc
    at None q e =
        let s : record log { messages = log.messages ++ m ∷ [] } ∷ logs ≡ more = cc in
        subst (λ (l : List Log). AllAmong sites l × (written (log ∷ logs) ++ message_record m ∷ [] ≡ written l)) s
        (newest log logs (message_record m) a
        (with_next m q h (first_among logs a)) (next_records log m q))
goes_on sites (log ∷ logs) {more} (Claim row) e h a =
    let s : record log { rows = Some (unwrap_or log.rows [] ++ row ∷ []) } ∷ logs ≡ more = cc in
    subst (λ (l : List Log). AllAmong sites l × (written (log ∷ logs) ++ row ∷ [] ≡ written l)) s
    (newest log logs row a (with_claim h (first_among logs a)) (claim_records log row))

-- what is done with the logs after record n
abbrev pub after_line : ℕ → ℕ → List (List (List ℕ)) → Option (List Log) → Result (List Log) ℕ
after_line sites n rest o = elim o as (λ _. Result (List Log) ℕ) [ None ↦ Err n | Some more ↦ logs_after sites (n + 1) more rest ]

-- what is so of the records after record n
Rest : ℕ → ℕ → List (List (List ℕ)) → Type 0
Rest sites n rest = (l k : List Log) → AllAmong sites l → logs_after sites (n + 1) l rest ≡ Ok k → AllAmong sites k × (written l ++ rest ≡ written k)

pub logs_only : {sites : ℕ} → sites ≤ COUNTED_MAX → (records : List (List (List ℕ))) (n : ℕ) (logs last : List Log) → AllAmong sites logs
    → logs_after sites n logs records ≡ Ok last → AllAmong sites last × (written logs ++ records ≡ written last)
unfolding Rest
logs_only {sites} top [] n logs last a e =
    let s : logs ≡ last = cc in
    subst (λ (l : List Log). AllAmong sites l × (written logs ++ [] ≡ written l)) s (a, append-nil (written logs))
logs_only {sites} top (fields ∷ rest) n logs last a e = line (line_of sites fields) refl e (logs_only {sites = sites} top rest (n + 1))
  where
    step : (x : Line) (o : Option (List Log)) → line_of sites fields ≡ Some x → with_line logs x ≡ o → after_line sites n rest o ≡ Ok last → Rest sites n rest
        → AllAmong sites last × (written logs ++ fields ∷ rest ≡ written last)
    step x None p q f ih = absurd cc
    step x (Some more) p q f ih =
        let l = line_only sites top fields x p in
        let g = goes_on sites logs x q l.0 a in
        let r = ih more last g.0 f in
        (r.0, sym (append_assoc (written logs) (fields ∷ []) rest) ∙ ap (λ w. (written logs ++ w ∷ []) ++ rest) l.1 ∙ ap (λ w. w ++ rest) g.1 ∙ r.1)

    line : (o : Option Line) → line_of sites fields ≡ o → after_line sites n rest (option_and_then (with_line logs) o) ≡ Ok last → Rest sites n rest
        → AllAmong sites last × (written logs ++ fields ∷ rest ≡ written last)
    line None p f ih = absurd cc
    line (Some x) p f ih = step x (with_line logs x) p refl f ih

-- ---- and back: what is written for logs is read as these
-- from some logs to others by these records, whatever follows them
Reaches : ℕ → List Log → List (List (List ℕ)) → List Log → Type 0
Reaches sites logs records more = (n : ℕ) (rest : List (List (List ℕ))) → (m : ℕ) × (logs_after sites n logs (records ++ rest) ≡ logs_after sites m more rest)

pub one_more : (sites : ℕ) → sites ≤ COUNTED_MAX → (logs more : List Log) (line : Line) (n : ℕ) (rest : List (List (List ℕ))) → IsLine sites line
    → with_line logs line ≡ Some more → logs_after sites n logs (line_record line ∷ rest) ≡ logs_after sites (n + 1) more rest
one_more sites top logs more line n rest h e =
    ap (λ o. after_line sites n rest (option_and_then (with_line logs) o)) (line_back top line h) ∙ ap (after_line sites n rest) e

messages_read : (sites : ℕ) → sites ≤ COUNTED_MAX → (site : ℕ) (own ms : List Message) (logs : List Log) → ((m : Message) → Has m ms → IsMessageAmong sites m)
    → Reaches sites (record { site = site; messages = own; rows = None } ∷ logs) (map message_record ms)
    (record { site = site; messages = own ++ ms; rows = None } ∷ logs)
unfolding Reaches
messages_read sites top site own [] logs h n rest =
    (n, ap (λ l. logs_after sites n (record { site = site; messages = l; rows = None } ∷ logs) rest) (sym (append-nil own)))
messages_read sites top site own (m ∷ ms) logs h n rest =
    let r = messages_read sites top site (own ++ m ∷ []) ms logs (λ x k. h x (inr k)) (n + 1) rest in (
      r.0,
      one_more sites top (record { site = site; messages = own; rows = None } ∷ logs) _ (Next m) n _ (h m (inl refl)) refl ∙ r.1 ∙ ap
          (λ l. logs_after sites r.0 (record { site = site; messages = l; rows = None } ∷ logs) rest) (append_assoc own (m ∷ []) ms),
    )

rows_read : (sites : ℕ) → sites ≤ COUNTED_MAX → (site : ℕ) (own : List Message) (rows more : List (List (List ℕ))) (logs : List Log)
    → ((r : List (List ℕ)) → Has r more → IsLine sites (Claim r)) → Reaches sites (record { site = site; messages = own; rows = Some rows } ∷ logs) more
    (record { site = site; messages = own; rows = Some (rows ++ more) } ∷ logs)
unfolding Reaches
rows_read sites top site own rows [] logs h n rest =
    (n, ap (λ l. logs_after sites n (record { site = site; messages = own; rows = Some l } ∷ logs) rest) (sym (append-nil rows)))
rows_read sites top site own rows (r ∷ more) logs h n rest =
    let k = rows_read sites top site own (rows ++ r ∷ []) more logs (λ x j. h x (inr j)) (n + 1) rest in (
      k.0,
      one_more sites top (record { site = site; messages = own; rows = Some rows } ∷ logs) _ (Claim r) n _ (h r (inl refl)) refl ∙ k.1 ∙ ap
          (λ l. logs_after sites k.0 (record { site = site; messages = own; rows = Some l } ∷ logs) rest) (append_assoc rows (r ∷ []) more),
    )

log_said : (sites : ℕ) → sites ≤ COUNTED_MAX → (site : ℕ) (ms : List Message) (o : Option (List (List (List ℕ)))) (logs : List Log) → site < sites
    → ((m : Message) → Has m ms → IsMessageAmong sites m) → o ≢ Some [] → ((r : List (List ℕ)) → Has r (unwrap_or o []) → IsLine sites (Claim r))
    → Reaches sites logs (line_record (Begin site) ∷ (map message_record ms ++ unwrap_or o [])) (record { site = site; messages = ms; rows = o } ∷ logs)
unfolding Reaches
log_said sites top site ms o logs l h s k n rest =
    let b = messages_read sites top site [] ms logs h (n + 1) (unwrap_or o [] ++ rest) in
    let c = claimed o s k b.0 in (
      c.0,
      ap (λ r. logs_after sites n logs (line_record (Begin site) ∷ r)) (append_assoc (map message_record ms) (unwrap_or o []) rest) ∙ one_more sites top logs _
          (Begin site) n _ l refl ∙ b.1 ∙ c.1,
    )
  where
    claimed : (o : Option (List (List (List ℕ)))) → o ≢ Some [] → ((r : List (List ℕ)) → Has r (unwrap_or o []) → IsLine sites (Claim r)) → (n : ℕ)
        → (m : ℕ) × (logs_after sites n (record { site = site; messages = ms; rows = None } ∷ logs) (unwrap_or o [] ++ rest)
        ≡ logs_after sites m (record { site = site; messages = ms; rows = o } ∷ logs) rest)
    claimed None s k n = (n, refl)
    claimed (Some []) s k n = absurd (s refl)
    claimed (Some (r ∷ rs)) s k n =
        let c = rows_read sites top site ms (r ∷ []) rs logs (λ x j. k x (inr j)) (n + 1) rest in (
          c.0,
          one_more sites top (record { site = site; messages = ms; rows = None } ∷ logs) (record { site = site; messages = ms; rows = Some (r ∷ []) } ∷ logs)
              (Claim r) n (rs ++ rest) (k r (inl refl)) refl ∙ c.1,
        )

logs_back : (sites : ℕ) → sites ≤ COUNTED_MAX → (logs older : List Log) (n : ℕ) → AllAmong sites logs
    → logs_after sites n older (flat_map log_records logs) ≡ Ok (reverse logs ++ older)
unfolding AllAmong Reaches
logs_back sites top [] older n a = refl
logs_back sites top (log ∷ logs) older n a =
    let f = a log (inl refl) in
    let r = log_said sites top log.site log.messages log.rows older f.site f.messages f.some f.rows n (flat_map log_records logs) in
    r.1 ∙ logs_back sites top logs (log ∷ older) r.0 (λ l h. a l (inr h))
    ∙ ap Ok (sym (append_assoc (reverse logs) (log ∷ []) older) ∙ ap (λ l. l ++ older) (sym (reverse-append (log ∷ []) logs)))

pub logs_are : LogsAreReadAsWritten
unfolding AllAmong written
logs_are sites top records logs = (
  (λ e.
      let w = logs_only top records 1 [] (reverse logs) (λ log h. absurd h) e in
      ((λ log h. w.0 log (has_back log logs h)), w.1 ∙ written_is (reverse logs) ∙ ap (flat_map log_records) (reverse-reverse logs))),
  (λ h. ap (logs_after sites 1 []) h.1 ∙ logs_back sites top logs [] 1 h.0 ∙ ap Ok (append-nil (reverse logs))),
)
