-- Records that a site refuses since it is full.
use Rattle.rubis_lives.proofs.Common.{◌≡◌, ◌∙◌, ◌++◌, [], false, List, ℕ, sym, ap, subst, append_assoc, ◌≤◌, ◌+◌, ◌∷◌, Bool, true, cond, Option, Some}
use Rattle.rubis_lives.proofs.Common.{None, refl, arith, inl, inr, input_records, plain_writer, row_text, rows_text, IsFrontOf, records_in, HasSoundLines}
use Rattle.rubis_lives.proofs.Common.{begun_after, whole_lines, whole-ends, whole-rest, whole-whole, append_cancel_left, flat_map-append, sending}
use Rattle.rubis_lives.proofs.Common.{◌||◌, ◌==◌, codes, length, map, nat_le, Result, Ok, Err, next_record, escaped, fields_text, is_blank, Refusal}
use Rattle.rubis_lives.proofs.Common.{BadTarget, LastTurn, Shadow, decision, Rows, input_of, Message, Input, Asked, Came, Neither, Token, answers}
use Rattle.rubis_lives.proofs.Common.{input_step, Place, Replica, generating, passing, rows_at, standing_of, site_after, IsShortened}
use Rattle.rubis_lives.proofs.Common.{sent_on, sent_on_inputs}
use Rattle.std.proofs.Common.{◌≢◌, ◌&&◌}
use Rattle.rubis_keep.specs.Lines.{is_marked, whole_after, HasWholeRecords}
use Rattle.rubis_keep.proofs.SoundFacts.{records-append, sound-back, sound-kept, whole-append-after, kept-whole}
use Rattle.std.proofs.lemmas.Bool.Decides.{nat_tests}
use Rattle.std.proofs.lemmas.Option.{same_Some}
use Rattle.std.specs.Prelude.{if◌then◌else◌, ◌-◌, decimal, drop, find, is_some, not}
use Rattle.csv.specs.Reading.{default_config}
use Rattle.csv.specs.Writing.{default_writer, field_text, needs_quotes, read_back, row_text as csv_row}
use Rattle.csv.specs.declared.parser.State.{State}
use Rattle.csv.proofs.RoundTrip.{read-write}
use Rattle.rubis_schema.specs.Refusals.{code_of, refusal_name}
use Rattle.rubis_schema.specs.declared.refusals.Refusal.TheVariants.{BadRecord, Full, NoToken, RedBehind, NickTaken, NoUser, NoItem, Closed, LowBid}
use Rattle.rubis_schema.specs.declared.refusals.Refusal.TheVariants.{StockShort, NotSeller, OwnItem, NoBuyNow, SelfComment, NotOurs, NotForMe}
use Rattle.rubis_schema.specs.declared.refusals.Refusal.TheVariants.{BadEvent, NoSuchPacket}
use Rattle.rubis_shadow.specs.declared.shadows.Ask.{Ask}
use Rattle.rubis_generate.specs.Decision.{is_due, order_of, refused_or, shadow_of}
use Rattle.rubis_generate.specs.declared.standing.Standing.{Standing}
use Rattle.rubis_message.specs.declared.answers.Arrival.{Arrival}
use Rattle.rubis_keys.proofs.BareFacts.{BareIs, bare_is, same_input, same_step}
use Rattle.rubis_keys.specs.Keys.{KeyedSite, ask_step, asked_under_rows, is_red_ask, keyed_answers, keyed_input, keyed_opening, keyed_step}
use Rattle.rubis_keys.specs.Keys.{noted_came, noted_made}
use Rattle.rubis_keys.specs.Laws.{bare_of, bare_records}
use Rattle.rubis_keys.specs.declared.inputs.KeyedInput.{KeyedInput}
use Rattle.rubis_keys.specs.declared.inputs.KeyedInput.TheVariants.{Plain, AskedUnder, CameUnder}
use Rattle.rubis_keys.specs.declared.keys.Known.{Known}
use Rattle.rubis_model.specs.Site.{arrived, asked, arrived_rows, asked_rows, passed_rows, refused_row, told, after_came, arrival_of, is_full, is_repeat, not_ours}
use Rattle.csv.specs.declared.parser.State.TheVariants as st
use Rattle.rubis_shadow.specs.declared.shadows.Ask.TheVariants as ask
use Rattle.rubis_message.specs.declared.answers.Arrival.TheVariants as arrival
use Rattle.rubis_message.specs.declared.requests.Request.TheVariants as request
use Rattle.rubis_message.specs.declared.tokens.Packet.TheVariants as packet
use Rattle.rubis_lives.specs.Histories.{RaisedKeepsTakeTheSame, RefusedAsFullAreNoEvents, keeping_at_most, refuses_as_full, taken_by}
use Rattle.rubis_lives.specs.Shops.{IsPrefix}
use Rattle.rubis_lives.proofs.KeyFacts.{Records}

-- whole lines are followed by whole lines
pub whole-grow : (a b : List ℕ) → HasSoundLines [] a → (f : IsFrontOf (whole_lines a) b) → whole_lines b ≡ whole_lines a ++ whole_lines f.0
whole-grow a b sa (rest, e) =
    ap whole_lines (sym e) ∙ whole-append-after [] (whole_lines a) rest ∙ ap (λ t. t ++ whole_after (begun_after [] (whole_lines a)) rest) (whole-whole a sa)
    ∙ ap (λ s. whole_lines a ++ whole_after s rest) (whole-ends a sa)

pub records-grow : (a : List ℕ) {b : List ℕ} → HasSoundLines [] a → HasSoundLines [] b → IsFrontOf (whole_lines a) b
    → (more : List (List (List ℕ))) × (input_records (whole_lines a) ++ more ≡ input_records (whole_lines b))
records-grow a {b} sa sb (rest, e) =
    let lines = whole-grow a b sa (rest, e) in
    let sr : HasSoundLines [] rest = subst (λ l. HasSoundLines l rest) (whole-ends a sa) (sound-back [] (whole_lines a) rest (subst (HasSoundLines []) (sym e) sb)) in
    let whole = subst HasWholeRecords (sound-kept [] a sa) (kept-whole false [] a) in
    let unmarked = subst (λ t. is_marked t ≡ false) (sound-kept [] rest sr) (kept-whole false [] rest).unmarked in
    (input_records (whole_lines rest), sym (ap input_records lines ∙ records-append (whole_lines rest) whole unmarked))

pub whole-more : (a b c : List ℕ) → HasSoundLines [] a → IsFrontOf (whole_lines a) b → IsFrontOf (whole_lines b) c → IsFrontOf (whole_lines a) c
whole-more a b c sa f (rest, e) =
    (whole_lines f.0 ++ rest, sym (append_assoc (whole_lines a) (whole_lines f.0) rest) ∙ ap (λ t. t ++ rest) (sym (whole-grow a b sa f)) ∙ e)

-- the whole lines of a text begin it
pub whole-front : (a : List ℕ) → IsFrontOf (whole_lines a) a
whole-front a = (begun_after [] a, whole-rest [] a)

pub front-more : (a b c : List ℕ) → IsFrontOf a b → IsFrontOf b c → IsFrontOf a c
front-more a b c (x, e) (y, f) = (x ++ y, sym (append_assoc a x y) ∙ ap (λ t. t ++ y) e ∙ f)

-- ---- records that a site refuses since it is full

-- ---- a full site

first-due : (b : Bool) (o : Option Refusal) (x : Shadow) → b ≡ true → refused_or (cond b (Some Full) o) x ≡ Err Full
first-due true o x e = refl
first-due false o x e = absurd (cc e)

-- Full is the first of the refusals of any ask
full-first : (t : Rows) (s : Standing) (a : Ask) → s.full ≡ true → decision t s a ≡ Err Full
full-first t s (ask.User n) e = first-due s.full _ _ e
full-first t s a e = first-due s.full _ _ e

found-holds : (p : Refusal → Bool) (rs : List Refusal) {r : Refusal} → find p rs ≡ Some r → p r ≡ true
found-holds p [] e = absurd (cc e)
found-holds p (x ∷ rs) {r} e = at (p x) refl e (found-holds p rs)
  where
    at : (b : Bool) → p x ≡ b → cond b (Some x) (find p rs) ≡ Some r → (find p rs ≡ Some r → p r ≡ true) → p r ≡ true
    at true is e more = let same : x ≡ r = cc e in ap p (sym same) ∙ is
    at false is e more = more e

-- and a site that isn't full doesn't answer it
not-full : (t : Rows) (s : Standing) (a : Ask) → s.full ≡ false → decision t s a ≡ Err Full → ⊥
not-full t s a none e = at (find (is_due t s a) (order_of a)) refl e
  where
    at : (o : Option Refusal) → find (is_due t s a) (order_of a) ≡ o → refused_or o (shadow_of t a) ≡ Err Full → ⊥
    at None is e = cc e
    at (Some r) is e =
        let same : r ≡ Full = cc e in
        let due : s.full ≡ true = found-holds (is_due t s a) (order_of a) (is ∙ ap (λ x. Some x) same) in
        cc (due, none)

roomier : (keep more : ℕ) (s : Replica) → keep ≤ more → is_full keep s ≡ false → is_full more s ≡ false
roomier keep more s l e = at (length s.log + length s.waiting) e
  where
    at : (n : ℕ) → nat_le keep n ≡ false → nat_le more n ≡ false
    at n e = grind (arith, nat_tests)

both : (f x : Bool) → (f && x) ≡ true → (f ≡ true) × (x ≡ true)
both true x e = (refl, e)
both false x e = absurd (cc e)

neither : (a b : Bool) → not (a || b) ≡ true → (a ≡ false) × (b ≡ false)
neither true b e = absurd (cc e)
neither false true e = absurd (cc e)
neither false false e = (refl, refl)

-- ---- one record, at a site that keeps more

module _ (p : Place) (keep : ℕ) (more : p.keep ≤ keep) where
  abbrev q : Place
  q = keeping_at_most p keep

  generates-same : (s : Replica) (r : Result Shadow Refusal) → generating p s r ≡ generating q s r
  generates-same s (Ok x) = refl
  generates-same s (Err r) = refl

  passes-same : (s : Replica) (to : ℕ) (held : Option ℕ) → passing p s to held ≡ passing q s to held
  passes-same s to None = refl
  passes-same s to (Some issued) = refl

  arrives-same : {R : Type 0} (a b f g : Bool) (x y z w : R) → (f ≡ false → g ≡ false) → (f && not (a || b)) ≡ false
      → cond a x (cond b y (cond f z w)) ≡ cond a x (cond b y (cond g z w))
  arrives-same true b f g x y z w h e = refl
  arrives-same false true f g x y z w h e = refl
  arrives-same false false true g x y z w h e = absurd (cc e)
  arrives-same false false false g x y z w h e = ap (λ t. cond t z w) (sym (h refl))

  ask-same : (s : Replica) (a : Ask) → is_full p.keep s ≡ false → asked p s a ≡ asked q s a
  ask-same s a e =
      ap (λ (f : Bool). generating p s (decision (rows_at s.log) (record { full = f; holds = (standing_of keep s).holds; current = (standing_of keep s).current }) a))
      (e ∙ sym (roomier p.keep keep s more e)) ∙ generates-same s (decision (rows_at s.log) (standing_of keep s) a)

  arrival-same : (s : Replica) (m : Message) → refuses_as_full p s (Came (packet.Msg m)) ≡ false → arrived p s m ≡ arrived q s m
  arrival-same s m e =
      arrives-same (not_ours p s m) (is_repeat s m) (is_full p.keep s) (is_full keep s) (s, Err NotOurs) (s, Ok arrival.Repeat) (s, Err Full)
      (after_came s m, Ok (arrival_of (length (after_came s m).log - length s.log))) (roomier p.keep keep s more) e

  pub same-step : (s : Replica) (n : ℕ) (x : Input) → refuses_as_full p s x ≡ false → input_step p s n x ≡ input_step q s n x
  same-step s n (Asked (request.Ask a)) e = ap (told (asked_rows n)) (ask-same s a e)
  same-step s n (Asked (request.Pass to)) e = ap (told (passed_rows n)) (passes-same s to s.held)
  same-step s n (Asked (request.List l)) e = refl
  same-step s n (Came (packet.Msg m)) e = ap (told (arrived_rows n)) (arrival-same s m e)
  same-step s n (Came (packet.Token t)) e = refl
  same-step s n Neither e = refl

  roomy : (f g x : Bool) → (f ≡ false → g ≡ false) → (f && x) ≡ false → (g && x) ≡ false
  roomy true true x h e = e
  roomy true false x h e = refl
  roomy false g x h e = ap (λ t. t && x) (h refl)

  pub still-takes : (s : Replica) (x : Input) → refuses_as_full p s x ≡ false → refuses_as_full q s x ≡ false
  still-takes s (Asked (request.Ask a)) e = roomier p.keep keep s more e
  still-takes s (Asked (request.Pass to)) e = refl
  still-takes s (Asked (request.List l)) e = refl
  still-takes s (Came (packet.Msg m)) e = roomy (is_full p.keep s) (is_full keep s) (not (not_ours p s m || is_repeat s m)) (roomier p.keep keep s more) e
  still-takes s (Came (packet.Token t)) e = refl
  still-takes s Neither e = refl

full-ask : (p : Place) (s : Replica) (a : Ask) → is_full p.keep s ≡ true → asked p s a ≡ (s, Err Full)
full-ask p s a e = ap (generating p s) (full-first (rows_at s.log) (standing_of p.keep s) a e)

full-arrival : (p : Place) (s : Replica) (m : Message) → refuses_as_full p s (Came (packet.Msg m)) ≡ true → arrived p s m ≡ (s, Err Full)
full-arrival p s m e =
    let f = both (is_full p.keep s) (not (not_ours p s m || is_repeat s m)) e in
    let new = neither (not_ours p s m) (is_repeat s m) f.1 in
    rw new.0 (rw new.1 (rw f.0 refl))

pub full-step : (p : Place) (s : Replica) (n : ℕ) (x : Input) → refuses_as_full p s x ≡ true → input_step p s n x ≡ (s, refused_row n Full ∷ [])
full-step p s n (Asked (request.Ask a)) e = ap (told (asked_rows n)) (full-ask p s a e)
full-step p s n (Asked (request.Pass to)) e = absurd (cc e)
full-step p s n (Asked (request.List l)) e = absurd (cc e)
full-step p s n (Came (packet.Msg m)) e = ap (told (arrived_rows n)) (full-arrival p s m e)
full-step p s n (Came (packet.Token t)) e = absurd (cc e)
full-step p s n Neither e = absurd (cc e)

-- ---- the records that are taken

-- where a record is refused as full, and where it isn't
taken-not : (p : Place) (s : Replica) (fields : List (List ℕ)) (rest : Records) → refuses_as_full p s (input_of p.sites fields) ≡ true
    → taken_by p s (fields ∷ rest) ≡ taken_by p s rest
taken-not p s fields rest e = ap (λ b. cond b (taken_by p s rest) (fields ∷ taken_by p (input_step p s 1 (input_of p.sites fields)).0 rest)) e

taken-one : (p : Place) (s : Replica) (fields : List (List ℕ)) (rest : Records) → refuses_as_full p s (input_of p.sites fields) ≡ false
    → taken_by p s (fields ∷ rest) ≡ fields ∷ taken_by p (input_step p s 1 (input_of p.sites fields)).0 rest
taken-one p s fields rest e = ap (λ b. cond b (taken_by p s rest) (fields ∷ taken_by p (input_step p s 1 (input_of p.sites fields)).0 rest)) e

full-stays : (p : Place) (s : Replica) (n : ℕ) (x : Input) → refuses_as_full p s x ≡ true → (input_step p s n x).0 ≡ s
full-stays p s n x e = ap (λ (r : Replica × Records). r.0) (full-step p s n x e)

pub taken-more : (p : Place) (s : Replica) (xs ys : Records) → IsPrefix xs ys → IsPrefix (taken_by p s xs) (taken_by p s ys)
taken-more p s [] ys e = (taken_by p s ys, refl)
taken-more p s (x ∷ xs) [] e = absurd (cc e.1)
taken-more p s (x ∷ xs) (y ∷ ys) e = at (refuses_as_full p s (input_of p.sites x)) refl (taken-more p s xs ys (e.0, cc e.1))
    (taken-more p (input_step p s 1 (input_of p.sites x)).0 xs ys (e.0, cc e.1)) (let same : x ≡ y = cc e.1 in same)
  where
    at : (b : Bool) → refuses_as_full p s (input_of p.sites x) ≡ b → IsPrefix (taken_by p s xs) (taken_by p s ys)
        → IsPrefix (taken_by p (input_step p s 1 (input_of p.sites x)).0 xs) (taken_by p (input_step p s 1 (input_of p.sites x)).0 ys) → x ≡ y
        → IsPrefix (taken_by p s (x ∷ xs)) (taken_by p s (y ∷ ys))
    at true is not one same = (not.0, ap (λ t. t ++ not.0) (taken-not p s x xs is) ∙ not.1 ∙ sym (taken-not p s x ys is) ∙ ap (λ z. taken_by p s (z ∷ ys)) same)
    at false is not one same =
        (one.0, ap (λ t. t ++ one.0) (taken-one p s x xs is) ∙ ap (λ t. x ∷ t) one.1 ∙ sym (taken-one p s x ys is) ∙ ap (λ z. taken_by p s (z ∷ ys)) same)

module _ (p : Place) (keep : ℕ) (more : p.keep ≤ keep) where
  abbrev wide : Place
  wide = keeping_at_most p keep

  abbrev next : Replica → ℕ → List (List ℕ) → Replica
  next s n fields = (input_step p s n (input_of p.sites fields)).0

  next-same : (s : Replica) (n : ℕ) (fields : List (List ℕ)) → refuses_as_full p s (input_of p.sites fields) ≡ false
      → next s n fields ≡ (input_step wide s n (input_of p.sites fields)).0
  next-same s n fields e = ap (λ (r : Replica × Records). r.0) (same-step p keep more s n (input_of p.sites fields) e)

  pub taken-state : (s : Replica) (n m : ℕ) (records : Records) → site_after p s n records ≡ site_after wide s m (taken_by p s records)
  taken-state s n m [] = refl
  taken-state s n m (x ∷ records) = at (refuses_as_full p s (input_of p.sites x)) refl (taken-state s (n + 1) m records)
      (taken-state (next s 1 x) (n + 1) (m + 1) records)
    where
      number : (a b : ℕ) → next s a x ≡ next s b x
      number a b = same_input p s a b (input_of p.sites x)

      at : (b : Bool) → refuses_as_full p s (input_of p.sites x) ≡ b → site_after p s (n + 1) records ≡ site_after wide s m (taken_by p s records)
          → site_after p (next s 1 x) (n + 1) records ≡ site_after wide (next s 1 x) (m + 1) (taken_by p (next s 1 x) records)
          → site_after p s n (x ∷ records) ≡ site_after wide s m (taken_by p s (x ∷ records))
      at true is not one =
          ap (λ t. site_after p t (n + 1) records) (full-stays p s n (input_of p.sites x) is) ∙ not ∙ ap (site_after wide s m)
          (sym (taken-not p s x records is))
      at false is not one =
          ap (λ t. site_after p t (n + 1) records) (number n 1) ∙ one
          ∙ ap (λ t. site_after wide t (m + 1) (taken_by p (next s 1 x) records)) (number 1 m ∙ next-same s m x is)
          ∙ ap (site_after wide s m) (sym (taken-one p s x records is))

  none-asked : (s : Replica) (x : Input) → refuses_as_full p s x ≡ true → sent_on p s x ≡ []
  none-asked s (Asked (request.Ask a)) e =
      ap (λ r. sending packet.Msg (generating p s r).1) (full-first (rows_at s.log) (standing_of p.keep s) a e)
  none-asked s (Asked (request.Pass to)) e = absurd (cc e)
  none-asked s (Asked (request.List l)) e = refl
  none-asked s (Came x) e = refl
  none-asked s Neither e = refl

  sends-same : (s : Replica) (x : Input) → refuses_as_full p s x ≡ false → sent_on p s x ≡ sent_on wide s x
  sends-same s (Asked (request.Ask a)) e =
      ap (λ (f : Bool). sending packet.Msg
      (generating p s (decision (rows_at s.log) (record { full = f; holds = (standing_of keep s).holds; current = (standing_of keep s).current }) a)).1)
      (e ∙ sym (roomier p.keep keep s more e))
      ∙ ap (λ (r : Replica × Result Message Refusal). sending packet.Msg r.1) (generates-same p keep more s (decision (rows_at s.log) (standing_of keep s) a))
  sends-same s (Asked (request.Pass to)) e = ap (λ (r : Replica × Result Token Refusal). sending packet.Token r.1) (passes-same p keep more s to s.held)
  sends-same s (Asked (request.List l)) e = refl
  sends-same s (Came x) e = refl
  sends-same s Neither e = refl

  pub taken-sent : (s : Replica) (records : Records)
      → sent_on_inputs p s (map (input_of p.sites) records) ≡ sent_on_inputs wide s (map (input_of p.sites) (taken_by p s records))
  taken-sent s [] = refl
  taken-sent s (x ∷ records) = at (refuses_as_full p s (input_of p.sites x)) refl (taken-sent s records) (taken-sent (next s 1 x) records)
    where
      at : (b : Bool) → refuses_as_full p s (input_of p.sites x) ≡ b
          → sent_on_inputs p s (map (input_of p.sites) records) ≡ sent_on_inputs wide s (map (input_of p.sites) (taken_by p s records))
          → sent_on_inputs p (next s 1 x) (map (input_of p.sites) records)
          ≡ sent_on_inputs wide (next s 1 x) (map (input_of p.sites) (taken_by p (next s 1 x) records))
          → sent_on_inputs p s (map (input_of p.sites) (x ∷ records)) ≡ sent_on_inputs wide s (map (input_of p.sites) (taken_by p s (x ∷ records)))
      at true is not one =
          ap (λ l. l ++ sent_on_inputs p (next s 1 x) (map (input_of p.sites) records)) (none-asked s (input_of p.sites x) is)
          ∙ ap (λ t. sent_on_inputs p t (map (input_of p.sites) records)) (full-stays p s 1 (input_of p.sites x) is) ∙ not
          ∙ ap (λ (l : Records). sent_on_inputs wide s (map (input_of p.sites) l)) (sym (taken-not p s x records is))
      at false is not one =
          ap (λ l. l ++ sent_on_inputs p (next s 1 x) (map (input_of p.sites) records)) (sends-same s (input_of p.sites x) is)
          ∙ ap (λ l. sent_on wide s (input_of p.sites x) ++ l) one
          ∙ ap (λ t. sent_on wide s (input_of p.sites x) ++ sent_on_inputs wide t (map (input_of p.sites) (taken_by p (next s 1 x) records)))
          (next-same s 1 x is)
          ∙ ap (λ (l : Records). sent_on_inputs wide s (map (input_of p.sites) l)) (sym (taken-one p s x records is))

  -- what is left of some records leaves of those that are taken what is taken of it
  pub taken-short : (s : Replica) (short full : Records) → IsShortened p s short full → IsShortened wide s (taken_by p s short) (taken_by p s full)
  taken-short s short [] h = ap (taken_by p s) h
  taken-short s short (x ∷ full) (inl h) = at (refuses_as_full p s (input_of p.sites x)) refl (taken-short s short full h.1)
    where
      at : (b : Bool) → refuses_as_full p s (input_of p.sites x) ≡ b → IsShortened wide s (taken_by p s short) (taken_by p s full)
          → IsShortened wide s (taken_by p s short) (taken_by p s (x ∷ full))
      at true is short-too = subst (IsShortened wide s (taken_by p s short)) (sym (taken-not p s x full is)) short-too
      at false is short-too =
          subst (IsShortened wide s (taken_by p s short)) (sym (taken-one p s x full is))
          (inl (sym (next-same s 1 x is) ∙ h.0, subst (λ t. IsShortened wide s (taken_by p s short) (taken_by p t full)) (sym h.0) short-too))
  taken-short s short (x ∷ full) (inr h) = at (refuses_as_full p s (input_of p.sites x)) refl (taken-short (next s 1 x) h.0 full h.2)
    where
      at : (b : Bool) → refuses_as_full p s (input_of p.sites x) ≡ b
          → IsShortened wide (next s 1 x) (taken_by p (next s 1 x) h.0) (taken_by p (next s 1 x) full)
          → IsShortened wide s (taken_by p s short) (taken_by p s (x ∷ full))
      at true is short-too =
          subst (λ l. IsShortened wide s (taken_by p s l) (taken_by p s (x ∷ full))) (sym h.1)
          (subst (λ l. IsShortened wide s l (taken_by p s (x ∷ full))) (sym (taken-not p s x h.0 is))
          (subst (IsShortened wide s (taken_by p s h.0)) (sym (taken-not p s x full is))
          (subst (λ t. IsShortened wide t (taken_by p t h.0) (taken_by p t full)) (full-stays p s 1 (input_of p.sites x) is) short-too)))
      at false is short-too =
          subst (λ l. IsShortened wide s (taken_by p s l) (taken_by p s (x ∷ full))) (sym h.1)
          (subst (λ l. IsShortened wide s l (taken_by p s (x ∷ full))) (sym (taken-one p s x h.0 is))
          (subst (IsShortened wide s (x ∷ taken_by p (next s 1 x) h.0)) (sym (taken-one p s x full is))
          (inr (
            taken_by p (next s 1 x) h.0,
            refl,
            subst (λ t. IsShortened wide t (taken_by p (next s 1 x) h.0) (taken_by p (next s 1 x) full)) (next-same s 1 x is) short-too,
          ))))

pub refused-are-none : RefusedAsFullAreNoEvents
refused-are-none p keep s records more = (taken-state p keep more s 1 1 records, taken-sent p keep more s records)

-- ---- the first row of a text

same-escaped : (field : List ℕ) → escaped plain_writer field ≡ escaped default_writer field
unfolding escaped
same-escaped [] = refl
same-escaped (b ∷ rest) = ap (λ text. if b == 34 then 34 ∷ b ∷ text else b ∷ text) (same-escaped rest)

same-field : (field : List ℕ) → field_text plain_writer field ≡ field_text default_writer field
same-field field = ap (λ text. if needs_quotes default_writer field then 34 ∷ (text ++ 34 ∷ []) else field) (same-escaped field)

same-fields : (fields : List (List ℕ)) → fields_text plain_writer fields ≡ fields_text default_writer fields
unfolding fields_text
same-fields [] = refl
same-fields (field ∷ rest) = λ i. 44 ∷ (same-field field i ++ same-fields rest i)

same-row : (row : List (List ℕ)) → row_text plain_writer row ≡ csv_row default_writer row
unfolding is_blank fields_text
same-row [] = refl
same-row (field ∷ []) = λ i. (same-field field i ++ []) ++ ((if length (same-field field i) == 0 then 34 ∷ 34 ∷ [] else []) ++ 10 ∷ [])
same-row (field ∷ more ∷ rest) = λ i. (same-field field i ++ same-fields (more ∷ rest) i) ++ ([] ++ 10 ∷ [])

-- texts that are the same begin with the same row
row-first : (a b : List ℕ) (xs ys : List (List ℕ)) (more later : List ℕ) → row_text plain_writer (a ∷ xs) ++ more ≡ row_text plain_writer (b ∷ ys) ++ later
    → a ∷ xs ≡ b ∷ ys
row-first a b xs ys more later e =
    let left = ap (λ t. next_record default_config st.StartRecord [] [] (t ++ more)) (same-row (a ∷ xs)) ∙ read-write (a ∷ xs) more in
    let right = ap (λ t. next_record default_config st.StartRecord [] [] (t ++ later)) (same-row (b ∷ ys)) ∙ read-write (b ∷ ys) later in
    let all = sym left ∙ ap (next_record default_config st.StartRecord [] []) e ∙ right in
    ap (λ (t : List (List ℕ) × State × List ℕ). t.0) (same_Some (read_back (a ∷ xs), st.StartRecord, more) (read_back (b ∷ ys), st.StartRecord, later) all)

-- ---- what is told by a site that keeps more

no-other : (r : Refusal) → r ≢ Full → codes "Full" ≡ refusal_name r → ⊥
no-other Full h e = h refl
no-other BadRecord h e = cc e
no-other NoToken h e = cc e
no-other RedBehind h e = cc e
no-other NickTaken h e = cc e
no-other NoUser h e = cc e
no-other NoItem h e = cc e
no-other Closed h e = cc e
no-other LowBid h e = cc e
no-other StockShort h e = cc e
no-other NotSeller h e = cc e
no-other OwnItem h e = cc e
no-other NoBuyNow h e = cc e
no-other SelfComment h e = cc e
no-other BadTarget h e = cc e
no-other LastTurn h e = cc e
no-other NotOurs h e = cc e
no-other NotForMe h e = cc e
no-other BadEvent h e = cc e
no-other NoSuchPacket h e = cc e

-- rows that begin with another one than a refusal as full
abbrev IsOtherwise : ℕ → Records → Type 0
IsOtherwise n rows = (b : List ℕ) × (ys : List (List ℕ)) × (later : Records) × (rows ≡ (b ∷ ys) ∷ later) × (refused_row n Full ≡ b ∷ ys → ⊥)

asked-otherwise : (n : ℕ) (r : Result Message Refusal) → (r ≡ Err Full → ⊥) → IsOtherwise n (asked_rows n r)
asked-otherwise n (Ok m) h = (codes "reply", _, _, refl, λ e. cc e)
asked-otherwise n (Err r) h = (codes "reply", _, [], refl, λ e. no-other r (λ is. h (ap (λ x. Err x) is)) (cc e))

under-otherwise : (n : ℕ) (key : List ℕ) (r : Result Message Refusal) → (r ≡ Err Full → ⊥) → IsOtherwise n (asked_under_rows n key r)
under-otherwise n key (Ok m) h = (codes "reply", _, _, refl, λ e. cc e)
under-otherwise n key (Err r) h = asked-otherwise n (Err r) h

arrived-otherwise : (n k : ℕ) → IsOtherwise n (arrived_rows n (Ok (arrival_of k)))
arrived-otherwise n k = at (k == 0)
  where
    at : (b : Bool) → IsOtherwise n (arrived_rows n (Ok (cond b arrival.Held (arrival.Released k))))
    at true = (codes "reply", _, [], refl, λ e. cc e)
    at false = (codes "reply", _, [], refl, λ e. cc e)

generates-otherwise : (p : Place) (s : Replica) (r : Result Shadow Refusal) → (r ≡ Err Full → ⊥) → (generating p s r).1 ≡ Err Full → ⊥
generates-otherwise p s (Ok x) h e = cc e
generates-otherwise p s (Err r) h e = h (let same : r ≡ Full = cc e in ap (λ x. Err x) same)

ask-otherwise : (p : Place) (keep : ℕ) (s : Replica) (a : Ask) → is_full keep s ≡ false → (asked (keeping_at_most p keep) s a).1 ≡ Err Full → ⊥
ask-otherwise p keep s a f =
    generates-otherwise (keeping_at_most p keep) s (decision (rows_at s.log) (standing_of keep s) a) (not-full (rows_at s.log) (standing_of keep s) a f)

-- a record that a site refuses as full is answered otherwise by one that isn't
otherwise : (p : Place) (keep : ℕ) (s : Replica) (n : ℕ) (x : Input) → refuses_as_full p s x ≡ true → refuses_as_full (keeping_at_most p keep) s x ≡ false
    → IsOtherwise n (input_step (keeping_at_most p keep) s n x).1
otherwise p keep s n (Asked (request.Ask a)) e f = asked-otherwise n (asked (keeping_at_most p keep) s a).1 (ask-otherwise p keep s a f)
otherwise p keep s n (Asked (request.Pass to)) e f = absurd (cc e)
otherwise p keep s n (Asked (request.List l)) e f = absurd (cc e)
otherwise p keep s n (Came (packet.Msg m)) e f =
    let is = both (is_full p.keep s) (not (not_ours p s m || is_repeat s m)) e in
    let new = neither (not_ours p s m) (is_repeat s m) is.1 in
    let room : is_full keep s ≡ false = room-of (is_full keep s) (not (not_ours p s m || is_repeat s m)) is.1 f in
    rw new.0 (rw new.1 (rw room (arrived-otherwise n (length (after_came s m).log - length s.log))))
  where
    room-of : (g x : Bool) → x ≡ true → (g && x) ≡ false → g ≡ false
    room-of true x h e = absurd (cc (h, e))
    room-of false x h e = refl
otherwise p keep s n (Came (packet.Token t)) e f = absurd (cc e)
otherwise p keep s n Neither e f = absurd (cc e)

-- ---- one record that may be under a key

-- it is refused as full
abbrev fills : Place → KeyedSite → KeyedInput → Bool
fills p s (Plain i) = refuses_as_full p s.site i
fills p s (AskedUnder key a) = cond (is_some (s.keys key (is_red_ask a))) false (is_full p.keep s.site)
fills p s (CameUnder key m) = refuses_as_full p s.site (Came (packet.Msg m))

-- what a site comes to, and answers, by what it makes of an ask, or of a message, under a key
abbrev by_ask : KeyedSite → ℕ → List ℕ → Replica × Result Message Refusal → KeyedSite × Records
by_ask s n key r = (record { site = r.0; keys = noted_made s.keys key r.1 }, asked_under_rows n key r.1)

abbrev by_arrival : KeyedSite → ℕ → List ℕ → Message → Replica × Result Arrival Refusal → KeyedSite × Records
by_arrival s n key m r = (record { site = r.0; keys = noted_came s.keys key m r.1 }, arrived_rows n r.1)

abbrev by_input : KeyedSite → Replica × Records → KeyedSite × Records
by_input s r = (record s { site = r.0 }, r.1)

keyed-full : (p : Place) (s : KeyedSite) (n : ℕ) (i : KeyedInput) → fills p s i ≡ true → keyed_step p s n i ≡ (s, refused_row n Full ∷ [])
keyed-full p s n (Plain i) e = ap (by_input s) (full-step p s.site n i e)
keyed-full p s n (AskedUnder key a) e = at (s.keys key (is_red_ask a)) e
  where
    at : (o : Option Known) → cond (is_some o) false (is_full p.keep s.site) ≡ true → ask_step p s n key a o ≡ (s, refused_row n Full ∷ [])
    at None e = ap (by_ask s n key) (full-ask p s.site a e)
    at (Some k) e = absurd (cc e)
keyed-full p s n (CameUnder key m) e = ap (by_arrival s n key m) (full-arrival p s.site m e)

keyed-not : (p : Place) (s : KeyedSite) (x : List (List ℕ)) (rest : Records) (i : KeyedInput) → BareIs p.sites x i → fills p s i ≡ true
    → taken_by p s.site (bare_records s i x ++ rest) ≡ taken_by p s.site rest
keyed-not p s x rest (Plain i) bare e = taken-not p s.site x rest (ap (refuses_as_full p s.site) bare ∙ e)
keyed-not p s x rest (AskedUnder key a) bare e = at (s.keys key (is_red_ask a)) e
  where
    at : (o : Option Known) → cond (is_some o) false (is_full p.keep s.site) ≡ true
        → taken_by p s.site (cond (is_some o) [] (drop 2 x ∷ []) ++ rest) ≡ taken_by p s.site rest
    at None e = taken-not p s.site (drop 2 x) rest (ap (refuses_as_full p s.site) bare ∙ e)
    at (Some k) e = refl
keyed-not p s x rest (CameUnder key m) bare e = taken-not p s.site (drop 2 x) rest (ap (refuses_as_full p s.site) bare ∙ e)

keyed-one : (p : Place) (s : KeyedSite) (x : List (List ℕ)) (rest : Records) (i : KeyedInput) → BareIs p.sites x i → fills p s i ≡ false
    → taken_by p s.site (bare_records s i x ++ rest) ≡ bare_records s i x ++ taken_by p (keyed_step p s 1 i).0.site rest
keyed-one p s x rest (Plain i) bare e =
    taken-one p s.site x rest (ap (refuses_as_full p s.site) bare ∙ e) ∙ ap (λ y. x ∷ taken_by p (input_step p s.site 1 y).0 rest) bare
keyed-one p s x rest (AskedUnder key a) bare e = at (s.keys key (is_red_ask a)) e
  where
    at : (o : Option Known) → cond (is_some o) false (is_full p.keep s.site) ≡ false
        → taken_by p s.site (cond (is_some o) [] (drop 2 x ∷ []) ++ rest)
        ≡ cond (is_some o) [] (drop 2 x ∷ []) ++ taken_by p (ask_step p s 1 key a o).0.site rest
    at None e =
        taken-one p s.site (drop 2 x) rest (ap (refuses_as_full p s.site) bare ∙ e)
        ∙ ap (λ y. drop 2 x ∷ taken_by p (input_step p s.site 1 y).0 rest) bare
    at (Some k) e = refl
keyed-one p s x rest (CameUnder key m) bare e =
    taken-one p s.site (drop 2 x) rest (ap (refuses_as_full p s.site) bare ∙ e) ∙ ap (λ y. drop 2 x ∷ taken_by p (input_step p s.site 1 y).0 rest) bare

text-more : (xs ys : Records) (more : List ℕ) → rows_text (xs ++ ys) ++ more ≡ rows_text xs ++ (rows_text ys ++ more)
text-more xs ys more = ap (λ t. t ++ more) (flat_map-append (row_text plain_writer) xs ys) ∙ append_assoc (rows_text xs) (rows_text ys) more

module _ (p : Place) (keep : ℕ) (more : p.keep ≤ keep) where
  abbrev r : Place
  r = keeping_at_most p keep

  keyed-same : (s : KeyedSite) (n : ℕ) (i : KeyedInput) → fills p s i ≡ false → keyed_step p s n i ≡ keyed_step r s n i
  keyed-same s n (Plain i) e = ap (by_input s) (same-step p keep more s.site n i e)
  keyed-same s n (AskedUnder key a) e = at (s.keys key (is_red_ask a)) e
    where
      at : (o : Option Known) → cond (is_some o) false (is_full p.keep s.site) ≡ false → ask_step p s n key a o ≡ ask_step r s n key a o
      at None e = ap (by_ask s n key) (ask-same p keep more s.site a e)
      at (Some k) e = refl
  keyed-same s n (CameUnder key m) e = ap (by_arrival s n key m) (arrival-same p keep more s.site m e)

  keyed-still : (s : KeyedSite) (i : KeyedInput) → fills p s i ≡ false → fills r s i ≡ false
  keyed-still s (Plain i) e = still-takes p keep more s.site i e
  keyed-still s (AskedUnder key a) e = at (s.keys key (is_red_ask a)) e
    where
      at : (o : Option Known) → cond (is_some o) false (is_full p.keep s.site) ≡ false → cond (is_some o) false (is_full keep s.site) ≡ false
      at None e = roomier p.keep keep s.site more e
      at (Some k) e = refl
  keyed-still s (CameUnder key m) e = still-takes p keep more s.site (Came (packet.Msg m)) e

  keyed-otherwise : (s : KeyedSite) (n : ℕ) (i : KeyedInput) → fills p s i ≡ true → fills r s i ≡ false → IsOtherwise n (keyed_step r s n i).1
  keyed-otherwise s n (Plain i) e f = otherwise p keep s.site n i e f
  keyed-otherwise s n (AskedUnder key a) e f = at (s.keys key (is_red_ask a)) e f
    where
      at : (o : Option Known) → cond (is_some o) false (is_full p.keep s.site) ≡ true → cond (is_some o) false (is_full keep s.site) ≡ false
          → IsOtherwise n (ask_step r s n key a o).1
      at None e f = under-otherwise n key (asked r s.site a).1 (ask-otherwise p keep s.site a f)
      at (Some k) e f = absurd (cc e)
  keyed-otherwise s n (CameUnder key m) e f = otherwise p keep s.site n (Came (packet.Msg m)) e f

  abbrev SameTold : KeyedSite → ℕ → Records → List ℕ → Type 0
  SameTold s n records left = rows_text (keyed_answers p s n records) ++ left ≡ rows_text (keyed_answers r s n records)

  -- the answers to a record are the same, and so are those to the others
  told-on : (s : KeyedSite) (n : ℕ) (x : List (List ℕ)) (records : Records) (left : List ℕ) → SameTold s n (x ∷ records) left
      → keyed_step p s n (keyed_input p.sites x) ≡ keyed_step r s n (keyed_input p.sites x)
      → SameTold (keyed_step p s n (keyed_input p.sites x)).0 (n + 1) records left
  unfolding keyed_answers
  told-on s n x records left e same =
      let step = keyed_step p s n (keyed_input p.sites x) in
      let wider = keyed_step r s n (keyed_input p.sites x) in
      append_cancel_left (rows_text step.1) (rows_text (keyed_answers p step.0 (n + 1) records) ++ left) (rows_text (keyed_answers r step.0 (n + 1) records))
      (sym (text-more step.1 (keyed_answers p step.0 (n + 1) records) left) ∙ e
      ∙ flat_map-append (row_text plain_writer) wider.1 (keyed_answers r wider.0 (n + 1) records)
      ∙ ap (λ (t : KeyedSite × Records). rows_text t.1 ++ rows_text (keyed_answers r t.0 (n + 1) records)) (sym same))

  told-otherwise : (s : KeyedSite) (n : ℕ) (x : List (List ℕ)) (records : Records) (left : List ℕ) → SameTold s n (x ∷ records) left
      → fills p s (keyed_input p.sites x) ≡ true → fills r s (keyed_input p.sites x) ≡ false → ⊥
  unfolding keyed_answers
  told-otherwise s n x records left e is not =
      let step = keyed_step p s n (keyed_input p.sites x) in
      let wider = keyed_step r s n (keyed_input p.sites x) in
      let o = keyed-otherwise s n (keyed_input p.sites x) is not in
      let first : step.1 ≡ refused_row n Full ∷ [] = ap (λ (t : KeyedSite × Records). t.1) (keyed-full p s n (keyed_input p.sites x) is) in
      let a = sym (ap (λ t. rows_text (t ++ keyed_answers p step.0 (n + 1) records) ++ left) first) ∙ e
      ∙ ap (λ t. rows_text (t ++ keyed_answers r wider.0 (n + 1) records)) o.3 in
      o.4 (row-first (codes "reply") o.0 (decimal n ∷ codes "refused" ∷ decimal (code_of Full) ∷ refusal_name Full ∷ []) o.1
      (rows_text (keyed_answers p step.0 (n + 1) records) ++ left) (rows_text (o.2 ++ keyed_answers r wider.0 (n + 1) records))
      (sym (append_assoc (row_text plain_writer (refused_row n Full)) (rows_text (keyed_answers p step.0 (n + 1) records)) left) ∙ a))

  pub told-taken : (s : KeyedSite) (n : ℕ) (records : Records) (left : List ℕ) → SameTold s n records left
      → taken_by p s.site (bare_of p s records) ≡ taken_by r s.site (bare_of r s records)
  told-taken s n [] left e = refl
  told-taken s n (x ∷ records) left e =
      at (fills p s (keyed_input p.sites x)) refl (fills r s (keyed_input p.sites x)) refl (λ t f. told-taken t (n + 1) records left f)
    where
      i : KeyedInput
      i = keyed_input p.sites x

      -- what is taken behind a step
      taken-at : Place → KeyedSite × Records → Records
      taken-at q t = taken_by q t.0.site (bare_of q t.0 records)

      at : (b : Bool) → fills p s i ≡ b → (c : Bool) → fills r s i ≡ c
          → ((t : KeyedSite) → SameTold t (n + 1) records left → taken_by p t.site (bare_of p t records) ≡ taken_by r t.site (bare_of r t records))
          → taken_by p s.site (bare_of p s (x ∷ records)) ≡ taken_by r s.site (bare_of r s (x ∷ records))
      at true is true also on =
          let same = keyed-full p s n i is ∙ sym (keyed-full r s n i also) in
          let here = subst (λ t. SameTold t (n + 1) records left) (ap (λ (t : KeyedSite × Records). t.0) (keyed-full p s n i is))
          (told-on s n x records left e same) in
          keyed-not p s x (bare_of p (keyed_step p s 1 i).0 records) i (bare_is p.sites x) is
          ∙ ap (λ (t : KeyedSite × Records). taken_by p s.site (bare_of p t.0 records)) (keyed-full p s 1 i is) ∙ on s here
          ∙ ap (λ (t : KeyedSite × Records). taken_by r s.site (bare_of r t.0 records)) (sym (keyed-full r s 1 i also))
          ∙ sym (keyed-not r s x (bare_of r (keyed_step r s 1 i).0 records) i (bare_is p.sites x) also)
      at true is false not on = absurd (told-otherwise s n x records left e is not)
      at false is c also on =
          let t = (keyed_step p s 1 i).0 in
          let here = subst (λ t. SameTold t (n + 1) records left) (same_step p s n 1 i) (told-on s n x records left e (keyed-same s n i is)) in
          keyed-one p s x (bare_of p t records) i (bare_is p.sites x) is
          ∙ ap (λ l. bare_records s i x ++ l) (on t here ∙ ap (taken-at r) (keyed-same s 1 i is))
          ∙ sym (keyed-one r s x (bare_of r (keyed_step r s 1 i).0 records) i (bare_is p.sites x) (keyed-still s i is))

pub raised-take-the-same : RaisedKeepsTakeTheSame
raised-take-the-same p keep kept more front = told-taken p keep more (keyed_opening p.site) 1 (records_in kept) front.0 front.1
