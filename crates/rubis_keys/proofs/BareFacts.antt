-- Keys change nothing of what a site comes to.
use Rattle.std.proofs.Common.{arith, ◌≡◌, ◌∙◌, ◌+◌, ◌++◌, ◌∷◌, [], ℕ, Bool, List, None, Option, Some, ap, cond, drop, false, refl, subst, sym, true, append_assoc}
use Rattle.std.specs.Prelude.{bytes_eq, codes, is_some, length}
use Rattle.std.specs.Cmp.Lexicographic.{bytes_decides}
use Rattle.rubis_shadow.specs.declared.shadows.Ask.{Ask}
use Rattle.rubis_message.specs.Inputs.{input_by, input_of}
use Rattle.rubis_message.specs.Readings.{kind_of, packet_of, request_of, take_kind, take_packet, take_request}
use Rattle.rubis_message.specs.declared.inputs.Input.{Input}
use Rattle.rubis_message.specs.declared.inputs.Input.TheVariants as input
use Rattle.rubis_message.specs.declared.requests.Request.TheVariants as request
use Rattle.rubis_message.specs.declared.tokens.Packet.TheVariants as packet
use Rattle.rubis_model.specs.Processes.{site_after}
use Rattle.rubis_model.specs.Site.{Place, Replica, asked, input_step}
use Rattle.rubis_keys.specs.Keys.{KeyedSite, ask_step, is_key, is_red_ask, keyed_after, keyed_answers, keyed_input, keyed_step, noted_made, under}
use Rattle.rubis_keys.specs.Laws.{bare_of, bare_records}
use Rattle.rubis_keys.specs.declared.inputs.KeyedInput.{KeyedInput}
use Rattle.rubis_keys.specs.declared.inputs.KeyedInput.TheVariants.{Plain, AskedUnder, CameUnder}
use Rattle.rubis_keys.specs.declared.keys.Known.{Known}

-- ---- numbers are in answers alone

pub same_input : (p : Place) (s : Replica) (n m : ℕ) (i : Input) → (input_step p s n i).0 ≡ (input_step p s m i).0
same_input p s n m (input.Asked (request.Ask a)) = refl
same_input p s n m (input.Asked (request.Pass to)) = refl
same_input p s n m (input.Asked (request.List l)) = refl
same_input p s n m (input.Came (packet.Msg x)) = refl
same_input p s n m (input.Came (packet.Token t)) = refl
same_input p s n m input.Neither = refl

same_ask : (p : Place) (s : KeyedSite) (n m : ℕ) (key : List ℕ) (a : Ask) (o : Option Known)
    → (ask_step p s n key a o).0
    ≡ (ask_step p s m key a o).0
same_ask p s n m key a None = refl
same_ask p s n m key a (Some k) = refl

pub same_step : (p : Place) (s : KeyedSite) (n m : ℕ) (i : KeyedInput) → (keyed_step p s n i).0 ≡ (keyed_step p s m i).0
same_step p s n m (Plain i) = ap (λ (r : Replica). record s { site = r }) (same_input p s.site n m i)
same_step p s n m (AskedUnder key a) = same_ask p s n m key a (s.keys key (is_red_ask a))
same_step p s n m (CameUnder key x) = refl

-- ---- what a record is without its key

abbrev pub BareIs : ℕ → List (List ℕ) → KeyedInput → Type 0
BareIs sites fields (Plain i) = input_of sites fields ≡ i
BareIs sites fields (AskedUnder key a) = input_of sites (drop 2 fields) ≡ input.Asked (request.Ask a)
BareIs sites fields (CameUnder key m) = input_of sites (drop 2 fields) ≡ input.Came (packet.Msg m)

key_asks_nothing : (sites : ℕ) (key : List ℕ) (rest : List (List ℕ)) → request_of sites (codes "key" ∷ key ∷ rest) ≡ None
unfolding request_of take_request take_kind kind_of
key_asks_nothing sites key rest = refl

key_is_no_packet : (sites : ℕ) (key : List ℕ) (rest : List (List ℕ)) → packet_of sites (codes "key" ∷ key ∷ rest) ≡ None
unfolding packet_of take_packet
key_is_no_packet sites key rest = refl

pub key_is_neither : (sites : ℕ) (key : List ℕ) (rest : List (List ℕ)) → input_of sites (codes "key" ∷ key ∷ rest) ≡ input.Neither
key_is_neither sites key rest = λ i. input_by (key_asks_nothing sites key rest i) (key_is_no_packet sites key rest i)

under_is : (sites : ℕ) (word key : List ℕ) (rest : List (List ℕ)) (i : Input) → word ≡ codes "key" → input_of sites rest ≡ i
    → BareIs sites (word ∷ key ∷ rest) (under key i)
under_is sites word key rest (input.Asked (request.Ask a)) w e = e
under_is sites word key rest (input.Asked (request.Pass to)) w e = ap (λ x. input_of sites (x ∷ key ∷ rest)) w ∙ key_is_neither sites key rest
under_is sites word key rest (input.Asked (request.List l)) w e = ap (λ x. input_of sites (x ∷ key ∷ rest)) w ∙ key_is_neither sites key rest
under_is sites word key rest (input.Came (packet.Msg m)) w e = e
under_is sites word key rest (input.Came (packet.Token t)) w e = ap (λ x. input_of sites (x ∷ key ∷ rest)) w ∙ key_is_neither sites key rest
under_is sites word key rest input.Neither w e = ap (λ x. input_of sites (x ∷ key ∷ rest)) w ∙ key_is_neither sites key rest

named_is : (sites : ℕ) (word key : List ℕ) (rest : List (List ℕ)) (b : Bool) → word ≡ codes "key"
    → BareIs sites (word ∷ key ∷ rest) (cond b (under key (input_of sites rest)) (Plain input.Neither))
named_is sites word key rest true w = under_is sites word key rest (input_of sites rest) w refl
named_is sites word key rest false w = ap (λ x. input_of sites (x ∷ key ∷ rest)) w ∙ key_is_neither sites key rest

said_is : (sites : ℕ) (word key : List ℕ) (rest : List (List ℕ)) (b : Bool) → (b ≡ true → word ≡ codes "key")
    → BareIs sites (word ∷ key ∷ rest)
    (cond b (cond (is_key key) (under key (input_of sites rest)) (Plain input.Neither)) (Plain (input_of sites (word ∷ key ∷ rest))))
said_is sites word key rest true w = named_is sites word key rest (is_key key) (w refl)
said_is sites word key rest false w = refl

pub bare_is : (sites : ℕ) (fields : List (List ℕ)) → BareIs sites fields (keyed_input sites fields)
bare_is sites [] = refl
bare_is sites (word ∷ []) = refl
bare_is sites (word ∷ key ∷ rest) = said_is sites word key rest (bytes_eq word (codes "key")) (bytes_decides word (codes "key")).0

pub plain_is : (sites : ℕ) (fields : List (List ℕ)) (i : Input) → keyed_input sites fields ≡ Plain i → input_of sites fields ≡ i
plain_is sites fields i e = subst (BareIs sites fields) e (bare_is sites fields)

-- ---- the site is that of the records without keys

abbrev pub Later : Place → List (List (List ℕ)) → Type 0
Later p rest = (t : KeyedSite) (n m : ℕ) → (keyed_after p t n rest).site ≡ site_after p t.site m (bare_of p t rest)

one_more : (p : Place) (s : Replica) (m : ℕ) (t : KeyedSite) (fields : List (List ℕ)) (rest : List (List (List ℕ))) (i : Input) → input_of p.sites fields ≡ i
    → (input_step p s 1 i).0 ≡ t.site → site_after p t.site (m + 1) (bare_of p t rest) ≡ site_after p s m (fields ∷ bare_of p t rest)
one_more p s m t fields rest i bare is =
    ap (λ (x : Replica). site_after p x (m + 1) (bare_of p t rest)) (sym is ∙ same_input p s 1 m i ∙ ap (λ x. (input_step p s m x).0) (sym bare))

bare_ask : (p : Place) (s : KeyedSite) (n m : ℕ) (key : List ℕ) (a : Ask) (fields : List (List ℕ)) (rest : List (List (List ℕ))) (o : Option Known)
    → input_of p.sites (drop 2 fields) ≡ input.Asked (request.Ask a) → Later p rest
    → (keyed_after p (ask_step p s 1 key a o).0 (n + 1) rest).site
    ≡ site_after p s.site m (cond (is_some o) [] (drop 2 fields ∷ []) ++ bare_of p (ask_step p s 1 key a o).0 rest)
bare_ask p s n m key a fields rest None bare later =
    later (record { site = (asked p s.site a).0; keys = noted_made s.keys key (asked p s.site a).1 }) (n + 1) (m + 1)
    ∙ one_more p s.site m (record { site = (asked p s.site a).0; keys = noted_made s.keys key (asked p s.site a).1 }) (drop 2 fields) rest
    (input.Asked (request.Ask a)) bare refl
bare_ask p s n m key a fields rest (Some k) bare later = later s (n + 1) m

bare_step : (p : Place) (s : KeyedSite) (n m : ℕ) (fields : List (List ℕ)) (rest : List (List (List ℕ))) (i : KeyedInput) → BareIs p.sites fields i → Later p rest
    → (keyed_after p (keyed_step p s 1 i).0 (n + 1) rest).site ≡ site_after p s.site m (bare_records s i fields ++ bare_of p (keyed_step p s 1 i).0 rest)
bare_step p s n m fields rest (Plain i) bare later =
    later (keyed_step p s 1 (Plain i)).0 (n + 1) (m + 1) ∙ one_more p s.site m (keyed_step p s 1 (Plain i)).0 fields rest i bare refl
bare_step p s n m fields rest (AskedUnder key a) bare later = bare_ask p s n m key a fields rest (s.keys key (is_red_ask a)) bare later
bare_step p s n m fields rest (CameUnder key x) bare later =
    later (keyed_step p s 1 (CameUnder key x)).0 (n + 1) (m + 1)
    ∙ one_more p s.site m (keyed_step p s 1 (CameUnder key x)).0 (drop 2 fields) rest (input.Came (packet.Msg x)) bare refl

pub bare_same : (p : Place) (s : KeyedSite) (n m : ℕ) (records : List (List (List ℕ))) → (keyed_after p s n records).site ≡ site_after p s.site m (bare_of p s records)
bare_same p s n m [] = refl
bare_same p s n m (fields ∷ rest) =
    ap (λ t. (keyed_after p t (n + 1) rest).site) (same_step p s n 1 (keyed_input p.sites fields))
    ∙ bare_step p s n m fields rest (keyed_input p.sites fields) (bare_is p.sites fields) (λ t k l. bare_same p t k l rest)

-- ---- records that follow others

pub after_more : (p : Place) (s : KeyedSite) (n : ℕ) (records more : List (List (List ℕ)))
    → keyed_after p s n (records ++ more) ≡ keyed_after p (keyed_after p s n records) (n + length records) more
after_more p s n [] more = ap (λ k. keyed_after p s k more) (omega arith)
after_more p s n (fields ∷ rest) more =
    after_more p (keyed_step p s n (keyed_input p.sites fields)).0 (n + 1) rest more
    ∙ ap (λ k. keyed_after p (keyed_after p (keyed_step p s n (keyed_input p.sites fields)).0 (n + 1) rest) k more) (omega arith)

pub answers_more : (p : Place) (s : KeyedSite) (n : ℕ) (records more : List (List (List ℕ)))
    → keyed_answers p s n (records ++ more) ≡ keyed_answers p s n records ++ keyed_answers p (keyed_after p s n records) (n + length records) more
unfolding keyed_answers
answers_more p s n [] more = ap (λ k. keyed_answers p s k more) (omega arith)
answers_more p s n (fields ∷ rest) more =
    let i = keyed_input p.sites fields in
    let t = (keyed_step p s n i).0 in
    ap (λ rows. (keyed_step p s n i).1 ++ rows) (answers_more p t (n + 1) rest more
    ∙ ap (λ k. keyed_answers p t (n + 1) rest ++ keyed_answers p (keyed_after p t (n + 1) rest) k more) (omega arith))
    ∙ sym (append_assoc (keyed_step p s n i).1 (keyed_answers p t (n + 1) rest) (keyed_answers p (keyed_after p t (n + 1) rest) (n + length (fields ∷ rest)) more))
