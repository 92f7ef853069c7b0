-- Tries of a site's calls, and what lists of them come to.
use Rattle.rubis_replica.proofs.Common.{◌≡◌, ◌-◌, ◌++◌, List, [], ◌∷◌, length, map, Bool, true, false, cond, refl, sym, ap, ◌∙◌, subst, inl, inr}
use Rattle.rubis_replica.proofs.Common.{arith, All, ◌||◌, ◌==◌, nat_le, OnOk, Option, Some, None, Result, Ok, Err, ℕ, Listing, Refusal, Ask, Shadow}
use Rattle.rubis_replica.proofs.Common.{Message, Arrival, Token, decision, cores, fold_of, listed, listing_rows, Place, Replica, arrived, asked}
use Rattle.rubis_replica.proofs.Common.{generating, is_full, is_repeat, not_ours, passed, passing, rows_at, standing_of, took}
use Rattle.std.proofs.lemmas.List.Elements.{All-tail}
use Rattle.std.specs.Prelude.{not}
use Rattle.rubis_schema.specs.declared.refusals.Refusal.TheVariants.{BadTarget, LastTurn, NotOurs, NotForMe, Full}
use Rattle.rubis_model.specs.Site.{after_came, arrival_of, token_for}
use Rattle.rubis_message.specs.declared.answers.Arrival.TheVariants as arrival
use Rattle.rubis_message.specs.declared.answers.Taken.TheVariants as taken
use Rattle.rubis_replica.specs.State.{TakesFirst, after_all, answers_to, AddsRows, AnswersAsTheStep, SiteState}
use Rattle.rubis_replica.specs.Tries.{AllLead, AnswersAsWithoutRefusals, AnswersTheSameAgain, Answer, Call, ComeTogether, IsIdle, Leads, Try, Value}
use Rattle.rubis_replica.specs.Tries.{after_calls, answer_by, answers_given, call_answers, called, calls_answered, came_try, call_said, stopped_at, telling}
use Rattle.rubis_replica.specs.Tries.{with_answer, with_call}
use Rattle.rubis_replica.specs.Tries.Call.{Apply, Show}
use Rattle.rubis_replica.specs.Tries.Value.{Rows}
use Rattle.rubis_replica.specs.declared.faults.Fault.{Fault}
use Rattle.rubis_replica.specs.declared.faults.Fault.TheVariants.{Refused, Behind, Memory}

-- ---- what is refused changes nothing

abbrev pub Stays : {A : Type 0} → Replica → Replica × Result A Refusal → Type 0
Stays s step = (r : Refusal) → step.1 ≡ Err r → step.0 ≡ s

-- a test by which nothing changes stands before the others
tested : {A : Type 0} (b : Bool) (x : Result A Refusal) (s : Replica) (rest : Replica × Result A Refusal) → Stays s rest → Stays s (cond b (s, x) rest)
tested true x s rest h r e = refl
tested false x s rest h r e = h r e

granted : {A : Type 0} (s t : Replica) (a : A) → Stays s (t, Ok a)
granted s t a r e = absurd cc

generated : (p : Place) (s : Replica) (x : Result Shadow Refusal) → Stays s (generating p s x)
generated p s (Ok x) r e = absurd cc
generated p s (Err k) r e = refl

pub ask_stays : (p : Place) (s : Replica) (ask : Ask) → Stays s (asked p s ask)
ask_stays p s ask = generated p s (decision (rows_at s.log) (standing_of p.keep s) ask)

pub arrival_stays : (p : Place) (s : Replica) (m : Message) → Stays s (arrived p s m)
arrival_stays p s m =
    tested (not_ours p s m) (Err NotOurs) s _ (tested (is_repeat s m) (Ok arrival.Repeat) s _ (tested (is_full p.keep s) (Err Full) s _
    (granted s (after_came s m) (arrival_of (length (after_came s m).log - length s.log)))))

pub token_stays : (p : Place) (s : Replica) (t : Token) → Stays s (took p s t)
token_stays p s t =
    tested (not (t.to == p.site)) (Err NotForMe) s _ (tested (nat_le t.turn s.last) (Ok taken.Repeat) s _
    (granted s (record s { held = Some t.issued; last = t.turn }) taken.Holding))

passing_stays : (p : Place) (s : Replica) (to : ℕ) (held : Option ℕ) → Stays s (passing p s to held)
passing_stays p s to None r e = refl
passing_stays p s to (Some issued) r e =
    tested (nat_le p.sites to || (to == p.site)) (Err BadTarget) s _ (tested (nat_le 1000000000 s.last) (Err LastTurn) s _
    (granted s (record s { held = None }) (token_for s to issued))) r e

pub pass_stays : (p : Place) (s : Replica) (to : ℕ) → Stays s (passed p s to)
pass_stays p s to = passing_stays p s to s.held

-- ---- calls that answer as the step says are tries
pub step_leads : {A : Type 0} (value : A → Value) (call : Call) (old new : SiteState) (step : Replica × Result A Refusal)
    → called old.place old.state call ≡ telling value step → Stays old.state step → (result : Result A Fault)
    → AnswersAsTheStep old new step result → Leads old.place old.state call (answer_by value result) new.state
step_leads value call old new step is stays (Ok a) h = (ap (λ c. c.0) is ∙ sym h.0, ap (λ c. c.1) is ∙ ap (call_said value) h.1)
step_leads value call old new step is stays (Err (Refused r)) h =
    (ap (λ c. c.0) is ∙ stays r h.1 ∙ sym h.0, ap (λ c. c.1) is ∙ ap (call_said value) h.1)
step_leads value call old new step is stays (Err Behind) h = h
step_leads value call old new step is stays (Err Memory) h = h

pub listing_stays : (s : Replica) (l : Listing) → Stays s (listed s l)
listing_stays s l r e = refl

-- a listing whose rows are added to what takes them
pub rows_lead : (adds : List (List (List ℕ)) → Type 0) (l : Listing) (old new : SiteState) (result : Result (Unit {0}) Fault)
    → AddsRows adds old new (listed old.state l) result
    → (rows : List (List (List ℕ))) × OnOk result (adds rows)
    × Leads old.place old.state (Show l) (answer_by (λ (u : Unit {0}). Rows rows) result) new.state
rows_lead adds l old new (Ok u) h = (listing_rows old.state.log (fold_of (cores old.state.log)) l, h.1, (sym h.0, refl))
rows_lead adds l old new (Err (Refused r)) h = absurd (let e = h.1 in cc)
rows_lead adds l old new (Err Behind) h = ([], tt, h)
rows_lead adds l old new (Err Memory) h = ([], tt, h)

-- ---- messages that arrive together
came_of : Place → Replica → List Message → List (Message × Result Arrival Refusal)
came_of p s [] = []
came_of p s (m ∷ ms) = (m, (arrived p s m).1) ∷ came_of p (arrived p s m).0 ms

came_messages : (p : Place) (s : Replica) (ms : List Message) → ms ≡ map (λ (c : Message × Result Arrival Refusal). c.0) (came_of p s ms)
unfolding came_of
came_messages p s [] = refl
came_messages p s (m ∷ ms) = ap (λ l. m ∷ l) (came_messages p (arrived p s m).0 ms)

came_answers : (p : Place) (s : Replica) (ms : List Message)
    → answers_to p s ms ≡ map (λ (c : Message × Result Arrival Refusal). c.1) (came_of p s ms)
unfolding came_of
came_answers p s [] = refl
came_answers p s (m ∷ ms) = ap (λ l. (arrived p s m).1 ∷ l) (came_answers p (arrived p s m).0 ms)

stop_leads : (p : Place) (s : Replica) (rest : List Message) → AllLead p s (stopped_at rest) s
stop_leads p s [] = refl
stop_leads p s (m ∷ ms) = (s, refl, refl)

came_lead : (p : Place) (s : Replica) (ms rest : List Message) → AllLead p s (map came_try (came_of p s ms) ++ stopped_at rest) (after_all p s ms)
unfolding came_of
came_lead p s [] rest = stop_leads p s rest
came_lead p s (m ∷ ms) rest = ((arrived p s m).0, (refl, refl), came_lead p (arrived p s m).0 ms rest)

pub come_together : (p : Place) (old new : Replica) (messages : List Message) (answers : List (Result Arrival Refusal)) (rest : List Message)
    → TakesFirst p old new messages answers rest → ComeTogether p old messages answers rest new
come_together p old new messages answers rest first = record {
  came = came_of p old first.taken;
  parts = first.parts ∙ ap (λ ms. ms ++ rest) (came_messages p old first.taken);
  told = first.told ∙ came_answers p old first.taken;
  lead = subst (AllLead p old (map came_try (came_of p old first.taken) ++ stopped_at rest)) (sym first.state) (came_lead p old first.taken rest);
}

-- ---- lists of tries
one_more : (p : Place) (old next new : Replica) (call : Call) (answer : Option Answer) (more : List Try) → Leads p old call answer next
    → (after_calls p next (calls_answered more) ≡ new) × (call_answers p next (calls_answered more) ≡ answers_given more)
    → (after_calls p old (with_call call answer (calls_answered more)) ≡ new)
    × (call_answers p old (with_call call answer (calls_answered more)) ≡ with_answer answer (answers_given more))
one_more p old next new call (Some a) more l rest = (
  ap (λ s. after_calls p s (calls_answered more)) l.0 ∙ rest.0,
  (λ i. l.1 i ∷ call_answers p (l.0 i) (calls_answered more)) ∙ ap (λ all. a ∷ all) rest.1,
)
one_more p old next new call None more l rest =
    subst (λ s. (after_calls p s (calls_answered more) ≡ new) × (call_answers p s (calls_answered more) ≡ answers_given more)) l rest

pub answers_as_without_refusals : AnswersAsWithoutRefusals
answers_as_without_refusals p old new [] e = (sym e, refl)
answers_as_without_refusals p old new (t ∷ more) h =
    one_more p old h.0 new t.call t.answer more h.1 (answers_as_without_refusals p h.0 new more h.2)

applied : (p : Place) (old next : Replica) (answer : Option Answer) → Leads p old Apply answer next → next ≡ old
applied p old next (Some a) l = sym l.0
applied p old next None l = l

idle_stays : (p : Place) (old next : Replica) (t : Try) → IsIdle t → Leads p old t.call t.answer next → next ≡ old
idle_stays p old next t (inl e) l = subst (λ answer. Leads p old t.call answer next) e l
idle_stays p old next t (inr e) l = applied p old next t.answer (subst (λ call. Leads p old call t.answer next) e l)

pub answers_the_same_again : AnswersTheSameAgain
answers_the_same_again p old new [] call answer idle h = (h.1.0 ∙ sym h.2, h.1.1)
answers_the_same_again p old new (t ∷ ts) call answer idle h =
    let same : h.0 ≡ old = idle_stays p old h.0 t (idle 0 t (omega arith)) h.1 in
    subst (λ s. ((called p s call).0 ≡ new) × ((called p s call).1 ≡ answer)) same
    (answers_the_same_again p h.0 new ts call answer (All-tail IsIdle t ts idle) h.2)
