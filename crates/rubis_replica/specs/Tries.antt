-- Calls of a site that are tried, and made again where memory ran out.
use Rattle.std.specs.Prelude.{◌≡◌, ◌⊎◌, ◌++◌, All, ℕ, List, [], ◌∷◌, Option, Some, None, Result, Ok, Err, map}
use Rattle.rubis_schema.specs.declared.listings.Listing.{Listing}
use Rattle.rubis_schema.specs.declared.refusals.Refusal.{Refusal}
use Rattle.rubis_shadow.specs.declared.shadows.Ask.{Ask}
use Rattle.rubis_message.specs.Message.{Message}
use Rattle.rubis_message.specs.declared.answers.Arrival.{Arrival}
use Rattle.rubis_message.specs.declared.answers.Taken.{Taken}
use Rattle.rubis_message.specs.declared.tokens.Token.{Token}
use Rattle.rubis_model.specs.Site.{listed, Place, Replica, arrived, asked, passed, took}
use Rattle.rubis_replica.specs.declared.faults.Fault.{Fault}
use Rattle.rubis_replica.specs.declared.faults.Fault.TheVariants as fault

-- what is asked of a site: to decide an ask, to take in a message or a token that came, to pass the token on, to show a
-- listing, or only to apply what is pending, or what is left of a batch
pub data Call : Type 0 where
  Decide : Ask → Call
  Arrive : Message → Call
  Take : Token → Call
  Pass : ℕ → Call
  Show : Listing → Call
  Apply : Call

-- what it gives where it isn't refused by the rules
pub data Value : Type 0 where
  Made : Message → Value
  Came : Arrival → Value
  Took : Taken → Value
  Handed : Token → Value
  Rows : List (List (List ℕ)) → Value
  Applied : Value

-- the answer to a call: a value or a refusal
abbrev pub Answer : Type 0
Answer = Result Value Refusal

-- the answer of a result, as what calls answer
abbrev pub call_said : {A : Type 0} → (A → Value) → Result A Refusal → Answer
call_said value (Ok a) = Ok (value a)
call_said value (Err r) = Err r

-- a step of the model, with its answer as what calls answer
abbrev pub telling : {A : Type 0} → (A → Value) → Replica × Result A Refusal → Replica × Answer
telling value step = (step.0, call_said value step.1)

-- what the model makes of a call: where it leads, and its answer
abbrev pub called : Place → Replica → Call → Replica × Answer
called p s (Decide ask) = telling Made (asked p s ask)
called p s (Arrive m) = telling Came (arrived p s m)
called p s (Take t) = telling Took (took p s t)
called p s (Pass to) = telling Handed (passed p s to)
called p s (Show l) = telling Rows (listed s l)
called p s Apply = (s, Ok Applied)

-- a call that was tried, and its answer: none where memory ran out or the site was behind
pub record Try : Type 0 where
  pub call : Call
  pub answer : Option Answer

-- the answer that a try has by what the site returned
abbrev pub answer_by : {A : Type 0} → (A → Value) → Result A Fault → Option Answer
answer_by value (Ok a) = Some (Ok (value a))
answer_by value (Err (fault.Refused r)) = Some (Err r)
answer_by value (Err fault.Behind) = None
answer_by value (Err fault.Memory) = None

-- one try: its answer is the model's, and the site stands where the call leads; without an answer it stands where it stood
abbrev pub Leads : Place → Replica → Call → Option Answer → Replica → Type 0
Leads p old call (Some answer) new = ((called p old call).0 ≡ new) × ((called p old call).1 ≡ answer)
Leads p old call None new = new ≡ old

-- tries, one after the other
abbrev pub AllLead : Place → Replica → List Try → Replica → Type 0
AllLead p old [] new = new ≡ old
AllLead p old (t ∷ more) new = (next : Replica) × Leads p old t.call t.answer next × AllLead p next more new

-- ---- what the tries of a site come to

-- the calls that were answered, and their answers
abbrev pub with_call : Call → Option Answer → List Call → List Call
with_call call (Some answer) calls = call ∷ calls
with_call call None calls = calls

-- the calls of those tries that were answered
abbrev pub calls_answered : List Try → List Call
calls_answered [] = []
calls_answered (t ∷ more) = with_call t.call t.answer (calls_answered more)

-- the answers, with this one before them if there is one
abbrev pub with_answer : Option Answer → List Answer → List Answer
with_answer (Some answer) answers = answer ∷ answers
with_answer None answers = answers

-- the answers of those tries that were answered
abbrev pub answers_given : List Try → List Answer
answers_given [] = []
answers_given (t ∷ more) = with_answer t.answer (answers_given more)

-- where calls lead of which each is made once, and what they answer
abbrev pub after_calls : Place → Replica → List Call → Replica
after_calls p s [] = s
after_calls p s (call ∷ more) = after_calls p (called p s call).0 more

-- what a site answers to calls of which each is made once
abbrev pub call_answers : Place → Replica → List Call → List Answer
call_answers p s [] = []
call_answers p s (call ∷ more) = (called p s call).1 ∷ call_answers p (called p s call).0 more

-- whatever refusals of memory come between, each answer that was given is the model's answer to the calls answered so far, and
-- these alone lead to where the site stands
abbrev pub AnswersAsWithoutRefusals : Type 0
AnswersAsWithoutRefusals = (p : Place) (old new : Replica) (tries : List Try) → AllLead p old tries new
    → (after_calls p old (calls_answered tries) ≡ new) × (call_answers p old (calls_answered tries) ≡ answers_given tries)

-- a try without an answer, or one that only applies something
abbrev pub IsIdle : Try → Type 0
IsIdle t = (t.answer ≡ None) ⊎ (t.call ≡ Apply)

-- a call that is made again after tries without an answer, and where the site is behind after it has caught up, answers what
-- it would have answered at first
abbrev pub AnswersTheSameAgain : Type 0
AnswersTheSameAgain = (p : Place) (old new : Replica) (idle : List Try) (call : Call) (answer : Answer)
    → All IsIdle idle → AllLead p old (idle ++ record { call = call; answer = Some answer } ∷ []) new
    → ((called p old call).0 ≡ new) × ((called p old call).1 ≡ answer)

-- ---- messages that arrive together

-- a message and its answer, as a try
abbrev pub came_try : Message × Result Arrival Refusal → Try
came_try came = record { call = Arrive came.0; answer = Some (call_said Came came.1) }

-- the first of those that weren't taken in, if there are some, had no answer
abbrev pub stopped_at : List Message → List Try
stopped_at [] = []
stopped_at (m ∷ ms) = record { call = Arrive m; answer = None } ∷ []

-- the first of the messages were tried one after the other, each with its answer, and then the first of the rest
pub record ComeTogether (p : Place) (old : Replica) (messages : List Message) (answers : List (Result Arrival Refusal)) (rest : List Message)
    (new : Replica) : Type 0 where
  pub came : List (Message × Result Arrival Refusal)
  pub parts : messages ≡ map (λ c. c.0) came ++ rest
  pub told : answers ≡ map (λ c. c.1) came
  pub lead : AllLead p old (map came_try came ++ stopped_at rest) new
