-- What a desk takes, by what its site answers.
use Rattle.rubis_script.proofs.Common.{◌≡◌, ◌∙◌, ◌+◌, ◌++◌, ◌∷◌, [], ℕ, zero, suc, All, Bool, List, Option, ap, arith, false, subst, sym, true}
use Rattle.rubis_script.proofs.Common.{Message, sites_of, Listing, input_of, Input, Asked, site_after, after_all, input_step, Account, AnswersRecord}
use Rattle.rubis_script.proofs.Common.{Keeps, GoesOn, breaks-unwritten}
use Rattle.std.specs.Prelude.{if◌then◌else◌}
use Rattle.rubis_engine.specs.Accounts.{LeadsAlike}
use Rattle.rubis_engine.proofs.RunFacts.{answers-waiting}
use Rattle.rubis_message.specs.declared.requests.Request.TheVariants as request
use Rattle.rubis_script.specs.Desks.{KeepsSetup, LeadsSite, TakesHeld, TakesNext, WritesNext, WritesPrefixFrom, left_at}
use Rattle.rubis_script.specs.Windows.{WritesFront, WritesOff, listed_behind}
use Rattle.rubis_script.specs.Headline.{SettlesHeld, StepsOn}
use Rattle.rubis_script.specs.Inputs.{IsAnswered}
use Rattle.rubis_script.specs.SiteRuns.{site_account, told_by}
use Rattle.rubis_script.specs.declared.desk.Desk.{Desk}
use Rattle.rubis_script.proofs.WindowFacts.{listed_front, listed_goes, flush_goes, told-held, told-kept}
use Rattle.rubis_script.proofs.LeadFacts.{flush_steps}

-- ---- the messages that it holds, as they are named otherwise

pub held_as : (messages window : List Message) (sites k : ℕ) → messages ≡ window → sites ≡ k → All (λ m. sites_of m ≡ sites) window
    → All (λ m. sites_of m ≡ k) messages
held_as messages window sites k same is h = subst (λ w. All (λ m. sites_of m ≡ k) w) (sym same) (subst (λ s. All (λ m. sites_of m ≡ s) window) is h)

held-more : (sites : ℕ) (xs : List Message) (m : Message) → All (λ x. sites_of x ≡ sites) xs → sites_of m ≡ sites → All (λ x. sites_of x ≡ sites) (xs ++ m ∷ [])
held-more sites [] m h e zero d lt = e
held-more sites [] m h e (suc k) d lt = absurd (omega (arith, lt))
held-more sites (x ∷ xs) m h e zero d lt = h zero d (omega arith)
held-more sites (x ∷ xs) m h e (suc k) d lt = held-more sites xs m (λ j f l. h (suc j) f (omega (arith, l))) e k d (omega (arith, lt))

-- one more came to be held, or there was no memory for it
pub held-pushed : (pushed : Bool) (xs items : List Message) (m : Message) (sites : ℕ) → items ≡ (if pushed then xs ++ m ∷ [] else xs)
    → All (λ x. sites_of x ≡ sites) xs → sites_of m ≡ sites → All (λ x. sites_of x ≡ sites) items
held-pushed true xs items m sites is h e = subst (λ w. All (λ x. sites_of x ≡ sites) w) (sym is) (held-more sites xs m h e)
held-pushed false xs items m sites is h e = subst (λ w. All (λ x. sites_of x ≡ sites) w) (sym is) h

-- ---- where its records lead

pub leads-settled : {T : Type 0} (d d2 : Desk T) → SettlesHeld d.site d.window.items d2.site d2.window.items → LeadsAlike LeadsSite d d2
leads-settled d d2 (place, state) number more last (none, at, is) = (none, at ∙ place, is ∙ (λ i. site_after (place i) (state i) number more))

pub leads-on : {T : Type 0} (d d2 : Desk T) (n : ℕ) (fields : List (List ℕ)) (input : Input) → input_of d.site.place.sites fields ≡ input
    → StepsOn n input d.site d.window.items d2.site d2.window.items
    → (more : List (List (List ℕ))) (last : Desk T) → LeadsSite d2 (n + 1) more last → LeadsSite d n (fields ∷ more) last
leads-on d d2 n fields input means steps more last (none, at, is) =
    let (place, state) = subst (λ i. StepsOn n i d.site d.window.items d2.site d2.window.items) (sym means) steps in
    (none, at ∙ place, is ∙ (λ i. site_after (place i) (state i) (n + 1) more))

-- ---- the messages that were held were taken in, and nothing is left of them

pub told-flushed : {T : Type 0} (d mid : Desk T) (n : ℕ) (sink sink2 : List ℕ) → TakesHeld d mid sink sink2 → mid.window.items ≡ []
    → Keeps (left_at d n) (told_by mid.site n) sink sink2
told-flushed d mid n sink sink2 h none = told-held (left_at d n) mid.site mid.window.items mid.first n sink sink2 none (h.text n)

-- and the number of the first that comes to be held is another
pub held-first : {T : Type 0} (d mid d2 : Desk T) (sink sink2 : List ℕ) → TakesHeld d mid sink sink2 → mid.window.items ≡ [] → d2.window.items ≡ []
    → d2.site.place ≡ mid.site.place → d2.site.state ≡ mid.site.state → TakesHeld d d2 sink sink2
held-first d mid d2 sink sink2 h none none2 place state = record {
  text = λ number. told-kept (left_at d number) d2.site d2.window.items d2.first number sink sink2 none2
      (subst (λ (a : Account). Keeps (left_at d number) a sink sink2) (λ i. site_account (sym place i) (sym state i) number)
      (told-flushed d mid number sink sink2 h none));
  leads = (place ∙ h.leads.0, (λ i. after_all (place i) (state i) (none2 i)) ∙ ap (after_all mid.site.place mid.site.state) (sym none) ∙ h.leads.1);
}

-- the record leads on from there
pub steps-flushed : {T : Type 0} (d mid d2 : Desk T) (input : Input) (n : ℕ) (sink sink2 : List ℕ) → TakesHeld d mid sink sink2 → mid.window.items ≡ []
    → d2.site.place ≡ mid.site.place → d2.site.state ≡ (input_step mid.site.place mid.site.state n input).0 → d2.window.items ≡ []
    → StepsOn n input d.site d.window.items d2.site d2.window.items
steps-flushed d mid d2 input n sink sink2 h none place state none2 =
    subst (λ w. StepsOn n input d.site d.window.items d2.site w) (none ∙ sym none2)
    (flush_steps d.site mid.site d2.site d.window.items mid.window.items n (λ p. input) h.leads none place state)

-- then the record was answered
pub next-flushed : {T : Type 0} (d mid d2 : Desk T) (input : Input) (n : ℕ) (sink sink2 sink3 : List ℕ) → KeepsSetup d mid → TakesHeld d mid sink sink2
    → mid.window.items ≡ [] → d2.site.place ≡ mid.site.place → IsAnswered n input mid.site d2.site sink2 sink3 → d2.window.items ≡ []
    → TakesNext input n d d2 sink sink3
next-flushed d mid d2 input n sink sink2 sink3 setup h none place answered none2 = record {
  text = λ fields is. flush_goes d.site mid.site d2.site d.window.items d2.window.items d.first d2.first n fields sink sink2 sink3
      (told-flushed d mid n sink sink2 h none) place
      (subst (λ i. IsAnswered n i mid.site d2.site sink2 sink3) (sym (ap (λ p. input_of p.sites fields) setup.0 ∙ is)) answered) none2;
  leads = steps-flushed d mid d2 input n sink sink2 h none place answered.0 none2;
}

-- then a listing was written out
pub listed-flushed : {T : Type 0} (d mid d2 : Desk T) (l : Listing) (n : ℕ) (sink sink2 sink3 : List ℕ) (before after : Option (List ℕ)) → KeepsSetup d mid
    → TakesHeld d mid sink sink2 → mid.window.items ≡ [] → d2.site.place ≡ mid.site.place → d2.site.state ≡ mid.site.state → d2.window.items ≡ []
    → WritesOff (listed_behind sink2 mid.site n l) sink3 before after → WritesNext (Asked (request.List l)) n d d2 sink sink3 before after
listed-flushed d mid d2 l n sink sink2 sink3 before after setup h none place state none2 off = record {
  text = λ fields is. record {
    out = off.out;
    appended = off.appended;
    answers = subst (λ t. AnswersRecord GoesOn (left_at d n) (left_at d2 (n + 1)) sink t fields) off.parts
        (listed_goes d.site mid.site d2.site d.window.items d2.window.items d.first d2.first n l fields sink sink2
        (told-flushed d mid n sink sink2 h none) place state none2 (ap (λ p. input_of p.sites fields) setup.0 ∙ is));
  };
  leads = steps-flushed d mid d2 (Asked (request.List l)) n sink sink2 h none place state none2;
}

-- then memory ran out in the middle of it
pub front-flushed : {T : Type 0} (d mid : Desk T) (l : Listing) (n : ℕ) (sink sink2 : List ℕ) (before after : Option (List ℕ)) → KeepsSetup d mid
    → TakesHeld d mid sink sink2 → mid.window.items ≡ [] → WritesFront (listed_behind sink2 mid.site n l) before after
    → WritesPrefixFrom (Asked (request.List l)) n d sink before after
front-flushed d mid l n sink sink2 before after setup h none front fields is =
    listed_front d.site mid.site d.window.items d.first n l fields sink sink2 before after (told-flushed d mid n sink sink2 h none)
    (ap (λ p. input_of p.sites fields) setup.0 ∙ is) front

-- ---- nothing was written out

pub next-waiting : {T : Type 0} (input : Input) (n : ℕ) (d d2 : Desk T) (sink sink2 : List ℕ) (now : Option (List ℕ)) → TakesNext input n d d2 sink sink2
    → WritesNext input n d d2 sink sink2 now now
next-waiting input n d d2 sink sink2 now h = record {
  text = λ fields is. answers-waiting GoesOn (left_at d n) (left_at d2 (n + 1)) sink sink2 now fields (h.text fields is);
  leads = h.leads;
}

pub prefix-unwritten : {T : Type 0} (input : Input) (n : ℕ) (d : Desk T) (sink : List ℕ) (now : Option (List ℕ)) → WritesPrefixFrom input n d sink now now
prefix-unwritten input n d sink now fields is = breaks-unwritten (left_at d n) sink fields now
