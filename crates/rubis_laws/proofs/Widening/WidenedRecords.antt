-- An audit of records whose messages were widened answers the same.
use Rattle.rubis_laws.proofs.Common.{ℕ, ◌≡◌, ◌+◌, ◌≤◌, List, [], ◌∷◌, ◌++◌, Option, Some, None, refl, sym, ap, ◌∙◌, arith, map, reverse, option_and_then}
use Rattle.rubis_laws.proofs.Common.{option_map, Ok, option_map_or, map-append, reverse-append, COUNTED_MAX, widened, sites_widened, widened_is, AreAmong, Line}
use Rattle.rubis_laws.proofs.Common.{IsLine, line_of, line_record, with_line, logs_after, verdict_record, audit_record, Begin, Next, Claim, Log, verdict}
use Rattle.rubis_laws.proofs.Common.{widened_log, has_reverse}
use Rattle.rubis_model.specs.Widening.{widened_line, widened_record, AuditStays}
use Rattle.rubis_laws.proofs.Audits.AuditReadings.{AllAmong, after_line, line_only, logs_only, one_more}
use Rattle.rubis_laws.proofs.Widening.WidenedLogs.{verdict_stays}

module _ (from to : ℕ) (up : from ≤ to) (few : to ≤ COUNTED_MAX) where
  wide_is : (x : Line) → IsLine from x → IsLine to (widened_line to x)
  wide_is (Begin site) h = omega (arith, h, up)
  wide_is (Next m) h = let e = h.1 in (widened_is to m h.0 (omega (arith, e, up)) few, sites_widened to m (omega (arith, e, up)), h.2)
  wide_is (Claim row) h = h

  abbrev ws : List Log → List Log
  ws logs = map (widened_log to) logs

  with_w : (logs : List Log) (x : Line) → with_line (ws logs) (widened_line to x) ≡ option_map ws (with_line logs x)
  with_w [] (Begin site) = refl
  with_w (log ∷ logs) (Begin site) = refl
  with_w [] (Next m) = refl
  with_w [] (Claim row) = refl
  with_w (log ∷ logs) (Claim row) = refl
  with_w (log ∷ logs) (Next m) = at log.rows
    where
      at : (o : Option (List (List (List ℕ)))) →
          with_line (record { site = log.site; messages = map (widened to) log.messages; rows = o } ∷ ws logs) (Next (widened to m))
          ≡ option_map ws (with_line (record { site = log.site; messages = log.messages; rows = o } ∷ logs) (Next m))
      at None = λ i. Some (record { site = log.site; messages = sym (map-append (widened to) log.messages (m ∷ [])) i; rows = None } ∷ ws logs)
      at (Some rows) = refl

  -- what is so of the records after record n
  Rest : ℕ → List (List (List ℕ)) → Type 0
  Rest n rest = (logs last : List Log) → logs_after from n logs rest ≡ Ok last → logs_after to n (ws logs) (map (widened_record from to) rest) ≡ Ok (ws last)

  logs_w : (records : List (List (List ℕ))) (n : ℕ) → Rest n records
  unfolding Rest
  logs_w [] n logs last e = let s : logs ≡ last = cc in ap (λ l. Ok (ws l)) s
  logs_w (fields ∷ rest) n logs last e = line (line_of from fields) refl e (logs_w rest (n + 1))
    where
      step : (x : Line) (o : Option (List Log)) → line_of from fields ≡ Some x → with_line logs x ≡ o → after_line from n rest o ≡ Ok last → Rest (n + 1) rest
          → logs_after to n (ws logs) (map (widened_record from to) (fields ∷ rest)) ≡ Ok (ws last)
      step x None p q f ih = absurd cc
      step x (Some more) p q f ih = ap
          (λ o. logs_after to n (ws logs) (option_map_or (λ y. line_record (widened_line to y)) o fields ∷ map (widened_record from to) rest)) p ∙ one_more to
          few _ _ _ n _ (wide_is x (line_only from (omega (arith, up, few)) _ x p).0) (with_w logs x ∙ ap (option_map ws) q) ∙ ih more last f

      line : (o : Option Line) → line_of from fields ≡ o → after_line from n rest (option_and_then (with_line logs) o) ≡ Ok last → Rest (n + 1) rest
          → logs_after to n (ws logs) (map (widened_record from to) (fields ∷ rest)) ≡ Ok (ws last)
      line None p f ih = absurd cc
      line (Some x) p f ih = step x (with_line logs x) p refl f ih

  reverse_ws : (logs : List Log) → reverse (ws logs) ≡ ws (reverse logs)
  reverse_ws [] = refl
  reverse_ws (x ∷ logs) =
      reverse-append (widened_log to x ∷ []) (ws logs) ∙ ap (λ l. l ++ widened_log to x ∷ []) (reverse_ws logs)
      ∙ sym (map-append (widened_log to) (reverse logs) (x ∷ [])) ∙ ap ws (sym (reverse-append (x ∷ []) logs))

pub audit_stays : AuditStays
unfolding Rest AllAmong
audit_stays from to records logs up few e =
    let all = (logs_only (omega (arith, up, few)) records 1 [] logs (λ log h. absurd h) e).0 in
    let among : AreAmong from (reverse logs) = λ v a. let m = (all a.0.0 (has_reverse a.0.0 logs a.0.1)).messages v a.1 in (m.0, m.1) in
    ap audit_record (logs_w from to up few records 1 [] logs e)
    ∙ ap (λ l. verdict_record (verdict l)) (reverse_ws from to up few logs)
    ∙ ap verdict_record (verdict_stays from to (reverse logs) up among)
    ∙ ap audit_record (sym e)
