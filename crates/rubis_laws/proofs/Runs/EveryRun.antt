-- The laws of every run.
use Rattle.rubis_laws.proofs.Common.{ℕ, ◌≡◌, ◌+◌, ◌^◌, ◌≤◌, List, [], length, arith, sym, ap, ◌∙◌, subst, refl, None, reverse, true, is_red, Message, cores}
use Rattle.rubis_laws.proofs.Common.{fold_of, Has, RefersToPast, World, Event, AreEvents, site, run, start, AllDeliverable, Sound, Room, Checked, SameSet}
use Rattle.rubis_laws.proofs.Common.{KeepInvariants, Holds, Log, IsMeaning, item_at, supply, rows_at, tables_at, Sent, IsLogOf, InRun, cores_length, has_back}
use Rattle.rubis_laws.proofs.Common.{has_reverse, RowKey}
use Rattle.rubis_model.specs.Laws.{RunsAreInOrder, RunsKeepInvariants, RunsAgreeOnTables, RunsSendDeliverables}
use Rattle.rubis_laws.proofs.Rows.FoldIsMeaning.{fold_is_meaning}
use Rattle.rubis_laws.proofs.Rows.EqualSets.{equal_sets_equal_tables}
use Rattle.rubis_laws.proofs.Runs.Invariants.{checked_holds}
use Rattle.rubis_laws.proofs.Order.RunsInOrder.{in_order, foundation}
use Rattle.rubis_laws.proofs.Rows.Cores.{same_cores}
use Rattle.rubis_laws.proofs.Order.Deciding.{log_checked, red_positive, one_each_back, refers_past}
use Rattle.rubis_laws.proofs.Runs.SoundSteps.{run_keeps, start_sound, start_sites, room_run, room_start}
use Rattle.rubis_laws.proofs.Runs.Written.{run_deliverable}
use Rattle.rubis_laws.proofs.Order.Winners.{Ground, one_close, winner_is, row_winner, stock_left}

pub short : {keep : ℕ} (w : World) (i : ℕ) → keep ≤ 1000000 → Room keep w → length (cores (site w i).log) ≤ 2 ^ 32
short w i few r = let l = r i in let c = cores_length (site w i).log in omega (arith, l, c, few)

module _ (w : World) (s : Sound w) where
  pub ground : (v : Message) → Sent w v → Ground (Sent w) v
  ground v b = record {
    past = reverse (foundation w v s b).past;
    members = λ u h. (((foundation w v s b).exactly u).0 (has_reverse u (foundation w v s b).past h)).0;
    ids = one_each_back (foundation w v s b).past (foundation w v s b).released;
    fits = (foundation w v s b).decided.fits;
    reds = λ u a e f q. has_back u _ (((foundation w v s b).exactly u).1 (a, s.reds.ordered u v a b (red_positive u s a e) q));
  }

  pub single : (u v : Message) → Sent w u → Sent w v → is_red u.shadow ≡ true → is_red v.shadow ≡ true → u.stamp.red ≡ v.stamp.red → u ≡ v
  single u v a b e f q = s.reds.single u v a b (red_positive u s a e) q

  pub refers : (v : Message) → Sent w v → RefersToPast (Sent w) v v.shadow
  refers v b = refers_past _ v _ (λ u h. ((foundation w v s b).exactly u).0 (has_reverse u _ h)) (foundation w v s b).decided.fits

  pub logged : (i : ℕ) (m : Message) → Has m (site w i).log → Sent w m
  logged i m h = (s.good i).log_sent m (has_back m (site w i).log h)

-- a site's log, without its tables
abbrev pub log_at : World → ℕ → Log
log_at w i = record { site = i; messages = (site w i).log; rows = None }

pub is_log : (w : World) (i : ℕ) → IsLogOf w (log_at w i)
is_log w i = record { messages = refl; rows = tt }

pub in_run : (keep : ℕ) {w : World} → keep ≤ 1000000 → Room keep w → Sound w → InRun w
in_run keep {w} few room s = record { in_order = in_order w s; invariants = invariants; agree = same_tables }
  where
    at : (i : ℕ) → Checked (cores (site w i).log)
    at i = log_checked i s

    means : (i : ℕ) → IsMeaning (cores (site w i).log) (fold_of (cores (site w i).log)).tables × ((fold_of (cores (site w i).log)).misfits ≡ [])
    means i = fold_is_meaning (cores (site w i).log) (at i) (short {keep = keep} w i few room)

    same_tables : (i j : ℕ) → SameSet (site w i).log (site w j).log → tables_at w i ≡ tables_at w j
    same_tables i j same = equal_sets_equal_tables _ _ (at i) (at j) (short {keep = keep} w i few room) (short {keep = keep} w j few room) (same_cores _ _ same)

    invariants : KeepInvariants (Sent w) (IsLogOf w)
    invariants = record {
      checked = λ log of. subst (λ l. Checked (cores l)) (sym of.messages) (at log.site);
      meaning = λ log of. subst (λ l. IsMeaning (cores l) (fold_of (cores l)).tables) (sym of.messages) (means log.site).0;
      clean = λ log of. ap (λ l. (fold_of (cores l)).misfits) of.messages ∙ (means log.site).1;
      refers = refers w s;
      holds = λ log of. subst (λ l. Holds (cores l)) (sym of.messages) (checked_holds (cores (site w log.site).log) (at log.site));
      stock = λ log of j n r e f. subst (λ l. r.stock + r.sold ≡ supply (cores l) j n) (sym of.messages)
          (stock_left j r (checked_holds (cores (site w log.site).log) (at log.site))
          (ap (λ l. item_at j (cores l)) (sym of.messages) ∙ e)
          (sym ((means log.site).0.rows (RowKey.Item j)) ∙ ap (λ l. rows_at l (RowKey.Item j)) (sym of.messages) ∙ f));
      closed_once = one_close (Sent w) (ground w s) (single w s);
      winner = winner_is (Sent w) (ground w s) (single w s);
      ended = λ log of j r o e f. row_winner (Sent w) (ground w s) (single w s) (site w log.site).log j r o (logged w s log.site)
          (sym ((means log.site).0.rows (RowKey.Item j)) ∙ ap (λ l. rows_at l (RowKey.Item j)) (sym of.messages) ∙ e) f;
    }

-- ---- every run is sound
pub sound_run : {n keep : ℕ} (events : List Event) → 1 ≤ n → keep ≤ 1000000 → AreEvents n events → Sound (run keep events (start n))
sound_run {n} {keep} events some few a = run_keeps {keep = keep} few events {w = start n} (subst (λ k. AreEvents k events) (sym (start_sites n)) a)
    (start_sound n some)

pub room_of : (n keep : ℕ) (events : List Event) → Room keep (run keep events (start n))
room_of n keep events = room_run events (start n) (room_start keep n)

pub every_run : RunsKeepInvariants
every_run n keep events some few a = in_run keep few (room_of n keep events) (sound_run events some few a)

pub every_order : RunsAreInOrder
every_order n keep events some few a = in_order (run keep events (start n)) (sound_run events some few a)

pub equal_tables : RunsAgreeOnTables
equal_tables n keep events some few a m kept later more less b i j same =
    let w = run keep events (start n) in
    let v = run kept later (start m) in
    equal_sets_equal_tables (cores (site w i).log) (cores (site v j).log)
    (log_checked i (sound_run events some few a)) (log_checked j (sound_run later more less b))
    (short w i few (room_of n keep events)) (short v j less (room_of m kept later)) (same_cores (site w i).log (site v j).log same)

pub every_packet : RunsSendDeliverables
every_packet n keep events some small few a =
    let same = start_sites n in
    subst (λ k. AllDeliverable k (run keep events (start n)).sent) same
    (run_deliverable keep few events (start n) (omega (arith, same, small)) (subst (λ k. AreEvents k events) (sym same) a) (start_sound n some)
    (λ p h. absurd h))
