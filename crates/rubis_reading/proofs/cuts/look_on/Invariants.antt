use Rattle.std.proofs.Common.{◌≤◌, ◌<◌, ◌-◌, ℕ, length, take}
use Rattle.csv.specs.declared.parser.State.TheVariants as st
use Rattle.rubis_reading.specs.Streams.{state_of_csv, EndsFrom, IsLike, stands}
use Rattle.rubis_reading.proofs.cuts.look_on.Given as goal

abbrev pub invariant-quotes : goal.invariant-quotes
invariant-quotes l = record {
  like : IsLike (state_of_csv l.at) (stands st.StartRecord (take l.place l.text));
  within : l.place ≤ length l.text;
  upto : l.end ≤ l.place;
  found : 0 < l.end → EndsFrom st.StartRecord l.text l.end;
  none : (k : ℕ) → l.end < k → k ≤ l.place → EndsFrom st.StartRecord l.text k → ⊥;
}

abbrev pub decreases-quotes : goal.decreases-quotes
decreases-quotes l = length l.text - l.place
