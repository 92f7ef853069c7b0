use Rattle.rubis_pieces.proofs.Common.{ℕ, ◌<◌, get_or, take, IsMessage, Message, cores, AreHomes}
use Rattle.rubis_pieces.proofs.following.homes_of.Given as goal

abbrev pub invariant-loop-place : goal.invariant-loop-place
invariant-loop-place l = record {
  homes : AreHomes l.shards (cores (take l.place l.batch)) l.homes.items;
  conditions : (i : ℕ) (m : Message) → i < l.place → IsMessage (get_or l.batch i m);
}
