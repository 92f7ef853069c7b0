-- When a batch is given to several workers.
use Rattle.std.specs.Prelude.{ℕ, ◌+◌, ◌-◌, ◌*◌, cond, max, min, nat_lt}
use Rattle.rubis_workers.specs.declared.pace.Pace.{Pace}
use Rattle.rubis_workers.specs.declared.pace.TheConstants.{ALONE_MAX}

-- the next batch is given to several workers
abbrev pub ready : Pace
ready = record { alone = 0; pause = 0 }

-- `messages` of the messages that the caller's thread is to apply alone are applied
abbrev pub shorter : ℕ → Pace → Pace
shorter messages p = record { alone = p.alone - messages; pause = p.pause }

-- the caller's thread is to apply twice as many messages alone as the last time, plus one, but at most ALONE_MAX
abbrev pub longer : Pace → Pace
longer p = record { alone = min (2 * p.pause + 1) ALONE_MAX; pause = min (2 * p.pause + 1) ALONE_MAX }

-- the most threads that a batch has work for: one for each worker, but no more than there are shards or messages, and at
-- least one
abbrev pub most : ℕ → ℕ → ℕ → ℕ
most workers shards messages = max (min (min workers shards) messages) 1

-- how many threads the next batch gets: one while the caller's thread has messages to apply alone, and otherwise the most
abbrev pub threads : Pace → ℕ → ℕ → ℕ → ℕ
threads p workers shards messages = cond (nat_lt 0 p.alone) 1 (most workers shards messages)
