use Rattle.std.proofs.Common.{ℕ, ◌*◌, ◌%◌, ◌^◌, sym, ap, arith}
use Rattle.std.specs.Prelude.{bit_xor}
use Rattle.rubis_schema.specs.Keys.{written}
use Rattle.rubis_schema.specs.declared.key_hashes.KeyHasher.{KeyHasher}
use Rattle.rubis_schema.proofs.Words.{word_read}
use Rattle.rubis_schema.proofs.key_hashes.KeyHasherHasher.write_u64.Goals as goal

after : KeyHasher → ℕ → KeyHasher
after h word = record { state = (bit_xor h.state word * h.multiplier) % 2 ^ 64; multiplier = h.multiplier }

pub returns : goal.returns
unfolding written after
returns c = ap (after c.args.self.now) (sym (word_read c.args.i (omega (arith, c.ranges.i.fits))))
