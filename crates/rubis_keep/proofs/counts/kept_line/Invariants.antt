use Rattle.std.proofs.Common.{◌≡◌, ◌++◌, codes, decimal, drop, string_bytes}
use denote.Text.{Utf8}
use denote.Shadow.{shadow}
use Rattle.rubis_keep.specs.KeptLine.{numbers_behind}
use Rattle.rubis_keep.proofs.counts.kept_line.Given as goal

abbrev pub invariant-loop-count : goal.invariant-loop-count
invariant-loop-count l = shadow (Utf8 l.mark)
    × (string_bytes l.line ++ numbers_behind l.mark (drop l.count-index l.counts) ≡ codes "kept," ++ decimal l.fn.records ++ numbers_behind (codes ",") l.counts)
