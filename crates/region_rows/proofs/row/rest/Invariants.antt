use Rattle.std.proofs.Common.{◌≡◌, map}
use Rattle.std.specs.Prelude.{bit_and, bit_xor}
use Rattle.spec_model.specs.Steps.{below}
use Rattle.region_rows.specs.Rows.{word_of, ones_of}
use Rattle.region_rows.proofs.row.rest.Given as goal

abbrev pub invariant-loop-j : goal.invariant-loop-j
invariant-loop-j l = l.words.items ≡ map (λ j. bit_and (bit_xor (word_of l.a j) 0xffff_ffff_ffff_ffff) (ones_of l.count j)) (below l.j)
