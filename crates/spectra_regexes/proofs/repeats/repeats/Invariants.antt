use Rattle.std.proofs.Common.{length}
use Rattle.spectra_trees.specs.Views.{regex_data, lexemes_of}
use Rattle.spectra_exprs.specs.Read.{all_of}
use Rattle.spectra_regexes.specs.Regexes.{starts_repeat, repeated}
use Rattle.spectra_exprs.proofs.Loops.{Grown}
use Rattle.spectra_regexes.proofs.repeats.repeats.Given as goal

abbrev pub invariant-loop-alloc : goal.invariant-loop-alloc
invariant-loop-alloc l = record {
  grown : Grown starts_repeat repeated (regex_data l.part) (lexemes_of l.rest) (all_of starts_repeat repeated (regex_data l.fn.first) (lexemes_of l.tokens));
}

abbrev pub decreases-loop-alloc : goal.decreases-loop-alloc
decreases-loop-alloc l = length l.rest
