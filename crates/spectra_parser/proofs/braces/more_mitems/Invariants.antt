use Rattle.std.proofs.Common.{length, map}
use Rattle.spectra_trees.specs.Views.{part_data, lexemes_of}
use Rattle.spectra_exprs.specs.Read.{all_of}
use Rattle.spectra_parser.specs.Items.{inside_braces, mitem_after}
use Rattle.spectra_exprs.proofs.Loops.{Grown}
use Rattle.spectra_parser.proofs.braces.more_mitems.Given as goal

abbrev pub invariant-loop-alloc : goal.invariant-loop-alloc
invariant-loop-alloc l = record {
  grown : Grown inside_braces mitem_after (map part_data l.parts.items) (lexemes_of l.rest) (all_of inside_braces mitem_after (map part_data l.fn.first.items) (lexemes_of l.tokens));
}

abbrev pub decreases-loop-alloc : goal.decreases-loop-alloc
decreases-loop-alloc l = length l.rest
