use Rattle.std.proofs.Common.{length, map}
use Rattle.spectra_trees.specs.declared.class.Class.TheVariants as Class
use Rattle.spectra_trees.specs.Views.{name_data, lexemes_of}
use Rattle.spectra_exprs.specs.Read.{starts, all_of}
use Rattle.spectra_parser.specs.Items.{name_after}
use Rattle.spectra_exprs.proofs.Loops.{Grown}
use Rattle.spectra_parser.proofs.types.more_names.Given as goal

abbrev pub invariant-loop-alloc : goal.invariant-loop-alloc
invariant-loop-alloc l = record {
  grown : Grown (starts Class.Comma) name_after (map name_data l.names.items) (lexemes_of l.rest) (all_of (starts Class.Comma) name_after (map name_data l.fn.first.items) (lexemes_of l.tokens));
}

abbrev pub decreases-loop-alloc : goal.decreases-loop-alloc
decreases-loop-alloc l = length l.rest
