use Rattle.std.proofs.Common.{length, map}
use Rattle.spectra_trees.specs.declared.class.Class.TheVariants as Class
use Rattle.spectra_trees.specs.Views.{name_data, lexemes_of}
use Rattle.spectra_exprs.specs.Read.{starts, all_of}
use Rattle.spectra_parser.specs.Items.{import_after}
use Rattle.spectra_exprs.proofs.Loops.{Grown}
use Rattle.spectra_parser.proofs.item.more_imports.Given as goal

abbrev pub invariant-loop-alloc : goal.invariant-loop-alloc
invariant-loop-alloc l = record {
  grown : Grown (starts Class.Import) import_after (map name_data l.imports.items) (lexemes_of l.rest) (all_of (starts Class.Import) import_after (map name_data l.fn.first.items) (lexemes_of l.tokens));
}

abbrev pub decreases-loop-alloc : goal.decreases-loop-alloc
decreases-loop-alloc l = length l.rest
