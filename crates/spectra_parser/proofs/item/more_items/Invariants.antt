use Rattle.std.proofs.Common.{length, map}
use Rattle.spectra_trees.specs.Views.{item_data, lexemes_of}
use Rattle.spectra_exprs.specs.Read.{all_of}
use Rattle.spectra_parser.specs.Items.{before_end, item_after}
use Rattle.spectra_exprs.proofs.Loops.{Grown}
use Rattle.spectra_parser.proofs.item.more_items.Given as goal

abbrev pub invariant-loop-alloc : goal.invariant-loop-alloc
invariant-loop-alloc l = record {
  grown : Grown before_end item_after (map item_data l.items.items) (lexemes_of l.rest) (all_of before_end item_after (map item_data l.fn.first.items) (lexemes_of l.tokens));
}

abbrev pub decreases-loop-alloc : goal.decreases-loop-alloc
decreases-loop-alloc l = length l.rest
