use Rattle.std.proofs.Common.{map}
use Rattle.std.proofs.lemmas.Result.{err_from_is_err_and}
use Rattle.spectra_trees.specs.Views.{item_data, lexemes_of}
use Rattle.spectra_parser.specs.Items.{before_end, item_after}
use Rattle.spectra_exprs.proofs.Loops.{grown_first}
use Rattle.spectra_exprs.proofs.Turns.{fewer, turned, failed, ended}
use Rattle.spectra_parser.proofs.StoppingTexts.{uses_item_after}
use Rattle.spectra_parser.proofs.item.more_items.Goals as goal

pub loop-alloc-init : goal.loop-alloc-init
loop-alloc-init c = record { grown = rw (c.begun-items.ensures.first, c.begun-items.ensures.rest) (grown_first before_end item_after (map item_data c.args.first.items) (lexemes_of c.args.tokens.now)) }

pub loop-alloc-preserved : goal.loop-alloc-preserved
loop-alloc-preserved c = record { grown = turned uses_item_after c.loop-alloc.invariant.grown c.loop-alloc-test.ensures c.in_ok-next.ensures.read }

pub loop-alloc-smaller : goal.loop-alloc-smaller
loop-alloc-smaller c = fewer uses_item_after (map item_data c.loop-alloc.items.items) c.loop-alloc.rest.now c.in_ok-next.behind.now (map item_data c.in_ok-next.next.items) c.in_ok-next.ensures.read

pub returns-in_err-next : goal.returns-in_err-next
returns-in_err-next c =
    let p = err_from_is_err_and c.from_residual.result c.from_residual.ensures.1 in
    record { read = rw (p.1, p.2) (failed c.loop-alloc.invariant.grown c.loop-alloc-test.ensures c.in_err-next.field-0.0 c.in_err-next.ensures.read) }

pub returns : goal.returns
returns c = record { read = ended c.loop-alloc.invariant.grown c.loop-alloc-test.ensures }
