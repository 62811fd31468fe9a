use Rattle.std.proofs.Common.{map}
use Rattle.std.proofs.lemmas.Result.{err_from_is_err_and}
use Rattle.spectra_trees.specs.Views.{part_data, lexemes_of}
use Rattle.spectra_parser.specs.Items.{inside_braces, mitem_after}
use Rattle.spectra_exprs.proofs.Loops.{grown_first}
use Rattle.spectra_exprs.proofs.Turns.{fewer, turned, failed, ended}
use Rattle.spectra_parser.proofs.StoppingItems.{uses_mitem_after}
use Rattle.spectra_parser.proofs.braces.more_mitems.Goals as goal

pub loop-alloc-init : goal.loop-alloc-init
loop-alloc-init c = record { grown = rw (c.begun-parts.ensures.first, c.begun-parts.ensures.rest) (grown_first inside_braces mitem_after (map part_data c.args.first.items) (lexemes_of c.args.tokens.now)) }

pub loop-alloc-preserved : goal.loop-alloc-preserved
loop-alloc-preserved c = record { grown = turned uses_mitem_after c.loop-alloc.invariant.grown c.loop-alloc-test.ensures c.in_ok-next.ensures.read }

pub loop-alloc-smaller : goal.loop-alloc-smaller
loop-alloc-smaller c = fewer uses_mitem_after (map part_data c.loop-alloc.parts.items) c.loop-alloc.rest.now c.in_ok-next.behind.now (map part_data c.in_ok-next.next.items) c.in_ok-next.ensures.read

pub returns-in_err-next : goal.returns-in_err-next
returns-in_err-next c =
    let p = err_from_is_err_and c.from_residual.result c.from_residual.ensures.1 in
    record { read = rw (p.1, p.2) (failed c.loop-alloc.invariant.grown c.loop-alloc-test.ensures c.in_err-next.field-0.0 c.in_err-next.ensures.read) }

pub returns : goal.returns
returns c = record { read = ended c.loop-alloc.invariant.grown c.loop-alloc-test.ensures }
