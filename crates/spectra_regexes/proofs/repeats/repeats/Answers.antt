use Rattle.std.proofs.lemmas.Result.{err_from_is_err_and}
use Rattle.spectra_trees.specs.Views.{regex_data, lexemes_of}
use Rattle.spectra_regexes.specs.Regexes.{starts_repeat, repeated}
use Rattle.spectra_exprs.proofs.Loops.{grown_first}
use Rattle.spectra_exprs.proofs.Turns.{fewer, turned, failed, ended}
use Rattle.spectra_regexes.proofs.StoppingRegexes.{uses_repeated}
use Rattle.spectra_regexes.proofs.repeats.repeats.Goals as goal

pub loop-alloc-init : goal.loop-alloc-init
loop-alloc-init c = record { grown = rw (c.begun-part.ensures.first, c.begun-part.ensures.rest) (grown_first starts_repeat repeated (regex_data c.args.first) (lexemes_of c.args.tokens.now)) }

pub loop-alloc-preserved : goal.loop-alloc-preserved
loop-alloc-preserved c = record { grown = turned uses_repeated c.loop-alloc.invariant.grown c.loop-alloc-test.ensures c.in_ok-next.ensures.read }

pub loop-alloc-smaller : goal.loop-alloc-smaller
loop-alloc-smaller c = fewer uses_repeated (regex_data c.loop-alloc.part) c.loop-alloc.rest.now c.in_ok-next.behind.now (regex_data c.in_ok-next.next) c.in_ok-next.ensures.read

pub returns-in_err-next : goal.returns-in_err-next
returns-in_err-next c =
    let p = err_from_is_err_and c.from_residual.result c.from_residual.ensures.1 in
    record { read = rw (p.1, p.2) (failed c.loop-alloc.invariant.grown c.loop-alloc-test.ensures c.in_err-next.field-0.0 c.in_err-next.ensures.read) }

pub returns : goal.returns
returns c = record { read = ended c.loop-alloc.invariant.grown c.loop-alloc-test.ensures }
