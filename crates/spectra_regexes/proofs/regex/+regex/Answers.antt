use Rattle.std.proofs.Common.{map, arith}
use Rattle.std.proofs.lemmas.Result.{err_from_is_err_and}
use Rattle.spectra_trees.specs.declared.class.Class.TheVariants as Class
use Rattle.spectra_trees.specs.Views.{regex_data, lexeme_of, lexemes_of}
use Rattle.spectra_exprs.specs.Read.{starts}
use Rattle.spectra_regexes.specs.Regexes.{starts_ratom, follower_of, branch_of, inside_regex}
use Rattle.spectra_regexes.proofs.RegexLevels.{regex_deep, regex_open}
use Rattle.spectra_exprs.proofs.Loops.{grown_first}
use Rattle.spectra_exprs.proofs.Turns.{fewer, turned, failed, ended}
use Rattle.spectra_regexes.proofs.StoppingRegexes.{uses_follower, uses_branch, stable_inside_regex}
use Rattle.spectra_regexes.proofs.regex.+regex.Goals as goal

pub followers-loop-alloc-init : goal.followers-loop-alloc-init
followers-loop-alloc-init t c = record { grown = rw (c.begun-parts.ensures.first, c.begun-parts.ensures.rest) (grown_first starts_ratom (follower_of (inside_regex c.args.left)) (map regex_data c.args.first.items) (lexemes_of c.args.tokens.now)) }

pub followers-loop-alloc-preserved : goal.followers-loop-alloc-preserved
followers-loop-alloc-preserved t c = record { grown = turned (uses_follower (inside_regex c.args.left) (stable_inside_regex c.args.left)) c.loop-alloc.invariant.grown c.loop-alloc-test.ensures c.in_ok-next.ensures.read }

pub followers-loop-alloc-smaller : goal.followers-loop-alloc-smaller
followers-loop-alloc-smaller t c = fewer (uses_follower (inside_regex c.args.left) (stable_inside_regex c.args.left)) (map regex_data c.loop-alloc.parts.items) c.loop-alloc.rest.now c.in_ok-next.behind.now (map regex_data c.in_ok-next.next.items) c.in_ok-next.ensures.read

pub followers-returns-in_err-next : goal.followers-returns-in_err-next
followers-returns-in_err-next t c =
    let p = err_from_is_err_and c.from_residual.result c.from_residual.ensures.1 in
    record { read = rw (p.1, p.2) (failed c.loop-alloc.invariant.grown c.loop-alloc-test.ensures c.in_err-next.field-0.0 c.in_err-next.ensures.read) }

pub followers-returns : goal.followers-returns
followers-returns t c = record { read = ended c.loop-alloc.invariant.grown c.loop-alloc-test.ensures }

pub branches-loop-alloc-init : goal.branches-loop-alloc-init
branches-loop-alloc-init t c = record { grown = rw (c.begun-parts.ensures.first, c.begun-parts.ensures.rest) (grown_first (starts Class.Bar) (branch_of (inside_regex c.args.left)) (map regex_data c.args.first.items) (lexemes_of c.args.tokens.now)) }

pub branches-loop-alloc-preserved : goal.branches-loop-alloc-preserved
branches-loop-alloc-preserved t c = record { grown = turned (uses_branch (inside_regex c.args.left) (stable_inside_regex c.args.left)) c.loop-alloc.invariant.grown c.loop-alloc-test.ensures c.in_ok-next.ensures.read }

pub branches-loop-alloc-smaller : goal.branches-loop-alloc-smaller
branches-loop-alloc-smaller t c = fewer (uses_branch (inside_regex c.args.left) (stable_inside_regex c.args.left)) (map regex_data c.loop-alloc.parts.items) c.loop-alloc.rest.now c.in_ok-next.behind.now (map regex_data c.in_ok-next.next.items) c.in_ok-next.ensures.read

pub branches-returns-in_err-next : goal.branches-returns-in_err-next
branches-returns-in_err-next t c =
    let p = err_from_is_err_and c.from_residual.result c.from_residual.ensures.1 in
    record { read = rw (p.1, p.2) (failed c.loop-alloc.invariant.grown c.loop-alloc-test.ensures c.in_err-next.field-0.0 c.in_err-next.ensures.read) }

pub branches-returns : goal.branches-returns
branches-returns t c = record { read = ended c.loop-alloc.invariant.grown c.loop-alloc-test.ensures }

pub deeper_regex-returns-then-left-eq0 : goal.deeper_regex-returns-then-left-eq0
deeper_regex-returns-then-left-eq0 t c = record { read = regex_deep c.args.left (lexeme_of c.args.token.now) (lexemes_of c.args.tokens.now) (omega arith) }

pub deeper_regex-returns : goal.deeper_regex-returns
deeper_regex-returns t c = record { read = rw (regex_open c.args.left (lexeme_of c.args.token.now) (lexemes_of c.args.tokens.now) (omega arith)) c.regex.ensures.read }
