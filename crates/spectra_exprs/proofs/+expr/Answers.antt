use Rattle.std.proofs.Common.{map, arith}
use Rattle.std.proofs.lemmas.Result.{err_from_is_err_and}
use Rattle.spectra_trees.specs.declared.class.Class.TheVariants as Class
use Rattle.spectra_trees.specs.Views.{expr_data, lexeme_of, lexemes_of}
use Rattle.spectra_exprs.specs.Read.{starts}
use Rattle.spectra_exprs.specs.OperatorReaders.{starts_sum, starts_or}
use Rattle.spectra_exprs.specs.ExprViews.{term_data, chain_data}
use Rattle.spectra_exprs.specs.Expressions.{inside, times_of, plus_of, conjunct_of, disjunct_of, argument_of}
use Rattle.spectra_exprs.proofs.Levels.{whole_deep, operand_deep, arguments_deep, whole_open, operand_open, arguments_open, subscript_deep, subscript_open, scope_deep, scope_open}
use Rattle.spectra_exprs.proofs.Loops.{grown_first}
use Rattle.spectra_exprs.proofs.StoppingExpressions.{uses_times, uses_plus, uses_conjunct, uses_disjunct, uses_argument, stable_inside}
use Rattle.spectra_exprs.proofs.Turns.{fewer, turned, failed, ended}
use Rattle.spectra_exprs.proofs.+expr.Goals as goal

pub sums::products-loop-alloc-init : goal.sums::products-loop-alloc-init
sums::products-loop-alloc-init t c = record { grown = rw (c.begun-product.ensures.first, c.begun-product.ensures.rest) (grown_first (starts Class.Star) (times_of (inside c.args.left)) (term_data c.args.first) (lexemes_of c.args.tokens.now)) }

pub sums::products-loop-alloc-preserved : goal.sums::products-loop-alloc-preserved
sums::products-loop-alloc-preserved t c = record { grown = turned (uses_times (inside c.args.left) (stable_inside c.args.left)) c.loop-alloc.invariant.grown c.loop-alloc-test.ensures c.in_ok-next.ensures.read }

pub sums::products-loop-alloc-smaller : goal.sums::products-loop-alloc-smaller
sums::products-loop-alloc-smaller t c = fewer (uses_times (inside c.args.left) (stable_inside c.args.left)) (term_data c.loop-alloc.product) c.loop-alloc.rest.now c.in_ok-next.behind.now (term_data c.in_ok-next.next) c.in_ok-next.ensures.read

pub sums::products-returns-in_err-next : goal.sums::products-returns-in_err-next
sums::products-returns-in_err-next t c =
    let p = err_from_is_err_and c.from_residual.result c.from_residual.ensures.1 in
    record { read = rw (p.1, p.2) (failed c.loop-alloc.invariant.grown c.loop-alloc-test.ensures c.in_err-next.field-0.0 c.in_err-next.ensures.read) }

pub sums::products-returns : goal.sums::products-returns
sums::products-returns t c = record { read = ended c.loop-alloc.invariant.grown c.loop-alloc-test.ensures }

pub sums::sums-loop-alloc-init : goal.sums::sums-loop-alloc-init
sums::sums-loop-alloc-init t c = record { grown = rw (c.begun-sum.ensures.first, c.begun-sum.ensures.rest) (grown_first starts_sum (plus_of (inside c.args.left)) (term_data c.args.first) (lexemes_of c.args.tokens.now)) }

pub sums::sums-loop-alloc-preserved : goal.sums::sums-loop-alloc-preserved
sums::sums-loop-alloc-preserved t c = record { grown = turned (uses_plus (inside c.args.left) (stable_inside c.args.left)) c.loop-alloc.invariant.grown c.loop-alloc-test.ensures c.in_ok-next.ensures.read }

pub sums::sums-loop-alloc-smaller : goal.sums::sums-loop-alloc-smaller
sums::sums-loop-alloc-smaller t c = fewer (uses_plus (inside c.args.left) (stable_inside c.args.left)) (term_data c.loop-alloc.sum) c.loop-alloc.rest.now c.in_ok-next.behind.now (term_data c.in_ok-next.next) c.in_ok-next.ensures.read

pub sums::sums-returns-in_err-next : goal.sums::sums-returns-in_err-next
sums::sums-returns-in_err-next t c =
    let p = err_from_is_err_and c.from_residual.result c.from_residual.ensures.1 in
    record { read = rw (p.1, p.2) (failed c.loop-alloc.invariant.grown c.loop-alloc-test.ensures c.in_err-next.field-0.0 c.in_err-next.ensures.read) }

pub sums::sums-returns : goal.sums::sums-returns
sums::sums-returns t c = record { read = ended c.loop-alloc.invariant.grown c.loop-alloc-test.ensures }

pub formulas::conjuncts-loop-alloc-init : goal.formulas::conjuncts-loop-alloc-init
formulas::conjuncts-loop-alloc-init t c = record { grown = rw (c.begun-chain.ensures.first, c.begun-chain.ensures.rest) (grown_first (starts Class.And) (conjunct_of (inside c.args.left)) (chain_data c.args.first) (lexemes_of c.args.tokens.now)) }

pub formulas::conjuncts-loop-alloc-preserved : goal.formulas::conjuncts-loop-alloc-preserved
formulas::conjuncts-loop-alloc-preserved t c = record { grown = turned (uses_conjunct (inside c.args.left) (stable_inside c.args.left)) c.loop-alloc.invariant.grown c.loop-alloc-test.ensures c.in_ok-next.ensures.read }

pub formulas::conjuncts-loop-alloc-smaller : goal.formulas::conjuncts-loop-alloc-smaller
formulas::conjuncts-loop-alloc-smaller t c = fewer (uses_conjunct (inside c.args.left) (stable_inside c.args.left)) (chain_data c.loop-alloc.chain) c.loop-alloc.rest.now c.in_ok-next.behind.now (chain_data c.in_ok-next.next) c.in_ok-next.ensures.read

pub formulas::conjuncts-returns-in_err-next : goal.formulas::conjuncts-returns-in_err-next
formulas::conjuncts-returns-in_err-next t c =
    let p = err_from_is_err_and c.from_residual.result c.from_residual.ensures.1 in
    record { read = rw (p.1, p.2) (failed c.loop-alloc.invariant.grown c.loop-alloc-test.ensures c.in_err-next.field-0.0 c.in_err-next.ensures.read) }

pub formulas::conjuncts-returns : goal.formulas::conjuncts-returns
formulas::conjuncts-returns t c = record { read = ended c.loop-alloc.invariant.grown c.loop-alloc-test.ensures }

pub formulas::disjuncts-loop-alloc-init : goal.formulas::disjuncts-loop-alloc-init
formulas::disjuncts-loop-alloc-init t c = record { grown = rw (c.begun-chain.ensures.first, c.begun-chain.ensures.rest) (grown_first starts_or (disjunct_of (inside c.args.left)) (chain_data c.args.first) (lexemes_of c.args.tokens.now)) }

pub formulas::disjuncts-loop-alloc-preserved : goal.formulas::disjuncts-loop-alloc-preserved
formulas::disjuncts-loop-alloc-preserved t c = record { grown = turned (uses_disjunct (inside c.args.left) (stable_inside c.args.left)) c.loop-alloc.invariant.grown c.loop-alloc-test.ensures c.in_ok-next.ensures.read }

pub formulas::disjuncts-loop-alloc-smaller : goal.formulas::disjuncts-loop-alloc-smaller
formulas::disjuncts-loop-alloc-smaller t c = fewer (uses_disjunct (inside c.args.left) (stable_inside c.args.left)) (chain_data c.loop-alloc.chain) c.loop-alloc.rest.now c.in_ok-next.behind.now (chain_data c.in_ok-next.next) c.in_ok-next.ensures.read

pub formulas::disjuncts-returns-in_err-next : goal.formulas::disjuncts-returns-in_err-next
formulas::disjuncts-returns-in_err-next t c =
    let p = err_from_is_err_and c.from_residual.result c.from_residual.ensures.1 in
    record { read = rw (p.1, p.2) (failed c.loop-alloc.invariant.grown c.loop-alloc-test.ensures c.in_err-next.field-0.0 c.in_err-next.ensures.read) }

pub formulas::disjuncts-returns : goal.formulas::disjuncts-returns
formulas::disjuncts-returns t c = record { read = ended c.loop-alloc.invariant.grown c.loop-alloc-test.ensures }

pub operands::more_arguments-loop-alloc-init : goal.operands::more_arguments-loop-alloc-init
operands::more_arguments-loop-alloc-init t c = record { grown = rw (c.begun-arguments.ensures.first, c.begun-arguments.ensures.rest) (grown_first (starts Class.Comma) (argument_of (inside c.args.left)) (map expr_data c.args.first.items) (lexemes_of c.args.tokens.now)) }

pub operands::more_arguments-loop-alloc-preserved : goal.operands::more_arguments-loop-alloc-preserved
operands::more_arguments-loop-alloc-preserved t c = record { grown = turned (uses_argument (inside c.args.left) (stable_inside c.args.left)) c.loop-alloc.invariant.grown c.loop-alloc-test.ensures c.in_ok-next.ensures.read }

pub operands::more_arguments-loop-alloc-smaller : goal.operands::more_arguments-loop-alloc-smaller
operands::more_arguments-loop-alloc-smaller t c = fewer (uses_argument (inside c.args.left) (stable_inside c.args.left)) (map expr_data c.loop-alloc.arguments.items) c.loop-alloc.rest.now c.in_ok-next.behind.now (map expr_data c.in_ok-next.next.items) c.in_ok-next.ensures.read

pub operands::more_arguments-returns-in_err-next : goal.operands::more_arguments-returns-in_err-next
operands::more_arguments-returns-in_err-next t c =
    let p = err_from_is_err_and c.from_residual.result c.from_residual.ensures.1 in
    record { read = rw (p.1, p.2) (failed c.loop-alloc.invariant.grown c.loop-alloc-test.ensures c.in_err-next.field-0.0 c.in_err-next.ensures.read) }

pub operands::more_arguments-returns : goal.operands::more_arguments-returns
operands::more_arguments-returns t c = record { read = ended c.loop-alloc.invariant.grown c.loop-alloc-test.ensures }

pub operands::deeper_whole-returns-then-left-eq0 : goal.operands::deeper_whole-returns-then-left-eq0
operands::deeper_whole-returns-then-left-eq0 t c = record { read = whole_deep c.args.left (lexeme_of c.args.token.now) (lexemes_of c.args.tokens.now) (omega arith) }

pub operands::deeper_whole-returns : goal.operands::deeper_whole-returns
operands::deeper_whole-returns t c = record { read = rw (whole_open c.args.left (lexeme_of c.args.token.now) (lexemes_of c.args.tokens.now) (omega arith)) c.formula.ensures.read }

pub operands::deeper_operand-returns-then-left-eq0 : goal.operands::deeper_operand-returns-then-left-eq0
operands::deeper_operand-returns-then-left-eq0 t c = record { read = operand_deep c.args.left (lexeme_of c.args.token.now) (lexemes_of c.args.tokens.now) (omega arith) }

pub operands::deeper_operand-returns : goal.operands::deeper_operand-returns
operands::deeper_operand-returns t c = record { read = rw (operand_open c.args.left (lexeme_of c.args.token.now) (lexemes_of c.args.tokens.now) (omega arith)) c.operand.ensures.read }

pub operands::deeper_arguments-returns-then-left-eq0 : goal.operands::deeper_arguments-returns-then-left-eq0
operands::deeper_arguments-returns-then-left-eq0 t c = record { read = arguments_deep c.args.left (lexeme_of c.args.token.now) (lexemes_of c.args.tokens.now) (omega arith) }

pub operands::deeper_arguments-returns : goal.operands::deeper_arguments-returns
operands::deeper_arguments-returns t c = record { read = rw (arguments_open c.args.left (lexeme_of c.args.token.now) (lexemes_of c.args.tokens.now) (omega arith)) c.arguments.ensures.read }

pub operands::deeper_subscript-returns-then-left-eq0 : goal.operands::deeper_subscript-returns-then-left-eq0
operands::deeper_subscript-returns-then-left-eq0 t c = record { read = subscript_deep c.args.left (lexeme_of c.args.token.now) (lexemes_of c.args.tokens.now) (omega arith) }

pub operands::deeper_subscript-returns : goal.operands::deeper_subscript-returns
operands::deeper_subscript-returns t c = record { read = rw (subscript_open c.args.left (lexeme_of c.args.token.now) (lexemes_of c.args.tokens.now) (omega arith)) c.subscript.ensures.read }

pub operands::deeper_scope-returns-then-left-eq0 : goal.operands::deeper_scope-returns-then-left-eq0
operands::deeper_scope-returns-then-left-eq0 t c = record { read = scope_deep c.args.left (lexeme_of c.args.token.now) (lexemes_of c.args.tokens.now) (omega arith) }

pub operands::deeper_scope-returns : goal.operands::deeper_scope-returns
operands::deeper_scope-returns t c = record { read = rw (scope_open c.args.left (lexeme_of c.args.token.now) (lexemes_of c.args.tokens.now) (omega arith)) c.scope.ensures.read }
