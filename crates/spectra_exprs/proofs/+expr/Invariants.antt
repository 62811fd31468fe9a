use Rattle.std.proofs.Common.{◌+◌, ◌*◌, length, map}
use Rattle.spectra_trees.specs.declared.class.Class.TheVariants as Class
use Rattle.spectra_trees.specs.Views.{expr_data, lexemes_of}
use Rattle.spectra_exprs.specs.Read.{starts, all_of}
use Rattle.spectra_exprs.specs.OperatorReaders.{starts_sum, starts_or}
use Rattle.spectra_exprs.specs.ExprViews.{term_data, chain_data}
use Rattle.spectra_exprs.specs.Expressions.{inside, times_of, plus_of, conjunct_of, disjunct_of, argument_of}
use Rattle.spectra_exprs.proofs.Loops.{Grown}
use Rattle.spectra_exprs.proofs.+expr.Given as goal

-- The levels that are left count first, and then how high a production stands in the grammar.

abbrev pub decreases-operands::prim : goal.decreases-operands::prim
decreases-operands::prim l = 32 * l.left + 3

abbrev pub decreases-sums::prod : goal.decreases-sums::prod
decreases-sums::prod l = 32 * l.left + 6

abbrev pub decreases-sums::sum : goal.decreases-sums::sum
decreases-sums::sum l = 32 * l.left + 9

abbrev pub decreases-formulas::side : goal.decreases-formulas::side
decreases-formulas::side l = 32 * l.left + 10

abbrev pub decreases-formulas::comparison : goal.decreases-formulas::comparison
decreases-formulas::comparison l = 32 * l.left + 12

abbrev pub decreases-formulas::compared : goal.decreases-formulas::compared
decreases-formulas::compared l = 32 * l.left + 11

abbrev pub decreases-formulas::cmp : goal.decreases-formulas::cmp
decreases-formulas::cmp l = 32 * l.left + 13

abbrev pub decreases-formulas::conj : goal.decreases-formulas::conj
decreases-formulas::conj l = 32 * l.left + 17

abbrev pub decreases-formulas::disj : goal.decreases-formulas::disj
decreases-formulas::disj l = 32 * l.left + 21

abbrev pub decreases-formulas::arrow : goal.decreases-formulas::arrow
decreases-formulas::arrow l = 32 * l.left + 22

abbrev pub decreases-formulas::expr : goal.decreases-formulas::expr
decreases-formulas::expr l = 32 * l.left + 25

abbrev pub decreases-formulas::formula : goal.decreases-formulas::formula
decreases-formulas::formula l = 32 * l.left + 26

abbrev pub decreases-operands::deeper_whole : goal.decreases-operands::deeper_whole
decreases-operands::deeper_whole l = 32 * l.left + 0

abbrev pub decreases-operands::parentheses : goal.decreases-operands::parentheses
decreases-operands::parentheses l = 32 * l.left + 1

abbrev pub decreases-operands::next : goal.decreases-operands::next
decreases-operands::next l = 32 * l.left + 1

abbrev pub decreases-operands::operand : goal.decreases-operands::operand
decreases-operands::operand l = 32 * l.left + 4

abbrev pub decreases-operands::deeper_operand : goal.decreases-operands::deeper_operand
decreases-operands::deeper_operand l = 32 * l.left + 0

abbrev pub decreases-operands::prefixed : goal.decreases-operands::prefixed
decreases-operands::prefixed l = 32 * l.left + 1

abbrev pub decreases-operands::some_arguments : goal.decreases-operands::some_arguments
decreases-operands::some_arguments l = 32 * l.left + 29

abbrev pub decreases-operands::arguments : goal.decreases-operands::arguments
decreases-operands::arguments l = 32 * l.left + 30

abbrev pub decreases-operands::deeper_arguments : goal.decreases-operands::deeper_arguments
decreases-operands::deeper_arguments l = 32 * l.left + 0

abbrev pub decreases-operands::call : goal.decreases-operands::call
decreases-operands::call l = 32 * l.left + 1

abbrev pub decreases-operands::named : goal.decreases-operands::named
decreases-operands::named l = 32 * l.left + 2

abbrev pub decreases-formulas::unquantified : goal.decreases-formulas::unquantified
decreases-formulas::unquantified l = 32 * l.left + 23

abbrev pub decreases-sums::limit : goal.decreases-sums::limit
decreases-sums::limit l = 32 * l.left + 10

abbrev pub decreases-quantifiers::subscript : goal.decreases-quantifiers::subscript
decreases-quantifiers::subscript l = 32 * l.left + 11

abbrev pub decreases-quantifiers::scope : goal.decreases-quantifiers::scope
decreases-quantifiers::scope l = 32 * l.left + 31

abbrev pub decreases-quantifiers::for_all : goal.decreases-quantifiers::for_all
decreases-quantifiers::for_all l = 32 * l.left + 1

abbrev pub decreases-quantifiers::exists : goal.decreases-quantifiers::exists
decreases-quantifiers::exists l = 32 * l.left + 1

abbrev pub decreases-operands::deeper_subscript : goal.decreases-operands::deeper_subscript
decreases-operands::deeper_subscript l = 32 * l.left + 0

abbrev pub decreases-operands::deeper_scope : goal.decreases-operands::deeper_scope
decreases-operands::deeper_scope l = 32 * l.left + 0

abbrev pub decreases-operands::index : goal.decreases-operands::index
decreases-operands::index l = 32 * l.left + 1

abbrev pub decreases-sums::times : goal.decreases-sums::times
decreases-sums::times l = 32 * l.left + 4

abbrev pub decreases-sums::products : goal.decreases-sums::products
decreases-sums::products l = 32 * l.left + 5

abbrev pub decreases-sums::plus : goal.decreases-sums::plus
decreases-sums::plus l = 32 * l.left + 7

abbrev pub decreases-sums::sums : goal.decreases-sums::sums
decreases-sums::sums l = 32 * l.left + 8

abbrev pub decreases-formulas::conjunct : goal.decreases-formulas::conjunct
decreases-formulas::conjunct l = 32 * l.left + 14

abbrev pub decreases-formulas::conjuncts : goal.decreases-formulas::conjuncts
decreases-formulas::conjuncts l = 32 * l.left + 15

abbrev pub decreases-formulas::conjunction : goal.decreases-formulas::conjunction
decreases-formulas::conjunction l = 32 * l.left + 16

abbrev pub decreases-formulas::disjunct : goal.decreases-formulas::disjunct
decreases-formulas::disjunct l = 32 * l.left + 18

abbrev pub decreases-formulas::disjuncts : goal.decreases-formulas::disjuncts
decreases-formulas::disjuncts l = 32 * l.left + 19

abbrev pub decreases-formulas::disjunction : goal.decreases-formulas::disjunction
decreases-formulas::disjunction l = 32 * l.left + 20

abbrev pub decreases-formulas::past : goal.decreases-formulas::past
decreases-formulas::past l = 32 * l.left + 4

abbrev pub decreases-formulas::alone : goal.decreases-formulas::alone
decreases-formulas::alone l = 32 * l.left + 5

abbrev pub decreases-operands::argument : goal.decreases-operands::argument
decreases-operands::argument l = 32 * l.left + 27

abbrev pub decreases-operands::more_arguments : goal.decreases-operands::more_arguments
decreases-operands::more_arguments l = 32 * l.left + 28

-- what was read so far, with what is still read, is all
abbrev pub invariant-sums::products-loop-alloc : goal.invariant-sums::products-loop-alloc
invariant-sums::products-loop-alloc l = record {
  grown : Grown (starts Class.Star) (times_of (inside l.left)) (term_data l.product) (lexemes_of l.rest) (all_of (starts Class.Star) (times_of (inside l.left)) (term_data l.fn.first) (lexemes_of l.tokens));
}

abbrev pub decreases-sums::products-loop-alloc : goal.decreases-sums::products-loop-alloc
decreases-sums::products-loop-alloc l = length l.rest

abbrev pub invariant-sums::sums-loop-alloc : goal.invariant-sums::sums-loop-alloc
invariant-sums::sums-loop-alloc l = record {
  grown : Grown starts_sum (plus_of (inside l.left)) (term_data l.sum) (lexemes_of l.rest) (all_of starts_sum (plus_of (inside l.left)) (term_data l.fn.first) (lexemes_of l.tokens));
}

abbrev pub decreases-sums::sums-loop-alloc : goal.decreases-sums::sums-loop-alloc
decreases-sums::sums-loop-alloc l = length l.rest

abbrev pub invariant-formulas::conjuncts-loop-alloc : goal.invariant-formulas::conjuncts-loop-alloc
invariant-formulas::conjuncts-loop-alloc l = record {
  grown : Grown (starts Class.And) (conjunct_of (inside l.left)) (chain_data l.chain) (lexemes_of l.rest) (all_of (starts Class.And) (conjunct_of (inside l.left)) (chain_data l.fn.first) (lexemes_of l.tokens));
}

abbrev pub decreases-formulas::conjuncts-loop-alloc : goal.decreases-formulas::conjuncts-loop-alloc
decreases-formulas::conjuncts-loop-alloc l = length l.rest

abbrev pub invariant-formulas::disjuncts-loop-alloc : goal.invariant-formulas::disjuncts-loop-alloc
invariant-formulas::disjuncts-loop-alloc l = record {
  grown : Grown starts_or (disjunct_of (inside l.left)) (chain_data l.chain) (lexemes_of l.rest) (all_of starts_or (disjunct_of (inside l.left)) (chain_data l.fn.first) (lexemes_of l.tokens));
}

abbrev pub decreases-formulas::disjuncts-loop-alloc : goal.decreases-formulas::disjuncts-loop-alloc
decreases-formulas::disjuncts-loop-alloc l = length l.rest

abbrev pub invariant-operands::more_arguments-loop-alloc : goal.invariant-operands::more_arguments-loop-alloc
invariant-operands::more_arguments-loop-alloc l = record {
  grown : Grown (starts Class.Comma) (argument_of (inside l.left)) (map expr_data l.arguments.items) (lexemes_of l.rest) (all_of (starts Class.Comma) (argument_of (inside l.left)) (map expr_data l.fn.first.items) (lexemes_of l.tokens));
}

abbrev pub decreases-operands::more_arguments-loop-alloc : goal.decreases-operands::more_arguments-loop-alloc
decreases-operands::more_arguments-loop-alloc l = length l.rest
