-- What the program's expressions so far stand for.
use Rattle.std.specs.Prelude.{map}
use Rattle.spectra_exprs.specs.declared.terms.Term.{Term as TermTree}
use Rattle.spectra_exprs.specs.declared.terms.Chain.{Chain as ChainTree}
use Rattle.spectra_exprs.specs.declared.terms.Scope.{Scope as ScopeTree}
use Rattle.spectra_trees.specs.Views.{name_data, expr_data}
use Rattle.spectra_exprs.specs.Forms.{Term, Scope, Chain}

abbrev pub term_data : TermTree → Term
term_data o = (expr_data o.tree.value, o.alone)

abbrev pub scope_data : ScopeTree → Scope
scope_data s = record { name = name_data s.name; low = expr_data s.low.value; high = expr_data s.high.value; body = expr_data s.body.value }

abbrev pub chain_data : ChainTree → Chain
chain_data c = (map expr_data c.operands.items, c.operators.items)
