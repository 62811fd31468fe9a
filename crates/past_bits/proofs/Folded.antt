-- What the variants of an expression stand for.
use Rattle.std.proofs.Common.{◌≡◌, ℕ, sym, ap, ◌∙◌}
use Rattle.spec_model.specs.declared.expr.Past.{Past}
use Rattle.spec_model.specs.declared.expr.Expr.{fold-roll-Expr}
use Rattle.spec_model.specs.declared.expr.Expr.TheOpen.{Expr-F}
use Rattle.spec_model.specs.declared.expr.Expr.TheVariants as variants
use Rattle.spec_model.specs.declared.expr.Expr.TheVariants.{rolls-And, rolls-Or, rolls-Past, rolls-Table}
use Rattle.spec_model.specs.Syntax.{Formula, Conjunction, Disjunction, PastOf, Entry}
use Rattle.spec_model.specs.Views.{formula, formula_step}
use Rattle.game_values.specs.Safety.{formulas_in}

pub past_folded : (op : Past) (es : _) → formula (variants.Past op es) ≡ PastOf op (formulas_in es.items)
past_folded op es = ap formula (sym (rolls-Past op es)) ∙ fold-roll-Expr Formula formula_step (Expr-F.Past op es)

pub table_folded : (h n : ℕ) → formula (variants.Table h n) ≡ Entry h n
table_folded h n = ap formula (sym (rolls-Table h n)) ∙ fold-roll-Expr Formula formula_step (Expr-F.Table h n)

pub and_folded : (es : _) → formula (variants.And es) ≡ Conjunction (formulas_in es.items)
and_folded es = ap formula (sym (rolls-And es)) ∙ fold-roll-Expr Formula formula_step (Expr-F.And es)

pub or_folded : (es : _) → formula (variants.Or es) ≡ Disjunction (formulas_in es.items)
or_folded es = ap formula (sym (rolls-Or es)) ∙ fold-roll-Expr Formula formula_step (Expr-F.Or es)
