-- The formulas that the variants of an expression stand for.
use Rattle.std.proofs.Common.{◌≡◌, map, sym, ap, ◌∙◌}
use Rattle.spec_model.specs.declared.expr.Expr.{fold-roll-Expr}
use Rattle.spec_model.specs.declared.expr.Expr.TheOpen.{Expr-F}
use Rattle.spec_model.specs.declared.expr.Expr.TheVariants as variants
use Rattle.spec_model.specs.declared.expr.Expr.TheVariants.{rolls-Const, rolls-Var, rolls-Next, rolls-Not, rolls-And, rolls-Or, rolls-Implies, rolls-Iff, rolls-Cmp, rolls-Add, rolls-Sub, rolls-Mul, rolls-Mod, rolls-Past, rolls-Table}
use Rattle.spec_model.specs.Syntax.{Formula, Constant, Variable, NextOf, Negation, Conjunction, Disjunction, Implication, Equivalence, Comparison, Sum, Difference, Product, Remainder, PastOf, Entry, formulas}
use Rattle.spec_model.specs.Views.{formula, formula_step}

pub const_folded : (v : _) → formula (variants.Const v) ≡ Constant v
const_folded v = ap formula (sym (rolls-Const v)) ∙ fold-roll-Expr Formula formula_step (Expr-F.Const v)

pub var_folded : (k : _) → formula (variants.Var k) ≡ Variable k
var_folded k = ap formula (sym (rolls-Var k)) ∙ fold-roll-Expr Formula formula_step (Expr-F.Var k)

pub next_folded : (a : _) → formula (variants.Next a) ≡ NextOf (formula a.value)
next_folded a = ap formula (sym (rolls-Next a)) ∙ fold-roll-Expr Formula formula_step (Expr-F.Next a)

pub not_folded : (a : _) → formula (variants.Not a) ≡ Negation (formula a.value)
not_folded a = ap formula (sym (rolls-Not a)) ∙ fold-roll-Expr Formula formula_step (Expr-F.Not a)

pub and_folded : (es : _) → formula (variants.And es) ≡ Conjunction (formulas (map formula es.items))
and_folded es = ap formula (sym (rolls-And es)) ∙ fold-roll-Expr Formula formula_step (Expr-F.And es)

pub or_folded : (es : _) → formula (variants.Or es) ≡ Disjunction (formulas (map formula es.items))
or_folded es = ap formula (sym (rolls-Or es)) ∙ fold-roll-Expr Formula formula_step (Expr-F.Or es)

pub implies_folded : (a b : _) → formula (variants.Implies a b) ≡ Implication (formula a.value) (formula b.value)
implies_folded a b = ap formula (sym (rolls-Implies a b)) ∙ fold-roll-Expr Formula formula_step (Expr-F.Implies a b)

pub iff_folded : (a b : _) → formula (variants.Iff a b) ≡ Equivalence (formula a.value) (formula b.value)
iff_folded a b = ap formula (sym (rolls-Iff a b)) ∙ fold-roll-Expr Formula formula_step (Expr-F.Iff a b)

pub cmp_folded : (c a b : _) → formula (variants.Cmp c a b) ≡ Comparison c (formula a.value) (formula b.value)
cmp_folded c a b = ap formula (sym (rolls-Cmp c a b)) ∙ fold-roll-Expr Formula formula_step (Expr-F.Cmp c a b)

pub add_folded : (a b : _) → formula (variants.Add a b) ≡ Sum (formula a.value) (formula b.value)
add_folded a b = ap formula (sym (rolls-Add a b)) ∙ fold-roll-Expr Formula formula_step (Expr-F.Add a b)

pub sub_folded : (a b : _) → formula (variants.Sub a b) ≡ Difference (formula a.value) (formula b.value)
sub_folded a b = ap formula (sym (rolls-Sub a b)) ∙ fold-roll-Expr Formula formula_step (Expr-F.Sub a b)

pub mul_folded : (a b : _) → formula (variants.Mul a b) ≡ Product (formula a.value) (formula b.value)
mul_folded a b = ap formula (sym (rolls-Mul a b)) ∙ fold-roll-Expr Formula formula_step (Expr-F.Mul a b)

pub mod_folded : (a n : _) → formula (variants.Mod a n) ≡ Remainder (formula a.value) n
mod_folded a n = ap formula (sym (rolls-Mod a n)) ∙ fold-roll-Expr Formula formula_step (Expr-F.Mod a n)

pub past_folded : (op es : _) → formula (variants.Past op es) ≡ PastOf op (formulas (map formula es.items))
past_folded op es = ap formula (sym (rolls-Past op es)) ∙ fold-roll-Expr Formula formula_step (Expr-F.Past op es)

pub table_folded : (h n : _) → formula (variants.Table h n) ≡ Entry h n
table_folded h n = ap formula (sym (rolls-Table h n)) ∙ fold-roll-Expr Formula formula_step (Expr-F.Table h n)
