-- What each kind of formula makes and names: the calls of its arm.
use Rattle.std.proofs.Common.{◌≡◌, [], ◌∷◌, List, refl, sym, ◌∙◌, ap, subst, rules, Bool, ℤ, false, w64, inl, inr}
use Rattle.spec_model.specs.declared.expr.Expr.{Expr}
use Rattle.spec_model.specs.Views.{formula}
use Rattle.spec_model.specs.Values.{truth_of}
use Rattle.spec_model.specs.Syntax.{Comparison, Equivalence, Implication, Remainder, Constant, Variable, NextOf, Negation, Conjunction, Disjunction, Sum, Difference, Product, Entry}
use Rattle.spec_model.specs.Diagrams.{Function}
use Rattle.game_values.specs.Safety.{formulas_in}
use Rattle.bit_compile.specs.declared.operation.Operation.TheVariants.{Add, Sub, Mul}
use Rattle.bit_compile.specs.Making.{Makes}
use Rattle.bit_compile.specs.Compiled.{only}
use Rattle.bit_compile.specs.CaseRoots.{MakesCases, had_by}
use Rattle.bit_compile.specs.Scenes.{cases_seen, game_seen, truth_seen}
use Rattle.std.proofs.lemmas.Int.{to_z-of_z}
use Rattle.bit_compile.proofs.FormulaFolds.{not_folded, and_folded, or_folded, implies_folded, iff_folded, cmp_folded, add_folded, sub_folded, mul_folded, mod_folded, past_folded, table_folded, const_folded, var_folded, next_folded}
use Rattle.bit_compile.proofs.Causes.{cause_never}
use Rattle.bit_compile.proofs.Outcomes.{cases_wider, made_wider}
use Rattle.bit_compile.proofs.CompilingSteps.{truth_as, cases_as, both_made, constant_as, members_as, two_read}
use Rattle.bit_compile.proofs.NamedFormulas.{part_named, operated_named}
use Rattle.bit_compile.specs.Named.{IsOfVariable, IsOfEach}
use Rattle.bit_compile.specs.NamedScenes.{IsNamedIn, IsOfOperated, IsOfTablesIn, IsOfSource}
use Rattle.bit_compile.specs.declared.cases.Source.TheVariants as source
use Rattle.bit_compile.specs.declared.folds.Fold.TheVariants as fold
use Rattle.bit_compile.proofs.+compile.Goals as goal

pub compiling::truth_root-returns-in-Const : goal.compiling::truth_root-returns-in-Const
compiling::truth_root-returns-in-Const t c =
    let s = c.args.scene.now in
    let at = c.args.at in
    let old = c.args.diagrams.now in
    let new = c.constant.new.diagrams in
    let r = c.constant.result in
    let v = c.in-Const.v in
    let is : c.truth.result ≡ truth_of v = search rules in
    let made = subst (λ (b : Bool). Makes old new r (λ s'. b)) is c.constant.ensures.made in
    truth_as s at old new r (formula c.args.e.now) (Constant v) (ap formula c.in-Const.is ∙ const_folded v) (record { made = made; cause = cause_never old new r (IsNamedIn s at (Constant v)) c.constant.ensures.never })

pub compiling::truth_root-returns-in-Add : goal.compiling::truth_root-returns-in-Add
compiling::truth_root-returns-in-Add t c =
    constant_as c.args.scene.now c.args.at c.args.diagrams.now c.constant-in-Add.new.diagrams c.constant-in-Add.result false (formula c.args.e.now) _ (ap formula c.in-Add.is ∙ add_folded c.in-Add.field-0 c.in-Add.field-1) refl c.constant-in-Add.ensures.made c.constant-in-Add.ensures.never

pub compiling::truth_root-returns-in-Sub : goal.compiling::truth_root-returns-in-Sub
compiling::truth_root-returns-in-Sub t c =
    constant_as c.args.scene.now c.args.at c.args.diagrams.now c.constant-in-Sub.new.diagrams c.constant-in-Sub.result false (formula c.args.e.now) _ (ap formula c.in-Sub.is ∙ sub_folded c.in-Sub.field-0 c.in-Sub.field-1) refl c.constant-in-Sub.ensures.made c.constant-in-Sub.ensures.never

pub compiling::truth_root-returns-in-Mul : goal.compiling::truth_root-returns-in-Mul
compiling::truth_root-returns-in-Mul t c =
    constant_as c.args.scene.now c.args.at c.args.diagrams.now c.constant-in-Mul.new.diagrams c.constant-in-Mul.result false (formula c.args.e.now) _ (ap formula c.in-Mul.is ∙ mul_folded c.in-Mul.field-0 c.in-Mul.field-1) refl c.constant-in-Mul.ensures.made c.constant-in-Mul.ensures.never

pub compiling::truth_root-returns-in-Mod : goal.compiling::truth_root-returns-in-Mod
compiling::truth_root-returns-in-Mod t c =
    constant_as c.args.scene.now c.args.at c.args.diagrams.now c.constant-in-Mod.new.diagrams c.constant-in-Mod.result false (formula c.args.e.now) _ (ap formula c.in-Mod.is ∙ mod_folded c.in-Mod.field-0 c.in-Mod.field-1) refl c.constant-in-Mod.ensures.made c.constant-in-Mod.ensures.never

pub compiling::truth_root-returns-in-Past : goal.compiling::truth_root-returns-in-Past
compiling::truth_root-returns-in-Past t c =
    constant_as c.args.scene.now c.args.at c.args.diagrams.now c.constant-in-Past.new.diagrams c.constant-in-Past.result false (formula c.args.e.now) _ (ap formula c.in-Past.is ∙ past_folded c.in-Past.field-0 c.in-Past.field-1) refl c.constant-in-Past.ensures.made c.constant-in-Past.ensures.never

pub compiling::truth_root-returns-in-Var : goal.compiling::truth_root-returns-in-Var
compiling::truth_root-returns-in-Var t c =
    truth_as c.args.scene.now c.args.at c.args.diagrams.now c.variable_root.new.diagrams c.variable_root.result (formula c.args.e.now) (Variable c.in-Var.k) (ap formula c.in-Var.is ∙ var_folded c.in-Var.k)
    (made_wider (IsOfVariable (game_seen c.args.scene.now) c.args.at c.in-Var.k) (IsNamedIn c.args.scene.now c.args.at (Variable c.in-Var.k)) (λ f is. inl (inr is)) _ _ c.variable_root.result (truth_seen c.args.scene.now c.args.at (Variable c.in-Var.k)) c.variable_root.ensures)

pub compiling::truth_root-returns-in-Next : goal.compiling::truth_root-returns-in-Next
compiling::truth_root-returns-in-Next t c =
    let x = c.deref.result.now in
    let first : c.in-Next.a.value ≡ x = search rules in
    let same = ap formula c.in-Next.is ∙ (next_folded c.in-Next.a ∙ ap (λ (z : Expr). NextOf (formula z)) first) in
    truth_as c.args.scene.now c.args.at c.args.diagrams.now c.truth_root.new.diagrams c.truth_root.result (formula c.args.e.now) (NextOf (formula x)) same c.truth_root.ensures

pub compiling::truth_root-returns-in-Not : goal.compiling::truth_root-returns-in-Not
compiling::truth_root-returns-in-Not t c =
    let x = c.deref-in-Not.result.now in
    let first : c.in-Not.a.value ≡ x = search rules in
    let same = ap formula c.in-Not.is ∙ (not_folded c.in-Not.a ∙ ap (λ (z : Expr). Negation (formula z)) first) in
    let e = Negation (formula x) in
    truth_as c.args.scene.now c.args.at c.args.diagrams.now c.negated_root.new.diagrams c.negated_root.result (formula c.args.e.now) e same
    (made_wider (IsNamedIn c.args.scene.now c.args.at (formula x)) (IsNamedIn c.args.scene.now c.args.at e) (part_named c.args.scene.now c.args.at (formula x) (formula x) (IsNamedIn c.args.scene.now c.args.at e) (λ f is. inl (inr is)) (λ f is. inr is)) _ _ c.negated_root.result (truth_seen c.args.scene.now c.args.at e) c.negated_root.ensures)

pub compiling::truth_root-returns-in-And : goal.compiling::truth_root-returns-in-And
compiling::truth_root-returns-in-And t c =
    let es = formulas_in c.deref-in-And.result.now in
    let same = ap formula c.in-And.is ∙ (and_folded c.in-And.es ∙ ap (λ (zs : List Expr). Conjunction (formulas_in zs)) (sym c.deref-in-And.ensures.value)) in
    truth_as c.args.scene.now c.args.at c.args.diagrams.now c.joined_root.new.diagrams c.joined_root.result (formula c.args.e.now) (Conjunction es) same
    (members_as c.args.scene.now c.args.at c.args.diagrams.now c.joined_root.new.diagrams c.joined_root.result fold.All es (Conjunction es) (λ f is. inl (inr (inl is))) (λ f is. inl (inr (inr is))) c.joined_root.ensures)

pub compiling::truth_root-returns-in-Or : goal.compiling::truth_root-returns-in-Or
compiling::truth_root-returns-in-Or t c =
    let es = formulas_in c.deref-in-Or.result.now in
    let same = ap formula c.in-Or.is ∙ (or_folded c.in-Or.es ∙ ap (λ (zs : List Expr). Disjunction (formulas_in zs)) (sym c.deref-in-Or.ensures.value)) in
    truth_as c.args.scene.now c.args.at c.args.diagrams.now c.joined_root-in-Or.new.diagrams c.joined_root-in-Or.result (formula c.args.e.now) (Disjunction es) same
    (members_as c.args.scene.now c.args.at c.args.diagrams.now c.joined_root-in-Or.new.diagrams c.joined_root-in-Or.result fold.Some es (Disjunction es) (λ f is. inl (inr (inl is))) (λ f is. inl (inr (inr is))) c.joined_root-in-Or.ensures)

pub compiling::truth_root-returns-in-Implies : goal.compiling::truth_root-returns-in-Implies
compiling::truth_root-returns-in-Implies t c =
    let x = c.deref-in-Implies.result.now in
    let y = c.deref-in-Implies-2.result.now in
    let same = two_read Implication (formula c.args.e.now) c.in-Implies.a.value c.in-Implies.b.value x y (ap formula c.in-Implies.is ∙ implies_folded c.in-Implies.a c.in-Implies.b) (search rules) (search rules) in
    truth_as c.args.scene.now c.args.at c.args.diagrams.now c.implied_root.new.diagrams c.implied_root.result (formula c.args.e.now) (Implication (formula x) (formula y)) same c.implied_root.ensures

pub compiling::truth_root-returns-in-Iff : goal.compiling::truth_root-returns-in-Iff
compiling::truth_root-returns-in-Iff t c =
    let x = c.deref-in-Iff.result.now in
    let y = c.deref-in-Iff-2.result.now in
    let same = two_read Equivalence (formula c.args.e.now) c.in-Iff.a.value c.in-Iff.b.value x y (ap formula c.in-Iff.is ∙ iff_folded c.in-Iff.a c.in-Iff.b) (search rules) (search rules) in
    truth_as c.args.scene.now c.args.at c.args.diagrams.now c.equivalent_root.new.diagrams c.equivalent_root.result (formula c.args.e.now) (Equivalence (formula x) (formula y)) same c.equivalent_root.ensures

pub compiling::truth_root-returns-in-Cmp : goal.compiling::truth_root-returns-in-Cmp
compiling::truth_root-returns-in-Cmp t c =
    let x = c.deref-in-Cmp.result.now in
    let y = c.deref-in-Cmp-2.result.now in
    let same = two_read (Comparison c.in-Cmp.c) (formula c.args.e.now) c.in-Cmp.a.value c.in-Cmp.b.value x y (ap formula c.in-Cmp.is ∙ cmp_folded c.in-Cmp.c c.in-Cmp.a c.in-Cmp.b) (search rules) (search rules) in
    truth_as c.args.scene.now c.args.at c.args.diagrams.now c.compared_root.new.diagrams c.compared_root.result (formula c.args.e.now) (Comparison c.in-Cmp.c (formula x) (formula y)) same c.compared_root.ensures

pub compiling::truth_root-returns-in-Table : goal.compiling::truth_root-returns-in-Table
compiling::truth_root-returns-in-Table t c =
    let e = Entry c.in-Table.h c.in-Table.n in
    truth_as c.args.scene.now c.args.at c.args.diagrams.now c.entry_root.new.diagrams c.entry_root.result (formula c.args.e.now) e (ap formula c.in-Table.is ∙ table_folded c.in-Table.h c.in-Table.n) (made_wider (IsOfTablesIn c.args.scene.now) (IsNamedIn c.args.scene.now c.args.at e) (λ f is. inr is) _ _ c.entry_root.result (truth_seen c.args.scene.now c.args.at e) c.entry_root.ensures)

pub compiling::cases_of-returns-in-Const : goal.compiling::cases_of-returns-in-Const
compiling::cases_of-returns-in-Const t c =
    let s = c.args.scene.now in
    let at = c.args.at in
    let old = c.args.diagrams.now in
    let new = c.cases_from.new.diagrams in
    let r = c.cases_from.result in
    let v = c.in-Const.v in
    let named = IsNamedIn s at (Constant v) in
    let step = IsOfEach (v ∷ []) (had_by old source.Everywhere) (IsOfSource old source.Everywhere) in
    let wider : (f : Function) → step f → named f = λ f is. elim is.2 [ inl same ↦ inl (inr same) | inr none ↦ absurd none ] in
    cases_as s at old new r (formula c.args.e.now) (Constant v) (ap formula c.in-Const.is ∙ const_folded v) (cases_wider step named wider old new r (only v) c.cases_from.ensures)

pub compiling::cases_of-returns-in-Var : goal.compiling::cases_of-returns-in-Var
compiling::cases_of-returns-in-Var t c =
    cases_as c.args.scene.now c.args.at c.args.diagrams.now c.variable_cases.new.diagrams c.variable_cases.result (formula c.args.e.now) (Variable c.in-Var.k) (ap formula c.in-Var.is ∙ var_folded c.in-Var.k)
    (cases_wider (IsOfVariable (game_seen c.args.scene.now) c.args.at c.in-Var.k) (IsNamedIn c.args.scene.now c.args.at (Variable c.in-Var.k)) (λ f is. inl (inr is)) _ _ c.variable_cases.result (cases_seen c.args.scene.now c.args.at (Variable c.in-Var.k)) c.variable_cases.ensures)

pub compiling::cases_of-returns-in-Next : goal.compiling::cases_of-returns-in-Next
compiling::cases_of-returns-in-Next t c =
    let x = c.deref.result.now in
    let first : c.in-Next.a.value ≡ x = search rules in
    let same = ap formula c.in-Next.is ∙ (next_folded c.in-Next.a ∙ ap (λ (z : Expr). NextOf (formula z)) first) in
    cases_as c.args.scene.now c.args.at c.args.diagrams.now c.cases_of.new.diagrams c.cases_of.result (formula c.args.e.now) (NextOf (formula x)) same c.cases_of.ensures

pub compiling::cases_of-returns-in-Add : goal.compiling::cases_of-returns-in-Add
compiling::cases_of-returns-in-Add t c =
    let x = c.deref-in-Add.result.now in
    let y = c.deref-in-Add-2.result.now in
    let same = two_read Sum (formula c.args.e.now) c.in-Add.a.value c.in-Add.b.value x y (ap formula c.in-Add.is ∙ add_folded c.in-Add.a c.in-Add.b) (search rules) (search rules) in
    let e = Sum (formula x) (formula y) in
    cases_as c.args.scene.now c.args.at c.args.diagrams.now c.operated.new.diagrams c.operated.result (formula c.args.e.now) e same
    (cases_wider (IsOfOperated c.args.scene.now c.args.at Add (formula x) (formula y)) (IsNamedIn c.args.scene.now c.args.at e) (operated_named c.args.scene.now c.args.at Add (formula x) (formula y) e (λ f is. inl (inr (inl (inl is)))) (λ f is. inl (inr (inl (inr is)))) (λ f is. inl (inr (inr is)))) _ _ c.operated.result (cases_seen c.args.scene.now c.args.at e) c.operated.ensures)

pub compiling::cases_of-returns-in-Sub : goal.compiling::cases_of-returns-in-Sub
compiling::cases_of-returns-in-Sub t c =
    let x = c.deref-in-Sub.result.now in
    let y = c.deref-in-Sub-2.result.now in
    let same = two_read Difference (formula c.args.e.now) c.in-Sub.a.value c.in-Sub.b.value x y (ap formula c.in-Sub.is ∙ sub_folded c.in-Sub.a c.in-Sub.b) (search rules) (search rules) in
    let e = Difference (formula x) (formula y) in
    cases_as c.args.scene.now c.args.at c.args.diagrams.now c.operated-in-Sub.new.diagrams c.operated-in-Sub.result (formula c.args.e.now) e same
    (cases_wider (IsOfOperated c.args.scene.now c.args.at Sub (formula x) (formula y)) (IsNamedIn c.args.scene.now c.args.at e) (operated_named c.args.scene.now c.args.at Sub (formula x) (formula y) e (λ f is. inl (inr (inl (inl is)))) (λ f is. inl (inr (inl (inr is)))) (λ f is. inl (inr (inr is)))) _ _ c.operated-in-Sub.result (cases_seen c.args.scene.now c.args.at e) c.operated-in-Sub.ensures)

pub compiling::cases_of-returns-in-Mul : goal.compiling::cases_of-returns-in-Mul
compiling::cases_of-returns-in-Mul t c =
    let x = c.deref-in-Mul.result.now in
    let y = c.deref-in-Mul-2.result.now in
    let same = two_read Product (formula c.args.e.now) c.in-Mul.a.value c.in-Mul.b.value x y (ap formula c.in-Mul.is ∙ mul_folded c.in-Mul.a c.in-Mul.b) (search rules) (search rules) in
    let e = Product (formula x) (formula y) in
    cases_as c.args.scene.now c.args.at c.args.diagrams.now c.operated-in-Mul.new.diagrams c.operated-in-Mul.result (formula c.args.e.now) e same
    (cases_wider (IsOfOperated c.args.scene.now c.args.at Mul (formula x) (formula y)) (IsNamedIn c.args.scene.now c.args.at e) (operated_named c.args.scene.now c.args.at Mul (formula x) (formula y) e (λ f is. inl (inr (inl (inl is)))) (λ f is. inl (inr (inl (inr is)))) (λ f is. inl (inr (inr is)))) _ _ c.operated-in-Mul.result (cases_seen c.args.scene.now c.args.at e) c.operated-in-Mul.ensures)

pub compiling::cases_of-returns-in-Mod : goal.compiling::cases_of-returns-in-Mod
compiling::cases_of-returns-in-Mod t c =
    let s = c.args.scene.now in
    let at = c.args.at in
    let old = c.args.diagrams.now in
    let new = c.remainders.new.diagrams in
    let r = c.remainders.result in
    let n = c.in-Mod.n in
    let x = c.deref-in-Mod.result.now in
    let first : c.in-Mod.a.value ≡ x = search rules in
    let same = ap formula c.in-Mod.is ∙ (mod_folded c.in-Mod.a n ∙ ap (λ (z : Expr). Remainder (formula z) n) first) in
    let made = subst (λ (z : ℤ). MakesCases old new r (cases_seen s at (Remainder (formula x) z)) (IsNamedIn s at (Remainder (formula x) z))) (to_z-of_z w64 n (search rules)) c.remainders.ensures in
    cases_as s at old new r (formula c.args.e.now) (Remainder (formula x) n) same made

pub compiling::cases_of-returns-in-Not : goal.compiling::cases_of-returns-in-Not
compiling::cases_of-returns-in-Not t c =
    both_made c.args.scene.now c.args.at c.args.diagrams.now c.both_cases.new.diagrams c.both_cases.result (formula c.args.e.now) _ (ap formula c.in-Not.is ∙ not_folded c.in-Not.field-0) refl c.both_cases.ensures

pub compiling::cases_of-returns-in-And : goal.compiling::cases_of-returns-in-And
compiling::cases_of-returns-in-And t c =
    both_made c.args.scene.now c.args.at c.args.diagrams.now c.both_cases-in-And.new.diagrams c.both_cases-in-And.result (formula c.args.e.now) _ (ap formula c.in-And.is ∙ and_folded c.in-And.field-0) refl c.both_cases-in-And.ensures

pub compiling::cases_of-returns-in-Or : goal.compiling::cases_of-returns-in-Or
compiling::cases_of-returns-in-Or t c =
    both_made c.args.scene.now c.args.at c.args.diagrams.now c.both_cases-in-Or.new.diagrams c.both_cases-in-Or.result (formula c.args.e.now) _ (ap formula c.in-Or.is ∙ or_folded c.in-Or.field-0) refl c.both_cases-in-Or.ensures

pub compiling::cases_of-returns-in-Implies : goal.compiling::cases_of-returns-in-Implies
compiling::cases_of-returns-in-Implies t c =
    both_made c.args.scene.now c.args.at c.args.diagrams.now c.both_cases-in-Implies.new.diagrams c.both_cases-in-Implies.result (formula c.args.e.now) _ (ap formula c.in-Implies.is ∙ implies_folded c.in-Implies.field-0 c.in-Implies.field-1) refl c.both_cases-in-Implies.ensures

pub compiling::cases_of-returns-in-Iff : goal.compiling::cases_of-returns-in-Iff
compiling::cases_of-returns-in-Iff t c =
    both_made c.args.scene.now c.args.at c.args.diagrams.now c.both_cases-in-Iff.new.diagrams c.both_cases-in-Iff.result (formula c.args.e.now) _ (ap formula c.in-Iff.is ∙ iff_folded c.in-Iff.field-0 c.in-Iff.field-1) refl c.both_cases-in-Iff.ensures

pub compiling::cases_of-returns-in-Cmp : goal.compiling::cases_of-returns-in-Cmp
compiling::cases_of-returns-in-Cmp t c =
    both_made c.args.scene.now c.args.at c.args.diagrams.now c.both_cases-in-Cmp.new.diagrams c.both_cases-in-Cmp.result (formula c.args.e.now) _ (ap formula c.in-Cmp.is ∙ cmp_folded c.in-Cmp.field-0 c.in-Cmp.field-1 c.in-Cmp.field-2) refl c.both_cases-in-Cmp.ensures

pub compiling::cases_of-returns-in-Past : goal.compiling::cases_of-returns-in-Past
compiling::cases_of-returns-in-Past t c =
    both_made c.args.scene.now c.args.at c.args.diagrams.now c.both_cases-in-Past.new.diagrams c.both_cases-in-Past.result (formula c.args.e.now) _ (ap formula c.in-Past.is ∙ past_folded c.in-Past.field-0 c.in-Past.field-1) refl c.both_cases-in-Past.ensures

pub compiling::cases_of-returns-in-Table : goal.compiling::cases_of-returns-in-Table
compiling::cases_of-returns-in-Table t c =
    both_made c.args.scene.now c.args.at c.args.diagrams.now c.both_cases-in-Table.new.diagrams c.both_cases-in-Table.result (formula c.args.e.now) _ (ap formula c.in-Table.is ∙ table_folded c.in-Table.field-0 c.in-Table.field-1) refl c.both_cases-in-Table.ensures
