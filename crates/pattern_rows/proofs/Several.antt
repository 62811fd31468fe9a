-- Several formulas, one after another.
use Rattle.std.proofs.Common.{◌≡◌, ℕ, zero, suc, ◌+◌, ◌<◌, ◌≤◌, Bool, true, false, ◌&&◌, ◌||◌, List, [], ◌∷◌, length, drop, get_or, refl, sym, ap, ◌∙◌, arith}
use Rattle.std.specs.List.{list_all, list_any}
use Rattle.spec_model.specs.Syntax.{Formula, formulas}
use Rattle.spec_model.specs.declared.expr.Expr.{Expr}
use Rattle.spec_model.specs.Views.{formula}
use Rattle.spec_model.specs.FormulaSizes.{nodes_in_each}
use Rattle.spec_model.specs.Meaning.{Reading, holds_at, truths_at}
use Rattle.game_values.specs.Safety.{formulas_in}

and_three : (x y z : Bool) → ((x && y) && z) ≡ (x && (y && z))
and_three true y z = refl
and_three false y z = refl

or_three : (x y z : Bool) → ((x || y) || z) ≡ (x || (y || z))
or_three true y z = refl
or_three false y z = refl

and_true : (b : Bool) → (b && true) ≡ b
and_true true = refl
and_true false = refl

or_false : (b : Bool) → (b || false) ≡ b
or_false true = refl
or_false false = refl

abbrev all_from : Reading → (t : ℕ) → List Expr → ℕ → Bool
all_from r t es k = list_all (λ (a : ℕ → Bool). a t) (truths_at r (formulas_in (drop k es)))

abbrev some_from : Reading → (t : ℕ) → List Expr → ℕ → Bool
some_from r t es k = list_any (λ (a : ℕ → Bool). a t) (truths_at r (formulas_in (drop k es)))

module _ (r : Reading) (t : ℕ) where
  all_next : (es : List Expr) (k : ℕ) (e : Expr) → k < length es → e ≡ get_or es k e → all_from r t es k ≡ (holds_at r (formula e) t && all_from r t es (suc k))
  all_next [] k e below is = absurd (omega arith)
  all_next (d ∷ es) zero e below is = ap (λ x. holds_at r (formula x) t && all_from r t es 0) (sym is)
  all_next (d ∷ es) (suc k) e below is = all_next es k e (omega arith) is

  some_next : (es : List Expr) (k : ℕ) (e : Expr) → k < length es → e ≡ get_or es k e → some_from r t es k ≡ (holds_at r (formula e) t || some_from r t es (suc k))
  some_next [] k e below is = absurd (omega arith)
  some_next (d ∷ es) zero e below is = ap (λ x. holds_at r (formula x) t || some_from r t es 0) (sym is)
  some_next (d ∷ es) (suc k) e below is = some_next es k e (omega arith) is

  all_here : (es : List Expr) (k : ℕ) (e : Expr) → k < length es → e ≡ get_or es k e → all_from r t es k ≡ (holds_at r (formula e) t && all_from r t es (k + 1))
  all_here es k e below is = let up : k + 1 ≡ suc k = omega arith in rw up (all_next es k e below is)

  -- with one more
  pub all_more : (es : List Expr) (k : ℕ) (e : Expr) (so_far one new : Bool) → k < length es → e ≡ get_or es k e → one ≡ holds_at r (formula e) t → new ≡ (so_far && one) →
      (so_far && all_from r t es k) ≡ all_from r t es 0 → (new && all_from r t es (k + 1)) ≡ all_from r t es 0
  all_more es k e so_far one new below is here made before =
      ap (λ x. x && all_from r t es (k + 1)) (made ∙ ap (λ x. so_far && x) here)
      ∙ (and_three so_far (holds_at r (formula e) t) (all_from r t es (k + 1))
      ∙ (ap (λ x. so_far && x) (sym (all_here es k e below is)) ∙ before))

  some_here : (es : List Expr) (k : ℕ) (e : Expr) → k < length es → e ≡ get_or es k e → some_from r t es k ≡ (holds_at r (formula e) t || some_from r t es (k + 1))
  some_here es k e below is = let up : k + 1 ≡ suc k = omega arith in rw up (some_next es k e below is)

  pub some_more : (es : List Expr) (k : ℕ) (e : Expr) (so_far one new : Bool) → k < length es → e ≡ get_or es k e → one ≡ holds_at r (formula e) t → new ≡ (so_far || one) →
      (so_far || some_from r t es k) ≡ some_from r t es 0 → (new || some_from r t es (k + 1)) ≡ some_from r t es 0
  some_more es k e so_far one new below is here made before =
      ap (λ x. x || some_from r t es (k + 1)) (made ∙ ap (λ x. so_far || x) here)
      ∙ (or_three so_far (holds_at r (formula e) t) (some_from r t es (k + 1))
      ∙ (ap (λ x. so_far || x) (sym (some_here es k e below is)) ∙ before))

  drop_past : (es : List Expr) (k : ℕ) → length es ≤ k → drop k es ≡ []
  drop_past [] zero over = refl
  drop_past [] (suc k) over = refl
  drop_past (e ∷ es) zero over = absurd (omega arith)
  drop_past (e ∷ es) (suc k) over = drop_past es k (omega arith)

  pub all_ended : (es : List Expr) (k : ℕ) (so_far : Bool) → length es ≤ k → (so_far && all_from r t es k) ≡ all_from r t es 0 → so_far ≡ all_from r t es 0
  all_ended es k so_far over before = sym (and_true so_far) ∙ (ap (λ ds. so_far && list_all (λ (a : ℕ → Bool). a t) (truths_at r (formulas_in ds))) (sym (drop_past es k over)) ∙ before)

  pub all_none : (es : List Expr) (k : ℕ) (so_far : Bool) → so_far ≡ false → (so_far && all_from r t es k) ≡ all_from r t es 0 → so_far ≡ all_from r t es 0
  all_none es k so_far none before = none ∙ (sym (ap (λ b. b && all_from r t es k) none) ∙ before)

  pub some_ended : (es : List Expr) (k : ℕ) (so_far : Bool) → length es ≤ k → (so_far || some_from r t es k) ≡ some_from r t es 0 → so_far ≡ some_from r t es 0
  some_ended es k so_far over before = sym (or_false so_far) ∙ (ap (λ ds. so_far || list_any (λ (a : ℕ → Bool). a t) (truths_at r (formulas_in ds))) (sym (drop_past es k over)) ∙ before)

nodes_from : (es : List Expr) (k : ℕ) → nodes_in_each (formulas_in (drop (suc k) es)) ≤ nodes_in_each (formulas_in (drop k es))
nodes_from [] k = omega arith
nodes_from (d ∷ es) zero = omega arith
nodes_from (d ∷ es) (suc k) = nodes_from es k

pub lighter : (es : List Expr) (k n : ℕ) → nodes_in_each (formulas_in (drop k es)) ≤ n → nodes_in_each (formulas_in (drop (k + 1) es)) ≤ n
lighter es k n before = let up : k + 1 ≡ suc k = omega arith in rw up (let less = nodes_from es k in omega (arith, less, before))

-- all lines hold
pub all_lines : (r : Reading) (t : ℕ) (es : List Formula) → list_all (λ (a : ℕ → Bool). a t) (truths_at r (formulas es)) ≡ list_all (λ e. holds_at r e t) es
all_lines r t [] = refl
all_lines r t (e ∷ es) = ap (λ b. holds_at r e t && b) (all_lines r t es)
