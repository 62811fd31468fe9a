-- Planes of formulas, by the planes of their parts.
use Rattle.std.proofs.Common.{◌≡◌, ◌==◌, ℕ, zero, suc, [], ◌∷◌, ◌+◌, ◌*◌, ◌<◌, ◌≤◌, Bool, true, false, not, ◌&&◌, ◌||◌, List, length, map, take, drop, get_or, refl, sym, ap, ◌∙◌, arith}
use Rattle.std.specs.Bool.{beq}
use Rattle.std.specs.List.{list_all, list_any}
use Rattle.std.proofs.lemmas.List.{get_or-map, get_or-take, get_or-drop, length-take-le, length-drop}
use Rattle.spec_model.specs.declared.value.Value.{Value}
use Rattle.spec_model.specs.Syntax.{Formula, NextOf, Negation, Implication, Equivalence}
use Rattle.spec_model.specs.declared.expr.Expr.{Expr}
use Rattle.spec_model.specs.Views.{formula}
use Rattle.spec_model.specs.FormulaSizes.{nodes_in_each}
use Rattle.spec_model.specs.Meaning.{Reading, holds_at, truths_at}
use Rattle.game_values.specs.Safety.{formulas_in}
use Rattle.column_planes.specs.Planes.{bit_in}
use Rattle.column_planes.specs.Columns.{ColumnData, IsSeen, HasBits, IsPlaneOf, value_of_code, domain_in}

-- the bits of a column that tell a fact of its variable by one code
pub column_bits : (cs : ColumnData) (out : List ℕ) (bits at k code : ℕ) (P : Value → Bool) → k < length cs.variables → 4096 * k + 4096 ≤ length cs.codes → at + bits ≤ 4096 →
    ((n : ℕ) → (n == code) ≡ P (value_of_code (domain_in cs.variables k) n)) →
    ((j : ℕ) → bit_in out j ≡ get_or (map (λ c. c == code) (take bits (drop (4096 * k + at) cs.codes))) j false) → HasBits cs bits at (λ r t. P (r.variable k t)) out
column_bits cs out bits at k code P there room short tells is = λ j below r t seen.
    let codes = cs.codes in
    let many : length (take bits (drop (4096 * k + at) codes)) ≡ bits = length-take-le bits (drop (4096 * k + at) codes) (let l = length-drop (4096 * k + at) codes in omega (arith, l, room, short)) in
    is j
    ∙ (get_or-map (λ c. c == code) (take bits (drop (4096 * k + at) codes)) j 0 false (omega (arith, many, below))
    ∙ (ap (λ c. c == code)
    (get_or-take bits (drop (4096 * k + at) codes) j 0 below
    ∙ (get_or-drop (4096 * k + at) codes j 0
    ∙ ap (λ n. get_or codes n 0) (swap k at j)))
    ∙ (tells (get_or codes (4096 * k + (j + at)) 0)
    ∙ ap P (seen.here.variables k there))))
  where
    swap : (k at j : ℕ) → 4096 * k + at + j ≡ 4096 * k + (j + at)
    swap k at j = omega arith

-- what is next at a position is present at the one after it
pub seen_next : (cs : ColumnData) (j : ℕ) (r : Reading) (t : ℕ) → IsSeen cs 0 j r t → IsSeen cs 1 j r (suc t)
seen_next cs j r t seen = record { here = seen.next refl; next = λ no. absurd (omega (arith, no)) }

pub next_bits : (cs : ColumnData) (out : List ℕ) (bits : ℕ) (e : Formula) → IsPlaneOf cs bits 1 e out → IsPlaneOf cs bits 0 (NextOf e) out
next_bits cs out bits e plane = λ j below r t seen. plane j below r (suc t) (seen_next cs j r t seen)

module _ (cs : ColumnData) (bits at : ℕ) where
  pub negation_bits : (e : Formula) (a out : List ℕ) → IsPlaneOf cs bits at e a → bits ≤ 64 * length a → ((j : ℕ) → j < 64 * length a → bit_in out j ≡ not (bit_in a j)) → IsPlaneOf cs bits at (Negation e) out
  negation_bits e a out plane room is = λ j below r t seen. is j (omega (arith, below, room)) ∙ ap not (plane j below r t seen)

  pub implication_bits : (e f : Formula) (a b none out : List ℕ) → IsPlaneOf cs bits at e a → IsPlaneOf cs bits at f b → bits ≤ 64 * length a →
      ((j : ℕ) → j < 64 * length a → bit_in none j ≡ not (bit_in a j)) → ((j : ℕ) → bit_in out j ≡ (bit_in none j || bit_in b j)) → IsPlaneOf cs bits at (Implication e f) out
  implication_bits e f a b none out first second room turned is = λ j below r t seen.
      is j
      ∙ (ap (λ x. x || bit_in b j) (turned j (omega (arith, below, room)) ∙ ap not (first j below r t seen))
      ∙ ap (λ x. not (holds_at r e t) || x) (second j below r t seen))

  same_or : (x y : Bool) → ((x && y) || not (x || y)) ≡ beq x y
  same_or true true = refl
  same_or true false = refl
  same_or false true = refl
  same_or false false = refl

  pub equivalence_bits : (e f : Formula) (a b both some none out : List ℕ) → IsPlaneOf cs bits at e a → IsPlaneOf cs bits at f b → bits ≤ 64 * length some →
      ((j : ℕ) → bit_in both j ≡ (bit_in a j && bit_in b j)) → ((j : ℕ) → bit_in some j ≡ (bit_in a j || bit_in b j)) → ((j : ℕ) → j < 64 * length some → bit_in none j ≡ not (bit_in some j)) →
      ((j : ℕ) → bit_in out j ≡ (bit_in both j || bit_in none j)) → IsPlaneOf cs bits at (Equivalence e f) out
  equivalence_bits e f a b both some none out first second room are_both are_some are_none is = λ j below r t seen.
      is j
      ∙ (ap (λ x. x || bit_in none j) (are_both j)
      ∙ (ap (λ x. (bit_in a j && bit_in b j) || x) (are_none j (omega (arith, below, room)) ∙ ap not (are_some j))
      ∙ (same_or (bit_in a j) (bit_in b j)
      ∙ (ap (λ x. beq x (bit_in b j)) (first j below r t seen) ∙ ap (λ x. beq (holds_at r e t) x) (second j below r t seen)))))

pub and_three : (x y z : Bool) → ((x && y) && z) ≡ (x && (y && z))
and_three true y z = refl
and_three false y z = refl

pub or_three : (x y z : Bool) → ((x || y) || z) ≡ (x || (y || z))
or_three true y z = refl
or_three false y z = refl

-- ---- several formulas

module _ (r : Reading) where
  truths_at-drop : (es : List Expr) (k : ℕ) (e : Expr) → k < length es → e ≡ get_or es k e → truths_at r (formulas_in (drop k es)) ≡ (λ t. holds_at r (formula e) t) ∷ truths_at r (formulas_in (drop (suc k) es))
  truths_at-drop [] k e below is = absurd (omega arith)
  truths_at-drop (d ∷ es) zero e below is = ap (λ x. (λ t. holds_at r (formula x) t) ∷ truths_at r (formulas_in es)) (sym is)
  truths_at-drop (d ∷ es) (suc k) e below is = truths_at-drop es k e (omega arith) is

  pub all_from : (es : List Expr) (k j : ℕ) (e : Expr) (t : ℕ) → k < length es → suc k ≡ j → e ≡ get_or es k e →
      list_all (λ (a : ℕ → Bool). a t) (truths_at r (formulas_in (drop k es))) ≡ (holds_at r (formula e) t && list_all (λ (a : ℕ → Bool). a t) (truths_at r (formulas_in (drop j es))))
  all_from es k j e t below next is = rw (← next) (ap (list_all (λ (a : ℕ → Bool). a t)) (truths_at-drop es k e below is))

  pub some_from : (es : List Expr) (k j : ℕ) (e : Expr) (t : ℕ) → k < length es → suc k ≡ j → e ≡ get_or es k e →
      list_any (λ (a : ℕ → Bool). a t) (truths_at r (formulas_in (drop k es))) ≡ (holds_at r (formula e) t || list_any (λ (a : ℕ → Bool). a t) (truths_at r (formulas_in (drop j es))))
  some_from es k j e t below next is = rw (← next) (ap (list_any (λ (a : ℕ → Bool). a t)) (truths_at-drop es k e below is))

nodes_from : (es : List Expr) (k : ℕ) → nodes_in_each (formulas_in (drop (suc k) es)) ≤ nodes_in_each (formulas_in (drop k es))
nodes_from [] k = omega arith
nodes_from (d ∷ es) zero = omega arith
nodes_from (d ∷ es) (suc k) = nodes_from es k

pub lighter_from : (es : List Expr) (k j n : ℕ) → suc k ≡ j → nodes_in_each (formulas_in (drop k es)) ≤ n → nodes_in_each (formulas_in (drop j es)) ≤ n
lighter_from es k j n next before = rw (← next) (let less = nodes_from es k in omega (arith, less, before))

pub or_false : (b : Bool) → (b || false) ≡ b
or_false true = refl
or_false false = refl

pub and_true : (b : Bool) → (b && true) ≡ b
and_true true = refl
and_true false = refl

pub drop_past : (es : List Expr) (k : ℕ) → length es ≤ k → drop k es ≡ []
drop_past [] zero over = refl
drop_past [] (suc k) over = refl
drop_past (e ∷ es) zero over = absurd (omega arith)
drop_past (e ∷ es) (suc k) over = drop_past es k (omega arith)
