-- A letter, made from its last atom on.
use Rattle.std.proofs.Common.{◌≡◌, ℕ, zero, suc, ◌+◌, ◌*◌, ◌-◌, ◌^◌, ◌<◌, ◌≤◌, Bool, true, false, if◌then◌else◌, List, [], ◌∷◌, length, map, drop, get_or, sym, ◌∙◌, ap, subst, arith}
use Rattle.std.proofs.Math.Nat.{pow-suc}
use Rattle.std.proofs.Math.Pow.{pow_mono}
use Rattle.spec_model.specs.declared.expr.Expr.{Expr}
use Rattle.spec_model.specs.Syntax.{Formula}
use Rattle.spec_model.specs.Views.{formula}
use Rattle.spec_model.specs.Meaning.{Reading}
use Rattle.spec_model.specs.Games.{letter_of}
use Rattle.spec_model.specs.FormulaSizes.{nodes_in, nodes_in_each}
use Rattle.game_values.specs.Safety.{IsSafe, AreSafe, formulas_in}

pub safe_at : (r : Reading) (es : List Expr) (k : ℕ) (e : Expr) → k < length es → e ≡ get_or es k e → AreSafe r (formulas_in es) 0 → IsSafe r (formula e) 0
safe_at r [] k e h is all = absurd (omega arith)
safe_at r (d ∷ es) zero e h is all = subst (λ x. IsSafe r (formula x) 0) (sym is) all.0
safe_at r (d ∷ es) (suc k) e h is all = safe_at r es k e (omega arith) is all.1

pub lighter_at : (es : List Expr) (k : ℕ) (e : Expr) → k < length es → e ≡ get_or es k e → nodes_in (formula e) ≤ nodes_in_each (formulas_in es)
lighter_at [] k e h is = absurd (omega arith)
lighter_at (d ∷ es) zero e h is = subst (λ x. nodes_in (formula x) ≤ nodes_in (formula d) + nodes_in_each (formulas_in es)) (sym is) (omega arith)
lighter_at (d ∷ es) (suc k) e h is = let there = lighter_at es k e (omega arith) is in omega (arith, there)

letter_at : (f : Formula → Bool) (es : List Expr) (k : ℕ) (e : Expr) → k < length es → e ≡ get_or es k e →
    letter_of (map f (map formula (drop k es))) ≡ (if f (formula e) then 1 else 0) + 2 * letter_of (map f (map formula (drop (suc k) es)))
letter_at f [] k e h is = absurd (omega arith)
letter_at f (d ∷ es) zero e h is = ap (λ x. (if f (formula x) then 1 else 0) + 2 * letter_of (map f (map formula es))) (sym is)
letter_at f (d ∷ es) (suc k) e h is = letter_at f es k e (omega arith) is

pub letter_step : (f : Formula → Bool) (es : List Expr) (k j : ℕ) (e : Expr) → k < length es → suc k ≡ j → e ≡ get_or es k e →
    letter_of (map f (map formula (drop k es))) ≡ (if f (formula e) then 1 else 0) + 2 * letter_of (map f (map formula (drop j es)))
letter_step f es k j e h next is = rw (← next) (letter_at f es k e h is)

bit_small : (b : Bool) → (if b then 1 else 0) ≤ 1
bit_small true = omega arith
bit_small false = omega arith

pub power_step : (n k j : ℕ) → suc k ≡ j → j ≤ n → 2 ^ (n - k) ≡ 2 * 2 ^ (n - j)
power_step n k j next h = let e : n - k ≡ suc (n - j) = omega arith in rw e (pow-suc 2 (n - j) ∙ omega arith)

pub letter_fits : (n k j letter : ℕ) (b : Bool) → suc k ≡ j → j ≤ n → letter < 2 ^ (n - j) → 2 ^ n < 2 ^ 64 → ((if b then 1 else 0) + 2 * letter < 2 ^ (n - k)) × ((if b then 1 else 0) + 2 * letter < 2 ^ 64)
letter_fits n k j letter b next h small few =
    let double = power_step n k j next h in
    let bit = bit_small b in
    let under : 2 ^ (n - k) ≤ 2 ^ n = let less : n - k ≤ n = omega arith in pow_mono less in
    let below : (if b then 1 else 0) + 2 * letter < 2 ^ (n - k) = omega (arith, bit, double) in
    (below, omega (arith, below, under))
