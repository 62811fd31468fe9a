-- What the bound that an object shows tells of its order and its budget.
use Rattle.std.proofs.Common.{◌≡◌, ℕ, zero, suc, ◌+◌, ◌<◌, ◌≤◌, ◌==◌, ◌&&◌, Bool, true, false, cond, List, [], ◌∷◌, slice_index_or, refl, sym, ◌∙◌, ap, subst, arith}
use Rattle.std.proofs.lemmas.Bool.{and_parts, eqb-true, eq-eqb}
use Rattle.bdd_bits.specs.Contents.{Contents, IsDeclared}
use Rattle.bdd_bits.specs.Calls.{KeepsRoots}
use Rattle.region_bdd.specs.Bound.{counts_from, bound_of}

-- numbers in order stand each at its place
in_place : (n : ℕ) (ks : List ℕ) (j d : ℕ) → d ≡ n + j → counts_from n ks ≡ true → slice_index_or ks j d ≡ n + j
in_place n [] j d past counts = past
in_place n (k ∷ ks) zero d past counts = let first = eqb-true k n (and_parts (k == n) (counts_from (suc n) ks) counts).0 in omega (arith, first)
in_place n (k ∷ ks) (suc j) d past counts =
    let e : suc n + j ≡ n + suc j = omega arith in
    in_place (suc n) ks j d (past ∙ sym e) (and_parts (k == n) (counts_from (suc n) ks) counts).1 ∙ e

counted : (n : ℕ) (ks : List ℕ) → ((j : ℕ) → slice_index_or ks j (n + j) ≡ n + j) → counts_from n ks ≡ true
counted n [] at = refl
counted n (k ∷ ks) at =
    let first : k ≡ n = (let here = at 0 in omega (arith, here)) in
    ap (λ b. b && counts_from (suc n) ks) (eq-eqb k n first)
    ∙ counted (suc n) ks (λ j. let e : n + suc j ≡ suc n + j = omega arith in subst (λ (d : ℕ). slice_index_or ks j d ≡ d) e (at (suc j)))

is_told : (b : Bool) (n : ℕ) → 0 < cond b n 0 → b ≡ true
is_told true n some = refl
is_told false n some = absurd (omega (arith, some))

at_most : (b : Bool) (n : ℕ) → cond b n 0 ≤ n
at_most true n = omega arith
at_most false n = omega arith

-- the object shows its budget, and then each bit stands at the level of its number
pub bound_told : (c : Contents) → 0 < bound_of c → IsDeclared c × (bound_of c ≡ c.state.table.budget)
bound_told c some =
    let counts = is_told (counts_from 0 c.order.names) c.state.table.budget some in
    (λ level. (let here = in_place 0 c.order.names level level (omega arith) counts in omega (arith, here)), ap (λ b. cond b c.state.table.budget 0) counts)

pub bound_declared : (c : Contents) → IsDeclared c → bound_of c ≡ c.state.table.budget
bound_declared c declared =
    ap (λ b. cond b c.state.table.budget 0)
    (counted 0 c.order.names (λ j. let e : j ≡ 0 + j = omega arith in subst (λ (d : ℕ). slice_index_or c.order.names j d ≡ d) e (declared j)))

pub bound_most : (c : Contents) → bound_of c ≤ c.state.table.budget
bound_most c = at_most (counts_from 0 c.order.names) c.state.table.budget

-- what keeps the budget and the order keeps it
pub same_bound : (c c' : Contents) → KeepsRoots c c' → bound_of c' ≡ bound_of c
same_bound c c' keeps = λ i. cond (counts_from 0 (keeps.order i).names) (keeps.budget i) 0
