-- Over so many levels there are no more reduced diagrams than functions, so a table has no more nodes.
use Rattle.std.proofs.Common.{◌≡◌, ◌≢◌, ℕ, zero, suc, ◌+◌, ◌*◌, ◌^◌, ◌<◌, ◌≤◌, ◌==◌, ◌⊎◌, Bool, true, false, cond, List, [], ◌∷◌, ◌++◌, length, map, get_or, refl, sym, ◌∙◌, ap, subst, inl, inr, arith, zero-add}
use Rattle.std.specs.Prelude.{count_by}
use Rattle.std.proofs.Math.Nat.{pow-suc, mul-le-mul_right}
use Rattle.std.proofs.lemmas.Nat.{mul-add-lt, pow-add}
use Rattle.std.proofs.lemmas.List.Sums.{sum_by-cons}
use Rattle.std.proofs.lemmas.Bool.{cases_lt, eqb-true, eqb-false, false≢true}
use Rattle.std.specs.List.{Contains}
use Rattle.std.proofs.lemmas.List.Elements.{Contains-get_or, Contains-append_cases}
use Rattle.spec_model.specs.Diagrams.{Diagram, constant, branch, Function, IsLater, IsReduced, IsWithin, IsPartOf}
use Rattle.node_table.specs.Table.{Table, IsLive, diagram_at}
use Rattle.node_table.proofs.Meaning.{diagram_at-reduced, diagram_at-within, one_node}
use Rattle.bdd_store.specs.State.{IsFilled}
use Rattle.bit_compile.specs.Crowding.{IsUnfinishedOf}
use Rattle.bit_compile.specs.Filling.{AreDifferent, IsConstant, IsPartOfOne, IsNamedDiagram, FillTogether}
use Rattle.bit_compile.proofs.Filled.{all_at}

-- ---- numbers that are all different

-- a number other than v, where v is left out
abbrev without : ℕ → ℕ → ℕ
without zero zero = zero
without zero (suc x) = x
without (suc v) zero = zero
without (suc v) (suc x) = suc (without v x)

without-below : (v x m : ℕ) → v ≢ x → v ≤ m → x ≤ m → without v x < m
without-below zero zero m other v_in x_in = absurd (other refl)
without-below zero (suc x) m other v_in x_in = omega (arith, x_in)
without-below (suc v) zero m other v_in x_in = omega (arith, v_in)
without-below (suc v) (suc x) zero other v_in x_in = absurd (omega (arith, v_in))
without-below (suc v) (suc x) (suc m) other v_in x_in = let rest = without-below v x m (λ e. other (ap suc e)) (omega (arith, v_in)) (omega (arith, x_in)) in omega (arith, rest)

without-one : (v x y : ℕ) → v ≢ x → v ≢ y → without v x ≡ without v y → x ≡ y
without-one zero zero y not_x not_y e = absurd (not_x refl)
without-one zero (suc x) zero not_x not_y e = absurd (not_y refl)
without-one zero (suc x) (suc y) not_x not_y e = ap suc e
without-one (suc v) zero zero not_x not_y e = refl
without-one (suc v) zero (suc y) not_x not_y e = absurd (omega (arith, e))
without-one (suc v) (suc x) zero not_x not_y e = absurd (omega (arith, e))
without-one (suc v) (suc x) (suc y) not_x not_y e = ap suc (without-one v x y (λ e. not_x (ap suc e)) (λ e. not_y (ap suc e)) (omega (arith, e)))

-- numbers below m of what is listed, all different
pub few : (m : ℕ) (live : List Bool) (f : ℕ → ℕ) → ((n : ℕ) → get_or live n false ≡ true → f n < m) → ((n k : ℕ) → get_or live n false ≡ true → get_or live k false ≡ true → f n ≡ f k → n ≡ k) → count_by (λ b. b) live ≤ m
few m [] f below one = omega arith
few m (false ∷ live) f below one = few m live (λ n. f (suc n)) (λ n is. below (suc n) is) (λ n k is is' e. let same = one (suc n) (suc k) is is' e in omega (arith, same))
few zero (true ∷ live) f below one = absurd (omega (arith, below zero refl))
few (suc m) (true ∷ live) f below one =
    let other : (n : ℕ) → get_or live n false ≡ true → f zero ≢ f (suc n) = λ n is e. absurd (let same = one zero (suc n) refl is e in omega (arith, same)) in
    let rest = few m live (λ n. without (f zero) (f (suc n)))
    (λ n is. without-below (f zero) (f (suc n)) m (other n is) (let less = below zero refl in omega (arith, less)) (let less = below (suc n) is in omega (arith, less)))
    (λ n k is is' e. let same = one (suc n) (suc k) is is' (without-one (f zero) (f (suc n)) (f (suc k)) (other n is) (other k is') e) in omega (arith, same)) in
    let more = sum_by-cons (λ (b : Bool). cond b 1 0) true live in
    omega (arith, rest, more)

-- ---- a number for each diagram

-- how many functions there are of so many bits
abbrev functions : ℕ → ℕ
functions n = 2 ^ (2 ^ n)

abbrev low_at : ℕ → Diagram → Diagram
low_at level (constant b) = constant b
low_at level (branch own low high) = cond (own == level) low (branch own low high)

abbrev high_at : ℕ → Diagram → Diagram
high_at level (constant b) = constant b
high_at level (branch own low high) = cond (own == level) high (branch own low high)

-- by the values for all bits of so many levels from this one on
abbrev number : (many level : ℕ) → Diagram → ℕ
number zero level (constant b) = cond b 1 0
number zero level (branch own low high) = 0
number (suc many) level d = number many (suc level) (low_at level d) * functions many + number many (suc level) (high_at level d)

functions-suc : (n : ℕ) → functions (suc n) ≡ functions n * functions n
functions-suc n = ap (λ k. 2 ^ k) (let e = pow-suc 2 n in let twice : 2 ^ suc n ≡ 2 ^ n + 2 ^ n = omega (arith, e) in twice) ∙ pow-add 2 (2 ^ n) (2 ^ n)

number-below : (many level : ℕ) (d : Diagram) → number many level d < functions many
number-below zero level (constant true) = omega arith
number-below zero level (constant false) = omega arith
number-below zero level (branch own low high) = omega arith
number-below (suc many) level d = subst (λ m. number (suc many) level d < m) (sym (functions-suc many))
    (mul-add-lt (number many (suc level) (low_at level d)) (functions many) (number many (suc level) (high_at level d)) (functions many) (number-below many (suc level) (low_at level d)) (number-below many (suc level) (high_at level d)))

-- ---- one diagram for each number

row_less : (a c b d m : ℕ) → b < m → a < c → a * m + b ≡ c * m + d → ⊥
row_less a c b d m b_in less e = let more = mul-le-mul_right m (let h : suc a ≤ c = omega (arith, less) in h) in let one : suc a * m ≡ a * m + m = grind arith in omega (arith, more, one, e, b_in)

same_row : (a c b d m : ℕ) → b < m → d < m → a * m + b ≡ c * m + d → a ≡ c
same_row a c b d m b_in d_in e = elim (cases_lt a c) [
  | inl less ↦ absurd (row_less a c b d m b_in less e)
  | inr rest ↦ elim (cases_lt c a) [
    | inl more ↦ absurd (row_less c a d b m d_in more (sym e))
    | inr least ↦ omega (arith, rest, least)
  ]
]

same_place : (a c b d m : ℕ) → a ≡ c → a * m + b ≡ c * m + d → b ≡ d
same_place a c b d m same e = let rows = ap (λ k. k * m) same in omega (arith, rows, e)

-- the diagram is a constant, or its level is this one or later
abbrev IsFrom : ℕ → Diagram → Type 0
IsFrom level (constant b) = Unit {0}
IsFrom level (branch own low high) = level ≤ own

-- a reduced diagram of these levels
record Fits (many level : ℕ) (d : Diagram) : Type 0 where
  from : IsFrom level d
  reduced : IsReduced d
  within : IsWithin (level + many) d

after : (level own : ℕ) (d : Diagram) → level ≤ own → IsLater own d → IsFrom (suc level) d
after level own (constant b) from later = tt
after level own (branch next low high) from later = omega (arith, from, later)

-- at a level a diagram has two different parts, or is both of its parts itself
abbrev IsSplit : ℕ → Diagram → Type 0
IsSplit level d = ((low_at level d ≢ high_at level d) × (d ≡ branch level (low_at level d) (high_at level d))) ⊎ ((low_at level d ≡ d) × (high_at level d ≡ d))

split : (level : ℕ) (d : Diagram) → IsReduced d → IsSplit level d
split level (constant b) reduced = inr (refl, refl)
split level (branch own low high) reduced = at (own == level) refl
  where
    at : (b : Bool) → (own == level) ≡ b → ((cond b low (branch own low high) ≢ cond b high (branch own low high)) × (branch own low high ≡ branch level (cond b low (branch own low high)) (cond b high (branch own low high)))) ⊎ ((cond b low (branch own low high) ≡ branch own low high) × (cond b high (branch own low high) ≡ branch own low high))
    at true is = inl (reduced.0, ap (λ l. branch l low high) (eqb-true own level is))
    at false is = inr (refl, refl)

join : (level : ℕ) (d e : Diagram) → IsReduced d → IsReduced e → low_at level d ≡ low_at level e → high_at level d ≡ high_at level e → d ≡ e
join level d e d_reduced e_reduced lows highs = elim (split level d d_reduced) [
  | inl p ↦ elim (split level e e_reduced) [
    | inl q ↦ p.1 ∙ (ap (λ l. branch level l (high_at level d)) lows ∙ (ap (λ h. branch level (low_at level e) h) highs ∙ sym q.1))
    | inr q ↦ absurd (p.0 (lows ∙ (q.0 ∙ sym (highs ∙ q.1))))
  ]
  | inr p ↦ elim (split level e e_reduced) [
    | inl q ↦ absurd (q.0 (sym lows ∙ (p.0 ∙ (sym p.1 ∙ highs))))
    | inr q ↦ sym p.0 ∙ (lows ∙ q.0)
  ]
]

-- each part is a reduced diagram of the levels behind this one
parts_fit : (many level : ℕ) (d : Diagram) → Fits (suc many) level d → Fits many (suc level) (low_at level d) × Fits many (suc level) (high_at level d)
parts_fit many level (constant b) fits = (record { from = tt; reduced = tt; within = tt }, record { from = tt; reduced = tt; within = tt })
parts_fit many level (branch own low high) fits = at (own == level) refl
  where
    moved : (d : Diagram) → IsWithin (level + suc many) d → IsWithin (suc level + many) d
    moved d within = let e : level + suc many ≡ suc level + many = omega arith in subst (λ n. IsWithin n d) e within

    at : (b : Bool) → (own == level) ≡ b → Fits many (suc level) (cond b low (branch own low high)) × Fits many (suc level) (cond b high (branch own low high))
    at true is = (
      record { from = after level own low fits.from fits.reduced.1; reduced = fits.reduced.3; within = moved low fits.within.1 },
      record { from = after level own high fits.from fits.reduced.2; reduced = fits.reduced.4; within = moved high fits.within.2 },
    )
    at false is =
        let later : suc level ≤ own = (let other = eqb-false own level is in let here = fits.from in omega (arith, other, here)) in
        let whole : Fits many (suc level) (branch own low high) = record { from = later; reduced = fits.reduced; within = moved (branch own low high) fits.within } in
        (whole, whole)

same_diagram : (many level : ℕ) (d e : Diagram) → Fits many level d → Fits many level e → number many level d ≡ number many level e → d ≡ e
same_diagram zero level (constant true) (constant true) fits fits' same = refl
same_diagram zero level (constant true) (constant false) fits fits' same = absurd (omega (arith, same))
same_diagram zero level (constant false) (constant true) fits fits' same = absurd (omega (arith, same))
same_diagram zero level (constant false) (constant false) fits fits' same = refl
same_diagram zero level (constant b) (branch own low high) fits fits' same = absurd (let from = fits'.from in let within = fits'.within.0 in omega (arith, from, within))
same_diagram zero level (branch own low high) e fits fits' same = absurd (let from = fits.from in let within = fits.within.0 in omega (arith, from, within))
same_diagram (suc many) level d e fits fits' same =
    let mine = parts_fit many level d fits in
    let others = parts_fit many level e fits' in
    let low : number many (suc level) (low_at level d) ≡ number many (suc level) (low_at level e) = same_row _ _ _ _ (functions many) (number-below many (suc level) (high_at level d)) (number-below many (suc level) (high_at level e)) same in
    let high : number many (suc level) (high_at level d) ≡ number many (suc level) (high_at level e) = same_place _ _ _ _ (functions many) low same in
    join level d e fits.reduced fits'.reduced
    (same_diagram many (suc level) (low_at level d) (low_at level e) mine.0 others.0 low)
    (same_diagram many (suc level) (high_at level d) (high_at level e) mine.1 others.1 high)

from_start : (d : Diagram) → IsFrom 0 d
from_start (constant b) = tt
from_start (branch own low high) = omega arith

-- a table that holds its budget of nodes has a budget of no more than the functions of its levels' bits
pub few_nodes : (t : Table) → IsFilled t → t.budget ≤ 2 ^ (2 ^ t.levels)
few_nodes t filled =
    let fits : (n : ℕ) → IsLive t n → Fits t.levels 0 (diagram_at t n) = λ n live. record { from = from_start (diagram_at t n); reduced = diagram_at-reduced t filled.sound n live; within = subst (λ k. IsWithin k (diagram_at t n)) (sym (zero-add t.levels)) (diagram_at-within t filled.sound n live) } in
    let bound = few (functions t.levels) t.live (λ n. number t.levels 0 (diagram_at t n)) (λ n live. number-below t.levels 0 (diagram_at t n))
    (λ n k live live' e. one_node t filled.sound n k live live' (same_diagram t.levels 0 (diagram_at t n) (diagram_at t k) (fits n live) (fits k live') e)) in
    let count = filled.count in
    omega (arith, bound, count)

-- ---- listed diagrams

part_reduced : (d e : Diagram) → IsReduced e → IsPartOf d e → IsReduced d
part_reduced d (constant b) reduced part = subst IsReduced (sym part) tt
part_reduced d (branch level low high) reduced part = elim part [
  | inl same ↦ subst IsReduced (sym same) reduced
  | inr (inl in_low) ↦ part_reduced d low reduced.3 in_low
  | inr (inr in_high) ↦ part_reduced d high reduced.4 in_high
]

abbrev listed_at : List Diagram → ℕ → Diagram
listed_at ds n = get_or ds n (constant false)

different_at : (ds : List Diagram) → AreDifferent ds → (n k : ℕ) → n < length ds → k < length ds → listed_at ds n ≡ listed_at ds k → n ≡ k
different_at [] different n k there there' same = absurd (omega (arith, there))
different_at (d ∷ ds) different zero zero there there' same = refl
different_at (d ∷ ds) different zero (suc k) there there' same = absurd (different.0 (subst (λ (e : Diagram). Contains ds e) (sym same) (Contains-get_or ds k (constant false) (omega (arith, there')))))
different_at (d ∷ ds) different (suc n) zero there there' same = absurd (different.0 (subst (λ (e : Diagram). Contains ds e) same (Contains-get_or ds n (constant false) (omega (arith, there)))))
different_at (d ∷ ds) different (suc n) (suc k) there there' same = ap suc (different_at ds different.1 n k (omega (arith, there)) (omega (arith, there')) same)

abbrev marks : List Diagram → List Bool
marks ds = map (λ d. true) ds

marked : (ds : List Diagram) (n : ℕ) → get_or (marks ds) n false ≡ true → n < length ds
marked [] n is = absurd (false≢true is)
marked (d ∷ ds) zero is = omega arith
marked (d ∷ ds) (suc n) is = let rest = marked ds n is in omega (arith, rest)

marks_counted : (ds : List Diagram) → count_by (λ b. b) (marks ds) ≡ length ds
marks_counted [] = refl
marks_counted (d ∷ ds) = let rest = marks_counted ds in let sums = sum_by-cons (λ (b : Bool). cond b 1 0) true (marks ds) in omega (arith, rest, sums)

few_listed : (levels : ℕ) (ds : List Diagram) → AreDifferent ds → ((d : Diagram) → Contains ds d → IsReduced d) → ((d : Diagram) → Contains ds d → IsWithin levels d) → length ds ≤ 2 ^ (2 ^ levels)
few_listed levels ds different reduced within =
    let fits : (n : ℕ) → n < length ds → Fits levels 0 (listed_at ds n) = λ n there.
    record {
      from = from_start (listed_at ds n);
      reduced = reduced (listed_at ds n) (Contains-get_or ds n (constant false) there);
      within = subst (λ k. IsWithin k (listed_at ds n)) (sym (zero-add levels)) (within (listed_at ds n) (Contains-get_or ds n (constant false) there));
    } in
    let bound = few (functions levels) (marks ds) (λ n. number levels 0 (listed_at ds n)) (λ n is. number-below levels 0 (listed_at ds n))
    (λ n k is is' e. different_at ds different n k (marked ds n is) (marked ds k is') (same_diagram levels 0 (listed_at ds n) (listed_at ds k) (fits n (marked ds n is)) (fits k (marked ds k is')) e)) in
    let count = marks_counted ds in
    omega (arith, bound, count)

-- diagrams over so many levels that fill a budget leave it no greater than their functions are many
pub few_fill : (levels budget : ℕ) (N : Function → Type 0) (sets : List Diagram) → FillTogether levels budget N sets → budget ≤ 2 ^ (2 ^ levels)
few_fill levels budget N sets fill =
    let bound = few_listed levels fill.parts fill.different (λ d there. by_cases d ((fill.are_parts d).0 there)) fill.within in
    let counted = fill.counted in
    omega (arith, bound, counted)
  where
    whole_reduced : (whole : Diagram) → Contains (sets ++ fill.unfinished) whole → IsReduced whole
    whole_reduced whole there = elim (Contains-append_cases sets fill.unfinished whole there) [
      | inl in_sets ↦ (all_at (IsNamedDiagram N) sets whole fill.named in_sets).0
      | inr made ↦ (all_at (λ d. IsReduced d × IsUnfinishedOf fill.running d) fill.unfinished whole fill.results made).0
    ]

    by_cases : (d : Diagram) → IsConstant d ⊎ IsPartOfOne (sets ++ fill.unfinished) d → IsReduced d
    by_cases d (inl known) = subst IsReduced (sym known.1) tt
    by_cases d (inr part) = part_reduced d part.0 (whole_reduced part.0 part.1) part.2
