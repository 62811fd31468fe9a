-- How many assignments a pattern's own variables have, and whether the lines tell each.
use Rattle.std.proofs.Common.{◌≡◌, ℕ, zero, suc, ◌+◌, ◌*◌, ◌<◌, ◌≤◌, Bool, true, false, not, ◌&&◌, ◌==◌, nat_lt, nat_le, List, [], ◌∷◌, length, map, flat_map, min, drop, get_or, refl, sym, ap, ◌∙◌, subst, arith, inl, inr, ◌⊎◌}
use Rattle.std.specs.List.{list_all, position_or_len}
use Rattle.std.proofs.lemmas.Bool.{and_parts, and_from, false≢true}
use Rattle.std.proofs.lemmas.Bool.Decides.{nat_tests}
use Rattle.std.proofs.Math.Nat.{mul-le-mul_right}
use Rattle.spec_model.specs.declared.value.Domain.{Domain}
use Rattle.spec_model.specs.Values.{Assignment, DomainData, TruthValues, WholeNumbers, Enumeration, is_assignment, assignments_of, values_of}
use Rattle.spec_model.specs.Syntax.{Formula, Variable, PatternData}
use Rattle.spec_model.specs.Games.{HiddenData}
use Rattle.spec_model.specs.Steps.{below}
use Rattle.spec_model.specs.Views.{domain_data}
use Rattle.spec_model.specs.Sizes.{domain_size, product}
use Rattle.spec_model.specs.WellMade.{is_domain}
use Rattle.spec_model.specs.WellTyped.{is_domain_of, is_determined}
use Rattle.spec_model.proofs.AllStates.{Every}
use Rattle.spec_model.proofs.Listed.{assignments_fit}
use Rattle.game_states.proofs.Counts.{length-assignments, domain_filled}
use Rattle.pattern_rows.specs.Patterns.{IsPattern, is_wide}
use Rattle.pattern_rows.specs.Rows.{letters, may_begin, may_follow, goal_holds, rows_of}
use Rattle.pattern_rows.specs.ToldRows.{is_told, are_told_after, next_after}
use Rattle.pattern_rows.proofs.Letters.{all_letters}

-- ---- domains

domain_made : (names : ℕ) (d : DomainData) → is_domain_of names d ≡ true → is_domain d ≡ true
domain_made names TruthValues is = is
domain_made names (WholeNumbers lo hi) is = is
domain_made names (Enumeration ks) is = (and_parts (is_domain (Enumeration ks)) (list_all (λ k. nat_lt k names) ks) is).0

each_made : (names : ℕ) (ds : List DomainData) → list_all (is_domain_of names) ds ≡ true → list_all is_domain ds ≡ true
each_made names [] is = refl
each_made names (d ∷ ds) is = let parts = and_parts (is_domain_of names d) (list_all (is_domain_of names) ds) is in and_from _ _ (domain_made names d parts.0) (each_made names ds parts.1)

pub domains_made : (p : PatternData) → IsPattern p → list_all is_domain p.domains ≡ true
domains_made p shaped = each_made shaped.names p.domains shaped.domains

-- ---- sizes

pub length-assignments_of : (ds : List DomainData) → length (assignments_of ds) ≡ product (map domain_size ds)
length-assignments_of [] = refl
length-assignments_of (d ∷ ds) = length-assignments d ds ∙ ap (λ n. domain_size d * n) (length-assignments_of ds)

positive_product : (a b : ℕ) → 1 ≤ a → 1 ≤ b → 1 ≤ a * b
positive_product a b h k = let m = mul-le-mul_right b h in omega (arith, m)

pub sizes_positive : (ds : List DomainData) → list_all is_domain ds ≡ true → 1 ≤ product (map domain_size ds)
sizes_positive [] is = omega arith
sizes_positive (d ∷ ds) is = let parts = and_parts (is_domain d) (list_all is_domain ds) is in positive_product _ _ (domain_filled d parts.0) (sizes_positive ds parts.1)

min_times : (a m : ℕ) → 1 ≤ m → min 65 (min 65 a * m) ≡ min 65 (a * m)
min_times a m h = by_cases less_or_not
  where
    less_or_not : (a ≤ 65) ⊎ (65 ≤ a)
    less_or_not = grind arith

    by_cases : (a ≤ 65) ⊎ (65 ≤ a) → min 65 (min 65 a * m) ≡ min 65 (a * m)
    by_cases (inl less) = let is : min 65 a ≡ a = omega arith in ap (λ b. min 65 (b * m)) is
    by_cases (inr more) =
        let is : min 65 a ≡ 65 = omega arith in
        let large = mul-le-mul_right m more in
        ap (λ b. min 65 (b * m)) is ∙ omega (arith, large)

pub count_more : (total n m : ℕ) → 1 ≤ m → min 65 (min 65 (total * n) * m) ≡ min 65 (total * (n * m))
count_more total n m h = let e : total * n * m ≡ total * (n * m) = grind arith in min_times (total * n) m h ∙ ap (min 65) e

-- the domains that are left
pub made_here : (ds : List Domain) (i : ℕ) (d : Domain) → i < length ds → d ≡ get_or ds i d → list_all is_domain (map domain_data (drop i ds)) ≡ true →
    (is_domain (domain_data d) ≡ true) × (list_all is_domain (map domain_data (drop (i + 1) ds)) ≡ true)
made_here [] i d below is made = absurd (omega arith)
made_here (e ∷ ds) zero d below is made =
    let parts = and_parts (is_domain (domain_data e)) (list_all is_domain (map domain_data ds)) made in
    (subst (λ d. is_domain (domain_data d) ≡ true) (sym is) parts.0, parts.1)
made_here (e ∷ ds) (suc i) d below is made = let next : suc i + 1 ≡ suc (i + 1) = omega arith in rw next (made_here ds i d (omega arith) is made)

pub product_here : (ds : List Domain) (i : ℕ) (d : Domain) → i < length ds → d ≡ get_or ds i d →
    product (map domain_size (map domain_data (drop i ds))) ≡ domain_size (domain_data d) * product (map domain_size (map domain_data (drop (i + 1) ds)))
product_here [] i d below is = absurd (omega arith)
product_here (e ∷ ds) zero d below is = ap (λ d. domain_size (domain_data d) * product (map domain_size (map domain_data ds))) (sym is)
product_here (e ∷ ds) (suc i) d below is = let next : suc i + 1 ≡ suc (i + 1) = omega arith in rw next (product_here ds i d (omega arith) is)

pub assignments_here : (ds : List Domain) (i j : ℕ) (d : Domain) → i < length ds → suc i ≡ j → d ≡ get_or ds i d →
    assignments_of (map domain_data (drop i ds)) ≡ flat_map (λ v. map (λ vs. v ∷ vs) (assignments_of (map domain_data (drop j ds)))) (values_of (domain_data d))
assignments_here [] i j d below next is = absurd (omega arith)
assignments_here (e ∷ ds) zero j d below next is = rw (← next) (ap (λ d. flat_map (λ v. map (λ vs. v ∷ vs) (assignments_of (map domain_data ds))) (values_of (domain_data d))) (sym is))
assignments_here (e ∷ ds) (suc i) j d below next is = rw (← next) (assignments_here ds i (suc i) d (omega arith) refl is)

-- the domain at a place
pub made_at : (ds : List Domain) (i : ℕ) (d : Domain) → i < length ds → d ≡ get_or ds i d → list_all is_domain (map domain_data ds) ≡ true → is_domain (domain_data d) ≡ true
made_at [] i d below is made = absurd (omega arith)
made_at (e ∷ ds) zero d below is made = subst (λ d. is_domain (domain_data d) ≡ true) (sym is) (and_parts (is_domain (domain_data e)) (list_all is_domain (map domain_data ds)) made).0
made_at (e ∷ ds) (suc i) d below is made = made_at ds i d (omega arith) is (and_parts (is_domain (domain_data e)) (list_all is_domain (map domain_data ds)) made).1

-- ---- whether a pattern is too wide

pub too_many : (p : PatternData) → 8 < p.params → is_wide p ≡ true
too_many p more = let no : nat_le p.params 8 ≡ false = grind (arith, nat_tests) in rw no refl

pub too_large : (p : PatternData) (count : ℕ) → p.params ≤ 8 → count ≡ min 65 (product (map domain_size p.domains)) → (count == 65) ≡ is_wide p
too_large p count few is = by_cases less_or_not
  where
    yes : nat_le p.params 8 ≡ true
    yes = grind (arith, nat_tests)

    less_or_not : (product (map domain_size p.domains) ≤ 64) ⊎ (65 ≤ product (map domain_size p.domains))
    less_or_not = grind arith

    by_cases : (product (map domain_size p.domains) ≤ 64) ⊎ (65 ≤ product (map domain_size p.domains)) → (count == 65) ≡ is_wide p
    by_cases (inl less) =
        let small : nat_le (product (map domain_size p.domains)) 64 ≡ true = grind (arith, nat_tests) in
        let other : (count == 65) ≡ false = grind (arith, nat_tests) in
        rw (yes, small, other) refl
    by_cases (inr more) =
        let large : nat_le (product (map domain_size p.domains)) 64 ≡ false = grind (arith, nat_tests) in
        let same : (count == 65) ≡ true = grind (arith, nat_tests) in
        rw (yes, large, same) refl

pub ruleset wide_parts = (domains_made, too_many, too_large)

pub few_owns : (p : PatternData) (owns : List Assignment) → is_wide p ≡ false → owns ≡ assignments_of p.domains → length owns ≤ 64
few_owns p owns narrow is =
    let parts = and_parts (nat_le p.params 8) (nat_le (product (map domain_size p.domains)) 64) (not_false _ narrow) in
    let size : length owns ≡ product (map domain_size p.domains) = ap length is ∙ length-assignments_of p.domains in
    let small : product (map domain_size p.domains) ≤ 64 = grind (arith, nat_tests, parts.1) in
    omega (arith, size, small)
  where
    not_false : (b : Bool) → not b ≡ false → b ≡ true
    not_false true is = refl
    not_false false is = absurd (false≢true (sym is))

-- ---- lists of assignments and letters

every_all : {X : Type 0} (p : X → Bool) (xs : List X) → Every (λ x. p x ≡ true) xs → list_all p xs ≡ true
every_all p [] all = refl
every_all p (x ∷ xs) all = and_from _ _ all.0 (every_all p xs all.1)

pub owns_fit : (ds : List DomainData) → list_all (is_assignment ds) (assignments_of ds) ≡ true
owns_fit ds = every_all (is_assignment ds) (assignments_of ds) (assignments_fit ds)

-- ---- whether the lines tell each

conjoined : (a b c d : Bool) → ((a && b) && (c && d)) ≡ ((a && c) && (b && d))
conjoined true true c d = refl
conjoined true false true d = refl
conjoined true false false d = refl
conjoined false b c d = refl

all_and : {X : Type 0} (f g : X → Bool) (xs : List X) → list_all (λ x. f x && g x) xs ≡ (list_all f xs && list_all g xs)
all_and f g [] = refl
all_and f g (x ∷ xs) = ap (λ b. (f x && g x) && b) (all_and f g xs) ∙ conjoined (f x) (g x) (list_all f xs) (list_all g xs)

all_true : {X : Type 0} (xs : List X) → list_all (λ (x : X). true) xs ≡ true
all_true [] = refl
all_true (x ∷ xs) = all_true xs

swapped : {X Y : Type 0} (q : X → Y → Bool) (xs : List X) (ys : List Y) → list_all (λ x. list_all (λ y. q x y) ys) xs ≡ list_all (λ y. list_all (λ x. q x y) xs) ys
swapped q [] ys = sym (all_true ys)
swapped q (x ∷ xs) ys = ap (λ b. list_all (λ y. q x y) ys && b) (swapped q xs ys) ∙ sym (all_and (λ y. q x y) (λ y. list_all (λ x. q x y) xs) ys)

pub determined_is : (p : PatternData) →
    is_determined p ≡ (is_told (may_begin p) (assignments_of p.domains) && list_all (are_told_after p (assignments_of p.domains) (letters p.params)) (assignments_of p.domains))
determined_is p =
    ap (λ b. is_told (may_begin p) (assignments_of p.domains) && b)
    (all_letters p.params (λ letter. list_all (λ own. is_told (may_follow p letter own) (assignments_of p.domains)) (assignments_of p.domains))
    ∙ swapped (λ letter own. is_told (may_follow p letter own) (assignments_of p.domains)) (letters p.params) (assignments_of p.domains))

pub open_at_first : (p : PatternData) (owns : List Assignment) → owns ≡ assignments_of p.domains → is_told (may_begin p) owns ≡ false → is_determined p ≡ false
open_at_first p owns are many = determined_is p ∙ ap (λ b. b && list_all (are_told_after p (assignments_of p.domains) (letters p.params)) (assignments_of p.domains)) (ap (λ xs. is_told (may_begin p) xs) (sym are) ∙ many)

and_false : (b : Bool) → (b && false) ≡ false
and_false true = refl
and_false false = refl

pub open_later : (p : PatternData) (owns ls : List Assignment) → owns ≡ assignments_of p.domains → ls ≡ letters p.params → list_all (are_told_after p owns ls) owns ≡ false → is_determined p ≡ false
open_later p owns ls are letters_are many =
    determined_is p
    ∙ (ap (λ b. is_told (may_begin p) (assignments_of p.domains) && b) ((λ i. list_all (are_told_after p (sym are i) (sym letters_are i)) (sym are i)) ∙ many) ∙ and_false _)

pub determined_by : (p : PatternData) (owns ls : List Assignment) → owns ≡ assignments_of p.domains → ls ≡ letters p.params → is_told (may_begin p) owns ≡ true → list_all (are_told_after p owns ls) owns ≡ true → is_determined p ≡ true
determined_by p owns ls are letters_are first later =
    determined_is p
    ∙ and_from _ _ (ap (λ xs. is_told (may_begin p) xs) (sym are) ∙ first) ((λ i. list_all (are_told_after p (sym are i) (sym letters_are i)) (sym are i)) ∙ later)

-- ---- the table, by its parts

pub rows_are : (p : PatternData) (owns ls : List Assignment) (values first : ℕ) (atoms : List Formula) (next : List ℕ) (tables : List (List Bool)) → owns ≡ assignments_of p.domains → ls ≡ letters p.params →
    values ≡ length owns → first ≡ position_or_len (may_begin p) owns → atoms ≡ map (λ k. Variable k) (below p.params) → next ≡ flat_map (next_after p owns ls) owns →
    tables ≡ map (λ goal. flat_map (λ own. map (λ letter. goal_holds goal letter own) ls) owns) p.goals →
    ◌≡◌ {A = HiddenData} (record { values = values; first = first; atoms = atoms; next = next; tables = tables }) (rows_of p)
rows_are p owns ls values first atoms next tables are letters_are count at_first parameters nexts truths =
    λ i. record {
      values = (count ∙ ap length are) i;
      first = (at_first ∙ ap (λ xs. position_or_len (may_begin p) xs) are) i;
      atoms = parameters i;
      next = (nexts ∙ (λ j. flat_map (next_after p (are j) (letters_are j)) (are j))) i;
      tables = (truths ∙ (λ j. map (λ goal. flat_map (λ own. map (λ letter. goal_holds goal letter own) (letters_are j)) (are j)) p.goals)) i;
    }
