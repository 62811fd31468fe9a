-- The values at a state are in their domains, so what is well made is safe to compute there.
use Rattle.std.proofs.Common.{◌≡◌, ℕ, zero, suc, ◌+◌, ◌<◌, ◌≤◌, ℤ, pos, ◌+ℤ◌, ◌-ℤ◌, ◌≤ℤ◌, Bool, true, false, not, if◌then◌else◌, List, [], ◌∷◌, ◌++◌, length, map, filter, count_by, take, Option, Some, None, option_map, slice_get, get_or, refl, sym, ◌∙◌, ap, subst, arith, inl, inr, ◌⊎◌}
use Rattle.std.specs.Prelude.{int_le, nat_abs}
use Rattle.std.specs.List.{list_any, list_all}
use Rattle.std.proofs.lemmas.Bool.{and_parts, or_cases, false≢true}
use Rattle.std.proofs.lemmas.Int.{ints}
use Rattle.std.proofs.lemmas.List.Sums.{length-filter}
use Rattle.spec_model.specs.declared.value.Value.{Value}
use Rattle.spec_model.specs.declared.value.Value.TheVariants as value
use Rattle.spec_model.specs.declared.value.Owner.{Owner}
use Rattle.spec_model.specs.declared.value.Owner.TheVariants.{Env, Sys}
use Rattle.spec_model.specs.Values.{Assignment, DomainData, TruthValues, WholeNumbers, Enumeration, same_value, values_of, rising_from, is_assignment}
use Rattle.spec_model.specs.Syntax.{Formula, VariableData}
use Rattle.spec_model.specs.Rules.{Position}
use Rattle.spec_model.specs.Moves.{is_env, domains_of, value_among}
use Rattle.spec_model.specs.Typing.{Whole, Scope, kind_of_domain}
use Rattle.spec_model.proofs.AllStates.{Every, same_value-true}
use Rattle.std.proofs.lemmas.Bool.{and_from}
use Rattle.std.proofs.lemmas.List.{length-map}
use Rattle.std.proofs.lemmas.Option.{slice_get-map, slice_get_past}
use Rattle.spec_model.specs.Syntax.{formulas}
use Rattle.spec_model.specs.Meaning.{Reading}
use Rattle.spec_model.specs.Moves.{has_next}
use Rattle.spec_model.specs.Games.{present_reading}
use Rattle.spec_model.specs.Steps.{below}
use Rattle.spec_model.specs.WellMade.{is_step_formula, is_state_formula}
use Rattle.game_values.specs.Safety.{AreSafe}
use Rattle.game_values.specs.Moments.{MomentData, reading_of, values_at}
use Rattle.game_values.proofs.Spans.{IsWithin}
use Rattle.game_values.proofs.Safe.{IsTyped, step_safe}
use Rattle.game_values.proofs.Lists.{get-left, get-right}
use Rattle.game_values.proofs.Lists.{length-below}

-- ---- a value of a domain is within its interval

rising_within : (lo hi z : ℤ) (n : ℕ) → lo ≤ℤ z → (z +ℤ pos n) ≤ℤ (hi +ℤ pos 1) → Every (λ v. IsWithin (Some (Whole lo hi)) v) (rising_from z n)
rising_within lo hi z zero low high = tt
rising_within lo hi z (suc n) low high = ((low, omega (arith, ints)), rising_within lo hi (z +ℤ pos 1) n (omega (arith, ints)) (omega (arith, ints)))

each : {P : Value → Type 0} → ((v : Value) → P v) → (vs : List Value) → Every P vs
each all [] = tt
each all (v ∷ vs) = (all v, each all vs)

values_within : (d : DomainData) → Every (λ v. IsWithin (Some (kind_of_domain d)) v) (values_of d)
values_within TruthValues = (tt, (tt, tt))
values_within (WholeNumbers lo hi) = at (int_le lo hi) refl
  where
    spans : (lo hi : ℤ) → lo ≤ℤ hi → (lo +ℤ pos (nat_abs (hi -ℤ lo) + 1)) ≤ℤ (hi +ℤ pos 1)
    spans lo hi h = omega (arith, ints)

    at : (b : Bool) → int_le lo hi ≡ b → Every (λ v. IsWithin (Some (Whole lo hi)) v) (if b then rising_from lo (nat_abs (hi -ℤ lo) + 1) else [])
    at true e = let rising : lo ≤ℤ hi = grind (arith, ints) in rising_within lo hi lo (nat_abs (hi -ℤ lo) + 1) (omega (arith, ints)) (spans lo hi rising)
    at false e = tt
values_within (Enumeration ns) = each (λ v. tt) (map (λ n. value.Name n) ns)

at_value : (P : Value → Type 0) (vs : List Value) → Every P vs → (v : Value) → list_any (same_value v) vs ≡ true → P v
at_value P [] all v e = absurd (false≢true e)
at_value P (w ∷ vs) all v e = elim (or_cases _ _ e) [ inl here ↦ subst P (sym (same_value-true v w here)) all.0 | inr later ↦ at_value P vs all.1 v later ]

-- ---- the value of a variable among the moves

pub count-cons : {X : Type 0} (p : X → Bool) (x : X) (xs : List X) → count_by p (x ∷ xs) ≡ (if p x then suc (count_by p xs) else count_by p xs)
count-cons p x xs = sym (length-filter p (x ∷ xs)) ∙ at (p x)
  where
    at : (b : Bool) → length (if b then x ∷ filter p xs else filter p xs) ≡ (if b then suc (count_by p xs) else count_by p xs)
    at true = ap suc (length-filter p xs)
    at false = length-filter p xs

module _ (n : List ℕ) (d : DomainData) (vs : List VariableData) where
  abbrev env_first : List VariableData
  env_first = record { name = n; owner = Env; domain = d } ∷ vs

  abbrev sys_first : List VariableData
  sys_first = record { name = n; owner = Sys; domain = d } ∷ vs

  -- the variables after the first: a value of its owner is passed over
  after_env : (w : Value) (x y : Assignment) (k : ℕ) → value_among env_first (record { input = w ∷ x; output = y }) (suc k) ≡ value_among vs (record { input = x; output = y }) k
  after_env w x y k = at (slice_get vs k) refl
    where
      at : (t : Option VariableData) → slice_get vs k ≡ t → value_among env_first (record { input = w ∷ x; output = y }) (suc k) ≡ value_among vs (record { input = x; output = y }) k
      at None e = rw e refl
      at (Some u) e = owned u.owner refl
        where
          owned : (o : Owner) → u.owner ≡ o → value_among env_first (record { input = w ∷ x; output = y }) (suc k) ≡ value_among vs (record { input = x; output = y }) k
          owned Env f = rw (e, f, count-cons (λ v. is_env v.owner) (record { name = n; owner = Env; domain = d }) (take k vs)) refl
          owned Sys f = rw (e, f, count-cons (λ v. not (is_env v.owner)) (record { name = n; owner = Env; domain = d }) (take k vs)) refl

  after_sys : (w : Value) (x y : Assignment) (k : ℕ) → value_among sys_first (record { input = x; output = w ∷ y }) (suc k) ≡ value_among vs (record { input = x; output = y }) k
  after_sys w x y k = at (slice_get vs k) refl
    where
      at : (t : Option VariableData) → slice_get vs k ≡ t → value_among sys_first (record { input = x; output = w ∷ y }) (suc k) ≡ value_among vs (record { input = x; output = y }) k
      at None e = rw e refl
      at (Some u) e = owned u.owner refl
        where
          owned : (o : Owner) → u.owner ≡ o → value_among sys_first (record { input = x; output = w ∷ y }) (suc k) ≡ value_among vs (record { input = x; output = y }) k
          owned Env f = rw (e, f, count-cons (λ v. is_env v.owner) (record { name = n; owner = Sys; domain = d }) (take k vs)) refl
          owned Sys f = rw (e, f, count-cons (λ v. not (is_env v.owner)) (record { name = n; owner = Sys; domain = d }) (take k vs)) refl

-- each variable has a value of its domain
abbrev AreTyped : List VariableData → Type 0
AreTyped vs = (x y : Assignment) → is_assignment (domains_of is_env vs) x ≡ true → is_assignment (domains_of (λ o. not (is_env o)) vs) y ≡ true →
    (k : ℕ) → IsWithin (option_map kind_of_domain (slice_get (map (λ v. v.domain) vs) k)) (value_among vs (record { input = x; output = y }) k)

typed_more : (n : List ℕ) (o : Owner) (d : DomainData) (vs : List VariableData) → AreTyped vs → AreTyped (record { name = n; owner = o; domain = d } ∷ vs)
typed_more n Env d vs typed [] y ex ey k = absurd (false≢true ex)
typed_more n Env d vs typed (w ∷ x) y ex ey zero = at_value (λ v. IsWithin (Some (kind_of_domain d)) v) (values_of d) (values_within d) w (and_parts (list_any (same_value w) (values_of d)) (is_assignment (domains_of is_env vs) x) ex).0
typed_more n Env d vs typed (w ∷ x) y ex ey (suc k) =
    subst (λ v. IsWithin (option_map kind_of_domain (slice_get (map (λ v. v.domain) vs) k)) v) (sym (after_env n d vs w x y k))
    (typed x y (and_parts (list_any (same_value w) (values_of d)) (is_assignment (domains_of is_env vs) x) ex).1 ey k)
typed_more n Sys d vs typed x [] ex ey k = absurd (false≢true ey)
typed_more n Sys d vs typed x (w ∷ y) ex ey zero = at_value (λ v. IsWithin (Some (kind_of_domain d)) v) (values_of d) (values_within d) w (and_parts (list_any (same_value w) (values_of d)) (is_assignment (domains_of (λ o. not (is_env o)) vs) y) ey).0
typed_more n Sys d vs typed x (w ∷ y) ex ey (suc k) =
    subst (λ v. IsWithin (option_map kind_of_domain (slice_get (map (λ v. v.domain) vs) k)) v) (sym (after_sys n d vs w x y k))
    (typed x y ex (and_parts (list_any (same_value w) (values_of d)) (is_assignment (domains_of (λ o. not (is_env o)) vs) y) ey).1 k)

pub typed_among : (vs : List VariableData) → AreTyped vs
typed_among [] x y ex ey k = tt
typed_among (v ∷ vs) x y ex ey k = typed_more v.name v.owner v.domain vs (typed_among vs) x y ex ey k

-- ---- the values in a list

get-some : {X : Type 0} (xs : List X) (k : ℕ) (a d : X) → slice_get xs k ≡ Some a → get_or xs k d ≡ a
get-some [] k a d e = cc (e)
get-some (x ∷ xs) zero a d e = cc (e)
get-some (x ∷ xs) (suc k) a d e = get-some xs k a d e

get-past : {X : Type 0} (xs : List X) (k : ℕ) (d : X) → length xs ≤ k → get_or xs k d ≡ d
get-past [] k d h = refl
get-past (x ∷ xs) zero d h = absurd (omega arith)
get-past (x ∷ xs) (suc k) d h = get-past xs k d (omega arith)

pub get-below : (n k : ℕ) → k < n → slice_get (below n) k ≡ Some k
get-below zero k h = absurd (omega arith)
get-below (suc n) k h = by_cases less_or_last (get-below n k)
  where
    less_or_last : (k < n) ⊎ (k ≡ n)
    less_or_last = grind arith

    by_cases : (k < n) ⊎ (k ≡ n) → (k < n → slice_get (below n) k ≡ Some k) → slice_get (below n ++ n ∷ []) k ≡ Some k
    by_cases (inl less) earlier = get-left (below n) (n ∷ []) k k (earlier less)
    by_cases (inr last) earlier = get-right (below n) (n ∷ []) 0 k (omega (arith, length-below n)) ∙ ap Some (sym last)

pub get-map-below : {X : Type 0} (f : ℕ → X) (n k : ℕ) (d : X) → k < n → get_or (map f (below n)) k d ≡ f k
get-map-below f n k d h = get-some (map f (below n)) k (f k) d (slice_get-map f (below n) k ∙ ap (option_map f) (get-below n k h))

pub get-values : (vs : List VariableData) (p : Position) (k : ℕ) → get_or (values_at vs p) k (value.Bool false) ≡ value_among vs p k
get-values vs p k = by_cases below_or_past
  where
    below_or_past : (k < length vs) ⊎ (length vs ≤ k)
    below_or_past = grind arith

    by_cases : (k < length vs) ⊎ (length vs ≤ k) → get_or (values_at vs p) k (value.Bool false) ≡ value_among vs p k
    by_cases (inl less) = get-map-below (λ k. value_among vs p k) (length vs) k (value.Bool false) less
    by_cases (inr past) =
        get-past (values_at vs p) k (value.Bool false) (omega (arith, length-map (below (length vs)) (λ k. value_among vs p k), length-below (length vs), past))
        ∙ rw (slice_get_past vs k past) refl

-- ---- moments

-- a moment whose values are those at a position reads what is present there
pub same_reading : (vs : List VariableData) (p : Position) (m : MomentData) → m.values ≡ values_at vs p → reading_of m m ≡ present_reading vs p m.entries
same_reading vs p m e = λ i. record { variable = λ k t. variable k t i; entry = λ h n t. entry h n t i }
  where
    value_here : (k : ℕ) → get_or m.values k (value.Bool false) ≡ value_among vs p k
    value_here k = ap (λ values. get_or values k (value.Bool false)) e ∙ get-values vs p k

    variable : (k t : ℕ) → (reading_of m m).variable k t ≡ value_among vs p k
    variable k zero = value_here k
    variable k (suc t) = value_here k

    entry : (h n t : ℕ) → (reading_of m m).entry h n t ≡ get_or (get_or m.entries h []) n false
    entry h n zero = refl
    entry h n (suc t) = refl

-- the values at two positions are in their domains
pub typed_moments : (vs : List VariableData) (p q : Position) (m m' : MomentData) (ts : List ℕ) → m.values ≡ values_at vs p → m'.values ≡ values_at vs q →
    is_assignment (domains_of is_env vs) p.input ≡ true → is_assignment (domains_of (λ o. not (is_env o)) vs) p.output ≡ true →
    is_assignment (domains_of is_env vs) q.input ≡ true → is_assignment (domains_of (λ o. not (is_env o)) vs) q.output ≡ true →
    IsTyped (record { domains = map (λ v. v.domain) vs; tables = ts }) (reading_of m m')
typed_moments vs p q m m' ts e e' px py qx qy k zero = subst (λ v. IsWithin (option_map kind_of_domain (slice_get (map (λ v. v.domain) vs) k)) v) (sym (ap (λ values. get_or values k (value.Bool false)) e ∙ get-values vs p k)) (typed_among vs p.input p.output px py k)
typed_moments vs p q m m' ts e e' px py qx qy k (suc t) = subst (λ v. IsWithin (option_map kind_of_domain (slice_get (map (λ v. v.domain) vs) k)) v) (sym (ap (λ values. get_or values k (value.Bool false)) e' ∙ get-values vs q k)) (typed_among vs q.input q.output qx qy k)

-- ---- several formulas

pub steps_safe : (sc : Scope) (r : Reading) → IsTyped sc r → (es : List Formula) → list_all (is_step_formula sc) es ≡ true → AreSafe r (formulas es) 0
steps_safe sc r typed [] made = tt
steps_safe sc r typed (e ∷ es) made =
    let parts = and_parts (is_step_formula sc e) (list_all (is_step_formula sc) es) made in
    (step_safe sc r typed e parts.0, steps_safe sc r typed es parts.1)

pub all_weaker : {X : Type 0} (p q : X → Bool) → ((x : X) → p x ≡ true → q x ≡ true) → (xs : List X) → list_all p xs ≡ true → list_all q xs ≡ true
all_weaker p q weaker [] e = refl
all_weaker p q weaker (x ∷ xs) e = let parts = and_parts (p x) (list_all p xs) e in and_from _ _ (weaker x parts.0) (all_weaker p q weaker xs parts.1)

pub states_safe : (sc : Scope) (r : Reading) → IsTyped sc r → (es : List Formula) → list_all (is_state_formula sc) es ≡ true → AreSafe r (formulas es) 0
states_safe sc r typed es made = steps_safe sc r typed es (all_weaker (is_state_formula sc) (is_step_formula sc) (λ e h. (and_parts (is_step_formula sc e) (not (has_next e)) h).0) es made)
