-- Places in lists of choices: what stands at the place of a choice is that choice, and choices differ.
use Rattle.std.proofs.Common.{◌≡◌, ℕ, zero, suc, ◌+◌, ◌*◌, ◌<◌, ◌≤◌, ℤ, pos, ◌+ℤ◌, ◌-ℤ◌, ◌<ℤ◌, Bool, true, false, not, ◌&&◌, ◌||◌, ◌==◌, nat_lt, if◌then◌else◌, List, [], ◌∷◌, ◌++◌, length, map, flat_map, Some, slice_get, refl, sym, ◌∙◌, ap, subst, arith}
use Rattle.std.specs.Prelude.{int_le, nat_abs}
use Rattle.std.specs.Ordering.{int_eq}
use Rattle.std.specs.List.{list_any, list_all}
use Rattle.std.proofs.lemmas.Bool.{and_parts, and_from, false≢true}
use Rattle.std.proofs.lemmas.Bool.Decides.{Decides-int_eq}
use Rattle.std.proofs.lemmas.Int.{ints}
use Rattle.std.proofs.Common.{length-append}
use Rattle.std.proofs.lemmas.List.{map-append}
use Rattle.std.proofs.lemmas.List.Folds.{flat_map-map}
use Rattle.spec_model.specs.declared.value.Value.{Value}
use Rattle.spec_model.specs.declared.value.Value.TheVariants as value
use Rattle.spec_model.specs.Values.{DomainData, TruthValues, WholeNumbers, Enumeration, same_value, values_of, rising_from, is_assignment, assignments_of}
use Rattle.spec_model.specs.Games.{HiddenData}
use Rattle.spec_model.specs.Steps.{below, hidden_values, are_hidden_values}
use Rattle.spec_model.specs.WellMade.{all_differ, is_domain}
use Rattle.spec_model.proofs.AllStates.{Every, same_value-true, at_assignment, at_hidden}
use Rattle.spec_model.proofs.Listed.{every_join, every_mapped, same_value-refl, each_among}
use Rattle.game_states.specs.Numbers.{same_values, choices, place_in, as_values}
use Rattle.game_values.proofs.Lists.{get-left, get-right}

-- ---- the same values

pub same_values-refl : (vs : List Value) → same_values vs vs ≡ true
same_values-refl [] = refl
same_values-refl (v ∷ vs) = and_from _ _ (same_value-refl v) (same_values-refl vs)

pub same_values-true : (vs ws : List Value) → same_values vs ws ≡ true → vs ≡ ws
same_values-true [] [] e = refl
same_values-true [] (w ∷ ws) e = absurd (false≢true e)
same_values-true (v ∷ vs) [] e = absurd (false≢true e)
same_values-true (v ∷ vs) (w ∷ ws) e = let parts = and_parts (same_value v w) (same_values vs ws) e in let one = same_value-true v w parts.0 in let more = same_values-true vs ws parts.1 in cc

-- ---- what stands at the place of a choice

pub at_place : (cs : List (List Value)) (c : List Value) → list_any (λ d. same_values d c) cs ≡ true → slice_get cs (place_in cs c) ≡ Some c
at_place [] c e = absurd (false≢true e)
at_place (d ∷ cs) c e = at (same_values d c) refl e (at_place cs c)
  where
    at : (b : Bool) → same_values d c ≡ b → (b || list_any (λ d. same_values d c) cs) ≡ true → (list_any (λ d. same_values d c) cs ≡ true → slice_get cs (place_in cs c) ≡ Some c) → slice_get (d ∷ cs) (if b then 0 else suc (place_in cs c)) ≡ Some c
    at true is e later = ap Some (same_values-true d c is)
    at false is e later = later e

pub place_below : (cs : List (List Value)) (c : List Value) → list_any (λ d. same_values d c) cs ≡ true → place_in cs c < length cs
place_below [] c e = absurd (false≢true e)
place_below (d ∷ cs) c e = at (same_values d c) e (place_below cs c)
  where
    at : (b : Bool) → (b || list_any (λ d. same_values d c) cs) ≡ true → (list_any (λ d. same_values d c) cs ≡ true → place_in cs c < length cs) → (if b then 0 else suc (place_in cs c)) < length (d ∷ cs)
    at true e later = omega arith
    at false e later = let more = later e in omega (arith, more)

-- each assignment is among those listed, and so are hidden values
pub assignment_among : (ds : List DomainData) (vs : List Value) → is_assignment ds vs ≡ true → list_any (λ d. same_values d vs) (assignments_of ds) ≡ true
assignment_among ds vs e = at_assignment ds (λ vs. list_any (λ d. same_values d vs) (assignments_of ds) ≡ true) (each_among (λ c d. same_values d c) same_values-refl (assignments_of ds)) vs e

any_mapped : {X Y : Type 0} (p : Y → Bool) (f : X → Y) (xs : List X) → list_any (λ x. p (f x)) xs ≡ true → list_any p (map f xs) ≡ true
any_mapped p f [] e = e
any_mapped p f (x ∷ xs) e = at (p (f x)) e (any_mapped p f xs)
  where
    at : (b : Bool) → (b || list_any (λ x. p (f x)) xs) ≡ true → (list_any (λ x. p (f x)) xs ≡ true → list_any p (map f xs) ≡ true) → (b || list_any p (map f xs)) ≡ true
    at true e more = refl
    at false e more = more e

pub hidden_among : (hs : List HiddenData) (vs : List ℕ) → are_hidden_values hs vs ≡ true → list_any (λ d. same_values d (as_values vs)) (map as_values (hidden_values hs)) ≡ true
hidden_among hs vs e =
    any_mapped (λ d. same_values d (as_values vs)) as_values (hidden_values hs)
    (at_hidden hs (λ vs. list_any (λ d. same_values (as_values d) (as_values vs)) (hidden_values hs) ≡ true) (each_among (λ c d. same_values (as_values d) (as_values c)) (λ vs. same_values-refl (as_values vs)) (hidden_values hs)) vs e)

-- ---- choices differ

or_false : (a b : Bool) → a ≡ false → b ≡ false → (a || b) ≡ false
or_false a b e f = ap (λ c. c || b) e ∙ f

not_true : (a : Bool) → not a ≡ true → a ≡ false
not_true true e = sym e
not_true false e = refl

any_append : {X : Type 0} (p : X → Bool) (xs ys : List X) → list_any p xs ≡ false → list_any p ys ≡ false → list_any p (xs ++ ys) ≡ false
any_append p [] ys e f = f
any_append p (x ∷ xs) ys e f = at (p x) e (λ e. any_append p xs ys e f)
  where
    at : (b : Bool) → (b || list_any p xs) ≡ false → (list_any p xs ≡ false → list_any p (xs ++ ys) ≡ false) → (b || list_any p (xs ++ ys)) ≡ false
    at true e more = e
    at false e more = more e

module _ {X : Type 0} (same : X → X → Bool) where
  differ_append : (xs ys : List X) → all_differ same xs ≡ true → all_differ same ys ≡ true → Every (λ x. list_any (same x) ys ≡ false) xs → all_differ same (xs ++ ys) ≡ true
  differ_append [] ys e f apart = f
  differ_append (x ∷ xs) ys e f apart =
      let parts = and_parts (not (list_any (same x) xs)) (all_differ same xs) e in
      and_from _ _ (ap not (any_append (same x) xs ys (not_true _ parts.0) apart.0)) (differ_append xs ys parts.1 f apart.1)

module _ (tails : List (List Value)) where
  -- behind another first value nothing is the same
  apart_mapped : (v w : Value) (c : List Value) → same_value v w ≡ false → (ts : List (List Value)) → list_any (same_values (v ∷ c)) (map (λ t. w ∷ t) ts) ≡ false
  apart_mapped v w c e [] = refl
  apart_mapped v w c e (t ∷ ts) = or_false _ _ (ap (λ b. b && same_values c t) e) (apart_mapped v w c e ts)

  apart_flat : (v : Value) (c : List Value) (vs : List Value) → list_any (same_value v) vs ≡ false → list_any (same_values (v ∷ c)) (flat_map (λ w. map (λ t. w ∷ t) tails) vs) ≡ false
  apart_flat v c [] e = refl
  apart_flat v c (w ∷ vs) e = at (same_value v w) refl e (apart_flat v c vs)
    where
      at : (b : Bool) → same_value v w ≡ b → (b || list_any (same_value v) vs) ≡ false → (list_any (same_value v) vs ≡ false → list_any (same_values (v ∷ c)) (flat_map (λ w. map (λ t. w ∷ t) tails) vs) ≡ false) →
          list_any (same_values (v ∷ c)) (map (λ t. w ∷ t) tails ++ flat_map (λ w. map (λ t. w ∷ t) tails) vs) ≡ false
      at true is e more = absurd (false≢true (sym e))
      at false is e more = any_append (same_values (v ∷ c)) (map (λ t. w ∷ t) tails) (flat_map (λ w. map (λ t. w ∷ t) tails) vs) (apart_mapped v w c is tails) (more e)

-- behind one first value the tails differ
any_behind : (v : Value) (c : List Value) (ts : List (List Value)) → list_any (same_values (v ∷ c)) (map (λ t. v ∷ t) ts) ≡ list_any (same_values c) ts
any_behind v c [] = refl
any_behind v c (t ∷ ts) = ap (λ b. (b && same_values c t) || list_any (same_values (v ∷ c)) (map (λ t. v ∷ t) ts)) (same_value-refl v) ∙ ap (λ b. same_values c t || b) (any_behind v c ts)

differ_behind : (v : Value) (ts : List (List Value)) → all_differ same_values ts ≡ true → all_differ same_values (map (λ t. v ∷ t) ts) ≡ true
differ_behind v [] e = refl
differ_behind v (t ∷ ts) e =
    let parts = and_parts (not (list_any (same_values t) ts)) (all_differ same_values ts) e in
    and_from _ _ (ap not (any_behind v t ts) ∙ parts.0) (differ_behind v ts parts.1)

pub differ_flat : (tails : List (List Value)) → all_differ same_values tails ≡ true → (vs : List Value) → all_differ same_value vs ≡ true → all_differ same_values (flat_map (λ v. map (λ t. v ∷ t) tails) vs) ≡ true
differ_flat tails t [] e = refl
differ_flat tails t (v ∷ vs) e =
    let parts = and_parts (not (list_any (same_value v) vs)) (all_differ same_value vs) e in
    differ_append same_values (map (λ t. v ∷ t) tails) (flat_map (λ v. map (λ t. v ∷ t) tails) vs) (differ_behind v tails t) (differ_flat tails t vs parts.1)
    (every_mapped _ (λ t. v ∷ t) tails (each (λ c. apart_flat tails v c vs (not_true _ parts.0)) tails))
  where
    each : {P : List Value → Type 0} → ((c : List Value) → P c) → (cs : List (List Value)) → Every P cs
    each all [] = tt
    each all (c ∷ cs) = (all c, each all cs)

-- ---- the values of a domain differ

int_eq-less : (a b : ℤ) → a <ℤ b → int_eq a b ≡ false
int_eq-less a b h = let d = Decides-int_eq a b in grind (arith, ints)

above : (w z : ℤ) → w <ℤ z → (n : ℕ) → list_any (same_value (value.Int w)) (rising_from z n) ≡ false
above w z h zero = refl
above w z h (suc n) = or_false _ _ (int_eq-less w z h) (above w (z +ℤ pos 1) (omega (arith, ints)) n)

rising_differ : (z : ℤ) (n : ℕ) → all_differ same_value (rising_from z n) ≡ true
rising_differ z zero = refl
rising_differ z (suc n) = and_from _ _ (ap not (above z (z +ℤ pos 1) (omega (arith, ints)) n)) (rising_differ (z +ℤ pos 1) n)

any_names : (n : ℕ) (ns : List ℕ) → list_any (same_value (value.Name n)) (map (λ n. value.Name n) ns) ≡ list_any (λ m. n == m) ns
any_names n [] = refl
any_names n (m ∷ ns) = ap (λ b. (n == m) || b) (any_names n ns)

names_differ : (ns : List ℕ) → all_differ (λ m n. m == n) ns ≡ true → all_differ same_value (map (λ n. value.Name n) ns) ≡ true
names_differ [] e = refl
names_differ (n ∷ ns) e =
    let parts = and_parts (not (list_any (λ m. n == m) ns)) (all_differ (λ m n. m == n) ns) e in
    and_from _ _ (ap not (any_names n ns) ∙ parts.0) (names_differ ns parts.1)

pub domain_differs : (d : DomainData) → is_domain d ≡ true → all_differ same_value (values_of d) ≡ true
domain_differs TruthValues e = refl
domain_differs (WholeNumbers lo hi) e = at (int_le lo hi)
  where
    at : (b : Bool) → all_differ same_value (if b then rising_from lo (nat_abs (hi -ℤ lo) + 1) else []) ≡ true
    at true = rising_differ lo (nat_abs (hi -ℤ lo) + 1)
    at false = refl
domain_differs (Enumeration ns) e = names_differ ns (and_parts (nat_lt 0 (length ns)) (all_differ (λ m n. m == n) ns) e).1

pub assignments_differ : (ds : List DomainData) → list_all is_domain ds ≡ true → all_differ same_values (assignments_of ds) ≡ true
assignments_differ [] e = refl
assignments_differ (d ∷ ds) e =
    let parts = and_parts (is_domain d) (list_all is_domain ds) e in
    differ_flat (assignments_of ds) (assignments_differ ds parts.1) (values_of d) (domain_differs d parts.0)

-- ---- the place of what stands at a place

elsewhere : (d c : List Value) (cs : List (List Value)) (i : ℕ) → list_any (same_values d) cs ≡ false → slice_get cs i ≡ Some c → same_values d c ≡ false
elsewhere d c [] i none h = cc (h)
elsewhere d c (x ∷ cs) zero none h = at (same_values d x) refl none
  where
    at : (b : Bool) → same_values d x ≡ b → (b || list_any (same_values d) cs) ≡ false → same_values d c ≡ false
    at true is none = absurd (false≢true (sym none))
    at false is none = let one : x ≡ c = cc (h) in subst (λ y. same_values d y ≡ false) one is
elsewhere d c (x ∷ cs) (suc i) none h = at (same_values d x) none (λ none. elsewhere d c cs i none h)
  where
    at : (b : Bool) → (b || list_any (same_values d) cs) ≡ false → (list_any (same_values d) cs ≡ false → same_values d c ≡ false) → same_values d c ≡ false
    at true none more = absurd (false≢true (sym none))
    at false none more = more none

pub place-at : (cs : List (List Value)) → all_differ same_values cs ≡ true → (i : ℕ) (c : List Value) → slice_get cs i ≡ Some c → place_in cs c ≡ i
place-at [] e i c h = cc (h)
place-at (d ∷ cs) e zero c h = let is : d ≡ c = cc (h) in ap (λ b. if b then 0 else suc (place_in cs c)) (subst (λ b. same_values d b ≡ true) is (same_values-refl d))
place-at (d ∷ cs) e (suc i) c h =
    let parts = and_parts (not (list_any (same_values d) cs)) (all_differ same_values cs) e in
    ap (λ b. if b then 0 else suc (place_in cs c)) (elsewhere d c cs i (not_true _ parts.0) h) ∙ ap suc (place-at cs parts.1 i c h)

-- ---- hidden values differ

any_below : (k n : ℕ) → n ≤ k → list_any (same_value (value.Int (pos k))) (map (λ v. value.Int (pos v)) (below n)) ≡ false
any_below k zero h = refl
any_below k (suc n) h = rw (map-append (λ v. value.Int (pos v)) (below n) (n ∷ [])) (any_append _ (map (λ v. value.Int (pos v)) (below n)) (value.Int (pos n) ∷ []) (any_below k n (omega arith)) (or_false _ false (int_eq-more n k h) refl))
  where
    int_eq-more : (n k : ℕ) → suc n ≤ k → int_eq (pos k) (pos n) ≡ false
    int_eq-more n k h = let d = Decides-int_eq (pos k) (pos n) in grind (arith, ints)

below_apart : (n k : ℕ) → n ≤ k → Every (λ v. list_any (same_value v) (value.Int (pos k) ∷ []) ≡ false) (map (λ v. value.Int (pos v)) (below n))
below_apart zero k h = tt
below_apart (suc n) k h =
    rw (map-append (λ v. value.Int (pos v)) (below n) (n ∷ [])) (every_join _ (map (λ v. value.Int (pos v)) (below n)) (value.Int (pos n) ∷ []) (below_apart n k (omega arith)) (or_false _ false (int_eq-less (pos n) (pos k) (omega (arith, ints))) refl, tt))

below_differ : (n : ℕ) → all_differ same_value (map (λ v. value.Int (pos v)) (below n)) ≡ true
below_differ zero = refl
below_differ (suc n) =
    rw (map-append (λ v. value.Int (pos v)) (below n) (n ∷ []))
    (differ_append same_value (map (λ v. value.Int (pos v)) (below n)) (value.Int (pos n) ∷ []) (below_differ n) refl (below_apart n n (omega arith)))

-- hidden values are choices of one value of each table
pub map-flat : {X Y Z : Type 0} (f : Y → Z) (k : X → List Y) (xs : List X) → map f (flat_map k xs) ≡ flat_map (λ x. map f (k x)) xs
map-flat f k [] = refl
map-flat f k (x ∷ xs) = map-append f (k x) (flat_map k xs) ∙ ap (λ r. map f (k x) ++ r) (map-flat f k xs)

pub hidden_are_choices : (hs : List HiddenData) → map as_values (hidden_values hs) ≡ choices (map (λ h. map (λ v. value.Int (pos v)) (below h.values)) hs)
hidden_are_choices [] = refl
hidden_are_choices (h ∷ hs) =
    map-flat as_values (λ v. map (λ vs. v ∷ vs) (hidden_values hs)) (below h.values)
    ∙ (flat_map-ext (below h.values)
    ∙ (sym (flat_map-map (λ w. map (λ c. w ∷ c) (map as_values (hidden_values hs))) (λ v. value.Int (pos v)) (below h.values))
    ∙ ap (λ tails. flat_map (λ w. map (λ c. w ∷ c) tails) (map (λ v. value.Int (pos v)) (below h.values))) (hidden_are_choices hs)))
  where
    heads : (v : ℕ) (ts : List (List ℕ)) → map as_values (map (λ vs. v ∷ vs) ts) ≡ map (λ c. value.Int (pos v) ∷ c) (map as_values ts)
    heads v [] = refl
    heads v (t ∷ ts) = ap (λ r. (value.Int (pos v) ∷ as_values t) ∷ r) (heads v ts)

    flat_map-ext : (ns : List ℕ) → flat_map (λ v. map as_values (map (λ vs. v ∷ vs) (hidden_values hs))) ns ≡ flat_map (λ v. map (λ c. value.Int (pos v) ∷ c) (map as_values (hidden_values hs))) ns
    flat_map-ext [] = refl
    flat_map-ext (n ∷ ns) = ap (λ r. r ++ flat_map (λ v. map as_values (map (λ vs. v ∷ vs) (hidden_values hs))) ns) (heads n (hidden_values hs)) ∙ ap (λ r. map (λ c. value.Int (pos n) ∷ c) (map as_values (hidden_values hs)) ++ r) (flat_map-ext ns)

pub hidden_differ : (hs : List HiddenData) → all_differ same_values (map as_values (hidden_values hs)) ≡ true
hidden_differ hs = rw (hidden_are_choices hs) (all hs)
  where
    all : (hs : List HiddenData) → all_differ same_values (choices (map (λ h. map (λ v. value.Int (pos v)) (below h.values)) hs)) ≡ true
    all [] = refl
    all (h ∷ hs) = differ_flat _ (all hs) (map (λ v. value.Int (pos v)) (below h.values)) (below_differ h.values)

pub assignments_are_choices : (ds : List DomainData) → assignments_of ds ≡ choices (map values_of ds)
assignments_are_choices [] = refl
assignments_are_choices (d ∷ ds) = ap (λ tails. flat_map (λ v. map (λ c. v ∷ c) tails) (values_of d)) (assignments_are_choices ds)

-- ---- lists of lists of one length

pub get-grid : {X A : Type 0} (f : X → List A) (n : ℕ) → ((x : X) → length (f x) ≡ n) → (xs : List X) (i j : ℕ) (x : X) (a : A) → slice_get xs i ≡ Some x → slice_get (f x) j ≡ Some a → slice_get (flat_map f xs) (i * n + j) ≡ Some a
get-grid f n long [] i j x a e h = cc (e)
get-grid f n long (y ∷ xs) zero j x a e h =
    let is : y ≡ x = cc (e) in
    let at : 0 * n + j ≡ j = omega arith in
    rw at (get-left (f y) (flat_map f xs) j a (subst (λ z. slice_get (f z) j ≡ Some a) (sym is) h))
get-grid f n long (y ∷ xs) (suc i) j x a e h =
    let at : suc i * n + j ≡ length (f y) + (i * n + j) = rw (long y) (omega arith) in
    get-right (f y) (flat_map f xs) (i * n + j) (suc i * n + j) at ∙ get-grid f n long xs i j x a e h

pub length-grid : {X A : Type 0} (f : X → List A) (n : ℕ) → ((x : X) → length (f x) ≡ n) → (xs : List X) → length (flat_map f xs) ≡ length xs * n
length-grid f n long [] = omega arith
length-grid f n long (x ∷ xs) = length-append (f x) (flat_map f xs) ∙ (ap (λ m. m + length (flat_map f xs)) (long x) ∙ (ap (λ m. n + m) (length-grid f n long xs) ∙ omega arith))

pub same_values-long : (vs ws : List Value) → (length vs ≡ length ws → ⊥) → same_values vs ws ≡ false
same_values-long [] [] other = absurd (other refl)
same_values-long [] (w ∷ ws) other = refl
same_values-long (v ∷ vs) [] other = refl
same_values-long (v ∷ vs) (w ∷ ws) other = if_false (same_value v w) (same_values-long vs ws (λ e. other (ap suc e)))
  where
    if_false : (b : Bool) {c : Bool} → c ≡ false → (b && c) ≡ false
    if_false true e = e
    if_false false e = refl

pub length-values : (ns : List ℕ) → length (as_values ns) ≡ length ns
length-values [] = refl
length-values (n ∷ ns) = ap suc (length-values ns)

pub numbers_are_choices : (hs : List HiddenData) → hidden_values hs ≡ choices (map (λ h. below h.values) hs)
numbers_are_choices [] = refl
numbers_are_choices (h ∷ hs) = ap (λ tails. flat_map (λ v. map (λ c. v ∷ c) tails) (below h.values)) (numbers_are_choices hs)
