-- What is used in so many steps, and what isn't used at all.
use Rattle.std.proofs.Common.{◌≡◌, ℕ, zero, suc, ◌+◌, ◌-◌, ◌<◌, ◌≤◌, Bool, true, false, ◌||◌, ◌==◌, List, [], ◌∷◌, ◌++◌, length, Option, Some, None, unwrap_or, get_or, slice_get, refl, sym, ap, subst, ◌∙◌, inl, inr, ◌⊎◌, arith}
use Rattle.std.specs.List.{list_any}
use Rattle.std.proofs.lemmas.Bool.{or_cases, false≢true}
use Rattle.std.proofs.lemmas.Bool.Decides.{Decides-eqb}
use Rattle.std.proofs.lemmas.Option.{slice_get_within}
use Rattle.spectra_uses.specs.Cycles.{reaches}
use Rattle.spectra_uses.specs.Searching.{next_of, IsKnown, AreKnown}
use Rattle.spectra_uses.specs.Walking.{Leads}

-- ---- tests of lists

or-true : (b : Bool) → (b || true) ≡ true
or-true true = refl
or-true false = refl

any-more : {X : Type 0} (p q : X → Bool) → ((x : X) → p x ≡ true → q x ≡ true) → (xs : List X) → list_any p xs ≡ true → list_any q xs ≡ true
any-more p q more [] holds = absurd (false≢true holds)
any-more p q more (x ∷ xs) holds = elim (or_cases (p x) (list_any p xs) holds) [
  | inl here ↦ ap (λ b. b || list_any q xs) (more x here)
  | inr later ↦ ap (λ b. q x || b) (any-more p q more xs later) ∙ or-true (q x)
]

pub any-at : {X : Type 0} (p : X → Bool) (xs : List X) (i : ℕ) (x : X) → slice_get xs i ≡ Some x → p x ≡ true → list_any p xs ≡ true
any-at p [] i x at holds = absurd (cc)
any-at p (y ∷ xs) zero x at holds = let same : y ≡ x = cc in ap (λ z. p z || list_any p xs) same ∙ ap (λ b. b || list_any p xs) holds
any-at p (y ∷ xs) (suc i) x at holds = ap (λ b. p y || b) (any-at p xs i x at holds) ∙ or-true (p y)

any-none : {X : Type 0} (p : X → Bool) (xs : List X) → ((i : ℕ) (x : X) → slice_get xs i ≡ Some x → p x ≡ false) → list_any p xs ≡ false
any-none p [] none = refl
any-none p (x ∷ xs) none = ap (λ b. b || list_any p xs) (none 0 x refl) ∙ any-none p xs (λ i. none (suc i))

any-found : {X : Type 0} (p : X → Bool) (xs : List X) → list_any p xs ≡ true → (i : ℕ) × (x : X) × (slice_get xs i ≡ Some x) × (p x ≡ true)
any-found p [] holds = absurd (false≢true holds)
any-found p (x ∷ xs) holds = elim (or_cases (p x) (list_any p xs) holds) [
  | inl here ↦ (0, x, refl, here)
  | inr later ↦ let rest = any-found p xs later in (suc rest.0, rest.1, rest.2, rest.3)
]

-- ---- places of lists

pub nowhere : (i w : ℕ) → slice_get {X = ℕ} [] i ≡ Some w → ⊥
nowhere i w at = cc

-- a number at a place of a list
pub at_place : (xs : List ℕ) (i : ℕ) → i < length xs → slice_get xs i ≡ Some (get_or xs i 0)
at_place [] i within = absurd (omega arith)
at_place (x ∷ xs) zero within = refl
at_place (x ∷ xs) (suc i) within = at_place xs i (omega arith)

pub push-before : {X : Type 0} (xs : List X) (x : X) (i : ℕ) (v : X) → slice_get xs i ≡ Some v → slice_get (xs ++ x ∷ []) i ≡ Some v
push-before [] x i v at = absurd (cc)
push-before (y ∷ xs) x zero v at = at
push-before (y ∷ xs) x (suc i) v at = push-before xs x i v at

pub push-last : {X : Type 0} (xs : List X) (x : X) → slice_get (xs ++ x ∷ []) (length xs) ≡ Some x
push-last [] x = refl
push-last (y ∷ xs) x = push-last xs x

pub push-cases : {X : Type 0} (xs : List X) (x : X) (i : ℕ) (v : X) → slice_get (xs ++ x ∷ []) i ≡ Some v → (slice_get xs i ≡ Some v) ⊎ ((i ≡ length xs) × (x ≡ v))
push-cases [] x zero v at = inr (refl, cc)
push-cases [] x (suc i) v at = absurd (cc)
push-cases (y ∷ xs) x zero v at = inl at
push-cases (y ∷ xs) x (suc i) v at = elim (push-cases xs x i v at) [ inl before ↦ inl before | inr last ↦ inr (ap suc last.0, last.1) ]

-- ---- what is used

-- the first definition on the way from one to another
pub record FirstUse (uses : List (List ℕ)) (steps from to : ℕ) : Type 0 where
  pub at : ℕ
  pub k : ℕ
  pub there : slice_get (next_of uses from) at ≡ Some k
  pub on : (k ≡ to) ⊎ (reaches uses steps k to ≡ true)

module _ (uses : List (List ℕ)) where
  pub first_use : (steps from to : ℕ) → reaches uses (suc steps) from to ≡ true → FirstUse uses steps from to
  first_use steps from to there =
      let found = any-found (λ k. k == to || reaches uses steps k to) (next_of uses from) there in
      record {
        at = found.0;
        k = found.1;
        there = found.2;
        on = elim (or_cases (found.1 == to) (reaches uses steps found.1 to) found.3) [ inl same ↦ inl ((Decides-eqb found.1 to).0 same) | inr later ↦ inr later ];
      }

  pub first_step : (from v : ℕ) (i : ℕ) → slice_get (next_of uses from) i ≡ Some v → reaches uses 1 from v ≡ true
  first_step from v i at = any-at _ (next_of uses from) i v at (ap (λ b. b || reaches uses 0 v v) ((Decides-eqb v v).1 refl))

  -- what one that is used reaches
  pub step_first : (steps from k to : ℕ) (i : ℕ) → slice_get (next_of uses from) i ≡ Some k → reaches uses steps k to ≡ true → reaches uses (suc steps) from to ≡ true
  step_first steps from k to i at there = any-at _ (next_of uses from) i k at (ap (λ b. k == to || b) there ∙ or-true (k == to))

  -- what one reaches uses this
  pub one_step : (steps from p v : ℕ) (i : ℕ) → reaches uses steps from p ≡ true → slice_get (next_of uses p) i ≡ Some v → reaches uses (suc steps) from v ≡ true
  one_step zero from p v i there at = absurd (false≢true there)
  one_step (suc steps) from p v i there at = any-more _ _ (by (λ j there. one_step steps j p v i there at)) (next_of uses from) there
    where
      by : ((j : ℕ) → reaches uses steps j p ≡ true → reaches uses (suc steps) j v ≡ true) → (j : ℕ) → (j == p || reaches uses steps j p) ≡ true → (j == v || reaches uses (suc steps) j v) ≡ true
      by rest j holds = elim (or_cases (j == p) (reaches uses steps j p) holds) [
        | inl same ↦ ap (λ b. j == v || b) (direct (subst (λ q. slice_get (next_of uses q) i ≡ Some v) (sym ((Decides-eqb j p).0 same)) at)) ∙ or-true (j == v)
        | inr there ↦ ap (λ b. j == v || b) (rest j there) ∙ or-true (j == v)
      ]
        where
          direct : slice_get (next_of uses j) i ≡ Some v → reaches uses (suc steps) j v ≡ true
          direct here = any-at _ (next_of uses j) i v here (ap (λ b. b || reaches uses steps v v) ((Decides-eqb v v).1 refl))

  more_steps : (steps from v : ℕ) → reaches uses steps from v ≡ true → reaches uses (suc steps) from v ≡ true
  more_steps zero from v there = absurd (false≢true there)
  more_steps (suc steps) from v there = any-more _ _ (by (λ j there. more_steps steps j v there)) (next_of uses from) there
    where
      by : ((j : ℕ) → reaches uses steps j v ≡ true → reaches uses (suc steps) j v ≡ true) → (j : ℕ) → (j == v || reaches uses steps j v) ≡ true → (j == v || reaches uses (suc steps) j v) ≡ true
      by rest j holds = elim (or_cases (j == v) (reaches uses steps j v) holds) [
        | inl same ↦ ap (λ b. b || reaches uses (suc steps) j v) same
        | inr there ↦ ap (λ b. j == v || b) (rest j there) ∙ or-true (j == v)
      ]

  -- what is used in some steps is used in more
  many_more : (more steps from v : ℕ) → reaches uses steps from v ≡ true → reaches uses (more + steps) from v ≡ true
  many_more zero steps from v there = let e : zero + steps ≡ steps = omega arith in subst (λ n. reaches uses n from v ≡ true) (sym e) there
  many_more (suc more) steps from v there =
      let e : suc more + steps ≡ suc (more + steps) = omega arith in
      subst (λ n. reaches uses n from v ≡ true) (sym e) (more_steps (more + steps) from v (many_more more steps from v there))

  pub in_more_steps : (steps most from v : ℕ) → steps ≤ most → reaches uses steps from v ≡ true → reaches uses most from v ≡ true
  in_more_steps steps most from v le there =
      let e : (most - steps) + steps ≡ most = omega arith in
      subst (λ n. reaches uses n from v ≡ true) e (many_more (most - steps) steps from v there)

  -- what isn't known is reached from nothing whose uses are known, where the uses of all that is known are
  pub never_reached : (marks : List Bool) (to : ℕ) → slice_get marks to ≡ Some false → ((v : ℕ) → IsKnown marks v → AreKnown marks (next_of uses v))
      → (steps v : ℕ) → AreKnown marks (next_of uses v) → reaches uses steps v to ≡ false
  never_reached marks to new closed zero v known = refl
  never_reached marks to new closed (suc steps) v known = any-none _ (next_of uses v) (by (λ j there. never_reached marks to new closed steps j there))
    where
      by : ((j : ℕ) → AreKnown marks (next_of uses j) → reaches uses steps j to ≡ false) → (i j : ℕ) → slice_get (next_of uses v) i ≡ Some j → (j == to || reaches uses steps j to) ≡ false
      by rest i j at =
          let there = known i j at in
          ap (λ b. b || reaches uses steps j to) (differ (j == to) (Decides-eqb j to).0 (λ same. there (ap (slice_get marks) same ∙ new)))
          ∙ rest j (closed j there)
        where
          differ : (b : Bool) → (b ≡ true → j ≡ to) → (j ≡ to → ⊥) → b ≡ false
          differ true says not_same = absurd (not_same (says refl))
          differ false says not_same = refl

  -- ---- in any number of steps

  pub leads_through : (steps a b c : ℕ) → reaches uses steps a b ≡ true → Leads uses b c → Leads uses a c
  leads_through zero a b c first next = absurd (false≢true first)
  leads_through (suc steps) a b c first next = by (first_use steps a b first) (λ k there. leads_through steps k b c there next)
    where
      by : FirstUse uses steps a b → ((k : ℕ) → reaches uses steps k b ≡ true → Leads uses k c) → Leads uses a c
      by link rest = on (elim link.on [ inl same ↦ subst (λ k. Leads uses k c) (sym same) next | inr there ↦ rest link.k there ])
        where
          on : Leads uses link.k c → Leads uses a c
          on last = (suc last.0, step_first last.0 a link.k c link.at link.there last.1)

  pub leads_both : (a b c : ℕ) → Leads uses a b → Leads uses b c → Leads uses a c
  leads_both a b c first next = leads_through first.0 a b c first.1 next

  pub leads_on : (a b c i : ℕ) → Leads uses a b → slice_get (next_of uses b) i ≡ Some c → Leads uses a c
  leads_on a b c i first at = (suc first.0, one_step first.0 a b c i first.1 at)

  -- one that uses another is a definition
  pub user_within : (from v i : ℕ) → slice_get (next_of uses from) i ≡ Some v → from < length uses
  user_within from v i at = by (slice_get uses from) refl
    where
      by : (o : Option (List ℕ)) → slice_get uses from ≡ o → from < length uses
      by (Some us) is = slice_get_within uses from us is
      by None is = absurd (nowhere i v (sym (ap (λ o. slice_get (unwrap_or o []) i) is) ∙ at))
