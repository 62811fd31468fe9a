-- The first line of a list that passes a test.
use Rattle.std.proofs.Common.{◌≡◌, ℕ, ◌<◌, ◌≤◌, Bool, true, false, List, [], ◌∷◌, Some, option_map, find, cond, refl, ap, arith, inl, inr, ◌⊎◌, Contains, All}
use Rattle.std.proofs.lemmas.List.Elements.{Contains-append_cases, Contains-push_cases, All-contains}
use Rattle.spec_model.specs.Syntax.{Statement, Specification}
use Rattle.spec_model.specs.Laws.{NumbersRise, FirstIsLeast}

only : (k l : Statement) → Contains (k ∷ []) l → k ≡ l
only k l here = elim (Contains-push_cases [] k l here) [ inl none ↦ absurd (let below = none.1 in omega arith) | inr is ↦ is ]

first_or_later : (k l : Statement) (ks : List Statement) → Contains (k ∷ ks) l → (k ≡ l) ⊎ Contains ks l
first_or_later k l ks here = elim (Contains-append_cases (k ∷ []) ks l here) [ inl first ↦ inl (only k l first) | inr later ↦ inr later ]

module _ (test : Statement → Bool) (n : ℕ) (l : Statement) (passes : test l ≡ true) where
  -- by whether the first of the lines passes
  at_first : (k : Statement) (ks : List Statement) (b : Bool) → test k ≡ b → All (λ later. k.number < later.number) ks →
      (option_map (λ (s : Statement). s.number) (find test ks) ≡ Some n → Contains ks l → n ≤ l.number) →
      option_map (λ (s : Statement). s.number) (cond b (Some k) (find test ks)) ≡ Some n → (k ≡ l) ⊎ Contains ks l → n ≤ l.number
  at_first k ks true is above rest first (inl same) = let e : k.number ≡ n = cc in let e' = ap (λ (s : Statement). s.number) same in omega arith
  at_first k ks true is above rest first (inr later) = let e : k.number ≡ n = cc in let less = All-contains (λ (s : Statement). k.number < s.number) ks l above later in omega arith
  at_first k ks false is above rest first (inl same) = absurd (let e = ap test same in cc)
  at_first k ks false is above rest first (inr later) = rest first later

  least : (ks : List Statement) → NumbersRise ks → option_map (λ (s : Statement). s.number) (find test ks) ≡ Some n → Contains ks l → n ≤ l.number
  least [] rise first here = absurd (cc)
  least (k ∷ ks) rise first here = at_first k ks (test k) refl rise.0 (λ f h. least ks rise.1 f h) first (first_or_later k l ks here)

pub first_is_least : (s : Specification) → FirstIsLeast s
first_is_least s rise test n first l here passes = least test n l passes s.lines rise first here
