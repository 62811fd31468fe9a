-- The slots of variables: each variable has one, and no two have the same.
use Rattle.std.proofs.Common.{◌≡◌, ℕ, zero, suc, ◌+◌, ◌<◌, Bool, true, false, not, cond, List, [], ◌∷◌, ◌++◌, map, length, take, count_by, Some, unwrap_or, slice_get, refl, sym, ◌∙◌, ap, subst, arith, inl, inr}
use Rattle.std.specs.List.{range_with_len}
use Rattle.std.specs.List.Sorted.{IsPermutation}
use Rattle.std.proofs.lemmas.Bool.{cases_lt}
use Rattle.std.proofs.lemmas.List.{append_assoc, take_at, length_push}
use Rattle.std.proofs.lemmas.List.Sums.{sum_by-append, sum_by-cons}
use Rattle.std.proofs.lemmas.List.Sorted.{IsPermutation-refl, IsPermutation-trans, IsPermutation-cons, IsPermutation-middle}
use Rattle.spec_model.specs.declared.value.Owner.{Owner}
use Rattle.spec_model.specs.declared.value.Owner.TheVariants.{Env, Sys}
use Rattle.spec_model.specs.Syntax.{VariableData}
use Rattle.spec_model.specs.Moves.{is_env}
use Rattle.spec_model.specs.Games.{GameData}
use Rattle.bit_compile.specs.Compiled.{place_of}
use Rattle.bit_compile.proofs.Places.{at_owned}

-- ---- how many are whose

abbrev pub owned : (Owner → Bool) → List VariableData → ℕ
owned test vs = count_by (λ v. test v.owner) vs

abbrev pub is_sys : Owner → Bool
is_sys o = not (is_env o)

owned-cons : (test : Owner → Bool) (v : VariableData) (vs : List VariableData) → owned test (v ∷ vs) ≡ cond (test v.owner) 1 0 + owned test vs
owned-cons test v vs = sum_by-cons (λ (w : VariableData). cond (test w.owner) 1 0) v vs

owned-push : (test : Owner → Bool) (vs : List VariableData) (v : VariableData) → owned test (vs ++ v ∷ []) ≡ owned test vs + cond (test v.owner) 1 0
owned-push test vs v =
    let both = sum_by-append (λ (w : VariableData). cond (test w.owner) 1 0) vs (v ∷ []) in
    let one = owned-cons test v [] in
    omega (arith, both, one)

-- each variable is one side's
pub both_owned : (vs : List VariableData) → owned is_env vs + owned is_sys vs ≡ length vs
both_owned [] = refl
both_owned (v ∷ vs) = at (is_env v.owner) refl (both_owned vs)
  where
    at : (b : Bool) → is_env v.owner ≡ b → owned is_env vs + owned is_sys vs ≡ length vs → owned is_env (v ∷ vs) + owned is_sys (v ∷ vs) ≡ suc (length vs)
    at true is rest =
        let one = owned-cons is_env v vs ∙ ap (λ (c : Bool). cond c 1 0 + owned is_env vs) is in
        let other = owned-cons is_sys v vs ∙ ap (λ (c : Bool). cond (not c) 1 0 + owned is_sys vs) is in
        omega (arith, one, other, rest)
    at false is rest =
        let one = owned-cons is_env v vs ∙ ap (λ (c : Bool). cond c 1 0 + owned is_env vs) is in
        let other = owned-cons is_sys v vs ∙ ap (λ (c : Bool). cond (not c) 1 0 + owned is_sys vs) is in
        omega (arith, one, other, rest)

-- ---- where a variable stands

some_is : {X : Type 0} (x y : X) → Some x ≡ Some y → x ≡ y
some_is x y e = ap (λ o. unwrap_or o x) e

variable_there : (vs : List VariableData) (k : ℕ) → k < length vs → (v : VariableData) × (slice_get vs k ≡ Some v)
variable_there [] k below = absurd (omega (arith, below))
variable_there (v ∷ vs) zero below = (v, refl)
variable_there (v ∷ vs) (suc k) below = variable_there vs k (omega (arith, below))

-- one more stands before a later variable
more_before : (test : Owner → Bool) (vs : List VariableData) (j k : ℕ) (v : VariableData) → slice_get vs j ≡ Some v → test v.owner ≡ true → j < k → owned test (take j vs) < owned test (take k vs)
more_before test [] j k v e own less = cc (e)
more_before test (w ∷ vs) j zero v e own less = absurd (omega (arith, less))
more_before test (w ∷ vs) zero (suc k) v e own less =
    let is : w ≡ v = some_is w v e in
    let here = owned-cons test w (take k vs) ∙ ap (λ (b : Bool). cond b 1 0 + owned test (take k vs)) (ap (λ (u : VariableData). test u.owner) is ∙ own) in
    omega (arith, here)
more_before test (w ∷ vs) (suc j) (suc k) v e own less =
    let rest = more_before test vs j k v e own (omega (arith, less)) in
    let one = owned-cons test w (take j vs) in
    let other = owned-cons test w (take k vs) in
    omega (arith, rest, one, other)

module _ (g : GameData) where
  place-env : (k : ℕ) (v : VariableData) → slice_get g.variables k ≡ Some v → v.owner ≡ Env → place_of g k ≡ length g.hidden + owned is_env (take k g.variables)
  place-env k v e f = rw (e, f) refl

  place-sys : (k : ℕ) (v : VariableData) → slice_get g.variables k ≡ Some v → v.owner ≡ Sys → place_of g k ≡ length g.hidden + (owned is_env g.variables + owned is_sys (take k g.variables))
  place-sys k v e f = rw (e, f) refl

  -- ---- no two have the same slot

  apart : (j k : ℕ) → j < k → k < length g.variables → place_of g j ≡ place_of g k → ⊥
  apart j k less below same =
      let one = variable_there g.variables j (omega (arith, less, below)) in
      let other = variable_there g.variables k below in
      by_owners one.0 other.0 one.1 other.1 one.0.owner other.0.owner refl refl
    where
      by_owners : (v w : VariableData) → slice_get g.variables j ≡ Some v → slice_get g.variables k ≡ Some w → (o p : Owner) → v.owner ≡ o → w.owner ≡ p → ⊥
      by_owners v w e e' Env Env f f' =
          let a = place-env j v e f in
          let b = place-env k w e' f' in
          let fewer = more_before is_env g.variables j k v e (ap is_env f) less in
          omega (arith, a, b, fewer, same)
      by_owners v w e e' Env Sys f f' =
          let a = place-env j v e f in
          let b = place-sys k w e' f' in
          let fewer = (at_owned is_env g.variables j v e (ap is_env f)).0 in
          omega (arith, a, b, fewer, same)
      by_owners v w e e' Sys Env f f' =
          let a = place-sys j v e f in
          let b = place-env k w e' f' in
          let fewer = (at_owned is_env g.variables k w e' (ap is_env f')).0 in
          omega (arith, a, b, fewer, same)
      by_owners v w e e' Sys Sys f f' =
          let a = place-sys j v e f in
          let b = place-sys k w e' f' in
          let fewer = more_before is_sys g.variables j k v e (ap is_sys f) less in
          omega (arith, a, b, fewer, same)

  pub one_place : (j k : ℕ) → j < length g.variables → k < length g.variables → place_of g j ≡ place_of g k → j ≡ k
  one_place j k j_below k_below same = elim (cases_lt j k) [
    | inl less ↦ absurd (apart j k less k_below same)
    | inr rest ↦ elim (cases_lt k j) [
      | inl less ↦ absurd (apart k j less j_below (sym same))
      | inr more ↦ omega (arith, rest, more)
    ]
  ]

  -- ---- the slots behind the hidden tables'

  there_after : (before : List VariableData) (v : VariableData) (vs : List VariableData) (k : ℕ) → k ≡ length before → slice_get (before ++ v ∷ vs) k ≡ Some v
  there_after [] v vs zero is = refl
  there_after [] v vs (suc k) is = absurd (omega (arith, is))
  there_after (w ∷ before) v vs zero is = absurd (omega (arith, is))
  there_after (w ∷ before) v vs (suc k) is = there_after before v vs k (omega (arith, is))

  -- The slots of the variables from some one on are the rest of the inputs', m from a on, and the rest of the outputs', n from b on.
  abbrev ArePlacesFrom : List VariableData → List VariableData → Type 0
  ArePlacesFrom before vs =
      (a b m n k : ℕ) → a ≡ length g.hidden + owned is_env before → b ≡ length g.hidden + (owned is_env g.variables + owned is_sys before) →
      m ≡ owned is_env vs → n ≡ owned is_sys vs → k ≡ length before →
      IsPermutation (range_with_len a m ++ range_with_len b n) (map (place_of g) (range_with_len k (length vs)))

  none_left : (before : List VariableData) → ArePlacesFrom before []
  none_left before a b zero zero k a_is b_is m_is n_is k_is = IsPermutation-refl []
  none_left before a b zero (suc n) k a_is b_is m_is n_is k_is = absurd (omega (arith, n_is))
  none_left before a b (suc m) n k a_is b_is m_is n_is k_is = absurd (omega (arith, m_is))

  module _ (before : List VariableData) (v : VariableData) (vs : List VariableData) (are : g.variables ≡ before ++ v ∷ vs) (rest : ArePlacesFrom (before ++ v ∷ []) vs) where
    there : (k : ℕ) → k ≡ length before → slice_get g.variables k ≡ Some v
    there k is = ap (λ (ws : List VariableData). slice_get ws k) are ∙ there_after before v vs k is

    front : (k : ℕ) → k ≡ length before → take k g.variables ≡ before
    front k is = ap (take k) are ∙ take_at before (v ∷ vs) k (sym is)

    behind : (k : ℕ) → k ≡ length before → k + 1 ≡ length (before ++ v ∷ [])
    behind k is = let pushed = length_push before v in omega (arith, pushed, is)

    cons_by : (test : Owner → Bool) (b : Bool) → test v.owner ≡ b → owned test (v ∷ vs) ≡ cond b 1 0 + owned test vs
    cons_by test b is = owned-cons test v vs ∙ ap (λ (c : Bool). cond c 1 0 + owned test vs) is

    push_by : (test : Owner → Bool) (b : Bool) → test v.owner ≡ b → owned test (before ++ v ∷ []) ≡ owned test before + cond b 1 0
    push_by test b is = owned-push test before v ∙ ap (λ (c : Bool). owned test before + cond c 1 0) is

    input_next : v.owner ≡ Env → ArePlacesFrom before (v ∷ vs)
    input_next f a b zero n k a_is b_is m_is n_is k_is = absurd (let m_all = cons_by is_env true (ap is_env f) in omega (arith, m_is, m_all))
    input_next f a b (suc m) n k a_is b_is m_is n_is k_is =
        let is : place_of g k ≡ a = place-env k v (there k k_is) f ∙ (ap (λ (ws : List VariableData). length g.hidden + owned is_env ws) (front k k_is) ∙ sym a_is) in
        let m_all = cons_by is_env true (ap is_env f) in
        let n_all = cons_by is_sys false (ap is_sys f) in
        let inputs = push_by is_env true (ap is_env f) in
        let outputs = push_by is_sys false (ap is_sys f) in
        let slots : List ℕ = range_with_len (a + 1) m ++ range_with_len b n in
        let later : List ℕ = map (place_of g) (range_with_len (k + 1) (length vs)) in
        let all : IsPermutation slots later =
        rest (a + 1) b m n (k + 1) (omega (arith, inputs, a_is)) (omega (arith, outputs, b_is)) (omega (arith, m_is, m_all)) (omega (arith, n_is, n_all)) (behind k k_is) in
        subst (λ (x : ℕ). IsPermutation (a ∷ slots) (x ∷ later)) (sym is) (IsPermutation-cons a slots later all)

    output_next : v.owner ≡ Sys → ArePlacesFrom before (v ∷ vs)
    output_next f a b m zero k a_is b_is m_is n_is k_is = absurd (let n_all = cons_by is_sys true (ap is_sys f) in omega (arith, n_is, n_all))
    output_next f a b m (suc n) k a_is b_is m_is n_is k_is =
        let is : place_of g k ≡ b = place-sys k v (there k k_is) f ∙ (ap (λ (ws : List VariableData). length g.hidden + (owned is_env g.variables + owned is_sys ws)) (front k k_is) ∙ sym b_is) in
        let m_all = cons_by is_env false (ap is_env f) in
        let n_all = cons_by is_sys true (ap is_sys f) in
        let inputs = push_by is_env false (ap is_env f) in
        let outputs = push_by is_sys true (ap is_sys f) in
        let ins : List ℕ = range_with_len a m in
        let outs : List ℕ = range_with_len (b + 1) n in
        let later : List ℕ = map (place_of g) (range_with_len (k + 1) (length vs)) in
        let all : IsPermutation (ins ++ outs) later =
        rest a (b + 1) m n (k + 1) (omega (arith, inputs, a_is)) (omega (arith, outputs, b_is)) (omega (arith, m_is, m_all)) (omega (arith, n_is, n_all)) (behind k k_is) in
        subst (λ (x : ℕ). IsPermutation (ins ++ b ∷ outs) (x ∷ later)) (sym is)
        (IsPermutation-trans (ins ++ b ∷ outs) (b ∷ (ins ++ outs)) (b ∷ later) (IsPermutation-middle ins b outs) (IsPermutation-cons b (ins ++ outs) later all))

    one_more : ArePlacesFrom before (v ∷ vs)
    one_more = by_owner v.owner refl
      where
        by_owner : (o : Owner) → v.owner ≡ o → ArePlacesFrom before (v ∷ vs)
        by_owner Env f = input_next f
        by_owner Sys f = output_next f

  places_from : (before vs : List VariableData) → g.variables ≡ before ++ vs → ArePlacesFrom before vs
  places_from before [] are = none_left before
  places_from before (v ∷ vs) are = one_more before v vs are (places_from (before ++ v ∷ []) vs (are ∙ sym (append_assoc before (v ∷ []) vs)))

  pub places_shuffled : IsPermutation (range_with_len (length g.hidden) (owned is_env g.variables) ++ range_with_len (length g.hidden + owned is_env g.variables) (owned is_sys g.variables)) (map (place_of g) (range_with_len 0 (length g.variables)))
  places_shuffled = places_from [] g.variables refl (length g.hidden) (length g.hidden + owned is_env g.variables) (owned is_env g.variables) (owned is_sys g.variables) 0 (omega arith) (omega arith) refl refl refl
