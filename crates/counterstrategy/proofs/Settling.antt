-- The regions of layers and of holds, one of several, and what they tell of the next position.
use Rattle.std.proofs.Common.{◌≡◌, ℕ, zero, suc, ◌+◌, ◌<◌, ◌==◌, Bool, true, false, if◌then◌else◌, List, [], ◌∷◌, map, length, get_or, refl, sym, ap, ◌∙◌, arith}
use Rattle.std.proofs.lemmas.Bool.{eq-eqb}
use Rattle.spec_model.specs.Games.{GameData, State}
use Rattle.gr1_law.specs.Layers.{assumption_set, assumption_sets}
use Rattle.gr1_law.specs.Counter.{next_assumption}
use Rattle.gr1_env.specs.declared.layers.EnvGoal.{EnvGoal}
use Rattle.gr1_env.specs.declared.layers.EnvLayer.{EnvLayer}
use Rattle.strategy_parts.proofs.Owning.{length_map}
use Rattle.strategy_parts.proofs.Searching.{differs}
use Rattle.counterstrategy.specs.Settled.{tops, holds_in}

at_map : {X Y : Type 0} (f : X → Y) (xs : List X) (i : ℕ) → i < length xs → (x : X) → x ≡ get_or xs i x → f x ≡ get_or (map f xs) i (f x)
at_map f [] i below x is = absurd (omega arith)
at_map f (y ∷ xs) zero below x is = ap f is
at_map f (y ∷ xs) (suc i) below x is = at_map f xs i (omega arith) x is

module _ {G R M : Type 0} where
  pub tops_count : (ls : List (EnvLayer G R M)) (a : ℕ) → a < length ls → a < length (tops ls)
  tops_count ls a below = omega (arith, below, length_map {X = EnvLayer G R M} {Y = R} (λ (l : EnvLayer G R M). l.z) ls)

  pub holds_in_count : (goals : List (EnvGoal G R M)) (j : ℕ) → j < length goals → j < length (holds_in goals)
  holds_in_count goals j below = omega (arith, below, length_map {X = EnvGoal G R M} {Y = R} (λ (e : EnvGoal G R M). e.y) goals)

  pub tops_at : (ls : List (EnvLayer G R M)) (a : ℕ) → a < length ls → (l : EnvLayer G R M) → l ≡ get_or ls a l → l.z ≡ get_or (tops ls) a l.z
  tops_at ls a below l is = at_map (λ (l : EnvLayer G R M). l.z) ls a below l is

  pub holds_in_at : (goals : List (EnvGoal G R M)) (j : ℕ) → j < length goals → (e : EnvGoal G R M) → e ≡ get_or goals j e → e.y ≡ get_or (holds_in goals) j e.y
  holds_in_at goals j below e is = at_map (λ (e : EnvGoal G R M). e.y) goals j below e is

-- an element there is the same whichever is given for none
pub got_same : {X : Type 0} (xs : List X) (i : ℕ) (d : X) → i < length xs → get_or xs i d ≡ get_or xs i (get_or xs i d)
got_same [] i d below = absurd (omega arith)
got_same (x ∷ xs) zero d below = refl
got_same (x ∷ xs) (suc i) d below = got_same xs i d (omega arith)

-- ---- the assumption that is aimed at from a state on

module _ (g : GameData) (s : State) (before : ℕ) (met : Bool) (tells : met ≡ assumption_set g before s) where
  aims : (d : Bool) → met ≡ d → (if assumption_set g before s then next_assumption g before else before) ≡ (if d then next_assumption g before else before)
  aims d is = ap (λ d. if d then next_assumption g before else before) (sym tells ∙ is)

  pub aim_kept : met ≡ false → before ≡ (if assumption_set g before s then next_assumption g before else before)
  aim_kept unmet = sym (aims false unmet)

  pub aim_first : met ≡ true → (n : ℕ) → n ≡ length (assumption_sets g) → before + 1 ≡ n → 0 ≡ (if assumption_set g before s then next_assumption g before else before)
  aim_first here n counted last =
      let ends : (suc before == length (assumption_sets g)) ≡ true = eq-eqb (suc before) (length (assumption_sets g)) (omega arith) in
      ap (λ d. if d then 0 else suc before) (sym ends) ∙ sym (aims true here)

  pub aim_next : met ≡ true → (n : ℕ) → n ≡ length (assumption_sets g) → (before + 1 ≡ n → ⊥) → before + 1 ≡ (if assumption_set g before s then next_assumption g before else before)
  aim_next here n counted not_last =
      let goes_on : (suc before == length (assumption_sets g)) ≡ false = differs (suc before) (length (assumption_sets g)) (λ last. not_last (omega (arith, last))) in
      let next : before + 1 ≡ suc before = omega arith in
      next ∙ (ap (λ d. if d then 0 else suc before) (sym goes_on) ∙ sym (aims true here))
