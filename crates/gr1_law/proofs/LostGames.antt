-- A game without goals: the environment's layers are the states that are lost within so many positions, and M is at most 2.
use Rattle.std.proofs.Common.{◌≡◌, ℕ, zero, suc, ◌+◌, ◌<◌, inl, inr, List, length, slice_index, sum, refl, sym, ◌∙◌, ap, subst, arith, IsTrue}
use Rattle.std.proofs.lemmas.Bool.{and_parts, or_cases, or_left, or_right, false≢true}
use Rattle.spec_model.specs.Games.{GameData, State}
use Rattle.spec_model.specs.Agreement.{HasNoGoals}
use Rattle.spec_model.specs.Sets.{StateSet, rest, pre_env, IsPartOf}
use Rattle.spec_model.specs.Counts.{IsLeast}
use Rattle.spec_model.proofs.SetLaws.{pre_env_grows}
use Rattle.spec_model.proofs.Duality.{parts_agree}
use Rattle.gr1_law.specs.SafeGames.{lost_within, IsShiftCount, IsDenialCount}
use Rattle.gr1_law.specs.Layers.{goal_sets, goal_set, assumption_set, union}
use Rattle.gr1_law.specs.EnvLayers.{delay, IsHold, EnvLayerSets, AreEnvLayers, IsLayerCount, AreDelayCounts, most, denial_count}
use Rattle.gr1_law.specs.EnvLaws.{LosingIsASpecialCase}
use Rattle.gr1_law.proofs.Chains.{in_later}
use Rattle.gr1_law.proofs.Delays.{in_delay, to_delay}
use Rattle.gr1_law.proofs.EnvLayering.{env_rises, env_layer_inside}
use Rattle.gr1_law.proofs.EnvCounts.{told_least, most-at_most, at_most-most}
use Rattle.gr1_law.proofs.SafeGames.{goal_count, asm_alone, holds_in_all, met_in_all}
use Rattle.gr1_law.proofs.Settling.{one_rank}
use Rattle.gr1_law.proofs.SidesDual.{of_rest, rest_state}

module _ (g : GameData) (none : HasNoGoals g) where
  never_denied : (s : State) → IsTrue (rest g (goal_set g 0) s) → ⊥
  never_denied s e = of_rest g (goal_set g 0) s e (holds_in_all g none s (rest_state g (goal_set g 0) s e))

  -- ---- each iterate but the first

  module _ (lower hold : StateSet) where
    of_delay : (r : ℕ) (s : State) → IsTrue (delay g lower hold 0 0 (suc r) s) → IsTrue (pre_env g lower s) × IsTrue (pre_env g hold s)
    of_delay r s e =
        let why = in_delay g lower hold 0 0 (delay g lower hold 0 0 r) s e in (
          elim (or_cases (rest g (goal_set g 0) s) (pre_env g lower s) why.denied) [ inl denied ↦ absurd (never_denied s denied) | inr forced ↦ forced ],
          why.stays,
        )

    in_each_delay : (r : ℕ) (s : State) → IsTrue (pre_env g lower s) → IsTrue (pre_env g hold s) → IsTrue (delay g lower hold 0 0 (suc r) s)
    in_each_delay r s forced stays =
        to_delay g lower hold 0 0 (delay g lower hold 0 0 r) s (record {
          denied = or_right (rest g (goal_set g 0) s) (pre_env g lower s) forced;
          stays = stays;
          met = or_left (assumption_set g 0 s) (pre_env g (delay g lower hold 0 0 r) s) (met_in_all g none s (and_parts _ _ forced).0);
        })

    in_first : (r : ℕ) → IsPartOf (delay g lower hold 0 0 r) (delay g lower hold 0 0 1)
    in_first zero s e = absurd (false≢true e)
    in_first (suc r) s e = let parts = of_delay r s e in in_each_delay 0 s parts.0 parts.1

    first_settled : delay g lower hold 0 0 1 ≡ delay g lower hold 0 0 2
    first_settled = parts_agree _ _ (λ s e. let parts = of_delay 0 s e in in_each_delay 1 s parts.0 parts.1) (in_first 2)

  hold_is : (lower hold : StateSet) → IsHold g lower 0 hold → IsPartOf lower (pre_env g lower) → hold ≡ pre_env g lower
  hold_is lower hold held part = parts_agree _ _ to from
    where
      to : IsPartOf hold (pre_env g lower)
      to s e =
          let rank = (held.solves s).0 e 0 (omega (arith, asm_alone g none)) in
          (of_delay lower hold 0 s (in_first lower hold rank.0 s rank.1)).0

      from : IsPartOf (pre_env g lower) hold
      from =
          held.above (pre_env g lower) (λ s e i below.
          let first : 0 ≡ i = omega (arith, below, asm_alone g none) in
          (1, subst (λ (i : ℕ). IsTrue (delay g lower (pre_env g lower) 0 i 1 s)) first (in_each_delay lower (pre_env g lower) 0 s e (pre_env_grows g lower (pre_env g lower) part s e))))

  module _ (e : EnvLayerSets) (of : AreEnvLayers g e) where
    layer_is_hold : (a : ℕ) → e.z (suc a) ≡ e.y (suc a) 0
    layer_is_hold a = of.joined a ∙ ap (union (e.y (suc a))) (goal_count g none)

    layer_from : (a : ℕ) → IsPartOf (e.z a) (pre_env g (e.z a)) → e.z (suc a) ≡ pre_env g (e.z a)
    layer_from a part = layer_is_hold a ∙ hold_is (e.z a) (e.y (suc a) 0) (of.held a 0) part

    forced_on : (a : ℕ) → IsPartOf (e.z a) (pre_env g (e.z a))
    forced_on zero s here = absurd (false≢true (subst (λ (t : StateSet). IsTrue (t s)) of.none_first here))
    forced_on (suc a) s here = pre_env_grows g (e.z a) (e.z (suc a)) (env_rises g e of a) s (subst (λ (t : StateSet). IsTrue (t s)) (layer_from a (forced_on a)) here)

    layer_is : (a : ℕ) → e.z (suc a) ≡ pre_env g (e.z a)
    layer_is a = layer_from a (forced_on a)

    lost : (a : ℕ) → e.z a ≡ lost_within g a
    lost zero = of.none_first
    lost (suc a) = layer_is a ∙ ap (pre_env g) (lost a)

    layer_below : (t : StateSet) → IsPartOf (pre_env g t) t → (a : ℕ) → IsPartOf (e.z a) t
    layer_below t part zero s here = absurd (false≢true (subst (λ (t : StateSet). IsTrue (t s)) of.none_first here))
    layer_below t part (suc a) s here = part s (pre_env_grows g (e.z a) t (layer_below t part a) s (subst (λ (t : StateSet). IsTrue (t s)) (layer_is a) here))

    module _ (n : ℕ) (count : IsLayerCount e n) where
      last_is_least : IsLeast (pre_env g) (e.z n)
      last_is_least = record { solves = count.here ∙ layer_is n; below = λ t part. layer_below t part n }

      shifts_counted : IsShiftCount g n
      shifts_counted = let least = told_least (lost_within g) e.z (λ a. sym (lost a)) n count in record { settled = least.here; least = least.none_before }

      -- ---- the greatest rank is 1

      some_delay : (a : ℕ) → a < n → delay g (e.z a) (e.y (suc a) 0) 0 0 0 ≡ delay g (e.z a) (e.y (suc a) 0) 0 0 1 → ⊥
      some_delay a below empty = count.none_before 0 (omega arith) (parts_agree _ _ (env_rises g e of 0) (λ s here. absurd (nothing s here)))
        where
          nothing : (s : State) → IsTrue (e.z 1 s) → ⊥
          nothing s here =
              let same : a + 1 ≡ suc a = omega arith in
              let later = subst (λ (k : ℕ). IsTrue (e.z k s)) same (in_later g e.z (env_rises g e of) (env_layer_inside g e of) a 1 s here) in
              let held = subst (λ (t : StateSet). IsTrue (t s)) (layer_is_hold a) later in
              let rank = ((of.held a 0).solves s).0 held 0 (omega (arith, asm_alone g none)) in
              false≢true (subst (λ (t : StateSet). IsTrue (t s)) (sym empty) (in_first (e.z a) (e.y (suc a) 0) rank.0 s rank.1))

      module _ (counts : ℕ → ℕ → List ℕ) (are : AreDelayCounts g e n counts) where
        rank_is : (a : ℕ) → a < n → slice_index (counts (suc a) 0) 0 ≡ 1
        rank_is a below =
            let least = told_least (delay g (e.z a) (e.y (suc a) 0) 0 0) (e.x (suc a) 0 0) (λ r. sym (of.delays a 0 0 r)) _ (are.each a 0 0 below (omega (arith, goal_count g none)) (omega (arith, asm_alone g none))) in
            let no_more : 1 < slice_index (counts (suc a) 0) 0 → ⊥ = λ less. least.none_before 1 less (first_settled (e.z a) (e.y (suc a) 0)) in
            let some : 0 ≡ slice_index (counts (suc a) 0) 0 → ⊥ = λ is. some_delay a below (subst (λ (k : ℕ). delay g (e.z a) (e.y (suc a) 0) 0 0 k ≡ delay g (e.z a) (e.y (suc a) 0) 0 0 (suc k)) (sym is) least.here) in
            grind (arith, no_more, some)

        sum_is : (a : ℕ) → a < n → most (λ j. sum (counts (suc a) j)) (length (goal_sets g)) ≡ 1
        sum_is a below =
            let alone : length (counts (suc a) 0) ≡ 1 = are.counted a 0 below (omega (arith, goal_count g none)) ∙ asm_alone g none in
            let total = one_rank (counts (suc a) 0) 1 alone (rank_is a below) in
            ap (most (λ j. sum (counts (suc a) j))) (goal_count g none) ∙ omega (arith, total)

        denials_counted : IsDenialCount n (denial_count g n counts)
        denials_counted = by_count n refl
          where
            by_count : (k : ℕ) → n ≡ k → IsDenialCount n (denial_count g n counts)
            by_count zero is = inl (is, ap (λ k. denial_count g k counts) is)
            by_count (suc k) is =
                let few = most-at_most (λ a. most (λ j. sum (counts (suc a) j)) (length (goal_sets g))) n 1 (λ a below. let e' = sum_is a below in omega arith) in
                let some = at_most-most (λ a. most (λ j. sum (counts (suc a) j)) (length (goal_sets g))) n 0 (omega (arith, is)) in
                let one = sum_is 0 (omega (arith, is)) in
                inr ((λ empty. omega (arith, is, empty)), omega (arith, few, some, one))

pub losing_case : (g : GameData) → HasNoGoals g → LosingIsASpecialCase g
losing_case g none e n counts of count are =
    record {
      layers = layer_is g none e of;
      last = last_is_least g none e of n count;
      shifts = shifts_counted g none e of n count;
      denials = denials_counted g none e of n count counts are;
    }
