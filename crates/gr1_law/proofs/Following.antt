-- What is remembered at the positions of an answered play follows the assumptions that are aimed at, with the states' ranks in the
-- holds; so the laws of such trails are those of answered plays.
use Rattle.std.proofs.Common.{◌≡◌, ℕ, zero, suc, ◌+◌, ◌<◌, ◌≤◌, ◌⊎◌, inl, inr, true, false, List, length, slice_index, sum, sym, ◌∙◌, ap, subst, arith, IsTrue}
use Rattle.std.proofs.lemmas.Bool.{and_parts}
use Rattle.spec_model.specs.Rules.{Run}
use Rattle.spec_model.specs.Unrealizable.{NoteData}
use Rattle.spec_model.specs.Games.{GameData, State}
use Rattle.spec_model.specs.GameRuns.{state_at}
use Rattle.spec_model.specs.Steps.{is_state}
use Rattle.gr1_law.specs.Layers.{IsLeastNumber, goal_sets, assumption_sets}
use Rattle.gr1_law.specs.EnvLayers.{delay, EnvLayerSets, AreEnvLayers, AreDelayCounts, most, denial_count}
use Rattle.gr1_law.specs.Counter.{CounterMemory}
use Rattle.gr1_law.specs.CounterLaws.{DenialsFall}
use Rattle.gr1_law.specs.Trails.{FollowedTrail}
use Rattle.gr1_law.proofs.Chains.{in_settled}
use Rattle.gr1_law.proofs.Delays.{delay_in_next, delay-inside, delay_stays}
use Rattle.gr1_law.proofs.EnvCounts.{at_most-most}
use Rattle.gr1_law.proofs.Potential.{ahead_at_most}
use Rattle.gr1_law.proofs.CounterSteps.{CounterStands, delays_at, iterate_some}
use Rattle.gr1_law.proofs.CounterTrails.{CounterTrail}
use Rattle.gr1_law.proofs.CounterRounds.{potential_falls}

module _ (g : GameData) (e : EnvLayerSets) (of : AreEnvLayers g e) (n : ℕ) where
  abbrev pub RankedBy : State → CounterMemory → ℕ → Type 0
  RankedBy s k rank = IsLeastNumber (λ r. IsTrue (e.x k.layer k.goal k.before r s)) rank

  -- ---- the rank at each position of a run

  module _ (h : Run) (notes : List NoteData) (k : CounterMemory) (trail : CounterTrail g e n h notes k) where
    in_or_past : (t : ℕ) → (t < length h) ⊎ (length h ≤ t)
    in_or_past t = grind arith

    rank_where : (t : ℕ) → (t < length h) ⊎ (length h ≤ t) → ℕ
    rank_where t (inl inner) = (trail.stands t inner).rank
    rank_where t (inr past) = 0

    pub rank_at : ℕ → ℕ
    rank_at t = rank_where t (in_or_past t)

    pub ranked_at : (t : ℕ) → t < length h → RankedBy (state_at g h t) (trail.memory t) (rank_at t)
    unfolding rank_at rank_where
    ranked_at t inner = by_cases (in_or_past t)
      where
        by_cases : (place : (t < length h) ⊎ (length h ≤ t)) → RankedBy (state_at g h t) (trail.memory t) (rank_where t place)
        by_cases (inl inner) = (trail.stands t inner).ranked
        by_cases (inr past) = absurd (omega arith)

  module _ (counts : ℕ → ℕ → List ℕ) (are : AreDelayCounts g e n counts) where
    -- ---- at a position

    module _ (s : State) (k : CounterMemory) (stands : CounterStands g e n s k) where
      low_in : stands.low < n
      low_in = omega (arith, stands.few, stands.layer)

      pub counted : length (counts k.layer k.goal) ≡ length (assumption_sets g)
      counted = subst (λ (a : ℕ). length (counts a k.goal) ≡ length (assumption_sets g)) (sym stands.layer) (are.counted stands.low k.goal low_in stands.goal_in)

      settled : e.x k.layer k.goal k.before (slice_index (counts k.layer k.goal) k.before) ≡ e.x k.layer k.goal k.before (suc (slice_index (counts k.layer k.goal) k.before))
      settled =
          subst (λ (a : ℕ). e.x a k.goal k.before (slice_index (counts a k.goal) k.before) ≡ e.x a k.goal k.before (suc (slice_index (counts a k.goal) k.before))) (sym stands.layer)
          (are.each stands.low k.goal k.before low_in stands.goal_in stands.before_in).here

      -- all counts together are fewer than M
      pub sum_few : sum (counts k.layer k.goal) < denial_count g n counts
      sum_few =
          let goals = at_most-most (λ j. sum (counts (suc stands.low) j)) (length (goal_sets g)) k.goal stands.goal_in in
          let layers = at_most-most (λ a. most (λ j. sum (counts (suc a) j)) (length (goal_sets g))) n stands.low low_in in
          let same : sum (counts k.layer k.goal) ≡ sum (counts (suc stands.low) k.goal) = ap (λ (a : ℕ). sum (counts a k.goal)) stands.layer in
          omega (arith, goals, layers, same)

      pub is_of_game : is_state g s ≡ true
      is_of_game = (and_parts _ _ (iterate_some g e of k.layer stands.low stands.layer k.goal k.before stands.rank s stands.ranked.here).2.stays).0

      module _ (rank : ℕ) (ranked : RankedBy s k rank) where
        pub rank_some : 1 ≤ rank
        rank_some = let some = iterate_some g e of k.layer stands.low stands.layer k.goal k.before rank s ranked.here in omega (arith, some.1)

        pub rank_at_most : rank ≤ slice_index (counts k.layer k.goal) k.before
        rank_at_most =
            let told = delays_at g e of k.layer stands.low stands.layer k.goal k.before in
            let last = slice_index (counts k.layer k.goal) k.before in
            let in_last =
            in_settled g (delay g (e.z stands.low) (e.y k.layer k.goal) k.goal k.before) (delay_in_next g (e.z stands.low) (e.y k.layer k.goal) k.goal k.before) (delay-inside g (e.z stands.low) (e.y k.layer k.goal) k.goal k.before) (delay_stays g (e.z stands.low) (e.y k.layer k.goal) k.goal k.before) last rank
            (sym (told last) ∙ (settled ∙ told (suc last))) s
            in
            let no_less : last < rank → ⊥ = λ less. ranked.none_before last less (subst (λ t. IsTrue (t s)) (sym (told last)) (in_last (subst (λ t. IsTrue (t s)) (told rank) ranked.here))) in
            grind (arith, no_less)

    -- ---- along a run

    module _ (h : Run) (notes : List NoteData) (k : CounterMemory) (trail : CounterTrail g e n h notes k) (noted : length notes ≡ length h) where
      abbrev memory : ℕ → CounterMemory
      memory = trail.memory

      stands : (t : ℕ) → t < length h → CounterStands g e n (state_at g h t) (trail.memory t)
      stands = trail.stands

      abbrev rank : ℕ → ℕ
      rank = rank_at h notes k trail

      pub some_at : (t : ℕ) → t < length h → 1 ≤ rank_at h notes k trail t
      some_at t inner = rank_some (state_at g h t) (trail.memory t) (stands t inner) (rank_at h notes k trail t) (ranked_at h notes k trail t inner)

      pub most_at : (t : ℕ) → t < length h → rank_at h notes k trail t ≤ slice_index (counts (trail.memory t).layer (trail.memory t).goal) (trail.memory t).before
      most_at t inner = rank_at_most (state_at g h t) (trail.memory t) (stands t inner) (rank_at h notes k trail t) (ranked_at h notes k trail t inner)

      pub followed : FollowedTrail g n (denial_count g n counts) counts h notes trail.memory (rank_at h notes k trail)
      followed =
          record {
            noted_all = noted;
            states = λ t inner. is_of_game (state_at g h t) (trail.memory t) (stands t inner);
            noted = trail.noted;
            denying = λ t inner. (stands t inner).denying;
            layer_some = λ t inner. omega (arith, (stands t inner).layer);
            goal_in = λ t inner. (stands t inner).goal_in;
            before_in = λ t inner. (stands t inner).before_in;
            counted = λ t inner denies. counted (state_at g h t) (trail.memory t) (stands t inner);
            sum_few = λ t inner denies. sum_few (state_at g h t) (trail.memory t) (stands t inner);
            rank_some = λ t inner denies. some_at t inner;
            rank_most = λ t inner denies. most_at t inner;
            start = λ some. (stands 0 some).few;
            shifts = λ t inner. (trail.follows t inner).shifts;
            same_layer = λ t inner. (trail.follows t inner).layer;
            same_goal = λ t inner. (trail.follows t inner).goal;
            aims = λ t inner denies. (trail.follows t inner).before denies ∙ (stands t (omega (arith, inner))).index;
            lower = λ t inner denies denies' fails. (trail.follows t inner).lower denies fails (rank_at h notes k trail t) (rank_at h notes k trail (suc t)) (ranked_at h notes k trail t (omega (arith, inner))) (ranked_at h notes k trail (suc t) inner);
          }

      pub denials_fall : (q : ℕ) → q < length (assumption_sets g) → DenialsFall g counts h trail.memory (rank_at h notes k trail) q
      denials_fall q q_in =
          record {
            at_least = λ t inner. omega (arith, some_at t inner);
            at_most = λ t inner.
                let counted = counted (state_at g h t) (trail.memory t) (stands t inner) in
                let all = ahead_at_most (counts (trail.memory t).layer (trail.memory t).goal) q (trail.memory t).before (omega (arith, q_in, counted)) (omega (arith, (stands t inner).before_in, counted)) in
                omega (arith, all, most_at t inner);
            lower = λ t inner denies fails. (
              (trail.follows t inner).layer denies,
              (trail.follows t inner).goal denies,
              potential_falls g n (denial_count g n counts) counts h notes trail.memory (rank_at h notes k trail) followed q q_in t inner denies (most_at (suc t) inner)
                  (λ missed. (trail.follows t inner).lower denies missed (rank_at h notes k trail t) (rank_at h notes k trail (suc t)) (ranked_at h notes k trail t (omega (arith, inner))) (ranked_at h notes k trail (suc t) inner))
                  fails,
            );
          }
