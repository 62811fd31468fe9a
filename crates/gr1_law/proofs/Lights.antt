-- The layers of three small games, state by state.
use Rattle.std.proofs.Common.{◌⊎◌, inl, inr, ◌≡◌, ℕ, zero, suc, ◌<◌, Bool, true, false, not, ◌||◌, List, [], ◌∷◌, length, get_or, None, Some, refl, sym, ◌∙◌, subst, arith, IsTrue, All, codes}
use Rattle.std.proofs.lemmas.Bool.{and_parts, and_from, or_cases, false≢true}
use Rattle.std.proofs.lemmas.List.Elements.{All-nil, All-cons}
use Rattle.spec_model.specs.declared.value.Value.TheVariants as value
use Rattle.spec_model.specs.Rules.{after}
use Rattle.spec_model.specs.Syntax.{Variable, VariableData}
use Rattle.spec_model.specs.Names.{IsVariableName}
use Rattle.spec_model.specs.Meaning.{holds_at}
use Rattle.spec_model.specs.Realizable.{IsRealizable}
use Rattle.spec_model.specs.Games.{GameData, State}
use Rattle.spec_model.specs.GameRuns.{game_reading}
use Rattle.spec_model.specs.Sets.{StateSet, no_states, all_states, either, rest, IsPartOf, pre_sys, system_forces}
use Rattle.spec_model.proofs.Duality.{parts_agree}
use Rattle.spec_model.proofs.SpelledNames.{a_is_name, g_is_name}
use Rattle.gr1_law.specs.Layers.{LayerSets, AreLayers, IsWinning, AreGreatestRanks, HasRanks, IsLeastNumber, goal_set, assumption_set, assumption_sets, round_count}
use Rattle.spec_model.specs.GameRules.{rules_of_game}
use Rattle.gr1_law.specs.Worked.{a_and_g, light, permitted, dead_end, HasRounds}
use Rattle.gr1_law.proofs.Parts.{InPart, in_part, to_part}
use Rattle.gr1_law.proofs.Layering.{layers_of, layers_of-layers, y_in_next}
use Rattle.gr1_law.proofs.Winning.{in_a_part, part_in_layer, part_solves, layer_inside}
use Rattle.gr1_law.proofs.Solutions.{least-one, some_winning}
use Rattle.gr1_law.proofs.Settling.{some_ranks, one_rank}
use Rattle.gr1_law.proofs.Keeping.{realizable}
use Rattle.spec_model.specs.WellMade.{WellMade}
use Rattle.spec_model.specs.declared.value.Owner.TheVariants.{Env, Sys}
use Rattle.spec_model.specs.Values.{Assignment, TruthValues, truth_of}
use Rattle.spec_model.proofs.SetLaws.{system_forces_grows}

-- the states, by whether a and g hold
abbrev pub state : Bool → Bool → State
state a g = record { hidden = []; position = record { input = value.Bool a ∷ []; output = value.Bool g ∷ [] } }

-- both variables have names
pub spelled_both : All (λ (v : VariableData). IsVariableName v.name) a_and_g
spelled_both =
    All-cons (λ (v : VariableData). IsVariableName v.name) (record { name = codes "a"; owner = Env; domain = TruthValues }) (record { name = codes "g"; owner = Sys; domain = TruthValues } ∷ []) (inl a_is_name)
    (All-cons (λ (v : VariableData). IsVariableName v.name) (record { name = codes "g"; owner = Sys; domain = TruthValues }) [] (inl g_is_name) (All-nil (λ (v : VariableData). IsVariableName v.name)))

-- ---- of any game

module _ (g : GameData) (z : StateSet) (l : LayerSets) (of_z : AreLayers g z l) where
  -- what the equation gives is in the layer, where there is an assumption with the number
  to_layer : (r : ℕ) → 0 < length (assumption_sets g) → (s : State) → InPart g z (l.y 0 r) 0 0 (l.x 0 (suc r) 0) s → IsTrue (l.y 0 (suc r) s)
  to_layer r some s reason =
      part_in_layer g z l of_z 0 r 0 some s
      (subst (λ (t : StateSet). IsTrue (t s)) (sym (of_z.greatest 0 r 0).solves) (to_part g z (l.y 0 r) 0 0 (l.x 0 (suc r) 0) s reason))

  -- a layer that has all states equals the next
  full-settled : (r : ℕ) → IsPartOf (all_states g) (l.y 0 r) → l.y 0 r ≡ l.y 0 (suc r)
  full-settled r full = parts_agree _ _ (y_in_next g z l of_z 0 r) (λ s e. full s (layer_inside g z l of_z 0 (suc r) s e))

  none_first-differs : (s : State) → IsTrue (l.y 0 1 s) → l.y 0 0 ≡ l.y 0 1 → ⊥
  none_first-differs s here same = false≢true (subst (λ (t : StateSet). IsTrue (t s)) (of_z.none_first 0) (subst (λ (t : StateSet). IsTrue (t s)) (sym same) here))

  -- a state that the first layer has no reason for
  not_first : (s : State) → length (assumption_sets g) ≡ 1 → goal_set g 0 s ≡ false → pre_sys g no_states s ≡ false → rest g (assumption_set g 0) s ≡ false → IsTrue (l.y 0 1 s) → ⊥
  not_first s one unmet stuck held e =
      let part = in_a_part g z l of_z 0 0 s e in
      by_reason part.0 (omega (arith, part.1, one)) (in_part g z (l.y 0 0) 0 part.0 (l.x 0 1 part.0) s (part_solves g z l of_z 0 0 part.0 s part.2))
    where
      by_reason : (i : ℕ) → i < 1 → InPart g z (l.y 0 0) 0 i (l.x 0 1 i) s → ⊥
      by_reason i below (InPart.met holds forced) = false≢true (sym unmet ∙ holds)
      by_reason i below (InPart.lower forced) = false≢true (sym stuck ∙ subst (λ (t : StateSet). pre_sys g t s ≡ true) (of_z.none_first 0) forced)
      by_reason zero below (InPart.waiting fails forced) = false≢true (sym held ∙ fails)
      by_reason (suc i) below (InPart.waiting fails forced) = omega arith

  -- the first layer has a state, and misses one; the second has all
  two_ranks : (near far : State) → IsTrue (l.y 0 1 near) → (IsTrue (l.y 0 1 far) → ⊥) → IsTrue (all_states g far) → IsPartOf (all_states g) (l.y 0 2) → IsLeastNumber (λ r. l.y 0 r ≡ l.y 0 (suc r)) 2
  two_ranks near far has misses here full = record { here = full-settled 2 full; none_before = before }
    where
      before : (r : ℕ) → r < 2 → l.y 0 r ≡ l.y 0 (suc r) → ⊥
      before zero below = none_first-differs near has
      before (suc zero) below = λ same. misses (subst (λ (t : StateSet). IsTrue (t far)) (sym same) (full far here))
      before (suc (suc r)) below = λ same. omega arith

-- ---- the light

module _ (z : StateSet) (l : LayerSets) (of_z : AreLayers light z l) (start : system_forces light z None ≡ true) where
  lit : (a : Bool) → IsTrue (l.y 0 1 (state a true))
  lit true = to_layer light z l of_z 0 (omega arith) (state true true) (InPart.met refl start)
  lit false = to_layer light z l of_z 0 (omega arith) (state false true) (InPart.met refl start)

  second : (p q : Bool) → q ≡ true → (p || (q || false)) ≡ true
  second true q e = refl
  second false true e = refl
  second false false e = e

  forced : system_forces light (l.y 0 1) None ≡ true
  forced = and_from _ _ (second _ _ (lit false)) (and_from _ _ (second _ _ (lit true)) refl)

  all_in_second : IsPartOf (all_states light) (l.y 0 2)
  all_in_second s here = to_layer light z l of_z 1 (omega arith) s (InPart.lower (and_from _ _ here forced))

  light_ranks : IsLeastNumber (λ r. l.y 0 r ≡ l.y 0 (suc r)) 2
  light_ranks = two_ranks light z l of_z (state false true) (state false false) (lit false) (not_first light z l of_z (state false false) refl refl refl refl) refl all_in_second

light_all : (z : StateSet) (l : LayerSets) → IsWinning light z l → IsPartOf (all_states light) z
light_all z l w = w.above (all_states light) (layers_of light (all_states light)) told ranked
  where
    told : AreLayers light (all_states light) (layers_of light (all_states light))
    told = layers_of-layers light (all_states light)

    ranked : (s : State) → IsTrue (all_states light s) → HasRanks light (layers_of light (all_states light)) s
    ranked s here zero below = (2, all_in_second (all_states light) (layers_of light (all_states light)) (layers_of-layers light (all_states light)) refl s here)
    ranked s here (suc j) below = absurd (omega arith)

light_start : (z : StateSet) (l : LayerSets) → IsWinning light z l → system_forces light z None ≡ true
light_start z l w = system_forces_grows light (all_states light) z (light_all z l w) None refl

pub light_count : (z : StateSet) (l : LayerSets) (ranks : List ℕ) → IsWinning light z l → AreGreatestRanks light l ranks → round_count ranks ≡ 3
light_count z l ranks w greatest =
    one_rank ranks 2 greatest.counted (least-one (λ r. l.y 0 r ≡ l.y 0 (suc r)) _ 2 (greatest.each 0 (omega (arith, greatest.counted))) (light_ranks z l w.layers (light_start z l w)))

-- what is won is realizable with the number that K is
won : (g : GameData) (k : ℕ) → WellMade g → ((z : StateSet) (l : LayerSets) → IsWinning g z l → system_forces g z None ≡ true) →
    ((z : StateSet) (l : LayerSets) (ranks : List ℕ) → IsWinning g z l → AreGreatestRanks g l ranks → round_count ranks ≡ k) → HasRounds g k
won g k made start count =
    let z = some_winning g in
    let ranks = some_ranks g z.0 z.1 z.2.layers in
    record {
      count = count;
      realizable = subst (IsRealizable (rules_of_game g)) (count z.0 z.1 ranks.0 z.2 ranks.1) (realizable g made z.0 z.1 ranks.0 z.2 ranks.1 (start z.0 z.1 z.2));
    }

light_made : WellMade light
light_made =
    record {
      few_variables = omega arith;
      names = refl;
      spelled = spelled_both;
      domains = refl;
      hidden = refl;
      initial_asm = refl;
      initial_gar = refl;
      safe_asm = refl;
      safe_gar = refl;
      assume = refl;
      goals = refl;
    }

pub light_rounds : HasRounds light 3
light_rounds = won light 3 light_made light_start light_count

-- ---- the light that is permitted now and then

-- where the assumption doesn't hold, or the goal does
abbrev near : StateSet
near = either (rest permitted (assumption_set permitted 0)) (goal_set permitted 0)

module _ (z : StateSet) (l : LayerSets) (of_z : AreLayers permitted z l) (full : IsPartOf (all_states permitted) z) where
  near_in_part : IsPartOf near (l.x 0 1 0)
  near_in_part = (of_z.greatest 0 0 0).above near (λ s e. to_part permitted z (l.y 0 0) 0 0 near s (reason s (or_cases (rest permitted (assumption_set permitted 0) s) (goal_set permitted 0 s) e)))
    where
      reason : (s : State) → (rest permitted (assumption_set permitted 0) s ≡ true) ⊎ (goal_set permitted 0 s ≡ true) → InPart permitted z (l.y 0 0) 0 0 near s
      reason s (inl fails) = InPart.waiting fails (and_from _ _ (and_parts _ _ fails).0 refl)
      reason s (inr holds) = InPart.met holds (and_from _ _ (and_parts _ _ holds).0 (system_forces_grows permitted (all_states permitted) z full (Some s) refl))

  near_in_first : IsPartOf near (l.y 0 1)
  near_in_first s e = part_in_layer permitted z l of_z 0 0 0 (omega arith) s (near_in_part s e)

  permitted_second : IsPartOf (all_states permitted) (l.y 0 2)
  permitted_second s here = to_layer permitted z l of_z 1 (omega arith) s (InPart.lower (and_from _ _ here (system_forces_grows permitted near (l.y 0 1) near_in_first (Some s) refl)))

  permitted_ranks : IsLeastNumber (λ r. l.y 0 r ≡ l.y 0 (suc r)) 2
  permitted_ranks = two_ranks permitted z l of_z (state false false) (state true false) (near_in_first (state false false) refl) (not_first permitted z l of_z (state true false) refl refl refl refl) refl permitted_second

permitted_all : (z : StateSet) (l : LayerSets) → IsWinning permitted z l → IsPartOf (all_states permitted) z
permitted_all z l w = w.above (all_states permitted) (layers_of permitted (all_states permitted)) (layers_of-layers permitted (all_states permitted)) ranked
  where
    ranked : (s : State) → IsTrue (all_states permitted s) → HasRanks permitted (layers_of permitted (all_states permitted)) s
    ranked s here zero below = (2, permitted_second (all_states permitted) (layers_of permitted (all_states permitted)) (layers_of-layers permitted (all_states permitted)) (λ s e. e) s here)
    ranked s here (suc j) below = absurd (omega arith)

permitted_made : WellMade permitted
permitted_made =
    record {
      few_variables = omega arith;
      names = refl;
      spelled = spelled_both;
      domains = refl;
      hidden = refl;
      initial_asm = refl;
      initial_gar = refl;
      safe_asm = refl;
      safe_gar = refl;
      assume = refl;
      goals = refl;
    }

pub permitted_rounds : HasRounds permitted 3
permitted_rounds =
    won permitted 3 permitted_made (λ z l w. system_forces_grows permitted (all_states permitted) z (permitted_all z l w) None refl) (λ z l ranks w greatest.
    one_rank ranks 2 greatest.counted (least-one (λ r. l.y 0 r ≡ l.y 0 (suc r)) _ 2 (greatest.each 0 (omega (arith, greatest.counted))) (permitted_ranks z l w.layers (permitted_all z l w))))

-- ---- the dead end

module _ (z : StateSet) (l : LayerSets) (of_z : AreLayers dead_end z l) where
  all_in_first : IsPartOf (all_states dead_end) (l.y 0 1)
  all_in_first s here = to_layer dead_end z l of_z 0 (omega arith) s (InPart.lower (and_from _ _ here refl))

  only_rank : IsLeastNumber (λ r. l.y 0 r ≡ l.y 0 (suc r)) 1
  only_rank = record { here = full-settled dead_end z l of_z 1 all_in_first; none_before = before }
    where
      before : (r : ℕ) → r < 1 → l.y 0 r ≡ l.y 0 (suc r) → ⊥
      before zero below = none_first-differs dead_end z l of_z (state false false) (all_in_first (state false false) refl)
      before (suc r) below = λ same. omega arith

dead_end_all : (z : StateSet) (l : LayerSets) → IsWinning dead_end z l → IsPartOf (all_states dead_end) z
dead_end_all z l w = w.above (all_states dead_end) (layers_of dead_end (all_states dead_end)) (layers_of-layers dead_end (all_states dead_end)) ranked
  where
    ranked : (s : State) → IsTrue (all_states dead_end s) → HasRanks dead_end (layers_of dead_end (all_states dead_end)) s
    ranked s here zero below = (1, all_in_first (all_states dead_end) (layers_of dead_end (all_states dead_end)) (layers_of-layers dead_end (all_states dead_end)) s here)
    ranked s here (suc j) below = absurd (omega arith)

dead_end_made : WellMade dead_end
dead_end_made =
    record {
      few_variables = omega arith;
      names = refl;
      spelled = spelled_both;
      domains = refl;
      hidden = refl;
      initial_asm = refl;
      initial_gar = refl;
      safe_asm = refl;
      safe_gar = refl;
      assume = refl;
      goals = refl;
    }

pub dead_end_rounds : HasRounds dead_end 2
dead_end_rounds =
    won dead_end 2 dead_end_made (λ z l w. system_forces_grows dead_end (all_states dead_end) z (dead_end_all z l w) None refl) (λ z l ranks w greatest.
    one_rank ranks 1 greatest.counted (least-one (λ r. l.y 0 r ≡ l.y 0 (suc r)) _ 1 (greatest.each 0 (omega (arith, greatest.counted))) (only_rank z l w.layers)))

-- At the only position the goal doesn't hold, since the output is legal there.
only_unmet : (y : Assignment) (t : ℕ) → t < 1 → (rules_of_game dead_end).legal_output [] (value.Bool true ∷ []) y ≡ true → holds_at (game_reading dead_end (after [] (value.Bool true ∷ []) y)) (Variable 1) t ≡ true → ⊥
only_unmet y zero below legal holds = both (truth_of (get_or y 0 (value.Bool false))) (and_parts (not (truth_of (get_or y 0 (value.Bool false)))) true (and_parts _ _ legal).1).0 holds
  where
    both : (b : Bool) → not b ≡ true → b ≡ true → ⊥
    both true unmet met = false≢true unmet
    both false unmet met = false≢true met
only_unmet y (suc t) below legal holds = omega arith

pub dead_end_short : IsRealizable (rules_of_game dead_end) 1 → ⊥
dead_end_short realizable =
    let answer = realizable.wins 1 (value.Bool true ∷ []) refl in
    let met = answer.2 0 1 (omega arith) (1, omega arith, (λ goal among. absurd (omega (arith, among.1))), refl) (record { label = record { line = 1; part = 0 }; holds = λ h t. holds_at (game_reading dead_end h) (Variable 1) t }) (0, omega arith, refl) in
    only_unmet answer.0 met.place met.before answer.1 met.holds
