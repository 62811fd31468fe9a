-- The two sides are dual: the environment's last layer has the states that aren't in the system's Z, and no others.
use Rattle.std.proofs.Common.{◌≡◌, ℕ, zero, suc, ◌<◌, ◌≤◌, Bool, true, false, not, ◌&&◌, ◌||◌, None, refl, sym, ◌∙◌, ap, subst, IsTrue}
use Rattle.std.proofs.lemmas.Bool.{and_parts, and_from, false≢true}
use Rattle.spec_model.specs.Games.{GameData, State}
use Rattle.spec_model.specs.Steps.{IsClosed, is_state}
use Rattle.spec_model.specs.Sets.{StateSet, all_states, both, either, rest, pre_sys, pre_env, environment_forces, IsPartOf, IsGreatest}
use Rattle.spec_model.specs.Counts.{IsLeast}
use Rattle.spec_model.specs.WellMade.{WellMade}
use Rattle.spec_model.proofs.Closed.{closed}
use Rattle.spec_model.proofs.Duality.{parts_agree, rest-rest, rest-pre_sys, start_dual}
use Rattle.gr1_law.specs.Layers.{LayerSets, AreLayers, IsWinning, HasRanks, goal_set, assumption_set, part_value}
use Rattle.gr1_law.specs.EnvLayers.{delay_value, delay, HasDelays, IsHold, EnvLayerSets, AreEnvLayers}
use Rattle.gr1_law.specs.EnvLaws.{SidesAreDual}
use Rattle.gr1_law.proofs.Chains.{state_count}
use Rattle.gr1_law.proofs.Layering.{asm_count, layers_of, layers_of-layers}
use Rattle.gr1_law.proofs.Winning.{in_a_part, part_in_layer, none_below, in_settled}
use Rattle.gr1_law.proofs.Settling.{settles}
use Rattle.gr1_law.proofs.Delays.{delay_value_grows, delay_grows, delay_below, last_delay, last_delay-solves}
use Rattle.gr1_law.proofs.Holds.{delayed_inside, hold_grows}
use Rattle.gr1_law.proofs.EnvLayering.{in_a_hold, hold_in_layer, env_layer_inside}

-- ---- complements

pub to_rest : (g : GameData) (t : StateSet) (s : State) → IsTrue (all_states g s) → (IsTrue (t s) → ⊥) → IsTrue (rest g t s)
to_rest g t s here out = at (t s) out
  where
    at : (p : Bool) → (p ≡ true → ⊥) → (is_state g s && not p) ≡ true
    at true outside = absurd (outside refl)
    at false outside = and_from _ _ here refl

pub of_rest : (g : GameData) (t : StateSet) (s : State) → IsTrue (rest g t s) → IsTrue (t s) → ⊥
of_rest g t s e here = at (t s) here (and_parts _ _ e).1
  where
    at : (p : Bool) → p ≡ true → not p ≡ true → ⊥
    at true inside out = false≢true out
    at false inside out = false≢true inside

pub rest_state : (g : GameData) (t : StateSet) (s : State) → IsTrue (rest g t s) → IsTrue (all_states g s)
rest_state g t s e = (and_parts (is_state g s) (not (t s)) e).0

-- a state that can't be outside a set is in it
within : (g : GameData) (t : StateSet) (s : State) → IsTrue (all_states g s) → (IsTrue (rest g t s) → ⊥) → IsTrue (t s)
within g t s here never = at (t s) refl
  where
    at : (p : Bool) → t s ≡ p → t s ≡ true
    at true e = e
    at false e = absurd (never (to_rest g t s here (λ inside. false≢true (sym e ∙ inside))))

-- ---- the equations

-- of a part's equation, the complement is that of a hold
flips : (c met forced lower holds waits : Bool) →
    (c && not ((met && forced) || (lower || ((c && not holds) && waits))))
    ≡ (((c && not met) || (c && not forced)) && ((c && not lower) && (holds || (c && not waits))))
flips false met forced lower holds waits = refl
flips true true true lower holds waits = refl
flips true true false true holds waits = refl
flips true true false false true waits = refl
flips true true false false false waits = refl
flips true false forced true holds waits = refl
flips true false forced false true waits = refl
flips true false forced false false waits = refl

module _ (g : GameData) (is_closed : IsClosed g) where
  rest-part_value : (z below : StateSet) (j i : ℕ) (t : StateSet) → rest g (part_value g z below j i t) ≡ delay_value g (rest g z) (rest g below) j i (rest g t)
  rest-part_value z below j i t =
      (λ k s. flips (is_state g s) (goal_set g j s) (pre_sys g z s) (pre_sys g below s) (assumption_set g i s) (pre_sys g t s) k)
      ∙ (ap (λ (u : StateSet). whole u (rest g (pre_sys g below)) (rest g (pre_sys g t))) (rest-pre_sys g is_closed z)
      ∙ (ap (λ (u : StateSet). whole (pre_env g (rest g z)) u (rest g (pre_sys g t))) (rest-pre_sys g is_closed below)
      ∙ ap (λ (u : StateSet). whole (pre_env g (rest g z)) (pre_env g (rest g below)) u) (rest-pre_sys g is_closed t)))
    where
      whole : (lower hold waits : StateSet) → StateSet
      whole lower hold waits = both (either (rest g (goal_set g j)) lower) (both hold (either (assumption_set g i) waits))

  -- outside a greatest set is a least one
  rest-least : (z below : StateSet) (j i : ℕ) (x : StateSet) → IsGreatest (part_value g z below j i) x → IsLeast (delay_value g (rest g z) (rest g below) j i) (rest g x)
  rest-least z below j i x greatest = record { solves = ap (rest g) greatest.solves ∙ rest-part_value z below j i x; below = is_below }
    where
      value : StateSet → StateSet
      value = delay_value g (rest g z) (rest g below) j i

      -- what is outside a set that its value is part of is part of its own value
      outside : (t : StateSet) → IsPartOf (delay_value g (rest g z) (rest g below) j i t) t → IsPartOf (rest g t) (part_value g z below j i (rest g t))
      outside t part s e =
          within g (part_value g z below j i (rest g t)) s (rest_state g t s e) (λ out.
          of_rest g t s e (part s (delay_value_grows g (rest g z) (rest g z) (rest g below) (rest g below) j i (rest g (rest g t)) t (λ s e. e) (λ s e. e)
          (λ s e. within g t s (rest_state g (rest g t) s e) (of_rest g (rest g t) s e)) s
          (subst (λ (u : StateSet). IsTrue (u s)) (rest-part_value z below j i (rest g t)) out))))

      is_below : (t : StateSet) → IsPartOf (delay_value g (rest g z) (rest g below) j i t) t → IsPartOf (rest g x) t
      is_below t part s e = within g t s (rest_state g x s e) (λ out. of_rest g x s e (greatest.above (rest g t) (outside t part) s out))

  -- ---- outside the system's last layer is a hold

  module _ (z : StateSet) (l : LayerSets) (of_z : AreLayers g z l) (j : ℕ) where
    least : (r i : ℕ) → IsLeast (delay_value g (rest g z) (rest g (l.y j r)) j i) (rest g (l.x j (suc r) i))
    least r i = rest-least z (l.y j r) j i (l.x j (suc r) i) (of_z.greatest j r i)

    -- a state is outside a layer where it is outside each of its parts
    outside_parts : (r : ℕ) (s : State) → IsTrue (rest g (l.y j (suc r)) s) → (i : ℕ) → i < asm_count g → IsTrue (rest g (l.x j (suc r) i) s)
    outside_parts r s e i below = to_rest g (l.x j (suc r) i) s (rest_state g (l.y j (suc r)) s e) (λ here. of_rest g (l.y j (suc r)) s e (part_in_layer g z l of_z j r i below s here))

    outside_layer : (r : ℕ) (s : State) → IsTrue (all_states g s) → ((i : ℕ) → i < asm_count g → IsTrue (rest g (l.x j (suc r) i) s)) → IsTrue (rest g (l.y j (suc r)) s)
    outside_layer r s state each = to_rest g (l.y j (suc r)) s state (λ here. let part = in_a_part g z l of_z j r s here in of_rest g (l.x j (suc r) part.0) s (each part.0 part.1) part.2)

    delay_outside : (r i k : ℕ) → IsPartOf (delay g (rest g z) (rest g (l.y j r)) j i k) (rest g (l.x j (suc r) i))
    delay_outside r i k = delay_below g (rest g z) (rest g (l.y j r)) j i (rest g (l.x j (suc r) i)) (λ s e. subst (λ (u : StateSet). IsTrue (u s)) (sym (least r i).solves) e) k

    delayed_outside : (r : ℕ) (s : State) → HasDelays g (rest g z) (rest g (l.y j r)) j s → IsTrue (rest g (l.y j (suc r)) s)
    delayed_outside r s has =
        outside_layer r s (delayed_inside g (rest g z) (rest g (l.y j r)) j s has) (λ i below. let rank = has i below in delay_outside r i rank.0 s rank.1)

    -- a set whose states have their delays for it is outside every layer
    stays_outside : (t : StateSet) → ((s : State) → IsTrue (t s) → HasDelays g (rest g z) t j s) → (r : ℕ) → IsPartOf t (rest g (l.y j r))
    stays_outside t delayed zero s e = to_rest g (l.y j 0) s (delayed_inside g (rest g z) t j s (delayed s e)) (none_below g z l of_z j s)
    stays_outside t delayed (suc r) s e =
        delayed_outside r s (λ i below.
        let rank = delayed s e i below in
        (rank.0, delay_grows g (rest g z) (rest g z) t (rest g (l.y j r)) j i (λ s e. e) (stays_outside t delayed r) rank.0 s rank.1))

    rest-hold : (r : ℕ) → l.y j r ≡ l.y j (suc r) → IsHold g (rest g z) j (rest g (l.y j r))
    rest-hold r settled =
        record {
          solves = λ s. (to s, λ has. subst (λ (u : StateSet). IsTrue (rest g u s)) (sym settled) (delayed_outside r s has));
          above = λ t delayed. stays_outside t delayed r;
        }
      where
        to : (s : State) → IsTrue (rest g (l.y j r) s) → HasDelays g (rest g z) (rest g (l.y j r)) j s
        to s e i below = (
          state_count g,
          (least r i).below (last_delay g (rest g z) (rest g (l.y j r)) j i)
              (λ s e. subst (λ (u : StateSet). IsTrue (u s)) (sym (last_delay-solves g (rest g z) (rest g (l.y j r)) j i)) e) s
              (outside_parts r s (subst (λ (u : StateSet). IsTrue (rest g u s)) settled e) i below),
        )

  -- ---- the two sides

  module _ (z : StateSet) (l : LayerSets) (w : IsWinning g z l) (e : EnvLayerSets) (of : AreEnvLayers g e) where
    -- no state of Z is in a layer of the environment
    layer_outside : (a : ℕ) → IsPartOf (e.z a) (rest g z)
    layer_outside zero s here = absurd (false≢true (subst (λ (t : StateSet). IsTrue (t s)) of.none_first here))
    layer_outside (suc a) s here =
        let hold = in_a_hold g e of a s here in
        let settled = settles g z l w.layers hold.0 in
        let out = hold_grows g (e.z a) (rest g z) hold.0 (e.y (suc a) hold.0) (rest g (l.y hold.0 settled.0)) (of.held a hold.0) (rest-hold z l w.layers hold.0 settled.0 settled.2) (layer_outside a) s hold.2 in
        to_rest g z s (rest_state g (l.y hold.0 settled.0) s out) (λ in_z.
        let rank = (w.solves s).0 in_z hold.0 hold.1 in
        of_rest g (l.y hold.0 settled.0) s out (in_settled g z l w.layers hold.0 settled.0 rank.0 settled.2 s rank.1))

    module _ (n : ℕ) (last : e.z n ≡ e.z (suc n)) where
      -- the states outside the environment's last layer
      abbrev left : StateSet
      left = rest g (e.z n)

      left_has_ranks : (s : State) → IsTrue (left s) → HasRanks g (layers_of g left) s
      left_has_ranks s e' j below = (
        settled.0,
        within g ((layers_of g left).y j settled.0) s (rest_state g (e.z n) s e') (λ out.
            of_rest g (e.z n) s e' (subst (λ (t : StateSet). IsTrue (t s)) (sym last)
            (hold_in_layer g e of n j below s (hold_grows g (rest g left) (e.z n) j (rest g ((layers_of g left).y j settled.0)) (e.y (suc n) j) hold (of.held n j) back s out)))),
      )
        where
          settled : (k : ℕ) × (k ≤ state_count g) × ((layers_of g left).y j k ≡ (layers_of g left).y j (suc k))
          settled = settles g left (layers_of g left) (layers_of-layers g left) j

          hold : IsHold g (rest g left) j (rest g ((layers_of g left).y j settled.0))
          hold = rest-hold left (layers_of g left) (layers_of-layers g left) j settled.0 settled.2

          back : IsPartOf (rest g left) (e.z n)
          back s out = subst (λ (t : StateSet). IsTrue (t s)) (rest-rest g (e.z n) (env_layer_inside g e of n)) out

      left_in_z : IsPartOf left z
      left_in_z = w.above left (layers_of g left) (layers_of-layers g left) left_has_ranks

      pub last_is_rest : e.z n ≡ rest g z
      last_is_rest = parts_agree _ _ (layer_outside n) (λ s out. within g (e.z n) s (rest_state g z s out) (λ e'. of_rest g z s out (left_in_z s e')))

pub sides_dual : (g : GameData) → WellMade g → SidesAreDual g
sides_dual g made z l e n w of count =
    let same = last_is_rest g (closed g made) z l w e of n count.here in
    (same, start_dual g (closed g made) z ∙ ap (λ (t : StateSet). environment_forces g t None) (sym same))
