-- Z: there is one, and only one.
use Rattle.std.proofs.Common.{◌≡◌, ℕ, zero, suc, ◌<◌, ◌⊎◌, inl, inr, List, [], ◌∷◌, length, slice_index, refl, sym, ◌∙◌, subst, arith, IsTrue}
use Rattle.std.proofs.lemmas.Bool.{and_parts, and_from}
use Rattle.spec_model.specs.Games.{GameData, State}
use Rattle.spec_model.specs.Sets.{StateSet, all_states, both, IsPartOf, IsGreatest}
use Rattle.spec_model.proofs.Duality.{parts_agree}
use Rattle.gr1_law.specs.Layers.{LayerSets, AreLayers, IsWinning, HasRanks, AreGreatestRanks, IsLeastNumber, goal_sets}
use Rattle.gr1_law.proofs.Greatest.{greatest_of, greatest_of-greatest}
use Rattle.gr1_law.proofs.Layering.{layers_of, layers_of-layers, y_grows, x_grows}
use Rattle.gr1_law.proofs.Winning.{layer_inside, in_settled, layer_in_z, z_in_last}
use Rattle.gr1_law.proofs.Standing.{some_goal}
use Rattle.gr1_law.proofs.Chains.{state_count}
use Rattle.gr1_law.proofs.Settling.{in_full, some_ranks}

-- ---- intersections

-- the states of each of the sets numbered below n
pub common : GameData → (ℕ → StateSet) → ℕ → StateSet
common g sets zero = all_states g
common g sets (suc n) = both (common g sets n) (sets n)

pub common-inside : (g : GameData) (sets : ℕ → StateSet) (n : ℕ) → IsPartOf (common g sets n) (all_states g)
unfolding common
common-inside g sets zero s e = e
common-inside g sets (suc n) s e = common-inside g sets n s (and_parts (common g sets n s) (sets n s) e).0

earlier_or_last : (j n : ℕ) → j < suc n → (j < n) ⊎ (j ≡ n)
earlier_or_last j n below = grind arith

pub of_common : (g : GameData) (sets : ℕ → StateSet) (n : ℕ) (s : State) → IsTrue (common g sets n s) → (j : ℕ) → j < n → IsTrue (sets j s)
unfolding common
of_common g sets zero s e j below = absurd (omega arith)
of_common g sets (suc n) s e j below =
    let parts = and_parts (common g sets n s) (sets n s) e in
    elim (earlier_or_last j n below) [ inl less ↦ of_common g sets n s parts.0 j less | inr same ↦ subst (λ (k : ℕ). IsTrue (sets k s)) (sym same) parts.1 ]

pub in_common : (g : GameData) (sets : ℕ → StateSet) (n : ℕ) (s : State) → IsTrue (all_states g s) → ((j : ℕ) → j < n → IsTrue (sets j s)) → IsTrue (common g sets n s)
unfolding common
in_common g sets zero s here each = here
in_common g sets (suc n) s here each = and_from _ _ (in_common g sets n s here (λ j below. each j (omega arith))) (each n (omega arith))

-- ---- there is a Z

-- the value of Z's equation: the states of each goal's last layer
pub value_of : GameData → StateSet → StateSet
value_of g z = common g (λ j. (layers_of g z).y j (state_count g)) (length (goal_sets g))

pub value_of-inside : (g : GameData) (z : StateSet) → IsPartOf (value_of g z) (all_states g)
unfolding value_of
value_of-inside g z = common-inside g _ (length (goal_sets g))

pub value_of-grows : (g : GameData) (t u : StateSet) → IsPartOf t u → IsPartOf (value_of g t) (value_of g u)
unfolding value_of
value_of-grows g t u part s e =
    in_common g (λ j. (layers_of g u).y j (state_count g)) (length (goal_sets g)) s (value_of-inside g t s e) (λ j below. y_grows g t u (layers_of g t) (layers_of g u) (layers_of-layers g t) (layers_of-layers g u) part j (state_count g) s (of_common g (λ j. (layers_of g t).y j (state_count g)) (length (goal_sets g)) s e j below))

-- a state is in the value where it has a rank for each goal
pub to_value : (g : GameData) (z : StateSet) (l : LayerSets) → AreLayers g z l → (s : State) → IsTrue (all_states g s) → HasRanks g l s → IsTrue (value_of g z s)
unfolding value_of
to_value g z l of_z s here has =
    in_common g (λ j. (layers_of g z).y j (state_count g)) (length (goal_sets g)) s here (λ j below.
    let rank = has j below in
    in_full g z (layers_of g z) (layers_of-layers g z) j rank.0 s (y_grows g z z l (layers_of g z) of_z (layers_of-layers g z) (λ s e. e) j rank.0 s rank.1))

pub of_value : (g : GameData) (z : StateSet) (s : State) → IsTrue (value_of g z s) → HasRanks g (layers_of g z) s
unfolding value_of
of_value g z s e j below = (state_count g, of_common g (λ j. (layers_of g z).y j (state_count g)) (length (goal_sets g)) s e j below)

-- a state with a rank is a state
pub ranked_inside : (g : GameData) (z : StateSet) (l : LayerSets) → AreLayers g z l → (s : State) → HasRanks g l s → IsTrue (all_states g s)
ranked_inside g z l of_z s has = let rank = has 0 (some_goal g _) in layer_inside g z l of_z 0 rank.0 s rank.1

-- the greatest set that equals its own value is Z
pub winning_of_greatest : (g : GameData) (z : StateSet) → IsGreatest (value_of g) z → IsWinning g z (layers_of g z)
winning_of_greatest g z greatest =
    record {
      layers = layers_of-layers g z;
      solves = λ s. (
        (λ e. of_value g z s (subst (λ (t : StateSet). IsTrue (t s)) greatest.solves e)),
        λ has. subst (λ (t : StateSet). IsTrue (t s)) (sym greatest.solves) (to_value g z (layers_of g z) (layers_of-layers g z) s (ranked_inside g z (layers_of g z) (layers_of-layers g z) s has) has),
      );
      above = λ t l' of_t ranked. greatest.above t (λ s e. to_value g t l' of_t s (ranked_inside g t l' of_t s (ranked s e)) (ranked s e));
    }

-- the value is what the goals' last layers have in common, wherever each has settled
pub common-settled : (g : GameData) (z : StateSet) (l : LayerSets) → AreLayers g z l → (last : ℕ → ℕ) → ((j : ℕ) → j < length (goal_sets g) → l.y j (last j) ≡ l.y j (suc (last j))) →
    common g (λ j. l.y j (last j)) (length (goal_sets g)) ≡ value_of g z
common-settled g z l of_z last settled = parts_agree _ _ to from
  where
    to : IsPartOf (common g (λ j. l.y j (last j)) (length (goal_sets g))) (value_of g z)
    to s e = to_value g z l of_z s (common-inside g _ (length (goal_sets g)) s e) (λ j below. (last j, of_common g (λ j. l.y j (last j)) (length (goal_sets g)) s e j below))

    from : IsPartOf (value_of g z) (common g (λ j. l.y j (last j)) (length (goal_sets g)))
    from s e =
        in_common g (λ j. l.y j (last j)) (length (goal_sets g)) s (value_of-inside g z s e) (λ j below.
        let rank = of_value g z s e j below in
        in_settled g z l of_z j (last j) rank.0 (settled j below) s (y_grows g z z (layers_of g z) l (layers_of-layers g z) of_z (λ s e. e) j rank.0 s rank.1))

pub some_winning : (g : GameData) → (z : StateSet) × (l : LayerSets) × IsWinning g z l
some_winning g =
    (greatest_of g (value_of g), layers_of g (greatest_of g (value_of g)), winning_of_greatest g (greatest_of g (value_of g)) (greatest_of-greatest g (value_of g) (value_of-grows g) (value_of-inside g)))

-- ---- there is only one

module _ (g : GameData) (z : StateSet) (l l' : LayerSets) (of_z : AreLayers g z l) (of_z' : AreLayers g z l') where
  pub y-one : (j r : ℕ) → l.y j r ≡ l'.y j r
  y-one j r = parts_agree _ _ (y_grows g z z l l' of_z of_z' (λ s e. e) j r) (y_grows g z z l' l of_z' of_z (λ s e. e) j r)

  pub x-one : (j r i : ℕ) → l.x j (suc r) i ≡ l'.x j (suc r) i
  x-one j r i = parts_agree _ _ (x_grows g z z l l' of_z of_z' (λ s e. e) j r i) (x_grows g z z l' l of_z' of_z (λ s e. e) j r i)

pub z-one : (g : GameData) (z z' : StateSet) (l l' : LayerSets) → IsWinning g z l → IsWinning g z' l' → z ≡ z'
z-one g z z' l l' w w' = parts_agree z z' (w'.above z l w.layers (λ s e. (w.solves s).0 e)) (w.above z' l' w'.layers (λ s e. (w'.solves s).0 e))

pub least-one : (P : ℕ → Type 0) (k k' : ℕ) → IsLeastNumber P k → IsLeastNumber P k' → k ≡ k'
least-one P k k' a b =
    let no_less : k < k' → ⊥ = λ less. b.none_before k less a.here in
    let no_more : k' < k → ⊥ = λ less. a.none_before k' less b.here in
    grind (arith, no_less, no_more)

pub same_list : (xs ys : List ℕ) → length xs ≡ length ys → ((k : ℕ) → k < length xs → slice_index xs k ≡ slice_index ys k) → xs ≡ ys
same_list [] [] e each = refl
same_list [] (y ∷ ys) e each = absurd (omega arith)
same_list (x ∷ xs) [] e each = absurd (omega arith)
same_list (x ∷ xs) (y ∷ ys) e each =
    let first : x ≡ y = each 0 (omega arith) in
    let rest = same_list xs ys (omega arith) (λ k below. each (suc k) (omega arith)) in
    cc

pub ranks-one : (g : GameData) (z z' : StateSet) (l l' : LayerSets) (ranks ranks' : List ℕ) → IsWinning g z l → IsWinning g z' l' → AreGreatestRanks g l ranks → AreGreatestRanks g l' ranks' → ranks ≡ ranks'
ranks-one g z z' l l' ranks ranks' w w' greatest greatest' = same_list ranks ranks' (greatest.counted ∙ sym greatest'.counted) each
  where
    of_z : AreLayers g z l'
    of_z = subst (λ (t : StateSet). AreLayers g t l') (sym (z-one g z z' l l' w w')) w'.layers

    each : (j : ℕ) → j < length ranks → slice_index ranks j ≡ slice_index ranks' j
    each j below =
        least-one (λ r. l'.y j r ≡ l'.y j (suc r)) _ _
        (subst (λ (y : ℕ → StateSet). IsLeastNumber (λ r. y r ≡ y (suc r)) (slice_index ranks j)) (λ i r. y-one g z l l' w.layers of_z j r i) (greatest.each j below))
        (greatest'.each j (omega (arith, below, greatest.counted, greatest'.counted)))

-- ---- its layers

pub layers-inside : (g : GameData) (z : StateSet) (l : LayerSets) → IsWinning g z l → (j r : ℕ) → IsPartOf (l.y j r) z
layers-inside g z l w = let ranks = some_ranks g z l w.layers in layer_in_z g z l w ranks.0 ranks.1

pub last-one : (g : GameData) (z : StateSet) (l : LayerSets) (ranks : List ℕ) → IsWinning g z l → AreGreatestRanks g l ranks → (j : ℕ) → j < length ranks → l.y j (slice_index ranks j) ≡ z
last-one g z l ranks w greatest j below = parts_agree _ _ (layer_in_z g z l w ranks greatest j (slice_index ranks j)) (z_in_last g z l w ranks greatest j (omega (arith, below, greatest.counted)))
