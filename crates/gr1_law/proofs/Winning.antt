-- In Z each goal's last layer is Z itself.
use Rattle.std.proofs.Common.{◌≡◌, ℕ, zero, suc, ◌<◌, inl, inr, List, length, slice_index, sym, subst, arith, IsTrue}
use Rattle.std.proofs.lemmas.Bool.{or_cases, or_left, or_right, false≢true}
use Rattle.spec_model.specs.Games.{GameData, State}
use Rattle.spec_model.specs.Sets.{StateSet, all_states, either, IsPartOf}
use Rattle.spec_model.proofs.SetLaws.{pre_sys_grows}
use Rattle.gr1_law.specs.Layers.{LayerSets, AreLayers, IsWinning, HasRanks, AreGreatestRanks, goal_sets, part_value}
use Rattle.gr1_law.proofs.Chains as chains
use Rattle.gr1_law.proofs.Parts.{InPart, in_part, to_part, in_union, of_union, part_value-inside}
use Rattle.gr1_law.proofs.Layering.{asm_count, layers_of, layers_of-layers, y_grows, y_in_next, settled_from}

module _ (g : GameData) (z : StateSet) (l : LayerSets) (of_z : AreLayers g z l) (j : ℕ) where
  -- a state of a layer is in one of its parts
  pub in_a_part : (r : ℕ) (s : State) → IsTrue (l.y j (suc r) s) → (i : ℕ) × (i < asm_count g) × IsTrue (l.x j (suc r) i s)
  in_a_part r s e = of_union (l.x j (suc r)) (asm_count g) s (subst (λ (t : StateSet). IsTrue (t s)) (of_z.joined j r) e)

  pub part_in_layer : (r i : ℕ) → i < asm_count g → IsPartOf (l.x j (suc r) i) (l.y j (suc r))
  part_in_layer r i below s e = subst (λ (t : StateSet). IsTrue (t s)) (sym (of_z.joined j r)) (in_union (l.x j (suc r)) (asm_count g) i s below e)

  pub part_solves : (r i : ℕ) → IsPartOf (l.x j (suc r) i) (part_value g z (l.y j r) j i (l.x j (suc r) i))
  part_solves r i s e = subst (λ (t : StateSet). IsTrue (t s)) (of_z.greatest j r i).solves e

  pub none_below : (s : State) → IsTrue (l.y j 0 s) → ⊥
  none_below s e = false≢true (subst (λ (t : StateSet). IsTrue (t s)) (of_z.none_first j) e)

  pub layer_inside : (r : ℕ) → IsPartOf (l.y j r) (all_states g)
  layer_inside zero s e = absurd (none_below s e)
  layer_inside (suc r) s e =
      let part = in_a_part r s e in
      part_value-inside g z (l.y j r) j part.0 (l.x j (suc r) part.0) s (part_solves r part.0 s part.2)

  -- a settled layer has every other
  pub in_settled : (k r : ℕ) → l.y j k ≡ l.y j (suc k) → IsPartOf (l.y j r) (l.y j k)
  in_settled = chains.in_settled g (l.y j) (y_in_next g z l of_z j) layer_inside (settled_from g z l of_z j)

module _ (g : GameData) (z : StateSet) (l : LayerSets) (w : IsWinning g z l) (ranks : List ℕ) (greatest : AreGreatestRanks g l ranks) where
  -- no layer has more than the last
  pub in_last : (j r : ℕ) → j < length (goal_sets g) → IsPartOf (l.y j r) (l.y j (slice_index ranks j))
  in_last j r below = in_settled g z l w.layers j (slice_index ranks j) r (greatest.each j (omega (arith, greatest.counted))).here

  pub z_in_last : (j : ℕ) → j < length (goal_sets g) → IsPartOf z (l.y j (slice_index ranks j))
  z_in_last j below s e = let has = (w.solves s).0 e j below in in_last j has.0 below s has.1

  -- A part over a layer in Z is in Z: with it Z would be no smaller, and still have all its ranks.
  module _ (k r i : ℕ) (below : i < asm_count g) (lower : IsPartOf (l.y k r) z) where
    abbrev wider : StateSet
    wider = either z (l.x k (suc r) i)

    z_in_wider : IsPartOf z wider
    z_in_wider s e = or_left (z s) (l.x k (suc r) i s) e

    z_in_new : (j : ℕ) → j < length (goal_sets g) → IsPartOf z ((layers_of g wider).y j (slice_index ranks j))
    z_in_new j in_goals s e = y_grows g z wider l (layers_of g wider) w.layers (layers_of-layers g wider) z_in_wider j (slice_index ranks j) s (z_in_last j in_goals s e)

    part_in_new : (j : ℕ) → j < length (goal_sets g) → IsPartOf (l.x k (suc r) i) ((layers_of g wider).x j (suc (slice_index ranks j)) i)
    part_in_new j in_goals = ((layers_of-layers g wider).greatest j (slice_index ranks j) i).above (l.x k (suc r) i) (λ s e. by_cases s (in_part g z (l.y k r) k i (l.x k (suc r) i) s (part_solves g z l w.layers k r i s e)))
      where
        by_cases : (s : State) → InPart g z (l.y k r) k i (l.x k (suc r) i) s → IsTrue (part_value g wider ((layers_of g wider).y j (slice_index ranks j)) j i (l.x k (suc r) i) s)
        by_cases s (InPart.met holds forced) = to_part g wider ((layers_of g wider).y j (slice_index ranks j)) j i (l.x k (suc r) i) s (InPart.lower (pre_sys_grows g z ((layers_of g wider).y j (slice_index ranks j)) (z_in_new j in_goals) s forced))
        by_cases s (InPart.lower forced) = to_part g wider ((layers_of g wider).y j (slice_index ranks j)) j i (l.x k (suc r) i) s (InPart.lower (pre_sys_grows g (l.y k r) ((layers_of g wider).y j (slice_index ranks j)) (λ t e. z_in_new j in_goals t (lower t e)) s forced))
        by_cases s (InPart.waiting fails forced) = to_part g wider ((layers_of g wider).y j (slice_index ranks j)) j i (l.x k (suc r) i) s (InPart.waiting fails forced)

    has_ranks : (s : State) → IsTrue (wider s) → HasRanks g (layers_of g wider) s
    has_ranks s e j in_goals =
        elim (or_cases (z s) (l.x k (suc r) i s) e) [
          | inl in_z ↦ (slice_index ranks j, z_in_new j in_goals s in_z)
          | inr in_part ↦ (suc (slice_index ranks j), part_in_layer g wider (layers_of g wider) (layers_of-layers g wider) j (slice_index ranks j) i below s (part_in_new j in_goals s in_part))
        ]

    pub part_in_z : IsPartOf (l.x k (suc r) i) z
    part_in_z s e = w.above wider (layers_of g wider) (layers_of-layers g wider) has_ranks s (or_right (z s) (l.x k (suc r) i s) e)

  pub layer_in_z : (k r : ℕ) → IsPartOf (l.y k r) z
  layer_in_z k zero s e = absurd (none_below g z l w.layers k s e)
  layer_in_z k (suc r) s e =
      let part = in_a_part g z l w.layers k r s e in
      part_in_z k r part.0 part.1 (layer_in_z k r) s part.2
