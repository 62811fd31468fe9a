-- The layers for a set: there are some, only these, and they grow with the set and with the rank.
use Rattle.std.proofs.Common.{◌≡◌, ℕ, zero, suc, pred, length, refl, sym, ◌∙◌, ap, subst, IsTrue}
use Rattle.std.proofs.lemmas.Bool.{false≢true}
use Rattle.spec_model.specs.Games.{GameData}
use Rattle.spec_model.specs.Sets.{StateSet, no_states, IsPartOf, IsGreatest}
use Rattle.spec_model.proofs.Fixpoints.{greatest-one}
use Rattle.gr1_law.specs.Layers.{LayerSets, AreLayers, union, part_value, assumption_sets}
use Rattle.gr1_law.proofs.Greatest.{greatest_of, greatest_of-greatest, greatest_grows}
use Rattle.gr1_law.proofs.Parts.{part_value_grows, part_value-inside, union_grows}

-- ---- they exist

abbrev pub asm_count : GameData → ℕ
asm_count g = length (assumption_sets g)

pub part_of : GameData → (z below : StateSet) → (j i : ℕ) → StateSet
part_of g z below j i = greatest_of g (part_value g z below j i)

pub layer_of : GameData → (z : StateSet) → (j r : ℕ) → StateSet
layer_of g z j zero = no_states
layer_of g z j (suc r) = union (part_of g z (layer_of g z j r) j) (asm_count g)

pub layers_of : GameData → StateSet → LayerSets
layers_of g z = record { y = layer_of g z; x = λ j r i. part_of g z (layer_of g z j (pred r)) j i }

pub part_of-greatest : (g : GameData) (z below : StateSet) (j i : ℕ) → IsGreatest (part_value g z below j i) (part_of g z below j i)
unfolding part_of
part_of-greatest g z below j i = greatest_of-greatest g (part_value g z below j i) (λ t u part. part_value_grows g z z below below j i t u (λ s e. e) (λ s e. e) part) (part_value-inside g z below j i)

pub layers_of-layers : (g : GameData) (z : StateSet) → AreLayers g z (layers_of g z)
unfolding layers_of layer_of
layers_of-layers g z =
    record {
      none_first = λ j. refl;
      greatest = λ j r i. part_of-greatest g z (layer_of g z j r) j i;
      joined = λ j r. refl;
    }

-- ---- they grow with the set

module _ (g : GameData) (z z' : StateSet) (l l' : LayerSets) (of_z : AreLayers g z l) (of_z' : AreLayers g z' l') (part : IsPartOf z z') (j : ℕ) where
  part_grows : (r i : ℕ) → IsPartOf (l.y j r) (l'.y j r) → IsPartOf (l.x j (suc r) i) (l'.x j (suc r) i)
  part_grows r i below = greatest_grows _ _ (l.x j (suc r) i) (l'.x j (suc r) i) (of_z.greatest j r i) (of_z'.greatest j r i) (λ t. part_value_grows g z z' (l.y j r) (l'.y j r) j i t t part below (λ s e. e))

  pub y_grows : (r : ℕ) → IsPartOf (l.y j r) (l'.y j r)
  y_grows zero s e = absurd (false≢true (subst (λ (t : StateSet). IsTrue (t s)) (of_z.none_first j) e))
  y_grows (suc r) s e =
      subst (λ (t : StateSet). IsTrue (t s)) (sym (of_z'.joined j r))
      (union_grows (l.x j (suc r)) (l'.x j (suc r)) (λ i. part_grows r i (y_grows r)) (asm_count g) s (subst (λ (t : StateSet). IsTrue (t s)) (of_z.joined j r) e))

  pub x_grows : (r i : ℕ) → IsPartOf (l.x j (suc r) i) (l'.x j (suc r) i)
  x_grows r i = part_grows r i (y_grows r)

-- ---- they grow with the rank

module _ (g : GameData) (z : StateSet) (l : LayerSets) (of_z : AreLayers g z l) (j : ℕ) where
  part_in_next : (r i : ℕ) → IsPartOf (l.y j r) (l.y j (suc r)) → IsPartOf (l.x j (suc r) i) (l.x j (suc (suc r)) i)
  part_in_next r i part = greatest_grows _ _ (l.x j (suc r) i) (l.x j (suc (suc r)) i) (of_z.greatest j r i) (of_z.greatest j (suc r) i) (λ t. part_value_grows g z z (l.y j r) (l.y j (suc r)) j i t t (λ s e. e) part (λ s e. e))

  pub y_in_next : (r : ℕ) → IsPartOf (l.y j r) (l.y j (suc r))
  y_in_next zero s e = absurd (false≢true (subst (λ (t : StateSet). IsTrue (t s)) (of_z.none_first j) e))
  y_in_next (suc r) s e =
      subst (λ (t : StateSet). IsTrue (t s)) (sym (of_z.joined j (suc r)))
      (union_grows (l.x j (suc r)) (l.x j (suc (suc r))) (λ i. part_in_next r i (y_in_next r)) (asm_count g) s (subst (λ (t : StateSet). IsTrue (t s)) (of_z.joined j r) e))

  -- once a layer equals the next, so do all later ones
  pub settled_from : (r : ℕ) → l.y j r ≡ l.y j (suc r) → l.y j (suc r) ≡ l.y j (suc (suc r))
  settled_from r same = of_z.joined j r ∙ (ap (λ f. union f (asm_count g)) (λ k i. parts i k) ∙ sym (of_z.joined j (suc r)))
    where
      parts : (i : ℕ) → l.x j (suc r) i ≡ l.x j (suc (suc r)) i
      parts i = greatest-one (part_value g z (l.y j (suc r)) j i) _ _ (subst (λ (t : StateSet). IsGreatest (part_value g z t j i) (l.x j (suc r) i)) same (of_z.greatest j r i)) (of_z.greatest j (suc r) i)
