-- Which part has the state that a turn reached.
use Rattle.std.proofs.Common.{◌≡◌, ℕ, zero, suc, ◌<◌, Bool, true, false, List, [], ◌∷◌, Vec, length, get_or, sym, ap, ◌∙◌, subst, arith, IsTrue}
use Rattle.std.specs.declared.alloc.Global.{Global}
use Rattle.spec_model.specs.Values.{Assignment}
use Rattle.spec_model.specs.Sets.{StateSet}
use Rattle.spec_model.specs.Steps.{Before, reached}
use Rattle.regions.specs.Kept.{Kept}
use Rattle.gr1_law.specs.Layers.{LayerSets, IsLeastNumber}
use Rattle.gr1_law.specs.Choice.{Memory}
use Rattle.gr1_sys.specs.declared.layers.SysLayer.{SysLayer}
use Rattle.gr1_sys.specs.Held.{HaveParts, AllHaveParts}
use Rattle.controller.specs.declared.remembered.Remembered.{Remembered}
use Rattle.strategy_parts.specs.Owned.{RegionsAre}
use Rattle.controller.specs.Aims.{LayersAre, AllLayersAre}
use Rattle.controller.specs.Settled.{Settles}

module _ {G R M : Type 0} where
  pub layer_at : (k : Kept R M) (ls : List (SysLayer G R M)) (x : ℕ → ℕ → StateSet) → LayersAre k ls x → (r : ℕ) → r < length ls → (d : SysLayer G R M) → RegionsAre k (get_or ls r d).x.items (x r)
  layer_at k [] x are r below d = absurd (omega arith)
  layer_at k (l ∷ ls) x are zero below d = are.0
  layer_at k (l ∷ ls) x are (suc r) below d = layer_at k ls (λ r. x (suc r)) are.1 r (omega arith) d

  pub parts_in : (n : ℕ) (ls : List (SysLayer G R M)) → HaveParts n ls → (r : ℕ) → r < length ls → (d : SysLayer G R M) → length (get_or ls r d).x.items ≡ n
  parts_in n [] have r below d = absurd (omega arith)
  parts_in n (l ∷ ls) have zero below d = let e = have.0 in omega (arith, e)
  parts_in n (l ∷ ls) have (suc r) below d = parts_in n ls have.1 r (omega arith) d

  pub layers_at : (k : Kept R M) (vs : List (Vec (SysLayer G R M) Global)) (x : ℕ → ℕ → ℕ → StateSet) → AllLayersAre k vs x → (j : ℕ) → j < length vs → (d : Vec (SysLayer G R M) Global) → LayersAre k (get_or vs j d).items (x j)
  layers_at k [] x are j below d = absurd (omega arith)
  layers_at k (v ∷ vs) x are zero below d = are.0
  layers_at k (v ∷ vs) x are (suc j) below d = layers_at k vs (λ j. x (suc j)) are.1 j (omega arith) d

  pub have_at : (n : ℕ) (vs : List (Vec (SysLayer G R M) Global)) → AllHaveParts n vs → (j : ℕ) → j < length vs → (d : Vec (SysLayer G R M) Global) → HaveParts n (get_or vs j d).items
  have_at n [] have j below d = absurd (omega arith)
  have_at n (v ∷ vs) have zero below d = have.0
  have_at n (v ∷ vs) have (suc j) below d = have_at n vs have.1 j (omega arith) d

  module _ (k : Kept R M) (goals : List (Vec (SysLayer G R M) Global)) (p : Remembered) (goal rank : ℕ) (waited : Bool) (l : LayerSets) (b : Before) (m : Memory) (x y : Assignment) (next : Memory)
      (settles : Settles k goals p goal rank waited l b m x y next) where
    pub index_kept : waited ≡ true → p.index ≡ next.index
    index_kept on = ap (λ (n : Memory). n.index) settles.here.memory ∙ sym (settles.turn.chosen.kept (sym settles.waiting ∙ on))

    pub index_least : waited ≡ false → IsLeastNumber (λ i. IsTrue (l.x goal (suc rank) i (reached k.game b x y))) next.index
    index_least off =
        subst (λ j. IsLeastNumber (λ i. IsTrue (l.x j (suc rank) i (reached k.game b x y))) next.index) (sym settles.aim)
        (subst (λ r. IsLeastNumber (λ i. IsTrue (l.x next.goal r i (reached k.game b x y))) next.index) (sym settles.reach) (settles.turn.chosen.index (sym settles.waiting ∙ off)))
