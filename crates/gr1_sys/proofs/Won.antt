-- Z with its layers, as they are held and shown.
use Rattle.std.proofs.Common.{◌≡◌, ℕ, zero, suc, ◌+◌, ◌<◌, List, [], ◌∷◌, map, length, get_or, slice_get, slice_index, Option, Some, None, MatchOption, Vec, vec_len, ap, sym, ◌∙◌, subst, arith}
use Rattle.std.proofs.lemmas.List.{map-append}
use Rattle.std.specs.declared.alloc.Global.{Global}
use Rattle.spec_model.specs.Games.{GameData}
use Rattle.spec_model.specs.Steps.{below}
use Rattle.spec_model.specs.Sets.{StateSet, system_forces, IsGreatest}
use Rattle.spec_model.proofs.Fixpoints.{IsFalling, falling-last}
use Rattle.spec_model.proofs.Duality.{parts_agree}
use Rattle.regions.specs.Kept.{Kept, Item, Meaning, weight, MakesRegion, IsExact}
use Rattle.gr1_law.specs.Layers.{LayerSets, goal_sets, assumption_sets, IsLeastNumber, IsWinning}
use Rattle.gr1_sys.specs.declared.layers.SysLayer.{SysLayer}
use Rattle.gr1_sys.specs.Solution.{part_of, layer_of, following}
use Rattle.gr1_sys.specs.Layered.{layers_for}
use Rattle.gr1_sys.specs.Held.{weight_as, MakesRegions, SpendsAll, rank_sets, flatten, sets_of, ranks_of, layer_regions, goal_regions, all_regions, HaveParts, AllHaveParts}
use Rattle.gr1_sys.specs.Solved.{HoldsLayers, HasWon, IsLost, IsForced, IsDropped, WonBySystem}
use Rattle.gr1_sys.proofs.Lists.{length_map, length_below, weight_as-more, as_held, set_kept, made_and_spent_all, makes_still}
use Rattle.gr1_sys.proofs.Turned.{split_same, goal_stands}
use Rattle.gr1_sys.proofs.Rounds.{first_is}
use Rattle.gr1_sys.proofs.Givings.{all_above}
use Rattle.gr1_sys.proofs.Winning.{following-grows, following-inside, is_winning}

pub found : {X : Type 0} (xs : List X) (i : ℕ) (x : X) → slice_get xs i ≡ Some x → (i < length xs) × (get_or xs i x ≡ x)
found [] i x e = cc
found (y ∷ xs) zero x e = (omega arith, cc)
found (y ∷ xs) (suc i) x e = let rest = found xs i x e in (omega (arith, rest.0), rest.1)

-- the winning states are one set
pub winning_one : (g : GameData) (y z : StateSet) (l m : LayerSets) → IsWinning g y l → IsWinning g z m → y ≡ z
winning_one g y z l m first second = parts_agree y z (second.above y l first.layers (λ s. (first.solves s).0)) (first.above z m second.layers (λ s. (second.solves s).0))

module _ {G R M : Type 0} where
  abbrev Settles : GameData → Kept R M → Kept R M → StateSet → List (Vec (SysLayer G R M) Global) → Type 0
  Settles g k new s goals =
      (s ≡ following g s) × (MakesRegions k new (all_regions goals) (sets_of (rank_sets g s) goals) × (AllHaveParts (length (assumption_sets g)) goals ×
      ((length goals ≡ length (goal_sets g)) × ((j : ℕ) → j < length goals → IsLeastNumber (λ r. layer_of g s j r ≡ layer_of g s j (suc r)) (slice_index (ranks_of goals) j)))))

  pub won_is : (first k new : Kept R M) (z y : R) (goals : List (Vec (SysLayer G R M) Global)) → IsExact new → k.game ≡ first.game → MakesRegion first k z (k.set z) → IsFalling first.game (following first.game) (k.set z) →
      y ≡ z → Settles k.game k new (k.set z) goals → HasWon first new y goals
  won_is first k new z y goals exact same made falling e settles =
      let at : Settles first.game k new (k.set z) goals = subst (λ h. Settles h k new (k.set z) goals) same settles in
      let stands : new.set z ≡ k.set z = set_kept k new z exact (λ w. omega (arith, at.1.0.held w)) (λ w. omega (arith, made.held (λ i m. w i))) in
      let layers : HoldsLayers first.game first new z (k.set z) goals = record {
        made = record {
          held = λ w. omega (arith, at.1.0.held w, made.held w, weight_as-more z (all_regions goals) (k.set z) (sets_of (rank_sets first.game (k.set z)) goals) w);
          counted = (let e = at.1.0.counted in omega arith);
          jam = at.1.0.jam;
        };
        parts = at.1.1.0;
        counted = at.1.1.1.0;
        greatest = at.1.1.1.1;
      } in
      let greatest = falling-last first.game (following first.game) (following-grows first.game) (following-inside first.game) (k.set z) falling at.0 in
      subst (λ x. HasWon first new x goals) (sym e)
      (record {
        layers = subst (λ t. HoldsLayers first.game first new z t goals) (sym stands) layers;
        greatest = subst (IsGreatest (following first.game)) (sym stands) greatest;
      })

  -- ---- layer by layer

  layer_stands : (f : R → StateSet) (y : ℕ → StateSet) (x : ℕ → List StateSet) (m : ℕ) → ((r : ℕ) → length (x r) ≡ m) → (ls : List (SysLayer G R M)) → HaveParts m ls →
      map f (goal_regions ls) ≡ flatten (λ r. y r ∷ x r) (length ls) → (r : ℕ) (l : SysLayer G R M) → slice_get ls r ≡ Some l → map f (layer_regions l) ≡ y r ∷ x r
  layer_stands f y x m each [] parts are r l e = cc
  layer_stands f y x m each (first ∷ ls) parts are r l e =
      at r e (split_same (map f (layer_regions first)) (map f (goal_regions ls)) (y 0 ∷ x 0) (flatten (λ r. y (suc r) ∷ x (suc r)) (length ls)) (omega (arith, parts.0, each 0, length_map f (layer_regions first))) (sym (map-append f (layer_regions first) (goal_regions ls)) ∙ are))
      (λ k rest. layer_stands f (λ r. y (suc r)) (λ r. x (suc r)) m (λ r. each (suc r)) ls parts.1 rest k l)
    where
      at : (r : ℕ) → slice_get (first ∷ ls) r ≡ Some l → (map f (layer_regions first) ≡ y 0 ∷ x 0) × (map f (goal_regions ls) ≡ flatten (λ r. y (suc r) ∷ x (suc r)) (length ls)) →
          ((k : ℕ) → map f (goal_regions ls) ≡ flatten (λ r. y (suc r) ∷ x (suc r)) (length ls) → slice_get ls k ≡ Some l → map f (layer_regions l) ≡ y (suc k) ∷ x (suc k)) → map f (layer_regions l) ≡ y r ∷ x r
      at zero e split rest = let same : first ≡ l = cc in subst (λ (s : SysLayer G R M). map f (layer_regions s) ≡ y 0 ∷ x 0) same split.0
      at (suc k) e split rest = rest k split.1 e

  shown_layers : (g : GameData) (f : R → StateSet) (z : StateSet) (goals : List (Vec (SysLayer G R M) Global)) → AllHaveParts (length (assumption_sets g)) goals → map f (all_regions goals) ≡ sets_of (rank_sets g z) goals →
      (j r : ℕ) (goal : Vec (SysLayer G R M) Global) (layer : SysLayer G R M) → slice_get goals j ≡ Some goal → slice_get goal.items r ≡ Some layer →
      (f layer.y ≡ layer_of g z j (suc r)) × (map f layer.x.items ≡ map (part_of g z (layer_of g z j r) j) (below (length (assumption_sets g))))
  shown_layers g f z goals parts are j r goal layer here there =
      let place = found goals j goal here in
      let stands = goal_stands f (λ j r. layer_of g z j (suc r)) (λ j r. map (part_of g z (layer_of g z j r) j) (below (length (assumption_sets g)))) (length (assumption_sets g)) (λ j r. length_map (part_of g z (layer_of g z j r) j) (below (length (assumption_sets g))) ∙ length_below (length (assumption_sets g))) goals parts are j goal place.0 in
      let own : HaveParts (length (assumption_sets g)) goal.items × (map f (goal_regions goal.items) ≡ flatten (rank_sets g z j) (vec_len goal)) =
      subst (λ (v : Vec (SysLayer G R M) Global). HaveParts (length (assumption_sets g)) v.items × (map f (goal_regions v.items) ≡ flatten (rank_sets g z j) (vec_len v))) place.1 stands in
      let counted : vec_len goal ≡ length goal.items = omega arith in
      let list = layer_stands f (λ r. layer_of g z j (suc r)) (λ r. map (part_of g z (layer_of g z j r) j) (below (length (assumption_sets g)))) (length (assumption_sets g)) (λ r. length_map (part_of g z (layer_of g z j r) j) (below (length (assumption_sets g))) ∙ length_below (length (assumption_sets g))) goal.items own.0
      (subst (λ n. map f (goal_regions goal.items) ≡ flatten (rank_sets g z j) n) counted own.1) r layer there in
      let head : f layer.y ≡ layer_of g z j (suc r) = cc (list) in
      let tail : map f layer.x.items ≡ map (part_of g z (layer_of g z j r) j) (below (length (assumption_sets g))) = cc (list) in
      (head, tail)

  -- ---- what the solver gives

  pub lost : (k k3 k4 : Kept R M) (z : R) (s : StateSet) (goals : List (Vec (SysLayer G R M) Global)) → IsExact k3 → k3.game ≡ k.game → k.jam ≡ None → HoldsLayers k.game k k3 z s goals → IsGreatest (following k.game) s →
      IsDropped k3 k4 z (all_regions goals) → IsLost k k4
  lost k k3 k4 z s goals exact same free layers greatest dropped =
      let z_is = first_is k k3 z (all_regions goals) s (sets_of (rank_sets k.game s) goals) exact layers.made in
      record {
        stays = record { held = made_and_spent_all k k3 k3 k4 (z ∷ all_regions goals) (s ∷ sets_of (rank_sets k.game s) goals) exact layers.made (λ w. omega arith) dropped.0; jam = dropped.0.jam ∙ (layers.made.jam ∙ sym free) };
        escapes = λ y l winning.
            ap (λ t. system_forces k.game t None) (winning_one k.game y s l (layers_for k.game s) winning (is_winning k.game s greatest) ∙ sym z_is) ∙ (ap (λ h. system_forces h (k3.set z) None) (sym same) ∙ dropped.1);
      }

  pub won : (k k3 k4 : Kept R M) (z y : R) (s : StateSet) (goals given : List (Vec (SysLayer G R M) Global)) → IsExact k3 → IsExact k4 → k3.game ≡ k.game → HoldsLayers k.game k k3 z s goals → IsGreatest (following k.game) s →
      y ≡ z → given ≡ goals → IsForced k3 k4 z → (sets : LayerSets) × WonBySystem k k4 y given sets
  won k k3 k4 z y s goals given exact exact4 same layers greatest e e' forced =
      subst (λ x. (sets : LayerSets) × WonBySystem k k4 x given sets) (sym e)
      (subst (λ (vs : List (Vec (SysLayer G R M) Global)). (sets : LayerSets) × WonBySystem k k4 z vs sets) (sym e') (
        layers_for k.game s,
        record {
          held = subst (λ ss. (w : Item R M → Meaning → ℕ) → weight k4 w ≡ weight_as (z ∷ all_regions goals) ss w + weight k w) (sym are) made.held;
          jam = made.jam;
          winning = subst (λ t. IsWinning k.game t (layers_for k.game s)) (sym z_is) (is_winning k.game s greatest);
          forced = ap (λ t. system_forces k.game t None) (z_is ∙ sym z3_is) ∙ (ap (λ h. system_forces h (k3.set z) None) (sym same) ∙ forced.1);
          ranks = record {
            counted = length_map vec_len goals ∙ layers.counted;
            each = λ j before. layers.greatest j (omega (arith, before, length_map vec_len goals));
          };
          shown = λ j r goal layer here there. shown_layers k.game k4.set s goals layers.parts rest_are j r goal layer here there;
        },
      ))
    where
      made : MakesRegions k k4 (z ∷ all_regions goals) (s ∷ sets_of (rank_sets k.game s) goals)
      made = makes_still k k3 k4 (z ∷ all_regions goals) (s ∷ sets_of (rank_sets k.game s) goals) layers.made forced.0.held (forced.0.jam ∙ layers.made.jam)

      are : map k4.set (z ∷ all_regions goals) ≡ s ∷ sets_of (rank_sets k.game s) goals
      are = as_held k4 (z ∷ all_regions goals) (s ∷ sets_of (rank_sets k.game s) goals) exact4 made.counted (λ w. omega (arith, made.held w))

      z_is : k4.set z ≡ s
      z_is = cc (are)

      rest_are : map k4.set (all_regions goals) ≡ sets_of (rank_sets k.game s) goals
      rest_are = cc (are)

      z3_is : k3.set z ≡ s
      z3_is = first_is k k3 z (all_regions goals) s (sets_of (rank_sets k.game s) goals) exact layers.made

  -- the layers as they stand once the given regions are spent
  pub layers_left : (k k1 k2 k3 : Kept R M) (given : List R) (sets : List StateSet) (z : R) (goals : List (Vec (SysLayer G R M) Global)) → IsExact k2 → k1.game ≡ k.game → MakesRegions k k1 given sets → HasWon k1 k2 z goals → SpendsAll k2 k3 given →
      HoldsLayers k.game k k3 z (k2.set z) goals × IsGreatest (following k.game) (k2.set z)
  layers_left k k1 k2 k3 given sets z goals exact same made won gone =
      let above = all_above k k1 k2 k3 given sets (z ∷ all_regions goals) (k2.set z ∷ sets_of (rank_sets k1.game (k2.set z)) goals) exact made won.layers.made gone in (
        subst (λ h. HoldsLayers h k k3 z (k2.set z) goals) same (record { made = above; parts = won.layers.parts; counted = won.layers.counted; greatest = won.layers.greatest }),
        subst (λ h. IsGreatest (following h) (k2.set z)) same won.greatest,
      )

-- what holds of an option's value, or where there is none, weakened
pub match_weaker : {X : Type 0} (o : Option X) (P Q : Type 0) (A B : X → Type 0) → (P → Q) → ((x : X) → A x → B x) → MatchOption o P A → MatchOption o Q B
match_weaker None P Q A B none some h = none h
match_weaker (Some x) P Q A B none some h = some x h
