-- Regions that are spent one after the other, from the last.
use Rattle.std.proofs.Common.{◌≡◌, ℕ, ◌+◌, List, [], ◌∷◌, ◌++◌, map, Vec, vec_len, ap, sym, ◌∙◌, arith}
use Rattle.std.proofs.lemmas.List.{append_assoc, append-nil, nil_from_length}
use Rattle.std.specs.declared.alloc.Global.{Global}
use Rattle.regions.specs.Kept.{Kept, Item, Region, Meaning, weight, HasRegion, Spends, IsExact}
use Rattle.gr1_sys.specs.declared.layers.SysLayer.{SysLayer}
use Rattle.gr1_sys.specs.Held.{weight_as, HasTogether, SpendsAll, layer_regions, goal_regions, all_regions}
use Rattle.gr1_sys.proofs.Lists.{weight_as-one, weight_as-none, weight_as-more, weight_as_map-append, length_map, together_as, spent_as}

module _ {R M : Type 0} where
  -- what is held besides what is left was held at first but for what was given
  abbrev pub IsLeft : Kept R M → Kept R M → List R → List R → Type 0
  IsLeft first k given left = (w : Item R M → Meaning → ℕ) → weight k w + weight_as given (map first.set given) w ≡ weight first w + weight_as left (map first.set left) w

  pub last_together : (first k : Kept R M) (given left last : List R) → IsExact k → HasTogether first given → IsLeft first k given (left ++ last) → HasTogether k last
  last_together first k given left last exact held is_left =
      together_as k last (map first.set last) exact (sym (length_map first.set last)) (λ w. omega (arith, held w, is_left w, weight_as_map-append first.set left last w))

  pub last_spent : (first k new : Kept R M) (given left last : List R) → IsExact k → HasTogether first given → IsLeft first k given (left ++ last) → SpendsAll k new last → IsLeft first new given left
  last_spent first k new given left last exact held is_left gone =
      let spent = spent_as k new last (map first.set last) exact (sym (length_map first.set last)) (λ w. omega (arith, held w, is_left w, weight_as_map-append first.set left last w)) gone in
      λ w. omega (arith, spent w, is_left w, weight_as_map-append first.set left last w)

  pub all_spent : (first k : Kept R M) (given : List R) → IsLeft first k given [] → k.jam ≡ first.jam → SpendsAll first k given
  all_spent first k given is_left jam = record { held = λ w. omega (arith, is_left w, weight_as-none {R = R} {M = M} w); jam = jam }

  -- a list of one
  pub one_together : (k : Kept R M) (r : R) → HasTogether k (r ∷ []) → HasRegion k r
  one_together k r held w = omega (arith, held (λ i m. w i), weight_as-one r (k.set r) (λ i m. w i))

  pub one_spent : (old new : Kept R M) (r : R) → Spends old new (Region r) → SpendsAll old new (r ∷ [])
  one_spent old new r gone = record { held = λ w. omega (arith, gone.held w, weight_as-one r (old.set r) w); jam = gone.jam }

  -- the first of several, and the others
  pub first_together : (k : Kept R M) (r : R) (rs : List R) → HasTogether k (r ∷ rs) → HasRegion k r
  first_together k r rs held w = omega (arith, held (λ i m. w i), weight_as-more r rs (k.set r) (map k.set rs) (λ i m. w i))

  pub rest_together : (k new : Kept R M) (r : R) (rs : List R) → IsExact new → HasTogether k (r ∷ rs) → Spends k new (Region r) → HasTogether new rs
  rest_together k new r rs exact held gone =
      together_as new rs (map k.set rs) exact (sym (length_map k.set rs)) (λ w. omega (arith, held w, gone.held w, weight_as-more r rs (k.set r) (map k.set rs) w))

  pub first_and_rest : (k new last : Kept R M) (r : R) (rs : List R) → IsExact new → HasTogether k (r ∷ rs) → Spends k new (Region r) → SpendsAll new last rs → SpendsAll k last (r ∷ rs)
  first_and_rest k new last r rs exact held gone others =
      let left = spent_as new last rs (map k.set rs) exact (sym (length_map k.set rs)) (λ w. omega (arith, held w, gone.held w, weight_as-more r rs (k.set r) (map k.set rs) w)) others in
      record { held = λ w. omega (arith, left w, gone.held w, weight_as-more r rs (k.set r) (map k.set rs) w); jam = others.jam ∙ gone.jam }

-- a vector of no length has no items
pub none_left : {X : Type 0} (v : Vec X Global) → vec_len v ≡ 0 → v.items ≡ []
none_left v e = nil_from_length v.items (omega arith)

module _ {G R M : Type 0} where
  pub goal_regions-push : (ls : List (SysLayer G R M)) (l : SysLayer G R M) → goal_regions (ls ++ l ∷ []) ≡ goal_regions ls ++ layer_regions l
  goal_regions-push [] l = append-nil (layer_regions l)
  goal_regions-push (first ∷ ls) l = ap (λ rs. layer_regions first ++ rs) (goal_regions-push ls l) ∙ sym (append_assoc (layer_regions first) (goal_regions ls) (layer_regions l))

  pub all_regions-push : (vs : List (Vec (SysLayer G R M) Global)) (v : Vec (SysLayer G R M) Global) → all_regions (vs ++ v ∷ []) ≡ all_regions vs ++ goal_regions v.items
  all_regions-push [] v = append-nil (goal_regions v.items)
  all_regions-push (first ∷ vs) v = ap (λ rs. goal_regions first.items ++ rs) (all_regions-push vs v) ∙ sym (append_assoc (goal_regions first.items) (all_regions vs) (goal_regions v.items))
