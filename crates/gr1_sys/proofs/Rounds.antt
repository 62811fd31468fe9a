-- What is held after one value of Z was looked at.
use Rattle.std.proofs.Common.{◌≡◌, ℕ, ◌+◌, List, [], ◌∷◌, map, sym, ◌∙◌, subst, arith}
use Rattle.spec_model.specs.Sets.{StateSet}
use Rattle.regions.specs.Kept.{Kept, Item, Region, Meaning, States, weight, HasRegion, HoldsBesides, MakesRegion, Spends, Stays, IsExact}
use Rattle.regions.proofs.Holding.{set_is, spent}
use Rattle.gr1_sys.specs.Held.{weight_as, MakesRegions, HasTogether, SpendsAll, HoldsWithoutAll}
use Rattle.gr1_sys.proofs.Lists.{weight_as-more, length_map, as_held, set_kept, together_as, spent_as}

module _ {R M : Type 0} where
  more_than : (k k1 : Kept R M) (r : R) (rs : List R) (s : StateSet) (ss : List StateSet) → MakesRegions k k1 (r ∷ rs) (s ∷ ss) → (w : Item R M → Meaning → ℕ) → weight k1 w ≡ w (Region r) (States s) + weight_as rs ss w + weight k w
  more_than k k1 r rs s ss made w = omega (arith, made.held w, weight_as-more r rs s ss w)

  pub first_held : (k k1 : Kept R M) (r : R) (rs : List R) (s : StateSet) (ss : List StateSet) → MakesRegions k k1 (r ∷ rs) (s ∷ ss) → HasRegion k1 r
  first_held k k1 r rs s ss made w = omega (arith, more_than k k1 r rs s ss made (λ i m. w i))

  pub first_is : (k k1 : Kept R M) (r : R) (rs : List R) (s : StateSet) (ss : List StateSet) → IsExact k1 → MakesRegions k k1 (r ∷ rs) (s ∷ ss) → k1.set r ≡ s
  first_is k k1 r rs s ss exact made = set_is k1 r s exact (λ w. omega (arith, more_than k k1 r rs s ss made w))

  pub others_together : (k k1 : Kept R M) (r : R) (rs : List R) (s : StateSet) (ss : List StateSet) → IsExact k1 → MakesRegions k k1 (r ∷ rs) (s ∷ ss) → HasTogether k1 rs
  others_together k k1 r rs s ss exact made = together_as k1 rs ss exact (let e = made.counted in omega arith) (λ w. omega (arith, more_than k k1 r rs s ss made w))

  -- the first is spent
  pub others_left : (k k1 k2 : Kept R M) (r : R) (rs : List R) (s : StateSet) (ss : List StateSet) → IsExact k1 → MakesRegions k k1 (r ∷ rs) (s ∷ ss) → Spends k1 k2 (Region r) → MakesRegions k k2 rs ss
  others_left k k1 k2 r rs s ss exact made gone =
      let left = spent k1 k2 r s exact gone (λ w. omega (arith, more_than k k1 r rs s ss made w)) in
      record { held = λ w. omega (arith, left w, more_than k k1 r rs s ss made w); counted = (let e = made.counted in omega arith); jam = gone.jam ∙ made.jam }

  -- the others are spent
  pub first_left : (k k1 k2 : Kept R M) (r : R) (rs : List R) (s : StateSet) (ss : List StateSet) → IsExact k1 → MakesRegions k k1 (r ∷ rs) (s ∷ ss) → SpendsAll k1 k2 rs → MakesRegion k k2 r s
  first_left k k1 k2 r rs s ss exact made gone =
      let left = spent_as k1 k2 rs ss exact (let e = made.counted in omega arith) (λ w. omega (arith, more_than k k1 r rs s ss made w)) gone in
      record { held = λ w. omega (arith, left w, more_than k k1 r rs s ss made w); jam = gone.jam ∙ made.jam }

  -- the old value and the next were compared
  pub compared : (k k1 : Kept R M) (z next : R) (rs : List R) (s : StateSet) (ss : List StateSet) → IsExact k1 → HasRegion k z → MakesRegions k k1 (next ∷ rs) (s ∷ ss) → (k1.set z ≡ k.set z) × (k1.set next ≡ s)
  compared k k1 z next rs s ss exact here made = (set_kept k k1 z exact (λ w. omega (arith, more_than k k1 next rs s ss made w)) here, first_is k k1 next rs s ss exact made)

  -- ---- spent after it was asked

  pub without_later : (k k1 k2 : Kept R M) (rs : List R) → IsExact k1 → HasTogether k rs → HoldsBesides k k1 [] → HoldsWithoutAll k1 k2 rs → HoldsWithoutAll k k2 rs
  without_later k k1 k2 rs exact held nothing left =
      let are = as_held k1 rs (map k.set rs) exact (sym (length_map k.set rs)) (λ w. omega (arith, held w, nothing w)) in
      let gone = subst (λ ts. (w : Item R M → Meaning → ℕ) → weight k2 w + weight_as rs ts w ≡ weight k1 w) are left in
      λ w. omega (arith, gone w, nothing w)

  pub spent_later : (k k1 k2 : Kept R M) (rs : List R) → IsExact k1 → HasTogether k rs → Stays k k1 → SpendsAll k1 k2 rs → SpendsAll k k2 rs
  spent_later k k1 k2 rs exact held stays gone = record { held = without_later k k1 k2 rs exact held stays.held gone.held; jam = gone.jam ∙ stays.jam }
