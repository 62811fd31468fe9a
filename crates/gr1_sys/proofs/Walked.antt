-- Reading the regions of layers, one after the other, changes nothing.
use Rattle.std.proofs.Common.{◌≡◌, ℕ, zero, suc, ◌<◌, List, [], ◌∷◌, length, get_or, Vec, ◌∙◌, subst, sym, arith}
use Rattle.std.specs.declared.alloc.Global.{Global}
use Rattle.regions.specs.Kept.{Kept, HasRegion, Stays, IsExact}
use Rattle.gr1_sys.specs.declared.layers.SysLayer.{SysLayer}
use Rattle.gr1_sys.specs.Held.{HasEach, HasTogether, layer_regions, goal_regions, all_regions}
use Rattle.gr1_sys.proofs.Lists.{one_of, region_stays, each_stays, together_stays, each_append}
use Rattle.gr1_sys.proofs.Turned.{each_goal}

module _ {R M : Type 0} where
  pub stays_then : (a b c : Kept R M) → Stays a b → Stays b c → Stays a c
  stays_then a b c first second = record { held = λ w. omega (arith, first.held w, second.held w); jam = second.jam ∙ first.jam }

  pub each_still : (old new : Kept R M) (rs : List R) → Stays old new → HasEach old rs → HasEach new rs
  each_still old new rs stays each = each_stays old new rs (λ w. omega (arith, stays.held w)) each

  pub together_still : (old new : Kept R M) (rs : List R) → IsExact new → Stays old new → HasTogether old rs → HasTogether new rs
  together_still old new rs exact stays held = together_stays old new rs exact (λ w. omega (arith, stays.held w)) held

  -- one of several
  pub one_still : (old new : Kept R M) (rs : List R) (i : ℕ) (r : R) → Stays old new → HasEach old rs → i < length rs → r ≡ get_or rs i r → HasRegion new r
  one_still old new rs i r stays each before is = region_stays old new r (λ w. omega (arith, stays.held w)) (one_of old rs i r each before is)

module _ {G R M : Type 0} where
  each_layer : (k : Kept R M) (ls : List (SysLayer G R M)) (i : ℕ) (d : SysLayer G R M) → HasEach k (goal_regions ls) → i < length ls → HasEach k (layer_regions (get_or ls i d))
  each_layer k [] i d each before = absurd (omega arith)
  each_layer k (l ∷ ls) zero d each before = (each_append k (layer_regions l) (goal_regions ls) each).0
  each_layer k (l ∷ ls) (suc i) d each before = each_layer k ls i d (each_append k (layer_regions l) (goal_regions ls) each).1 (omega arith)

  -- one of the layers of a goal
  pub layer_still : (old new : Kept R M) (ls : List (SysLayer G R M)) (i : ℕ) (l : SysLayer G R M) → Stays old new → HasEach old (goal_regions ls) → i < length ls → l ≡ get_or ls i l → HasEach new (layer_regions l)
  layer_still old new ls i l stays each before is =
      each_still old new (layer_regions l) stays (subst (λ (p : SysLayer G R M). HasEach old (layer_regions p)) (sym is) (each_layer old ls i l each before))

  -- the layers of one of the goals
  pub goal_still : (old new : Kept R M) (vs : List (Vec (SysLayer G R M) Global)) (j : ℕ) (v : Vec (SysLayer G R M) Global) → Stays old new → HasEach old (all_regions vs) → j < length vs → v ≡ get_or vs j v → HasEach new (goal_regions v.items)
  goal_still old new vs j v stays each before is =
      each_still old new (goal_regions v.items) stays (subst (λ (p : Vec (SysLayer G R M) Global). HasEach old (goal_regions p.items)) (sym is) (each_goal old vs j v each before))
