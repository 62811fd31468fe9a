-- The layers of one goal, while they are made.
use Rattle.std.proofs.Common.{◌≡◌, ℕ, zero, suc, ◌+◌, ◌-◌, ◌<◌, ◌⊎◌, inl, inr, Bool, true, false, List, [], ◌∷◌, ◌++◌, length, None, vec_len, ap, sym, ◌∙◌, refl, subst, arith}
use Rattle.std.proofs.lemmas.List.{append-nil, append_assoc}
use Rattle.spec_model.specs.Games.{GameData}
use Rattle.spec_model.specs.Steps.{states_of}
use Rattle.spec_model.specs.Sets.{StateSet, no_states, both, pre_sys}
use Rattle.spec_model.specs.Counts.{count_in}
use Rattle.regions.specs.Kept.{Kept, HasRegion, HoldsBesides, IsExact}
use Rattle.gr1_law.specs.Layers.{goal_set, assumption_sets}
use Rattle.gr1_sys.specs.declared.layers.SysLayer.{SysLayer}
use Rattle.gr1_sys.specs.Solution.{layer_of}
use Rattle.gr1_sys.specs.Held.{MakesRegions, HasEach, SpendsAll, rank_sets, flatten, layer_regions, goal_regions, last_region, HaveParts, Grows, Climbs, HasClimbed}
use Rattle.gr1_sys.proofs.Lists.{as_held, set_kept, makes_both, makes_still, made_and_spent_all, each_append, length_push}
use Rattle.gr1_sys.proofs.Parted.{nothing_made}
use Rattle.gr1_sys.proofs.Popped.{goal_regions-push}
use Rattle.gr1_sys.proofs.Winning.{layer_of-more}

pub flatten-push : (sets : ℕ → List StateSet) (n : ℕ) → flatten sets (suc n) ≡ flatten sets n ++ sets n
flatten-push sets zero = append-nil (sets 0)
flatten-push sets (suc n) = ap (λ ss. sets 0 ++ ss) (flatten-push (λ r. sets (suc r)) n) ∙ sym (append_assoc (sets 0) (flatten (λ r. sets (suc r)) n) (sets (suc n)))

less_or_last : (i n : ℕ) → i < n + 1 → (i < n) ⊎ (i ≡ n)
less_or_last i n before = grind (arith, before)

module _ {R M : Type 0} where
  pub next_spent : (k k1 k2 : Kept R M) (rs : List R) (ss : List StateSet) → IsExact k1 → MakesRegions k k1 rs ss → SpendsAll k1 k2 rs → HoldsBesides k k2 [] × (k2.jam ≡ None)
  next_spent k k1 k2 rs ss exact made gone = (made_and_spent_all k k1 k1 k2 rs ss exact made (λ w. omega arith) gone, gone.jam ∙ made.jam)

module _ {G R M : Type 0} where
  pub last_region-push : (none : R) (ls : List (SysLayer G R M)) (l : SysLayer G R M) → last_region none (ls ++ l ∷ []) ≡ l.y
  last_region-push none [] l = refl
  last_region-push none (first ∷ ls) l = last_region-push first.y ls l

  pub last_region_held : (k : Kept R M) (none : R) (ls : List (SysLayer G R M)) → HasRegion k none → HasEach k (goal_regions ls) → HasRegion k (last_region none ls)
  last_region_held k none [] here each = here
  last_region_held k none (l ∷ ls) here each = let parts = each_append k (layer_regions l) (goal_regions ls) each in last_region_held k l.y ls parts.0.0 parts.1

  pub HaveParts-push : (m : ℕ) (ls : List (SysLayer G R M)) (l : SysLayer G R M) → HaveParts m ls → vec_len l.x ≡ m → HaveParts m (ls ++ l ∷ [])
  HaveParts-push m [] l parts e = (e, tt)
  HaveParts-push m (first ∷ ls) l parts e = (parts.0, HaveParts-push m ls l parts.1 e)

  -- what the next layer stands for
  pub next_is : (g : GameData) (k k1 : Kept R M) (next : SysLayer G R M) (z : StateSet) (j n : ℕ) → IsExact k1 → MakesRegions k k1 (layer_regions next) (rank_sets g z j n) → k1.set next.y ≡ layer_of g z j (suc n)
  next_is g k k1 next z j n exact made =
      let are = as_held k1 (layer_regions next) (rank_sets g z j n) exact made.counted (λ w. omega (arith, made.held w)) in
      cc

  -- the next layer was compared with the last
  pub compared : (g : GameData) (k k1 : Kept R M) (next : SysLayer G R M) (last : R) (z : StateSet) (j n : ℕ) → IsExact k1 → HasRegion k last → k.set last ≡ layer_of g z j n →
      MakesRegions k k1 (layer_regions next) (rank_sets g z j n) → (k1.set last ≡ layer_of g z j n) × (k1.set next.y ≡ layer_of g z j (suc n))
  compared g k k1 next last z j n exact here last_is made = (set_kept k k1 last exact (λ w. omega (arith, made.held w)) here ∙ last_is, next_is g k k1 next z j n exact made)

  -- ---- turn by turn

  pub climbs_first : (k : Kept R M) (none : R) (z : StateSet) (j : ℕ) (ls : List (SysLayer G R M)) → ls ≡ [] → k.jam ≡ None → k.set none ≡ no_states → Climbs k.game k k none z j ls
  climbs_first k none z j ls e free empty =
      subst (λ (qs : List (SysLayer G R M)). Climbs k.game k k none z j qs) (sym e)
      (record { made = nothing_made k [] refl free; last = empty; parts = tt; unsettled = λ r below settled. absurd (omega (arith, below)) })

  climbs_more : (g : GameData) (first k new : Kept R M) (none : R) (z : StateSet) (j : ℕ) (ls : List (SysLayer G R M)) (l : SysLayer G R M) → IsExact new → Climbs g first k none z j ls →
      MakesRegions k new (layer_regions l) (rank_sets g z j (length ls)) → vec_len l.x ≡ length (assumption_sets g) → (layer_of g z j (length ls) ≡ layer_of g z j (suc (length ls)) → ⊥) →
      Climbs g first new none z j (ls ++ l ∷ [])
  climbs_more g first k new none z j ls l exact climbs made parts differs =
      record {
        made = subst (λ (rs : List R). MakesRegions first new rs (flatten (rank_sets g z j) (length (ls ++ l ∷ [])))) (sym (goal_regions-push ls l))
            (subst (MakesRegions first new (goal_regions ls ++ layer_regions l)) (sym (ap (flatten (rank_sets g z j)) counted ∙ flatten-push (rank_sets g z j) (length ls)))
            (makes_both first k new (goal_regions ls) (layer_regions l) (flatten (rank_sets g z j) (length ls)) (rank_sets g z j (length ls)) climbs.made made));
        last = ap new.set (last_region-push none ls l) ∙ (next_is g k new l z j (length ls) exact made ∙ ap (layer_of g z j) (sym counted));
        parts = HaveParts-push (length (assumption_sets g)) ls l climbs.parts parts;
        unsettled = λ r below. by_place r (less_or_last r (length ls) (omega (arith, below, length_push ls l)));
      }
    where
      counted : length (ls ++ l ∷ []) ≡ suc (length ls)
      counted = omega (arith, length_push ls l)

      by_place : (r : ℕ) → (r < length ls) ⊎ (r ≡ length ls) → layer_of g z j r ≡ layer_of g z j (suc r) → ⊥
      by_place r (inl before) settled = climbs.unsettled r before settled
      by_place r (inr here) settled = differs (subst (λ m. layer_of g z j m ≡ layer_of g z j (suc m)) here settled)

  pub climbs_next : (g : GameData) (first k new : Kept R M) (none : R) (z : StateSet) (j : ℕ) (ls next : List (SysLayer G R M)) → IsExact new → Climbs g first k none z j ls →
      Grows g k new z j ls (length ls) next false → Climbs g first new none z j next
  climbs_next g first k new none z j ls next exact climbs grown =
      subst (λ (qs : List (SysLayer G R M)). Climbs g first new none z j qs) (sym grown.1.0) (climbs_more g first k new none z j ls grown.0 exact climbs grown.1.1.0 grown.1.1.1.0 grown.1.1.1.1)

  -- fewer states are left
  pub climbs_fewer : (g : GameData) (first k new : Kept R M) (none : R) (z : StateSet) (j : ℕ) (ls next : List (SysLayer G R M)) → IsExact new → Climbs g first k none z j ls →
      Grows g k new z j ls (length ls) next false →
      length (states_of g) - count_in (new.set (last_region none next)) (states_of g) < length (states_of g) - count_in (k.set (last_region none ls)) (states_of g)
  climbs_fewer g first k new none z j ls next exact climbs grown =
      subst (λ t. length (states_of g) - count_in (new.set (last_region none next)) (states_of g) < length (states_of g) - count_in t (states_of g)) (sym climbs.last)
      (subst (λ t. length (states_of g) - count_in t (states_of g) < length (states_of g) - count_in (layer_of g z j (length ls)) (states_of g)) (sym new_last)
      (layer_of-more g z j (length ls) grown.1.1.1.1))
    where
      new_last : new.set (last_region none next) ≡ layer_of g z j (suc (length ls))
      new_last = ap (λ (qs : List (SysLayer G R M)). new.set (last_region none qs)) grown.1.0 ∙ (ap new.set (last_region-push none ls grown.0) ∙ next_is g k new grown.0 z j (length ls) exact grown.1.1.0)

  -- the last turn
  pub climbed : (g : GameData) (first k new : Kept R M) (none : R) (z : StateSet) (j : ℕ) (ls next : List (SysLayer G R M)) → Climbs g first k none z j ls →
      Grows g k new z j ls (length ls) next true → HasClimbed g first new z j next
  climbed g first k new none z j ls next climbs grown =
      subst (λ (qs : List (SysLayer G R M)). HasClimbed g first new z j qs) (sym grown.0)
      (record {
        made = makes_still first k new (goal_regions ls) (flatten (rank_sets g z j) (length ls)) climbs.made grown.1.0 grown.1.1.0;
        parts = climbs.parts;
        greatest = record { here = grown.1.1.1; none_before = climbs.unsettled };
      })

  -- a call told of the game as it stands then
  pub grows_at : (g : GameData) (k new : Kept R M) (reach last : R) (z : StateSet) (j n : ℕ) (ls next : List (SysLayer G R M)) (b : Bool) → k.game ≡ g →
      (k.set reach ≡ both (goal_set k.game j) (pre_sys k.game z) → k.set last ≡ layer_of k.game z j n → Grows k.game k new z j ls n next b) →
      k.set reach ≡ both (goal_set g j) (pre_sys g z) → k.set last ≡ layer_of g z j n → Grows g k new z j ls n next b
  grows_at g k new reach last z j n ls next b same grown = subst (λ h. k.set reach ≡ both (goal_set h j) (pre_sys h z) → k.set last ≡ layer_of h z j n → Grows h k new z j ls n next b) same grown
