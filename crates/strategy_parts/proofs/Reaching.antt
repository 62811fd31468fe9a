-- The first of several regions that has a state.
use Rattle.std.proofs.Common.{◌≡◌, ℕ, ◌+◌, ◌<◌, ◌≤◌, ◌⊎◌, inl, inr, Bool, true, false, List, length, get_or, ap, sym, ◌∙◌, subst, arith, IsTrue}
use Rattle.std.proofs.lemmas.Bool.{false≢true}
use Rattle.spec_model.specs.declared.value.Value.{Value}
use Rattle.spec_model.specs.Games.{GameData, State, listed}
use Rattle.spec_model.specs.Steps.{is_state}
use Rattle.spec_model.specs.Sets.{StateSet}
use Rattle.regions.specs.Kept.{Kept, Region, States, HasRegion, IsExact, Stays, IsSameGame}
use Rattle.regions.proofs.Holding.{set_is}
use Rattle.gr1_law.specs.Layers.{IsLeastNumber}
use Rattle.strategy_parts.specs.Owned.{RegionsAre, AreSomewhere}
use Rattle.strategy_parts.proofs.Holdings.{held_stays, has_region, region_at}

pub next_or_here : (n r : ℕ) → n ≤ r → (n + 1 ≤ r) ⊎ (n ≡ r)
next_or_here n r le = grind (arith, le)

module _ {R M : Type 0} (first k : Kept R M) (exact : IsExact k) (stays : Stays first k) (same : IsSameGame first k) where
  module _ (rs : List R) (n : ℕ) (below : n < length rs) (r : R) (is : r ≡ get_or rs n r) where
    pub region_held : AreSomewhere first rs → HasRegion k r
    region_held some = has_region k r (States (some.0 n)) (held_stays first k (Region r) (States (some.0 n)) stays (region_at first rs some.0 some.1 n below r is))

    pub has_at : (sets : ℕ → StateSet) (s : State) (values : List Value) (answer : Bool) →
        ((s : State) → is_state k.game s ≡ true → listed s ≡ values → answer ≡ k.set r s) →
        RegionsAre first rs sets → is_state first.game s ≡ true → listed s ≡ values → answer ≡ sets n s
    has_at sets s values answer call are inside lists =
        call s (subst (λ (g : GameData). is_state g s ≡ true) (sym same.game) inside) lists
        ∙ ap (λ (t : StateSet). t s) (set_is k r (sets n) exact (held_stays first k (Region r) (States (sets n)) stays (region_at first rs sets are n below r is)))

-- ---- the least of several sets that has a state

module _ (sets : ℕ → StateSet) (s : State) (i n : ℕ) (least : IsLeastNumber (λ m. IsTrue (sets m s)) i) (le : n ≤ i) where
  pub later_part : (answer : Bool) → answer ≡ false → answer ≡ sets n s → n + 1 ≤ i
  later_part answer not_so is =
      elim (next_or_here n i le) [
        | inl more ↦ more
        | inr here ↦ absurd (false≢true (sym not_so ∙ (is ∙ (ap (λ (m : ℕ). sets m s) here ∙ least.here))))
      ]

  pub this_part : (answer : Bool) → answer ≡ true → answer ≡ sets n s → n ≡ i
  this_part answer so is =
      elim (next_or_here n i le) [
        | inl more ↦ absurd (least.none_before n (omega (arith, more)) (sym is ∙ so))
        | inr here ↦ here
      ]
