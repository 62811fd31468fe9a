-- The iterates of one inner equation, while they are made.
use Rattle.std.proofs.Common.{◌≡◌, ℕ, suc, ◌+◌, ◌-◌, ◌<◌, ◌⊎◌, inl, inr, Bool, true, false, List, [], ◌∷◌, ◌++◌, length, None, ap, sym, ◌∙◌, refl, subst, arith}
use Rattle.spec_model.specs.Games.{GameData}
use Rattle.spec_model.specs.Steps.{states_of}
use Rattle.spec_model.specs.Sets.{StateSet, no_states, all_states, IsPartOf}
use Rattle.spec_model.specs.Counts.{count_in}
use Rattle.regions.specs.Kept.{Kept, IsExact}
use Rattle.regions.proofs.Holding.{set_is}
use Rattle.gr1_sys.specs.Held.{MakesRegions}
use Rattle.gr1_sys.proofs.Lists.{makes_more, makes_still, length_push}
use Rattle.gr1_sys.proofs.Parted.{nothing_made, map_below-more}
use Rattle.gr1_env.specs.Solution.{rising, delay_on, delay_sets}
use Rattle.gr1_env.specs.Held.{last_of, Grows, HasDelays}
use Rattle.gr1_env.proofs.Gathered.{last_of-push}
use Rattle.gr1_env.proofs.Rising.{delay_on-more}

less_or_last : (i n : ℕ) → i < n + 1 → (i < n) ⊎ (i ≡ n)
less_or_last i n before = grind (arith, before)

module _ {R M : Type 0} where
  pub record Climbs (g : GameData) (old new : Kept R M) (none : R) (cover asm : StateSet) (rs : List R) : Type 0 where
    pub made : MakesRegions old new rs (delay_sets g cover asm (length rs))
    pub last : new.set (last_of none rs) ≡ delay_on g cover asm (length rs)
    pub unsettled : (r : ℕ) → r < length rs → delay_on g cover asm r ≡ delay_on g cover asm (suc r) → ⊥

  pub climbs_first : (k : Kept R M) (none : R) (cover asm : StateSet) (rs : List R) → rs ≡ [] → k.jam ≡ None → k.set none ≡ no_states → Climbs k.game k k none cover asm rs
  climbs_first k none cover asm rs e free empty =
      subst (λ (qs : List R). Climbs k.game k k none cover asm qs) (sym e)
      (record { made = nothing_made k [] refl free; last = empty; unsettled = λ r below settled. absurd (omega (arith, below)) })

  module _ (g : GameData) (first k new : Kept R M) (none : R) (cover asm : StateSet) (rs next : List R) (climbs : Climbs g first k none cover asm rs) where
    module _ (exact : IsExact new) (grown : Grows k new (delay_on g cover asm (length rs)) (delay_on g cover asm (suc (length rs))) rs next false) where
      new_last : new.set (last_of none next) ≡ delay_on g cover asm (suc (length rs))
      new_last =
          ap (λ (qs : List R). new.set (last_of none qs)) grown.1.0 ∙
          (ap new.set (last_of-push none rs grown.0) ∙ set_is new grown.0 (delay_on g cover asm (suc (length rs))) exact (λ w. omega (arith, grown.1.1.0.held w)))

      counted : length next ≡ suc (length rs)
      counted = ap (λ (qs : List R). length qs) grown.1.0 ∙ (length_push rs grown.0 ∙ omega arith)

      by_place : (r : ℕ) → (r < length rs) ⊎ (r ≡ length rs) → delay_on g cover asm r ≡ delay_on g cover asm (suc r) → ⊥
      by_place r (inl before) settled = climbs.unsettled r before settled
      by_place r (inr here) settled = grown.1.1.1 (subst (λ m. delay_on g cover asm m ≡ delay_on g cover asm (suc m)) here settled)

      sets_are : delay_sets g cover asm (length next) ≡ delay_sets g cover asm (length rs) ++ delay_on g cover asm (suc (length rs)) ∷ []
      sets_are =
          let more : length next ≡ length rs + 1 = omega (arith, counted) in
          ap (delay_sets g cover asm) more ∙ map_below-more (λ r. delay_on g cover asm (suc r)) (length rs)

      pub climbs_next : Climbs g first new none cover asm next
      climbs_next =
          record {
            made = subst (λ ss. MakesRegions first new next ss) (sym sets_are)
                (subst (λ (qs : List R). MakesRegions first new qs (delay_sets g cover asm (length rs) ++ delay_on g cover asm (suc (length rs)) ∷ [])) (sym grown.1.0)
                (makes_more first k new rs (delay_sets g cover asm (length rs)) grown.0 (delay_on g cover asm (suc (length rs))) climbs.made grown.1.1.0));
            last = new_last ∙ ap (delay_on g cover asm) (sym counted);
            unsettled = λ r below. by_place r (less_or_last r (length rs) (omega (arith, below, counted)));
          }

      pub climbs_fewer : IsPartOf cover (all_states g) →
          length (states_of g) - count_in (new.set (last_of none next)) (states_of g) < length (states_of g) - count_in (k.set (last_of none rs)) (states_of g)
      climbs_fewer proper =
          subst (λ t. length (states_of g) - count_in (new.set (last_of none next)) (states_of g) < length (states_of g) - count_in t (states_of g)) (sym climbs.last)
          (subst (λ t. length (states_of g) - count_in t (states_of g) < length (states_of g) - count_in (delay_on g cover asm (length rs)) (states_of g)) (sym new_last)
          (delay_on-more g cover asm proper (length rs) grown.1.1.1))

    -- the last turn
    pub climbed : Grows k new (delay_on g cover asm (length rs)) (delay_on g cover asm (suc (length rs))) rs next true → HasDelays g first new cover asm next
    climbed grown =
        subst (λ (qs : List R). HasDelays g first new cover asm qs) (sym grown.0)
        (record {
          made = makes_still first k new rs (delay_sets g cover asm (length rs)) climbs.made grown.1.0 grown.1.1.0;
          least = record { here = grown.1.1.1; none_before = climbs.unsettled };
        })

  -- a call told of the sets as they stand then
  pub grows_at : (g : GameData) (k new : Kept R M) (cover asm last : R) (c a t : StateSet) (rs next : List R) (b : Bool) → k.game ≡ g → k.set cover ≡ c → k.set asm ≡ a → k.set last ≡ t →
      Grows k new (k.set last) (rising k.game (k.set cover) (k.set asm) (k.set last)) rs next b → Grows k new t (rising g c a t) rs next b
  grows_at g k new cover asm last c a t rs next b game cover_is asm_is last_is grown =
      subst (λ u. Grows k new u (rising g c a u) rs next b) last_is
      (subst (λ u. Grows k new (k.set last) (rising g c u (k.set last)) rs next b) asm_is
      (subst (λ u. Grows k new (k.set last) (rising g u (k.set asm) (k.set last)) rs next b) cover_is
      (subst (λ h. Grows k new (k.set last) (rising h (k.set cover) (k.set asm) (k.set last)) rs next b) game grown)))
