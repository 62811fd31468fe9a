-- The iterates of an inner equation rise to the least set that it allows, and grow with what it covers.
use Rattle.std.proofs.Common.{◌≡◌, ℕ, zero, suc, ◌-◌, ◌<◌, length, refl, arith}
use Rattle.std.proofs.lemmas.Bool.{and_parts}
use Rattle.spec_model.specs.Games.{GameData}
use Rattle.spec_model.specs.Steps.{states_of}
use Rattle.spec_model.specs.Sets.{StateSet, all_states, either, pre_env, IsPartOf}
use Rattle.spec_model.specs.Counts.{count_in}
use Rattle.spec_model.proofs.SetLaws.{pre_env_grows}
use Rattle.spec_model.proofs.Fixpoints.{IsRising, rising-more}
use Rattle.gr1_sys.proofs.Greatest.{count_at_most, up-rises, up-last, up-in_last}
use Rattle.gr1_sys.proofs.Winning.{both_grows, either_grows}
use Rattle.gr1_env.specs.Solution.{rising, delay_on, last_delay_on}

module _ (g : GameData) (asm : StateSet) where
  -- an iterate grows with what the equation covers
  pub rising-both : (c d t u : StateSet) → IsPartOf c d → IsPartOf t u → IsPartOf (rising g c asm t) (rising g d asm u)
  rising-both c d t u cover part =
      both_grows (either (pre_env g t) asm) c (either (pre_env g u) asm) d (either_grows (pre_env g t) asm (pre_env g u) asm (pre_env_grows g t u part) (λ s e. e)) cover

  pub delay_on-grows : (c d : StateSet) → IsPartOf c d → (r : ℕ) → IsPartOf (delay_on g c asm r) (delay_on g d asm r)
  delay_on-grows c d cover zero s e = e
  delay_on-grows c d cover (suc r) s e = rising-both c d (delay_on g c asm r) (delay_on g d asm r) cover (delay_on-grows c d cover r) s e

  pub last_delay_on-grows : (c d : StateSet) → IsPartOf c d → IsPartOf (last_delay_on g c asm) (last_delay_on g d asm)
  unfolding last_delay_on
  last_delay_on-grows c d cover = delay_on-grows c d cover (length (states_of g))

module _ (g : GameData) (cover asm : StateSet) (proper : IsPartOf cover (all_states g)) where
  rising-grows : (t u : StateSet) → IsPartOf t u → IsPartOf (rising g cover asm t) (rising g cover asm u)
  rising-grows t u part = rising-both g asm cover cover t u (λ s e. e) part

  rising-inside : (t : StateSet) → IsPartOf (rising g cover asm t) (all_states g)
  rising-inside t s e = proper s (and_parts (either (pre_env g t) asm s) (cover s) e).1

  delay_on-rises : (r : ℕ) → IsRising g (rising g cover asm) (delay_on g cover asm r)
  delay_on-rises = up-rises g (rising g cover asm) rising-grows rising-inside (delay_on g cover asm) refl (λ n. refl)

  -- where an iterate equals the next it is the last
  pub delay_on-last : (r : ℕ) → delay_on g cover asm r ≡ delay_on g cover asm (suc r) → delay_on g cover asm r ≡ last_delay_on g cover asm
  unfolding last_delay_on
  delay_on-last r settled = up-last g (rising g cover asm) rising-grows rising-inside (delay_on g cover asm) refl (λ n. refl) r settled

  pub delay_on-in_last : (r : ℕ) → IsPartOf (delay_on g cover asm r) (last_delay_on g cover asm)
  unfolding last_delay_on
  delay_on-in_last = up-in_last g (rising g cover asm) rising-grows rising-inside (delay_on g cover asm) refl (λ n. refl)

  -- else the next has more states
  pub delay_on-more : (r : ℕ) → (delay_on g cover asm r ≡ delay_on g cover asm (suc r) → ⊥) →
      length (states_of g) - count_in (delay_on g cover asm (suc r)) (states_of g) < length (states_of g) - count_in (delay_on g cover asm r) (states_of g)
  delay_on-more r unsettled =
      let more = rising-more g (rising g cover asm) rising-grows rising-inside (delay_on g cover asm r) (delay_on-rises r) unsettled in
      let bound = count_at_most (delay_on g cover asm (suc r)) (states_of g) in
      omega (arith, more, bound)
