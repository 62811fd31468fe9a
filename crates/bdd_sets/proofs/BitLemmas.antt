-- The bits that are written for a state are those of the state.
use Rattle.std.proofs.Common.{◌≡◌, ℕ, zero, suc, ◌+◌, ◌-◌, ◌^◌, ◌<◌, ◌≤◌, Bool, true, false, nat_le, List, length, refl, ◌∙◌, arith, ◌⊎◌, inl, inr}
use Rattle.spec_model.specs.declared.value.Value.{Value}
use Rattle.spec_model.specs.Values.{DomainData}
use Rattle.spec_model.specs.Diagrams.{Bits, with_bit}
use Rattle.spec_model.specs.Games.{GameData, State, listed}
use Rattle.bdd_ops.proofs.FunctionLemmas.{with_bit-same, with_bit-other}
use Rattle.game_values.specs.declared.seen.At.{At}
use Rattle.bit_compile.specs.Domains.{state_domains}
use Rattle.bit_compile.specs.Codes.{has_number, level_at, width_at, code_at}
use Rattle.bit_compile.proofs.NumberLemmas.{has_number-same}
use Rattle.bit_compile.proofs.SlotLemmas.{earlier_before}
use Rattle.bdd_sets.specs.StateBits.{with_number, with_values, bits_for, HasState}

-- outside its levels a number leaves the bits
pub with_number-outside : (level w n m : ℕ) (s : Bits) → (m < level) ⊎ (level + w ≤ m) → with_number level w n s m ≡ s m
with_number-outside level zero n m s out = refl
with_number-outside level (suc w) n m s out = at (nat_le (2 ^ w) n) refl (with_number-outside (suc level) w (n - 2 ^ w) m (with_bit s level true)) (with_number-outside (suc level) w n m (with_bit s level false))
  where
    after : (m < suc level) ⊎ (suc level + w ≤ m)
    after = grind arith

    apart : m ≡ level → ⊥
    apart e = grind arith

    at : (b : Bool) → nat_le (2 ^ w) n ≡ b → ((m < suc level) ⊎ (suc level + w ≤ m) → with_number (suc level) w (n - 2 ^ w) (with_bit s level true) m ≡ with_bit s level true m) → ((m < suc level) ⊎ (suc level + w ≤ m) → with_number (suc level) w n (with_bit s level false) m ≡ with_bit s level false m) → with_number level (suc w) n s m ≡ s m
    at true e high low = rw e (high after ∙ with_bit-other s level m true apart)
    at false e high low = rw e (low after ∙ with_bit-other s level m false apart)

-- a number that is written has its digits
pub with_number-has : (level w n : ℕ) (s : Bits) → has_number level w n (with_number level w n s) ≡ true
with_number-has level zero n s = refl
with_number-has level (suc w) n s = at (nat_le (2 ^ w) n) refl (with_number-has (suc level) w (n - 2 ^ w) (with_bit s level true)) (with_number-has (suc level) w n (with_bit s level false))
  where
    at : (b : Bool) → nat_le (2 ^ w) n ≡ b → has_number (suc level) w (n - 2 ^ w) (with_number (suc level) w (n - 2 ^ w) (with_bit s level true)) ≡ true → has_number (suc level) w n (with_number (suc level) w n (with_bit s level false)) ≡ true → has_number level (suc w) n (with_number level (suc w) n s) ≡ true
    at true e high low =
        let here : with_number (suc level) w (n - 2 ^ w) (with_bit s level true) level ≡ true = with_number-outside (suc level) w (n - 2 ^ w) level (with_bit s level true) (inl (omega arith)) ∙ with_bit-same s level true in
        rw e (rw here high)
    at false e high low =
        let here : with_number (suc level) w n (with_bit s level false) level ≡ false = with_number-outside (suc level) w n level (with_bit s level false) (inl (omega arith)) ∙ with_bit-same s level false in
        rw e (rw here low)

pub with_values-has : (ds : List DomainData) (at : At) (vs : List Value) (k j : ℕ) (s : Bits) → k ≤ length ds → j < k → has_number (level_at ds at j) (width_at ds j) (code_at ds vs j) (with_values ds at vs k s) ≡ true
with_values-has ds at vs zero j s small less = absurd (omega arith)
with_values-has ds at vs (suc k) j s small less = by_cases order (with_values-has ds at vs k j s)
  where
    order : (j < k) ⊎ (j ≡ k)
    order = grind arith

    by_cases : (j < k) ⊎ (j ≡ k) → (k ≤ length ds → j < k → has_number (level_at ds at j) (width_at ds j) (code_at ds vs j) (with_values ds at vs k s) ≡ true) → has_number (level_at ds at j) (width_at ds j) (code_at ds vs j) (with_values ds at vs (suc k) s) ≡ true
    by_cases (inl before) so_far =
        let apart = earlier_before ds at j k before (omega arith) in
        has_number-same (level_at ds at j) (width_at ds j) (code_at ds vs j) _ (with_values ds at vs k s) (λ m low high. with_number-outside (level_at ds at k) (width_at ds k) (code_at ds vs k) m (with_values ds at vs k s) (inl (omega (arith, apart, high)))) ∙ so_far (omega arith) before
    by_cases (inr here) so_far = rw here (with_number-has (level_at ds at k) (width_at ds k) (code_at ds vs k) (with_values ds at vs k s))

-- a state has its bits
pub has_bits : (g : GameData) (at : At) (s : State) → HasState g at s (bits_for g at s)
unfolding bits_for
has_bits g at s k known = with_values-has (state_domains g) at (listed s) (length (state_domains g)) k (λ level. false) (omega arith) known
