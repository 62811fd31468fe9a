-- The bits of a state, written slot by slot.
use Rattle.std.proofs.Common.{◌≡◌, ℕ, ◌+◌, ◌<◌, Bool, true, false, List, length, get_or, ◌∙◌, arith, ◌⊎◌, inl, inr}
use Rattle.spec_model.specs.declared.value.Value.{Value}
use Rattle.spec_model.specs.Values.{DomainData}
use Rattle.spec_model.specs.DiagramReads.{bits_of}
use Rattle.game_values.specs.declared.seen.At.{At}
use Rattle.bit_compile.specs.Codes.{has_number, level_at, width_at, code_at, HasValues}
use Rattle.bit_compile.specs.Laid.{IsOutside}
use Rattle.bit_compile.proofs.NumberLemmas.{has_number-same}
use Rattle.bit_compile.proofs.SlotLemmas.{earlier_before, others_outside}

module _ (ds : List DomainData) (at : At) where
  -- the slots before this one have the bits of these values
  abbrev pub HasBefore : List Value → ℕ → List Bool → Type 0
  HasBefore vs k bits = (j : ℕ) → j < k → has_number (level_at ds at j) (width_at ds j) (code_at ds vs j) (bits_of bits) ≡ true

  -- outside the slot numbered k the bits stay
  abbrev pub KeepsOutside : ℕ → List Bool → List Bool → Type 0
  KeepsOutside k old new = (m : ℕ) → IsOutside ds at k m → get_or new m false ≡ get_or old m false

  -- outside all slots they stay
  abbrev pub KeepsOthers : List Bool → List Bool → Type 0
  KeepsOthers old new = (m : ℕ) → ((j : ℕ) → j < length ds → IsOutside ds at j m) → get_or new m false ≡ get_or old m false

  pub one_written : (vs : List Value) (k : ℕ) (old new : List Bool) → k < length ds → HasBefore vs k old → has_number (level_at ds at k) (width_at ds k) (code_at ds vs k) (bits_of new) ≡ true → KeepsOutside k old new → HasBefore vs (k + 1) new
  one_written vs k old new known before here keeps j h = by_cases order
    where
      order : (j < k) ⊎ (j ≡ k)
      order = grind arith

      by_cases : (j < k) ⊎ (j ≡ k) → has_number (level_at ds at j) (width_at ds j) (code_at ds vs j) (bits_of new) ≡ true
      by_cases (inl less) =
          let apart = earlier_before ds at j k less known in
          has_number-same (level_at ds at j) (width_at ds j) (code_at ds vs j) (bits_of new) (bits_of old) (λ m low high. keeps m (inl (omega (arith, apart, high)))) ∙ before j less
      by_cases (inr same) = rw same here

  pub one_kept : (k : ℕ) (first old new : List Bool) → k < length ds → KeepsOthers first old → KeepsOutside k old new → KeepsOthers first new
  one_kept k first old new known others keeps m outside = keeps m (outside k known) ∙ others m outside

  pub other_stays : (other : At) (vs : List Value) (old new : List Bool) → (other ≡ at → ⊥) → KeepsOthers old new → HasValues ds other vs (bits_of old) → HasValues ds other vs (bits_of new)
  other_stays other vs old new differ others has k known =
      has_number-same (level_at ds other k) (width_at ds k) (code_at ds vs k) (bits_of new) (bits_of old) (λ m low high. others m (λ j below. others_outside ds at other k j m differ known below low high)) ∙ has k known
