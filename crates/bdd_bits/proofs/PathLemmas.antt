-- Bits, and what is fixed of them, as they stand at the levels.
use Rattle.std.proofs.Common.{◌≡◌, ◌<◌, ◌≤◌, ◌⊎◌, inl, inr, ℕ, Bool, true, false, ◌&&◌, Option, None, List, [], ◌∷◌, length, slice_index_or, refl, sym, ◌∙◌, ap, subst, arith}
use Rattle.std.proofs.lemmas.Bool.{cases_lt}
use Rattle.std.proofs.lemmas.List.{get_or_past}
use Rattle.spec_model.specs.Diagrams.{Bits, Function}
use Rattle.spec_model.specs.DiagramReads.{bits_of}
use Rattle.bdd_ops.specs.Paths.{AgreesAt, Agrees, HasNone, IsFirst}
use Rattle.bdd_ops.specs.Together.{all_of as all_over_levels}
use Rattle.bdd_bits.specs.Orders.{BitOrder, IsOrder, level_of, bit_of}
use Rattle.bdd_bits.specs.Contents.{Contents, over_levels, function_at}
use Rattle.bdd_bits.specs.Paths.{all_of}
use Rattle.bdd_bits.specs.Settling.{IsSome}
use Rattle.bdd_bits.proofs.OrderLemmas.{at-past, bit_back, level_back, level_below, bit_below}
use Rattle.bdd_bits.proofs.RenamingLemmas.{by_level}

-- all nodes are true over bits where they are over levels
pub all_by_level : (c : Contents) (ns : List ℕ) (s : Bits) → all_over_levels (over_levels c) ns (by_level c.order s) ≡ all_of c ns s
all_by_level c [] s = refl
all_by_level c (n ∷ ns) s = ap (λ (rest : Bool). function_at c n s && rest) (all_by_level c ns s)

module _ (levels : ℕ) (o : BitOrder) (is : IsOrder levels o) where
  -- what stands at each level is the bit of its bit
  pub bits_by_level : (bits placed : List Bool) → length bits ≡ levels → length placed ≡ levels → ((level : ℕ) → level < levels → slice_index_or placed level false ≡ slice_index_or bits (bit_of o level) false) → by_level o (bits_of bits) ≡ bits_of placed
  bits_by_level bits placed each placed_each written = λ i level. by_cases level (cases_lt level levels) i
    where
      by_cases : (level : ℕ) → (level < levels) ⊎ (levels ≤ level) → bits_of bits (bit_of o level) ≡ bits_of placed level
      by_cases level (inl below) = sym (written level below)
      by_cases level (inr past) =
          ap (bits_of bits) (at-past o.names level (omega (arith, past, is.names_each))) ∙ (get_or_past bits level false (omega (arith, past, each)) ∙ sym (get_or_past placed level false (omega (arith, past, placed_each))))

  -- what stands for each bit is what is at its level
  pub levels_by_bit : (bits placed : List Bool) → length bits ≡ levels → length placed ≡ levels → ((bit : ℕ) → bit < levels → slice_index_or bits bit false ≡ slice_index_or placed (level_of o bit) false) → by_level o (bits_of bits) ≡ bits_of placed
  levels_by_bit bits placed each placed_each written =
      bits_by_level bits placed each placed_each (λ level below. sym (written (bit_of o level) (bit_below levels o is level below) ∙ ap (bits_of placed) (level_back levels o is level)))

  module _ (fixed placed : List (Option Bool)) (each : length fixed ≡ levels) (placed_each : length placed ≡ levels) (written : (level : ℕ) → level < levels → slice_index_or placed level None ≡ slice_index_or fixed (bit_of o level) None) where
    -- bits that agree with what is fixed of them do as they stand at the levels
    pub agrees_by_level : (s : Bits) → Agrees fixed 0 s → Agrees placed 0 (by_level o s)
    agrees_by_level s agrees level from = by_cases (cases_lt level levels)
      where
        by_cases : (level < levels) ⊎ (levels ≤ level) → AgreesAt (slice_index_or placed level None) (s (bit_of o level))
        by_cases (inl below) = subst (λ (f : Option Bool). AgreesAt f (s (bit_of o level))) (sym (written level below)) (agrees (bit_of o level) (omega arith))
        by_cases (inr past) = subst (λ (f : Option Bool). AgreesAt f (s (bit_of o level))) (sym (get_or_past placed level None (omega (arith, past, placed_each)))) tt

    -- and back
    pub agrees_by_bit : (s : Bits) → Agrees placed 0 (by_level o s) → Agrees fixed 0 s
    agrees_by_bit s agrees bit from = by_cases (cases_lt bit levels)
      where
        by_cases : (bit < levels) ⊎ (levels ≤ bit) → AgreesAt (slice_index_or fixed bit None) (s bit)
        by_cases (inl below) =
            let there = agrees (level_of o bit) (omega arith) in
            let same : slice_index_or placed (level_of o bit) None ≡ slice_index_or fixed bit None = written (level_of o bit) (level_below levels o is bit below) ∙ ap (λ (b : ℕ). slice_index_or fixed b None) (bit_back levels o is bit) in
            subst (λ (f : Option Bool). AgreesAt f (s bit)) same (subst (λ (b : ℕ). AgreesAt (slice_index_or placed (level_of o bit) None) (s b)) (bit_back levels o is bit) there)
        by_cases (inr past) = subst (λ (f : Option Bool). AgreesAt f (s bit)) (sym (get_or_past fixed bit None (omega (arith, past, each)))) tt

-- the first bits over levels are some bits
pub some_by_level : (c : Contents) (levels : ℕ) → IsOrder levels c.order → (fixed placed : List (Option Bool)) (bits by : List Bool) (ns : List ℕ) (count : ℕ) → length fixed ≡ levels → length placed ≡ levels →
    ((level : ℕ) → level < levels → slice_index_or placed level None ≡ slice_index_or fixed (bit_of c.order level) None) → length bits ≡ levels → length by ≡ levels →
    ((bit : ℕ) → bit < levels → slice_index_or bits bit false ≡ slice_index_or by (level_of c.order bit) false) → IsFirst placed (all_over_levels (over_levels c) ns) 0 count (bits_of by) → IsSome fixed (all_of c ns) (bits_of bits)
some_by_level c levels is fixed placed bits by ns count each placed_each written bits_each by_each read first =
    let same : by_level c.order (bits_of bits) ≡ bits_of by = levels_by_bit levels c.order is bits by bits_each by_each read in
    record {
      agrees = agrees_by_bit levels c.order is fixed placed each placed_each written (bits_of bits) (subst (Agrees placed 0) (sym same) first.agrees);
      true_there = sym (all_by_level c ns (bits_of bits)) ∙ (ap (all_over_levels (over_levels c) ns) same ∙ first.true_there);
    }

-- where none are over levels, none are
pub none_by_level : (c : Contents) (levels : ℕ) → IsOrder levels c.order → (fixed placed : List (Option Bool)) (ns : List ℕ) → length fixed ≡ levels → length placed ≡ levels →
    ((level : ℕ) → level < levels → slice_index_or placed level None ≡ slice_index_or fixed (bit_of c.order level) None) → HasNone placed (all_over_levels (over_levels c) ns) 0 → HasNone fixed (all_of c ns) 0
none_by_level c levels is fixed placed ns each placed_each written none t agrees true_there =
    none (by_level c.order t) (agrees_by_level levels c.order is fixed placed each placed_each written t agrees) (all_by_level c ns t ∙ true_there)
