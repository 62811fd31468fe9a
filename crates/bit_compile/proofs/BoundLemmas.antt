-- The codes of values are the numbers below how many values there are.
use Rattle.std.proofs.Common.{◌≡◌, ℕ, zero, suc, ◌+◌, ◌-◌, ◌^◌, ◌<◌, ◌≤◌, ℤ, pos, ◌+ℤ◌, ◌-ℤ◌, ◌≤ℤ◌, nat_abs, int_le, nat_le, nat_lt, Bool, true, false, not, ◌&&◌, ◌||◌, cond, List, [], ◌∷◌, map, drop, length, get_or, refl, sym, ◌∙◌, ap, subst, arith}
use Rattle.std.proofs.lemmas.Bool.Decides.{nat_tests}
use Rattle.std.proofs.lemmas.Int.{ints}
use Rattle.std.proofs.lemmas.List.Folds.{list_any_at}
use Rattle.std.proofs.lemmas.List.Sums.{passes_at_first}
use Rattle.std.proofs.lemmas.List.{length-map}
use Rattle.std.specs.List.{list_any, position_or_len}
use borrow.Author.Tests.{ltb-true, lt-ltb}
use Rattle.spec_model.specs.declared.value.Value.{Value}
use Rattle.spec_model.specs.declared.value.Value.TheVariants as value
use Rattle.spec_model.specs.Values.{DomainData, TruthValues, WholeNumbers, Enumeration, rank_of, rising_from, values_of}
use Rattle.spec_model.specs.Sizes.{domain_size}
use Rattle.spec_model.specs.Steps.{below}
use Rattle.spec_model.specs.Diagrams.{Bits, Function}
use Rattle.game_values.specs.declared.seen.At.{At}
use Rattle.game_values.proofs.Lists.{length-below}
use Rattle.game_values.proofs.Typed.{get-map-below}
use Rattle.bdd_ops.specs.Functions.{joined, join_of}
use Rattle.bit_compile.specs.Laid.{IsCountable}
use Rattle.bit_compile.specs.Codes.{has_number, level_at, width_at, domain_in}
use Rattle.bit_compile.specs.Making.{digit}
use Rattle.bit_compile.specs.Compiled.{Case, all_of, some_of}
use Rattle.bit_compile.specs.Proper.{has_some_value}
use Rattle.bit_compile.specs.Bounds.{number_at, is_below}
use Rattle.bit_compile.proofs.WidthLemmas.{bits_suffice}
use Rattle.bit_compile.proofs.NumberLemmas.{same_bools, number_high, number_low, one_number}
use Rattle.bit_compile.proofs.DomainLemmas.{size-whole, place-whole, place-names, place_at}
use Rattle.bit_compile.proofs.LawLemmas.{any_place}
use Rattle.bit_compile.proofs.Folding.{past_end, drop_before}
use Rattle.bit_compile.proofs.EntryLemmas.{get-mapped}
use Rattle.bit_compile.proofs.CyclesLemmas.{got}

-- ---- the number in bits

pub number_small : (level w : ℕ) (s : Bits) → number_at level w s < 2 ^ w
number_small level zero s = omega arith
number_small level (suc w) s = at (s level) (number_small (suc level) w s)
  where
    at : (b : Bool) → number_at (suc level) w s < 2 ^ w → cond b (2 ^ w + number_at (suc level) w s) (number_at (suc level) w s) < 2 ^ suc w
    at true small = omega (arith, small)
    at false small = omega (arith, small)

-- the bits are its digits
pub has_number_at : (level w : ℕ) (s : Bits) → has_number level w (number_at level w s) s ≡ true
has_number_at level zero s = refl
has_number_at level (suc w) s = at (s level) refl (has_number_at (suc level) w s) (number_small (suc level) w s)
  where
    at : (b : Bool) → s level ≡ b → has_number (suc level) w (number_at (suc level) w s) s ≡ true → number_at (suc level) w s < 2 ^ w → has_number level (suc w) (cond b (2 ^ w + number_at (suc level) w s) (number_at (suc level) w s)) s ≡ true
    at true here rest small =
        let r = number_at (suc level) w s in
        let left : (2 ^ w + r) - 2 ^ w ≡ r = omega arith in
        number_high level w (2 ^ w + r) s (omega arith) here (subst (λ (m : ℕ). has_number (suc level) w m s ≡ true) (sym left) rest)
    at false here rest small = number_low level w (number_at (suc level) w s) s small here rest

-- ---- a bound, by its first digit

bound_high : (b : Bool) (r p n : ℕ) → r < p → p ≤ n → (not b || nat_lt r (n - p)) ≡ nat_lt (cond b (p + r) r) n
bound_high true r p n small high =
    same_bools _ _
    (λ e. (let less = ltb-true r (n - p) e in lt-ltb (p + r) n (omega (arith, less, high))))
    (λ e. (let less = ltb-true (p + r) n e in lt-ltb r (n - p) (omega (arith, less))))
bound_high false r p n small high = sym (lt-ltb r n (omega (arith, small, high)))

bound_low : (b : Bool) (r p n : ℕ) → n < p → (not b && nat_lt r n) ≡ nat_lt (cond b (p + r) r) n
bound_low true r p n low = grind (arith, nat_tests)
bound_low false r p n low = refl

pub bound_step : (level width n rest : ℕ) (high : Bool) → 0 < width → high ≡ nat_le (2 ^ (width - 1)) n → rest ≡ cond high (n - 2 ^ (width - 1)) n → joined (join_of (not high)) (digit level false) (is_below (level + 1) (width - 1) rest) ≡ is_below level width n
bound_step level zero n rest high some is left = absurd (omega arith)
bound_step level (suc w) n rest true some is left =
    let next : level + 1 ≡ suc level = omega arith in
    let less : suc w - 1 ≡ w = omega arith in
    let here : nat_le (2 ^ w) n ≡ true = sym (is ∙ ap (λ k. nat_le (2 ^ k) n) less) in
    let low : rest ≡ n - 2 ^ w = left ∙ ap (λ k. n - 2 ^ k) less in
    let past : 2 ^ w ≤ n = grind (arith, nat_tests) in
    rw (next, less, low) (λ i s. bound_high (s level) (number_at (suc level) w s) (2 ^ w) n (number_small (suc level) w s) past i)
bound_step level (suc w) n rest false some is left =
    let next : level + 1 ≡ suc level = omega arith in
    let less : suc w - 1 ≡ w = omega arith in
    let here : nat_le (2 ^ w) n ≡ false = sym (is ∙ ap (λ k. nat_le (2 ^ k) n) less) in
    let before : n < 2 ^ w = grind (arith, nat_tests) in
    rw (next, less, left) (λ i s. bound_low (s level) (number_at (suc level) w s) (2 ^ w) n before i)

-- ---- the value at each place has that place for its code

get-rising : (z : ℤ) (n i : ℕ) → i < n → get_or (rising_from z n) i (value.Bool false) ≡ value.Int (z +ℤ pos i)
get-rising z zero i h = absurd (omega arith)
get-rising z (suc n) zero h = let e : z ≡ z +ℤ pos 0 = omega (arith, ints) in ap (λ k. value.Int k) e
get-rising z (suc n) (suc i) h =
    let e : (z +ℤ pos 1) +ℤ pos i ≡ z +ℤ pos (suc i) = omega (arith, ints) in
    get-rising (z +ℤ pos 1) n i (omega arith) ∙ ap (λ k. value.Int k) e

get-values : (lo hi : ℤ) (i : ℕ) → lo ≤ℤ hi → i < nat_abs (hi -ℤ lo) + 1 → get_or (values_of (WholeNumbers lo hi)) i (value.Bool false) ≡ value.Int (lo +ℤ pos i)
get-values lo hi i h less =
    let rises : int_le lo hi ≡ true = grind (arith, ints) in
    ap (λ b. get_or (cond b (rising_from lo (nat_abs (hi -ℤ lo) + 1)) []) i (value.Bool false)) rises ∙ get-rising lo (nat_abs (hi -ℤ lo) + 1) i less

pub rank_at : (d : DomainData) (i : ℕ) → IsCountable d → i < domain_size d → rank_of d (get_or (values_of d) i (value.Bool false)) ≡ i
rank_at TruthValues zero c h = refl
rank_at TruthValues (suc zero) c h = refl
rank_at TruthValues (suc (suc i)) c h = absurd (omega arith)
rank_at (WholeNumbers lo hi) i c h =
    let long = size-whole lo hi c.0 in
    let less : i < nat_abs (hi -ℤ lo) + 1 = omega (arith, h, long) in
    let rises = c.0 in
    let low : lo ≤ℤ (lo +ℤ pos i) = omega (arith, ints) in
    let high : (lo +ℤ pos i) ≤ℤ hi = grind (arith, ints, less, rises) in
    let far : nat_abs ((lo +ℤ pos i) -ℤ lo) ≡ i = grind (arith, ints) in
    ap (rank_of (WholeNumbers lo hi)) (get-values lo hi i c.0 less) ∙ (place-whole lo hi (lo +ℤ pos i) low high ∙ far)
rank_at (Enumeration names) i c h =
    let long = length-map names (λ (n : ℕ). value.Name n) in
    let less : i < length names = omega (arith, h, long) in
    let n = get_or names i 0 in
    let there = got (values_of (Enumeration names)) i (value.Bool false) (value.Name 0) h ∙ get-mapped (λ (m : ℕ). value.Name m) names i 0 in
    ap (rank_of (Enumeration names)) there ∙ (place-names n names ∙ place_at names i n c less refl)

-- ---- the bits are the code of some value where their number is below how many there are

some_each : (f : Value → Function) (s : Bits) (vs : List Value) → some_of (map (λ (c : Case). c.holds) (map (λ v. record { value = v; holds = f v }) vs)) s ≡ list_any (λ v. f v s) vs
some_each f s [] = refl
some_each f s (v ∷ vs) = ap (λ b. f v s || b) (some_each f s vs)

module _ (d : DomainData) (level w : ℕ) (countable : IsCountable d) (enough : domain_size d ≤ 2 ^ w) (s : Bits) where
  below_there : list_any (λ v. has_number level w (rank_of d v) s) (values_of d) ≡ true → nat_lt (number_at level w s) (domain_size d) ≡ true
  below_there e =
      let p : Value → Bool = λ v. has_number level w (rank_of d v) s in
      let i = position_or_len p (values_of d) in
      let less = any_place p (values_of d) e in
      let passes = passes_at_first p (values_of d) (value.Bool false) less in
      let has : has_number level w i s ≡ true = subst (λ (m : ℕ). has_number level w m s ≡ true) (rank_at d i countable less) passes in
      let small = number_small level w s in
      let same = one_number level w i (number_at level w s) s (omega (arith, less, enough)) small has (has_number_at level w s) in
      lt-ltb (number_at level w s) (domain_size d) (omega (arith, less, same))

  there_below : nat_lt (number_at level w s) (domain_size d) ≡ true → list_any (λ v. has_number level w (rank_of d v) s) (values_of d) ≡ true
  there_below e =
      let i = number_at level w s in
      let less = ltb-true i (domain_size d) e in
      list_any_at (λ v. has_number level w (rank_of d v) s) (values_of d) i (value.Bool false) less
      (subst (λ (m : ℕ). has_number level w m s ≡ true) (sym (rank_at d i countable less)) (has_number_at level w s))

  pub below_is_some : nat_lt (number_at level w s) (domain_size d) ≡ list_any (λ v. has_number level w (rank_of d v) s) (values_of d)
  below_is_some = same_bools _ _ there_below below_there

pub bound_is_some : (ds : List DomainData) (at : At) (k : ℕ) → IsCountable (domain_in ds k) → is_below (level_at ds at k) (width_at ds k) (domain_size (domain_in ds k)) ≡ has_some_value ds at k
bound_is_some ds at k countable =
    let d = domain_in ds k in
    let level = level_at ds at k in
    let w = width_at ds k in
    (λ i s. (below_is_some d level w countable (bits_suffice (domain_size d)) s ∙ sym (some_each (λ v. has_number level w (rank_of d v)) s (values_of d))) i)

-- ---- places from the last one on

and_turned : (a b : Bool) → (a && b) ≡ (b && a)
and_turned true true = refl
and_turned true false = refl
and_turned false true = refl
and_turned false false = refl

module _ (f : ℕ → Function) (n last : ℕ) where
  long : length (map f (below n)) ≡ n
  long = length-map (below n) f ∙ length-below n

  pub none_behind : last ≡ n → (λ s. true) ≡ all_of (drop last (map f (below n)))
  none_behind is = let all = long in sym (ap all_of (past_end (map f (below n)) last (omega (arith, all, is))))

  pub one_before : 0 < last → last ≤ n → (λ s. all_of (drop last (map f (below n))) s && f (last - 1) s) ≡ all_of (drop (last - 1) (map f (below n)))
  one_before some within =
      let all = long in
      let here = sym (get-map-below f n (last - 1) (f (last - 1)) (omega (arith, some, within))) in
      let behind = all_of (drop last (map f (below n))) in
      (λ i s. and_turned (behind s) (f (last - 1) s) i) ∙ sym (ap all_of (drop_before (map f (below n)) last (f (last - 1)) some (omega (arith, all, within)) here))
