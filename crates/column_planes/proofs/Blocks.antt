-- Columns that are written position by position.
use Rattle.std.proofs.Common.{◌≡◌, ◌==◌, ℕ, suc, ℤ, ◌+◌, ◌-◌, ◌*◌, ◌<◌, ◌≤◌, Bool, true, false, not, if◌then◌else◌, min, List, [], length, map, take, drop, get_or, slice_set, refl, sym, ap, subst, ◌∙◌, arith, inl, inr, ◌⊎◌}
use Rattle.std.specs.Int.{int_rem_euclid}
use Rattle.std.proofs.lemmas.List.{get_or-set_same, get_or-set_other, get_or-map, get_or-take, get_or-drop}
use Rattle.spec_model.specs.declared.value.Value.{Value}
use Rattle.spec_model.specs.declared.value.Value.TheVariants as value
use Rattle.spec_model.specs.declared.expr.Compare.{Compare}
use Rattle.spec_model.specs.declared.expr.Compare.TheVariants.{Eq, Ne}
use Rattle.spec_model.specs.Values.{DomainData, number_of, same_value}
use Rattle.spec_model.specs.Syntax.{Formula, Constant, Variable, NextOf, Comparison, Remainder, Entry}
use Rattle.spec_model.specs.Games.{HiddenData, entries_in}
use Rattle.spec_model.specs.Meaning.{Reading, holds_at, value_at, compare_values}
use Rattle.column_planes.specs.declared.numbers.Operation.{Operation}
use Rattle.column_planes.specs.declared.numbers.Operation.TheVariants as operation
use Rattle.column_planes.specs.Planes.{bit_in}
use Rattle.column_planes.specs.Columns.{ColumnData, IsSeen, HasBits, IsPlaneOf, AreValuesOf, AreTruthsOf, value_of_code, domain_in}
use Rattle.column_planes.specs.Numbers.{computed, computation}
use Rattle.column_planes.proofs.PlanesOfParts.{seen_next}

below_or_from : (i n : ℕ) → (i < n) ⊎ (n ≤ i)
below_or_from i n = grind arith

-- one element more, where what is written depends on its place
module _ {X : Type 0} (d : X) (f : ℕ → X) (out : List X) (k : ℕ) (v : X) (inside : k < length out) (is : v ≡ f k) where
  pub one_more_written : ((i : ℕ) → i < k → get_or out i d ≡ f i) → (i : ℕ) → i < k + 1 → get_or (slice_set out k v) i d ≡ f i
  one_more_written before i below =
      elim (below_or_from i k) [
        | inl less ↦ get_or-set_other out k i v d (λ e. absurd (omega (arith, e, less))) ∙ before i less
        | inr from ↦
            let same : k ≡ i = omega (arith, from, below) in
            subst (λ n. get_or (slice_set out k v) n d ≡ f n) same (get_or-set_same out k v d inside ∙ is)
      ]

-- the next 64 places, or those that are left
pub reached : (from len n : ℕ) → from ≤ len → n ≡ min (len - from) 64 → from + n ≡ min (from + 64) len
reached from len n within is = omega (arith, within, is)

-- ---- values of formulas

module _ (cs : ColumnData) (at from : ℕ) where
  pub variable_values : (out : List Value) (k n : ℕ) (domain : DomainData) → k < length cs.variables → domain_in cs.variables k ≡ domain → n ≡ length out →
      ((i : ℕ) → i < length out → get_or out i (value.Bool false) ≡ value_of_code domain (get_or (take n (drop (4096 * k + from + at) cs.codes)) i 0)) → AreValuesOf cs at from (Variable k) out
  variable_values out k n domain there is many written = λ i below r t seen.
      let first = 4096 * k + from + at in
      let place : first + i ≡ 4096 * k + (from + i + at) = omega arith in
      written i below
      ∙ (ap (value_of_code domain) (get_or-take n (drop first cs.codes) i 0 (omega (arith, below, many)) ∙ (get_or-drop first cs.codes i 0 ∙ ap (λ m. get_or cs.codes m 0) place))
      ∙ (ap (λ (d : DomainData). value_of_code d (get_or cs.codes (4096 * k + (from + i + at)) 0)) (sym is) ∙ seen.here.variables k there))

  module _ (e f : Formula) (a b out : List Value) (first : AreValuesOf cs at from e a) (many : length a ≡ length out) where
    pub computed_values : (op : Operation) → AreValuesOf cs at from f b → length b ≡ length out →
        ((i : ℕ) → i < length out → get_or out i (value.Bool false) ≡ value.Int (computed op (number_of (get_or a i (value.Bool false))) (number_of (get_or b i (value.Bool false))))) →
        AreValuesOf cs at from (computation op e f) out
    computed_values op second long written = λ i below r t seen.
        written i below
        ∙ (ap (λ v. value.Int (computed op (number_of v) (number_of (get_or b i (value.Bool false))))) (first i (omega (arith, below, many)) r t seen)
        ∙ (ap (λ v. value.Int (computed op (number_of (value_at r e t)) (number_of v))) (second i (omega (arith, below, long)) r t seen) ∙ is op r t))
      where
        is : (o : Operation) (r : Reading) (t : ℕ) → value.Int (computed o (number_of (value_at r e t)) (number_of (value_at r f t))) ≡ value_at r (computation o e f) t
        is operation.Sum r t = refl
        is operation.Difference r t = refl
        is operation.Product r t = refl

    pub remainder_values : (n : ℤ) → ((i : ℕ) → i < length out → get_or out i (value.Bool false) ≡ value.Int (int_rem_euclid (number_of (get_or a i (value.Bool false))) n)) → AreValuesOf cs at from (Remainder e n) out
    remainder_values n written = λ i below r t seen. written i below ∙ ap (λ v. value.Int (int_rem_euclid (number_of v) n)) (first i (omega (arith, below, many)) r t seen)

pub next_values : (cs : ColumnData) (from : ℕ) (e : Formula) (out : List Value) → AreValuesOf cs 1 from e out → AreValuesOf cs 0 from (NextOf e) out
next_values cs from e out values = λ i below r t seen. values i below r (suc t) (seen_next cs (from + i) r t seen)

-- ---- comparisons

is_one : (b : Bool) → ((if b then 1 else 0) == 1) ≡ b
is_one true = refl
is_one false = refl

module _ (cs : ColumnData) (at : ℕ) where
  -- a comparison at some positions more
  pub more_truths : (how : Compare) (e f : Formula) (from : ℕ) (a b : List Value) (old new : List ℕ) → AreTruthsOf cs at from (Comparison how e f) old → AreValuesOf cs at from e a → AreValuesOf cs at from f b → length b ≡ length a →
      ((j : ℕ) → j < from → get_or new j 0 ≡ get_or old j 0) →
      ((i : ℕ) → i < length a → get_or new (from + i) 0 ≡ (if compare_values how (get_or a i (value.Bool false)) (get_or b i (value.Bool false)) then 1 else 0)) →
      AreTruthsOf cs at (from + length a) (Comparison how e f) new
  more_truths how e f from a b old new truths first second long before there = λ j below r t seen.
      elim (below_or_from j from) [
        | inl less ↦ before j less ∙ truths j less r t seen
        | inr past ↦
            let place : from + (j - from) ≡ j = omega (arith, past) in
            let inside : j - from < length a = omega (arith, past, below) in
            let seen_there : IsSeen cs at (from + (j - from)) r t = subst (λ n. IsSeen cs at n r t) (sym place) seen in
            ap (λ n. get_or new n 0) (sym place)
            ∙ (there (j - from) inside
            ∙ (ap (λ v. if compare_values how v (get_or b (j - from) (value.Bool false)) then 1 else 0) (first (j - from) inside r t seen_there)
            ∙ ap (λ v. if compare_values how (value_at r e t) v then 1 else 0) (second (j - from) (omega (arith, inside, long)) r t seen_there)))
      ]

  -- the plane of what was found true
  pub truths_plane : (bits : ℕ) (e : Formula) (codes out : List ℕ) → length codes ≡ bits → AreTruthsOf cs at bits e codes → ((j : ℕ) → bit_in out j ≡ get_or (map (λ c. c == 1) codes) j false) → IsPlaneOf cs bits at e out
  truths_plane bits e codes out many truths is = λ j below r t seen.
      is j ∙ (get_or-map (λ c. c == 1) codes j 0 false (omega (arith, below, many)) ∙ (ap (λ c. c == 1) (truths j below r t seen) ∙ is_one (holds_at r e t)))

  module _ (bits : ℕ) (e f : Formula) where
    -- where a formula has a value
    pub equal_bits : (v : Value) (out : List ℕ) → f ≡ Constant v → HasBits cs bits at (λ r t. same_value (value_at r e t) v) out → IsPlaneOf cs bits at (Comparison Eq e f) out
    equal_bits v out is plane = subst (λ (h : Formula). IsPlaneOf cs bits at (Comparison Eq e h) out) (sym is) plane

    pub different_bits : (one out : List ℕ) → IsPlaneOf cs bits at (Comparison Eq e f) one → bits ≤ 64 * length one → ((j : ℕ) → j < 64 * length one → bit_in out j ≡ not (bit_in one j)) → IsPlaneOf cs bits at (Comparison Ne e f) out
    different_bits one out plane room is = λ j below r t seen. is j (omega (arith, below, room)) ∙ ap not (plane j below r t seen)

-- a variable under `next`
pub next_reads : (e : Formula) (k : ℕ) (cs : ColumnData) (bits : ℕ) (P : Value → Bool) (plane : List ℕ) → e ≡ Variable k → HasBits cs bits 1 (λ r t. P (r.variable k t)) plane → HasBits cs bits 0 (λ r t. P (value_at r (NextOf e) t)) plane
next_reads e k cs bits P plane is has = λ j below r t seen. has j below r (suc t) (seen_next cs j r t seen) ∙ ap (λ (h : Formula). P (value_at r h (suc t))) (sym is)

-- ---- entries

abbrev pub one_if : Bool → ℕ
one_if b = if b then 1 else 0

pub entry_bits : (cs : ColumnData) (at bits table part n : ℕ) (h : HiddenData) (codes out : List ℕ) → ((cell : ℕ) → get_or (map (λ d. entries_in d cell) cs.tables) table [] ≡ entries_in h cell) →
    4096 * table + 4096 ≤ length cs.cells → length codes ≡ bits → n ≡ bits →
    ((j : ℕ) → j < bits → get_or codes j 0 ≡ (if get_or (entries_in h (get_or (take n (drop (4096 * table + at) cs.cells)) j 0)) part false then 1 else 0)) →
    ((j : ℕ) → bit_in out j ≡ get_or (map (λ c. c == 1) codes) j false) → IsPlaneOf cs bits at (Entry table part) out
entry_bits cs at bits table part n h codes out is room many all truths bits_are =
    truths_plane cs at bits (Entry table part) codes out many
    (λ j below r t seen.
    let first = 4096 * table + at in
    let place : first + j ≡ 4096 * table + (j + at) = omega arith in
    let cell = get_or cs.cells (4096 * table + (j + at)) 0 in
    truths j below
    ∙ ap (λ b. if b then 1 else 0)
    (ap (λ c. get_or (entries_in h c) part false) (get_or-take n (drop first cs.cells) j 0 (omega (arith, below, all)) ∙ (get_or-drop first cs.cells j 0 ∙ ap (λ m. get_or cs.cells m 0) place))
    ∙ (ap (λ es. get_or es part false) (sym (is cell)) ∙ seen.here.entries table part room)))
    bits_are
