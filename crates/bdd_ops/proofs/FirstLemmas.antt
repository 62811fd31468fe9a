-- The first bits with one at a level, and the first of all.
use Rattle.std.proofs.Common.{◌≡◌, ◌⊎◌, ℕ, zero, suc, ◌<◌, ◌≤◌, ◌+◌, ◌-◌, ◌*◌, inl, inr, sym, ◌∙◌, ap, subst, refl, arith, add-one, Bool, true, false, Option, Some, None, List, length, get_or, set, get_or-set_same, get_or-set_other}
use Rattle.std.proofs.lemmas.Bool.{cases_order}
use Rattle.std.proofs.lemmas.List.{get_or_past}
use Rattle.std.proofs.lemmas.Nat.{mul-le, row_fits}
use Rattle.spec_model.specs.Diagrams.{Bits, Function}
use Rattle.spec_model.specs.DiagramReads.{bits_of}
use Rattle.bdd_ops.specs.Paths.{AgreesAt, Agrees, fixed_at, NotAfter, IsFirst, HasNone}
use Rattle.bdd_ops.specs.Together.{first_bit, AreFirst, IsFirstWith, HasNoneWith}
use Rattle.bdd_ops.proofs.PathLemmas.{agrees_from, agrees_later, bit_cases}
use Rattle.bdd_ops.proofs.RowLemmas.{agrees_above}

-- ---- a bit at a level

-- the first bits of what the bit leaves are the first with the bit
pub with_first : (fixed : List (Option Bool)) (f g : Function) (level count : ℕ) (bit : Bool) (s : Bits) → ((t : Bits) → t level ≡ bit → Agrees fixed (level + 1) t → g t ≡ f t) → AgreesAt (fixed_at fixed level) bit → s level ≡ bit → IsFirst fixed g (level + 1) count s → IsFirstWith fixed f level count bit s
with_first fixed f g level count bit s same allowed here first = record {
  here = here;
  agrees = agrees_from fixed level s (subst (λ (b : Bool). AgreesAt (fixed_at fixed level) b) (sym here) allowed) (subst (λ (n : ℕ). Agrees fixed n s) (add-one level) first.agrees);
  true_there = sym (same s here first.agrees) ∙ first.true_there;
  first = λ t there agrees makes.
      let later : Agrees fixed (level + 1) t = agrees_above fixed level (level + 1) t (omega arith) agrees in
      first.first t later (same t there later ∙ makes);
}

pub with_none : (fixed : List (Option Bool)) (f g : Function) (level : ℕ) (bit : Bool) → ((t : Bits) → t level ≡ bit → Agrees fixed (level + 1) t → g t ≡ f t) → HasNone fixed g (level + 1) → HasNoneWith fixed f level bit
with_none fixed f g level bit same none t there agrees makes =
    let later : Agrees fixed (level + 1) t = agrees_above fixed level (level + 1) t (omega arith) agrees in
    none t later (same t there later ∙ makes)

-- a bit that may not stand there
pub with_forbidden : (fixed : List (Option Bool)) (f : Function) (level : ℕ) (bit : Bool) → (AgreesAt (fixed_at fixed level) bit → ⊥) → HasNoneWith fixed f level bit
with_forbidden fixed f level bit forbidden t there agrees makes =
    forbidden (subst (λ (b : Bool). AgreesAt (fixed_at fixed level) b) there (agrees level (omega arith)))

-- ---- both bits

-- the first bits with false there are the first of all
pub first_of_low : (fixed : List (Option Bool)) (f : Function) (level count : ℕ) (s : Bits) → IsFirstWith fixed f level count false s → IsFirst fixed f level (suc count) s
first_of_low fixed f level count s low = record {
  agrees = low.agrees;
  true_there = low.true_there;
  first = λ t agrees makes. elim (bit_cases (t level)) [
    | inl high ↦ inl (low.here, high)
    | inr there ↦ inr (low.here ∙ sym there, subst (λ (n : ℕ). NotAfter count n s t) (add-one level) (low.first t there agrees makes))
  ];
}

-- where there are none with false, the first with true are
pub first_of_high : (fixed : List (Option Bool)) (f : Function) (level count : ℕ) (s : Bits) → HasNoneWith fixed f level false → IsFirstWith fixed f level count true s → IsFirst fixed f level (suc count) s
first_of_high fixed f level count s none high = record {
  agrees = high.agrees;
  true_there = high.true_there;
  first = λ t agrees makes. elim (bit_cases (t level)) [
    | inl there ↦ inr (high.here ∙ sym there, subst (λ (n : ℕ). NotAfter count n s t) (add-one level) (high.first t there agrees makes))
    | inr low ↦ absurd (none t low agrees makes)
  ];
}

none_of_both : (fixed : List (Option Bool)) (f : Function) (level : ℕ) → HasNoneWith fixed f level false → HasNoneWith fixed f level true → HasNone fixed f level
none_of_both fixed f level low high t agrees makes =
    elim (bit_cases (t level)) [ inl there ↦ high t there agrees makes | inr there ↦ low t there agrees makes ]

-- ---- levels before the first that is read

first_agrees : (fixed : Option Bool) (b : Bool) → b ≡ first_bit fixed → AgreesAt fixed b
first_agrees None b is = tt
first_agrees (Some other) b is = is

first_is_first : (fixed : Option Bool) (a b : Bool) → a ≡ first_bit fixed → AgreesAt fixed b → ((a ≡ false) × (b ≡ true)) ⊎ (a ≡ b)
first_is_first None a true is allowed = inl (is, refl)
first_is_first None a false is allowed = inr is
first_is_first (Some other) a b is allowed = inr (is ∙ sym allowed)

-- one level more at which the first bit stands
first_one_before : (fixed : List (Option Bool)) (f : Function) (level count : ℕ) (s : Bits) → s level ≡ first_bit (fixed_at fixed level) → IsFirst fixed f (suc level) count s → IsFirst fixed f level (suc count) s
first_one_before fixed f level count s here first = record {
  agrees = agrees_from fixed level s (first_agrees (fixed_at fixed level) (s level) here) first.agrees;
  true_there = first.true_there;
  first = λ t agrees makes. elim (first_is_first (fixed_at fixed level) (s level) (t level) here (agrees level (omega arith))) [
    | inl before ↦ inl before
    | inr same ↦ inr (same, first.first t (agrees_later fixed level t agrees) makes)
  ];
}

first_some_before : (fixed : List (Option Bool)) (f : Function) (gap level count : ℕ) (s : Bits) → AreFirst fixed level (level + gap) s → IsFirst fixed f (level + gap) count s → IsFirst fixed f level (gap + count) s
first_some_before fixed f zero level count s idle first =
    let here : level + 0 ≡ level = omega arith in
    let none : count ≡ 0 + count = omega arith in
    subst (λ (n : ℕ). IsFirst fixed f level n s) none (subst (λ (n : ℕ). IsFirst fixed f n count s) here first)
first_some_before fixed f (suc gap) level count s idle first =
    let end : level + suc gap ≡ suc level + gap = omega arith in
    let sum : suc (gap + count) ≡ suc gap + count = omega arith in
    let rest : IsFirst fixed f (suc level) (gap + count) s = first_some_before fixed f gap (suc level) count s (λ k above below. idle k (omega arith) (omega arith)) (subst (λ (n : ℕ). IsFirst fixed f n count s) end first) in
    subst (λ (n : ℕ). IsFirst fixed f level n s) sum (first_one_before fixed f level (gap + count) s (idle level (omega arith) (omega arith)) rest)

-- the first bits from a level on, with the bits before it that come first, are the first from an earlier level on
pub first_from_before : (fixed : List (Option Bool)) (f : Function) (level top levels : ℕ) (s : Bits) → level ≤ top → top ≤ levels → AreFirst fixed level top s → IsFirst fixed f top (levels - top) s → IsFirst fixed f level (levels - level) s
first_from_before fixed f level top levels s le within idle first =
    let end : top ≡ level + (top - level) = omega arith in
    let count : (top - level) + (levels - top) ≡ levels - level = omega arith in
    subst (λ (n : ℕ). IsFirst fixed f level n s) count (first_some_before fixed f (top - level) level (levels - top) s (λ k above below. idle k above (omega arith)) (subst (λ (n : ℕ). IsFirst fixed f n (levels - top) s) end first))

pub none_from_before : (fixed : List (Option Bool)) (f : Function) (level top : ℕ) → level ≤ top → HasNone fixed f top → HasNone fixed f level
none_from_before fixed f level top le none t agrees makes = none t (agrees_above fixed level top t le agrees) makes

-- past the last level nothing is left to choose
pub past_agrees : (fixed : List (Option Bool)) (levels : ℕ) (s : Bits) → length fixed ≡ levels → Agrees fixed levels s
past_agrees fixed levels s long k above =
    let past : fixed_at fixed k ≡ None = get_or_past fixed k None (omega arith) in
    subst (λ (o : Option Bool). AgreesAt o (s k)) (sym past) tt

pub first_past : (fixed : List (Option Bool)) (f : Function) (level levels : ℕ) (s : Bits) → length fixed ≡ levels → level ≤ levels → AreFirst fixed level levels s → f s ≡ true → IsFirst fixed f level (levels - level) s
first_past fixed f level levels s long within idle makes =
    let zero_left : 0 ≡ levels - levels = omega arith in
    let there : IsFirst fixed f levels 0 s = record { agrees = past_agrees fixed levels s long; true_there = makes; first = λ t agrees also. tt } in
    first_from_before fixed f level levels levels s within (omega arith) idle (subst (λ (n : ℕ). IsFirst fixed f levels n s) zero_left there)

-- ---- both bits of a later level

one_more_count : (top levels : ℕ) → top < levels → suc (levels - (top + 1)) ≡ levels - top
one_more_count top levels below = omega arith

pub found_with_false : (fixed : List (Option Bool)) (f : Function) (level top levels : ℕ) (s : Bits) → level ≤ top → top < levels → AreFirst fixed level top s → IsFirstWith fixed f top (levels - (top + 1)) false s → IsFirst fixed f level (levels - level) s
found_with_false fixed f level top levels s le below idle low =
    first_from_before fixed f level top levels s le (omega arith) idle (subst (λ (n : ℕ). IsFirst fixed f top n s) (one_more_count top levels below) (first_of_low fixed f top (levels - (top + 1)) s low))

pub found_with_true : (fixed : List (Option Bool)) (f : Function) (level top levels : ℕ) (s : Bits) → level ≤ top → top < levels → AreFirst fixed level top s → HasNoneWith fixed f top false → IsFirstWith fixed f top (levels - (top + 1)) true s → IsFirst fixed f level (levels - level) s
found_with_true fixed f level top levels s le below idle none high =
    first_from_before fixed f level top levels s le (omega arith) idle (subst (λ (n : ℕ). IsFirst fixed f top n s) (one_more_count top levels below) (first_of_high fixed f top (levels - (top + 1)) s none high))

pub found_with_none : (fixed : List (Option Bool)) (f : Function) (level top : ℕ) → level ≤ top → HasNoneWith fixed f top false → HasNoneWith fixed f top true → HasNone fixed f level
found_with_none fixed f level top le low high = none_from_before fixed f level top le (none_of_both fixed f top low high)

-- functions that are the same on all bits that agree have the same first bits
pub first_agreeing : (fixed : List (Option Bool)) (f g : Function) (level count : ℕ) (s : Bits) → ((t : Bits) → Agrees fixed level t → g t ≡ f t) → IsFirst fixed g level count s → IsFirst fixed f level count s
first_agreeing fixed f g level count s same first = record {
  agrees = first.agrees;
  true_there = sym (same s first.agrees) ∙ first.true_there;
  first = λ t agrees makes. first.first t agrees (same t agrees ∙ makes);
}

pub none_agreeing : (fixed : List (Option Bool)) (f g : Function) (level : ℕ) → ((t : Bits) → Agrees fixed level t → g t ≡ f t) → HasNone fixed g level → HasNone fixed f level
none_agreeing fixed f g level same none t agrees makes = none t agrees (same t agrees ∙ makes)

-- ---- the bits that come first

-- bits that stay before a level come first there as they did
pub first_kept : (fixed : List (Option Bool)) (level top end : ℕ) (s t : Bits) → top ≤ end → AreFirst fixed level end s → ((k : ℕ) → k < top → t k ≡ s k) → AreFirst fixed level top t
first_kept fixed level top end s t le idle same k above below = same k below ∙ idle k above (omega arith)

-- a write at a level changes none of a later one
pub first_after_write : (fixed : List (Option Bool)) (level end : ℕ) (bits : List Bool) (b : Bool) → AreFirst fixed (level + 1) end (bits_of bits) → AreFirst fixed (level + 1) end (bits_of (set bits level b))
first_after_write fixed level end bits b idle k above below =
    get_or-set_other bits level k b false (λ same. absurd (omega arith)) ∙ idle k above below

-- a bit that comes first, written between bits that do
pub first_restored : (fixed : List (Option Bool)) (level top end : ℕ) (bits : List Bool) → top < length bits → AreFirst fixed level top (bits_of bits) → AreFirst fixed (top + 1) end (bits_of bits) → AreFirst fixed level end (bits_of (set bits top (first_bit (fixed_at fixed top))))
first_restored fixed level top end bits inside earlier later k above below =
    elim (cases_order k top) [
      | inl same ↦
          ap (λ (n : ℕ). get_or (set bits top (first_bit (fixed_at fixed top))) n false) same
          ∙ (get_or-set_same bits top (first_bit (fixed_at fixed top)) false inside ∙ ap (λ (n : ℕ). first_bit (fixed_at fixed n)) (sym same))
      | inr (inl before) ↦ get_or-set_other bits top k (first_bit (fixed_at fixed top)) false (λ same. absurd (omega arith)) ∙ earlier k above before
      | inr (inr behind) ↦ get_or-set_other bits top k (first_bit (fixed_at fixed top)) false (λ same. absurd (omega arith)) ∙ later k (omega arith) below
    ]

-- ---- room

-- a row for each level from a later one on
pub room_later : (levels level top count room : ℕ) → level ≤ top → (levels - level) * count ≤ room → (levels - top) * count ≤ room
room_later levels level top count room le has =
    let fewer : (levels - top) * count ≤ (levels - level) * count = mul-le (levels - top) count (levels - level) count (omega arith) (omega arith) in
    omega arith

-- one of them is taken
pub room_taken : (levels level count room : ℕ) → level < levels → (levels - level) * count ≤ room → (count ≤ room) × ((levels - (level + 1)) * count ≤ room - count)
room_taken levels level count room below has =
    let one : (levels - (level + 1)) * count + count ≤ (levels - level) * count = row_fits (levels - (level + 1)) count (levels - level) count (omega arith) (omega arith) in
    (omega arith, omega arith)
