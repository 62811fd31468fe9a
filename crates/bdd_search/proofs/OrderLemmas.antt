-- The first bits are those of the first values.
use Rattle.std.proofs.Common.{◌≡◌, ℕ, zero, suc, ◌+◌, ◌-◌, ◌*◌, ◌^◌, ◌<◌, ◌≤◌, nat_le, nat_lt, Bool, true, false, not, ◌&&◌, ◌||◌, List, [], ◌∷◌, ◌++◌, length, refl, sym, ◌∙◌, ap, subst, arith, ◌⊎◌, inl, inr, zero-add}
use Rattle.std.proofs.lemmas.Bool.{and_parts, false≢true}
use Rattle.std.proofs.lemmas.Bool.Decides.{nat_tests}
use Rattle.std.specs.List.{list_any}
use Rattle.spec_model.specs.declared.value.Value.{Value}
use Rattle.spec_model.specs.Values.{DomainData, is_assignment, same_value, values_of, rank_of, comes_before}
use Rattle.spec_model.specs.Diagrams.{Bits}
use Rattle.spec_model.proofs.AllStates.{same_value-true}
use Rattle.spec_model.proofs.Listed.{same_value-refl}
use Rattle.game_values.specs.declared.seen.At.TheVariants.{Now, Next}
use Rattle.bdd_ops.specs.Paths.{NotAfter}
use Rattle.bit_compile.specs.Domains.{width_of, level_count}
use Rattle.bit_compile.specs.Codes.{has_number, level_at, width_at, code_at}
use Rattle.bit_compile.proofs.LawLemmas.{code_small}
use Rattle.bdd_search.specs.Parts.{FirstHaveFirst}

-- ---- digits

high_digits : (level w n : ℕ) (u : Bits) → nat_le (2 ^ w) n ≡ true → has_number level (suc w) n u ≡ true → (u level ≡ true) × (has_number (suc level) w (n - 2 ^ w) u ≡ true)
high_digits level w n u e h = and_parts (u level) (has_number (suc level) w (n - 2 ^ w) u) (rw e at h)

low_digits : (level w n : ℕ) (u : Bits) → nat_le (2 ^ w) n ≡ false → has_number level (suc w) n u ≡ true → (u level ≡ false) × (has_number (suc level) w n u ≡ true)
low_digits level w n u e h = let parts = and_parts (not (u level)) (has_number (suc level) w n u) (rw e at h) in (turned (u level) parts.0, parts.1)
  where
    turned : (x : Bool) → not x ≡ true → x ≡ false
    turned true e = absurd (false≢true e)
    turned false e = refl

-- of numbers whose bits are in order, the first is the less, or what follows them decides
pub numbers_order : (level w more n m : ℕ) (u v : Bits) → n < 2 ^ w → m < 2 ^ w → has_number level w n u ≡ true → has_number level w m v ≡ true → NotAfter (w + more) level u v → (n < m) ⊎ ((n ≡ m) × NotAfter more (level + w) u v)
numbers_order level zero more n m u v small little hn hm order =
    let here : level ≡ level + 0 = omega arith in
    inr (omega (arith, small, little), subst (λ l. NotAfter more l u v) here (subst (λ k. NotAfter k level u v) (zero-add more) order))
numbers_order level (suc w) more n m u v small little hn hm order =
    at (nat_le (2 ^ w) n) refl (nat_le (2 ^ w) m) refl (numbers_order (suc level) w more (n - 2 ^ w) (m - 2 ^ w) u v) (numbers_order (suc level) w more n m u v)
  where
    counted : suc w + more ≡ suc (w + more)
    counted = omega arith

    after : suc level + w ≡ level + suc w
    after = omega arith

    split : ((u level ≡ false) × (v level ≡ true)) ⊎ ((u level ≡ v level) × NotAfter (w + more) (suc level) u v)
    split = subst (λ k. NotAfter k level u v) counted order

    at : (a : Bool) → nat_le (2 ^ w) n ≡ a → (b : Bool) → nat_le (2 ^ w) m ≡ b →
        (n - 2 ^ w < 2 ^ w → m - 2 ^ w < 2 ^ w → has_number (suc level) w (n - 2 ^ w) u ≡ true → has_number (suc level) w (m - 2 ^ w) v ≡ true → NotAfter (w + more) (suc level) u v → (n - 2 ^ w < m - 2 ^ w) ⊎ ((n - 2 ^ w ≡ m - 2 ^ w) × NotAfter more (suc level + w) u v)) →
        (n < 2 ^ w → m < 2 ^ w → has_number (suc level) w n u ≡ true → has_number (suc level) w m v ≡ true → NotAfter (w + more) (suc level) u v → (n < m) ⊎ ((n ≡ m) × NotAfter more (suc level + w) u v)) →
        (n < m) ⊎ ((n ≡ m) × NotAfter more (level + suc w) u v)
    at true en true em high low =
        let du = high_digits level w n u en hn in
        let dv = high_digits level w m v em hm in
        let bn : 2 ^ w ≤ n = grind (arith, nat_tests) in
        let bm : 2 ^ w ≤ m = grind (arith, nat_tests) in
        elim split [
          | inl apart ↦ absurd (false≢true (sym apart.0 ∙ du.0))
          | inr same ↦ elim (high (omega (arith, small)) (omega (arith, little)) du.1 dv.1 same.1) [
            | inl less ↦ inl (omega (arith, less, bn, bm))
            | inr is ↦ inr ((let e = is.0 in omega (arith, e, bn, bm)), subst (λ l. NotAfter more l u v) after is.1)
          ]
        ]
    at true en false em high low =
        let du = high_digits level w n u en hn in
        let dv = low_digits level w m v em hm in
        elim split [
          | inl apart ↦ absurd (false≢true (sym apart.0 ∙ du.0))
          | inr same ↦ absurd (false≢true (sym dv.0 ∙ (sym same.0 ∙ du.0)))
        ]
    at false en true em high low =
        let bn : n < 2 ^ w = grind (arith, nat_tests) in
        let bm : 2 ^ w ≤ m = grind (arith, nat_tests) in
        inl (omega (arith, bn, bm))
    at false en false em high low =
        let du = low_digits level w n u en hn in
        let dv = low_digits level w m v em hm in
        let bn : n < 2 ^ w = grind (arith, nat_tests) in
        let bm : m < 2 ^ w = grind (arith, nat_tests) in
        elim split [
          | inl apart ↦ absurd (false≢true (sym dv.0 ∙ apart.1))
          | inr same ↦ elim (low bn bm du.1 dv.1 same.1) [
            | inl less ↦ inl less
            | inr is ↦ inr (is.0, subst (λ l. NotAfter more l u v) after is.1)
          ]
        ]

-- levels where both have the same bits are passed over
pub same_passed : (w level more : ℕ) (u v : Bits) → ((m : ℕ) → level ≤ m → m < level + w → u m ≡ v m) → NotAfter (w + more) level u v → NotAfter more (level + w) u v
same_passed zero level more u v same order =
    let here : level ≡ level + 0 = omega arith in
    subst (λ l. NotAfter more l u v) here (subst (λ k. NotAfter k level u v) (zero-add more) order)
same_passed (suc w) level more u v same order =
    let counted : suc w + more ≡ suc (w + more) = omega arith in
    let after : suc level + w ≡ level + suc w = omega arith in
    let here = same level (omega arith) (omega arith) in
    let split : ((u level ≡ false) × (v level ≡ true)) ⊎ ((u level ≡ v level) × NotAfter (w + more) (suc level) u v) = subst (λ k. NotAfter k level u v) counted order in
    elim split [
      | inl apart ↦ absurd (false≢true (sym apart.0 ∙ (here ∙ apart.1)))
      | inr next ↦ subst (λ l. NotAfter more l u v) after (same_passed w (suc level) more u v (λ m low high. same m (omega (arith, low)) (omega (arith, high))) next.1)
    ]

-- ---- values

-- the next bits of the slots, the first of which stands at the base, are those of these values
abbrev HasFrom : ℕ → List DomainData → List Value → Bits → Type 0
HasFrom base ds vs s = (k : ℕ) → k < length ds → has_number (base + level_at ds Next k) (width_at ds k) (code_at ds vs k) s ≡ true

-- their present bits are the same
abbrev SameFrom : ℕ → List DomainData → Bits → Bits → Type 0
SameFrom base ds u v = (k m : ℕ) → k < length ds → base + level_at ds Now k ≤ m → m < (base + level_at ds Now k) + width_at ds k → u m ≡ v m

has_rest : (base : ℕ) (d : DomainData) (ds : List DomainData) (a : Value) (us : List Value) (u : Bits) → HasFrom base (d ∷ ds) (a ∷ us) u → HasFrom ((base + width_of d) + width_of d) ds us u
has_rest base d ds a us u has k known =
    let place : base + level_at (d ∷ ds) Next (suc k) ≡ ((base + width_of d) + width_of d) + level_at ds Next k = omega arith in
    subst (λ l. has_number l (width_at ds k) (code_at ds us k) u ≡ true) place (has (suc k) (omega (arith, known)))

present_rest : (base : ℕ) (d : DomainData) (ds : List DomainData) (u v : Bits) → SameFrom base (d ∷ ds) u v → SameFrom ((base + width_of d) + width_of d) ds u v
present_rest base d ds u v same k m known low high =
    let place : base + level_at (d ∷ ds) Now (suc k) ≡ ((base + width_of d) + width_of d) + level_at ds Now k = omega arith in
    same (suc k) m (omega (arith, known)) (subst (λ l. l ≤ m) (sym place) low) (subst (λ l. m < l + width_at ds k) (sym place) high)

-- values whose next bits are first do not come after others
pub values_order : (base : ℕ) (ds : List DomainData) (us vs : List Value) (u v : Bits) → is_assignment ds us ≡ true → is_assignment ds vs ≡ true → HasFrom base ds us u → HasFrom base ds vs v → SameFrom base ds u v → NotAfter (level_count ds) base u v → comes_before ds vs us ≡ false
values_order base [] us vs u v eu ev has_u has_v same order = refl
values_order base (d ∷ ds) [] vs u v eu ev has_u has_v same order = absurd (false≢true eu)
values_order base (d ∷ ds) (a ∷ us) [] u v eu ev has_u has_v same order = absurd (false≢true ev)
values_order base (d ∷ ds) (a ∷ us) (b ∷ vs) u v eu ev has_u has_v same order =
    elim (numbers_order (base + width_of d) (width_of d) (level_count ds) (rank_of d a) (rank_of d b) u v (code_small d a pu.0) (code_small d b pv.0) here_u here_v passed) [
      | inl less ↦ earlier less (same_value b a) refl
      | inr is ↦ later is.0 (values_order ((base + width_of d) + width_of d) ds us vs u v pu.1 pv.1 (has_rest base d ds a us u has_u) (has_rest base d ds b vs v has_v) (present_rest base d ds u v same) is.1)
    ]
  where
    pu : (list_any (same_value a) (values_of d) ≡ true) × (is_assignment ds us ≡ true)
    pu = and_parts (list_any (same_value a) (values_of d)) (is_assignment ds us) eu

    pv : (list_any (same_value b) (values_of d) ≡ true) × (is_assignment ds vs ≡ true)
    pv = and_parts (list_any (same_value b) (values_of d)) (is_assignment ds vs) ev

    passed : NotAfter (width_of d + level_count ds) (base + width_of d) u v
    passed =
        let counted : 2 * width_of d + level_count ds ≡ width_of d + (width_of d + level_count ds) = omega arith in
        same_passed (width_of d) base (width_of d + level_count ds) u v (λ m low high. same 0 m (omega arith) (omega (arith, low)) (omega (arith, high))) (subst (λ k. NotAfter k base u v) counted order)

    here_u : has_number (base + width_of d) (width_of d) (rank_of d a) u ≡ true
    here_u = let place : base + (0 + width_of d) ≡ base + width_of d = omega arith in subst (λ l. has_number l (width_of d) (rank_of d a) u ≡ true) place (has_u 0 (omega arith))

    here_v : has_number (base + width_of d) (width_of d) (rank_of d b) v ≡ true
    here_v = let place : base + (0 + width_of d) ≡ base + width_of d = omega arith in subst (λ l. has_number l (width_of d) (rank_of d b) v ≡ true) place (has_v 0 (omega arith))

    earlier : rank_of d a < rank_of d b → (c : Bool) → same_value b a ≡ c → (nat_lt (rank_of d b) (rank_of d a) || same_value b a && comes_before ds vs us) ≡ false
    earlier less true e = let one = ap (rank_of d) (same_value-true b a e) in absurd (omega (arith, less, one))
    earlier less false e = let off : nat_lt (rank_of d b) (rank_of d a) ≡ false = grind (arith, nat_tests) in rw (off, e) refl

    later : rank_of d a ≡ rank_of d b → comes_before ds vs us ≡ false → (nat_lt (rank_of d b) (rank_of d a) || same_value b a && comes_before ds vs us) ≡ false
    later is rest = let off : nat_lt (rank_of d b) (rank_of d a) ≡ false = grind (arith, nat_tests) in rw (off, rest) (none (same_value b a))
      where
        none : (x : Bool) → (x && false) ≡ false
        none true = refl
        none false = refl

-- ---- parts of lists

-- what both begin with decides nothing
pub before-prefix : (ds es : List DomainData) (ws vs us : List Value) → is_assignment ds ws ≡ true → comes_before (ds ++ es) (ws ++ vs) (ws ++ us) ≡ comes_before es vs us
before-prefix [] es [] vs us e = refl
before-prefix [] es (w ∷ ws) vs us e = absurd (false≢true e)
before-prefix (d ∷ ds) es [] vs us e = absurd (false≢true e)
before-prefix (d ∷ ds) es (w ∷ ws) vs us e =
    let parts = and_parts (list_any (same_value w) (values_of d)) (is_assignment ds ws) e in
    let off : nat_lt (rank_of d w) (rank_of d w) ≡ false = grind (arith, nat_tests) in
    let itself = same_value-refl w in
    rw (off, itself) (before-prefix ds es ws vs us parts.1)

-- nor does what follows where they differ before
pub before_suffix : (ds es : List DomainData) (vs us more others : List Value) → comes_before ds vs us ≡ true → comes_before (ds ++ es) (vs ++ more) (us ++ others) ≡ true
before_suffix [] es vs us more others e = absurd (false≢true e)
before_suffix (d ∷ ds) es [] us more others e = absurd (false≢true e)
before_suffix (d ∷ ds) es (v ∷ vs) [] more others e = absurd (false≢true e)
before_suffix (d ∷ ds) es (v ∷ vs) (u ∷ us) more others e =
    at (nat_lt (rank_of d v) (rank_of d u)) (same_value v u) e (before_suffix ds es vs us more others)
  where
    at : (x y : Bool) → (x || y && comes_before ds vs us) ≡ true → (comes_before ds vs us ≡ true → comes_before (ds ++ es) (vs ++ more) (us ++ others) ≡ true) → (x || y && comes_before (ds ++ es) (vs ++ more) (us ++ others)) ≡ true
    at true y e rest = refl
    at false true e rest = rest e
    at false false e rest = absurd (false≢true e)

-- the same, of slots that begin at level 0
pub first_values : (ds : List DomainData) (us vs : List Value) (u v : Bits) → FirstHaveFirst ds us vs u v
first_values ds us vs u v eu ev has_u has_v same order =
    values_order 0 ds us vs u v eu ev (λ k known. moved us u k (has_u k known)) (λ k known. moved vs v k (has_v k known))
    (λ k m known low high. let none : 0 + level_at ds Now k ≡ level_at ds Now k = omega arith in same k m known (subst (λ l. l ≤ m) none low) (subst (λ l. m < l + width_at ds k) none high)) order
  where
    moved : (ws : List Value) (s : Bits) (k : ℕ) → has_number (level_at ds Next k) (width_at ds k) (code_at ds ws k) s ≡ true → has_number (0 + level_at ds Next k) (width_at ds k) (code_at ds ws k) s ≡ true
    moved ws s k has = let none : level_at ds Next k ≡ 0 + level_at ds Next k = omega arith in subst (λ l. has_number l (width_at ds k) (code_at ds ws k) s ≡ true) none has
