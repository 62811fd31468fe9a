-- Two different reduced diagrams differ on some bits, and so on some list of bits.
use Rattle.std.proofs.Common.{◌≡◌, ◌≢◌, ◌⊎◌, ℕ, zero, suc, ◌+◌, ◌<◌, ◌≤◌, Bool, true, false, cond, List, [], ◌∷◌, ◌++◌, length, refl, sym, ◌∙◌, ap, subst, inl, inr, arith}
use Rattle.std.proofs.lemmas.Bool.{cases_order, cases_lt, cases_eq, false≢true, true≢false, eq-eqb, ne_eqb}
use Rattle.std.proofs.lemmas.List.{get_or_push, get_or_append_left, length_push}
use Rattle.spec_model.specs.Diagrams.{Diagram, constant, branch, Bits, with_bit, value, IsLater, IsReduced, IsWithin}
use Rattle.spec_model.specs.DiagramReads.{bits_of, DifferSomewhere}

-- ---- values

pub with_bit_same : (s : Bits) (level : ℕ) (b : Bool) → with_bit s level b level ≡ b
with_bit_same s level b = ap (λ t. cond t b (s level)) (eq-eqb level level refl)

pub with_bit_other : (s : Bits) (level : ℕ) (b : Bool) (other : ℕ) → other ≢ level → with_bit s level b other ≡ s other
with_bit_other s level b other ne = ap (λ t. cond t b (s other)) (ne_eqb other level ne)

same_choice : (b c : Bool) → b ≡ c → (x x' y y' : Bool) → x ≡ x' → y ≡ y' → cond b x y ≡ cond c x' y'
same_choice b c e x x' y y' ex ey = cc

-- a reduced diagram reads only levels from its own on
pub value_from : (d : Diagram) (n : ℕ) (s t : Bits) → IsReduced d → IsLater n d → ((k : ℕ) → n < k → s k ≡ t k) → value d s ≡ value d t
value_from (constant b) n s t reduced later agree = refl
value_from (branch own low high) n s t reduced later agree =
    same_choice (s own) (t own) (agree own later) (value high s) (value high t) (value low s) (value low t)
    (value_from high own s t reduced.4 reduced.2 (λ k more. agree k (omega arith)))
    (value_from low own s t reduced.3 reduced.1 (λ k more. agree k (omega arith)))

-- and only levels that stand in it
pub value_below : (d : Diagram) (n : ℕ) (s t : Bits) → IsWithin n d → ((k : ℕ) → k < n → s k ≡ t k) → value d s ≡ value d t
value_below (constant b) n s t within agree = refl
value_below (branch own low high) n s t within agree =
    same_choice (s own) (t own) (agree own within.0) (value high s) (value high t) (value low s) (value low t)
    (value_below high n s t within.2 agree) (value_below low n s t within.1 agree)

pub value-with_bit : (d : Diagram) (level : ℕ) (s : Bits) (b : Bool) → IsReduced d → IsLater level d → value d (with_bit s level b) ≡ value d s
value-with_bit d level s b reduced later =
    value_from d level (with_bit s level b) s reduced later (λ k more. with_bit_other s level b k (omega arith))

-- the parts are the diagram's values at the two values of its level
pub value_at_false : (level : ℕ) (low high : Diagram) (s : Bits) → IsReduced (branch level low high) →
    value (branch level low high) (with_bit s level false) ≡ value low s
value_at_false level low high s reduced =
    let t : Bits = with_bit s level false in
    ap (λ b. cond b (value high t) (value low t)) (with_bit_same s level false) ∙ value-with_bit low level s false reduced.3 reduced.1

pub value_at_true : (level : ℕ) (low high : Diagram) (s : Bits) → IsReduced (branch level low high) →
    value (branch level low high) (with_bit s level true) ≡ value high s
value_at_true level low high s reduced =
    let t : Bits = with_bit s level true in
    ap (λ b. cond b (value high t) (value low t)) (with_bit_same s level true) ∙ value-with_bit high level s true reduced.4 reduced.2

-- ---- equal or not

cases_same : (a b : Bool) → (a ≡ b) ⊎ (a ≢ b)
cases_same true true = inl refl
cases_same true false = inr true≢false
cases_same false true = inr false≢true
cases_same false false = inl refl

branch_differs : (level level' : ℕ) (low low' high high' : Diagram) → (level ≡ level') ⊎ (level ≢ level') → (low ≡ low') ⊎ (low ≢ low') → (high ≡ high') ⊎ (high ≢ high') →
    (branch level low high ≡ branch level' low' high') ⊎ (branch level low high ≢ branch level' low' high')
branch_differs level level' low low' high high' (inl e) (inl f) (inl g) = inl (cc)
branch_differs level level' low low' high high' (inr ne) f g = inr (λ e. ne (cc))
branch_differs level level' low low' high high' (inl e) (inr ne) g = inr (λ e. ne (cc))
branch_differs level level' low low' high high' (inl e) (inl f) (inr ne) = inr (λ e. ne (cc))

pub equal_or_not : (a b : Diagram) → (a ≡ b) ⊎ (a ≢ b)
equal_or_not (constant b) (constant c) = elim (cases_same b c) [ inl e ↦ inl (ap constant e) | inr ne ↦ inr (λ e. ne (cc)) ]
equal_or_not (constant b) (branch level low high) = inr (λ e. cc)
equal_or_not (branch level low high) (constant b) = inr (λ e. cc)
equal_or_not (branch level low high) (branch level' low' high') =
    branch_differs level level' low low' high high' (cases_eq level level') (equal_or_not low low') (equal_or_not high high')

-- ---- different diagrams differ

abbrev size : Diagram → ℕ
size (constant b) = 1
size (branch level low high) = 1 + size low + size high

abbrev Differ : Diagram → Diagram → Type 0
Differ a b = (s : Bits) × (value a s ≢ value b s)

differ_back : (a b : Diagram) → Differ a b → Differ b a
differ_back a b d = (d.0, λ e. d.1 (sym e))

differ_at : (a b : Diagram) (s : Bits) (x y : Bool) → value a s ≡ x → value b s ≡ y → x ≢ y → Differ a b
differ_at a b s x y ex ey ne = (s, λ e. ne (sym ex ∙ (e ∙ ey)))

-- a branch whose parts differ differs from each diagram of later levels
branch_from_later : (level : ℕ) (low high other : Diagram) → IsReduced (branch level low high) → IsReduced other → IsLater level other → Differ low high →
    Differ (branch level low high) other
branch_from_later level low high other reduced reduced' later d =
    let s : Bits = d.0 in
    elim (cases_same (value low s) (value other s)) [
      | inl e ↦ differ_at (branch level low high) other (with_bit s level true) _ _ (value_at_true level low high s reduced) (value-with_bit other level s true reduced' later) (λ f. d.1 (e ∙ sym f))
      | inr ne ↦ differ_at (branch level low high) other (with_bit s level false) _ _ (value_at_false level low high s reduced) (value-with_bit other level s false reduced' later) ne
    ]

-- two branches of one level differ where a part of them does
branches_of_level : (level : ℕ) (low high low' high' : Diagram) → IsReduced (branch level low high) → IsReduced (branch level low' high') → Differ low low' ⊎ Differ high high' →
    Differ (branch level low high) (branch level low' high')
branches_of_level level low high low' high' reduced reduced' (inl d) =
    differ_at (branch level low high) (branch level low' high') (with_bit d.0 level false) _ _ (value_at_false level low high d.0 reduced) (value_at_false level low' high' d.0 reduced') d.1
branches_of_level level low high low' high' reduced reduced' (inr d) =
    differ_at (branch level low high) (branch level low' high') (with_bit d.0 level true) _ _ (value_at_true level low high d.0 reduced) (value_at_true level low' high' d.0 reduced') d.1

size_positive : (a : Diagram) → 0 < size a
size_positive (constant b) = omega arith
size_positive (branch level low high) = omega arith

-- two branches of one level are different only where a part of them is
parts_differ : (level : ℕ) (low high low' high' : Diagram) → (low ≡ low') ⊎ (low ≢ low') → branch level low high ≢ branch level low' high' → (low ≢ low') ⊎ (high ≢ high')
parts_differ level low high low' high' (inr ne) differ = inl ne
parts_differ level low high low' high' (inl e) differ = inr (λ f. differ (cc))

-- two different branches of one level differ, where different parts do
at_one_level : (level level' : ℕ) (low high low' high' : Diagram) → level ≡ level' → IsReduced (branch level low high) → IsReduced (branch level' low' high') →
    branch level low high ≢ branch level' low' high' → (low ≢ low' → Differ low low') → (high ≢ high' → Differ high high') →
    Differ (branch level low high) (branch level' low' high')
at_one_level level level' low high low' high' e r r' ne lows highs =
    let here : branch level' low' high' ≡ branch level low' high' = ap (λ l. branch l low' high') (sym e) in
    let parts : Differ low low' ⊎ Differ high high' =
    elim (parts_differ level low high low' high' (equal_or_not low low') (λ f. ne (f ∙ sym here))) [ inl f ↦ inl (lows f) | inr f ↦ inr (highs f) ] in
    subst (λ d. Differ (branch level low high) d) (sym here) (branches_of_level level low high low' high' r (subst IsReduced here r') parts)

differ : (fuel : ℕ) (a b : Diagram) → size a + size b ≤ fuel → IsReduced a → IsReduced b → a ≢ b → Differ a b
differ zero a b le r r' ne = absurd (omega (arith, size_positive a))
differ (suc fuel) (constant b) (constant c) le r r' ne = ((λ level. false), λ e. ne (ap constant e))
differ (suc fuel) (constant b) (branch level low high) le r r' ne =
    differ_back (branch level low high) (constant b) (branch_from_later level low high (constant b) r' tt tt (differ fuel low high (omega arith) r'.3 r'.4 r'.0))
differ (suc fuel) (branch level low high) (constant b) le r r' ne =
    branch_from_later level low high (constant b) r tt tt (differ fuel low high (omega arith) r.3 r.4 r.0)
differ (suc fuel) (branch level low high) (branch level' low' high') le r r' ne =
    elim (cases_order level level') [
      | inl e ↦ at_one_level level level' low high low' high' e r r' ne
          (differ fuel low low' (omega (arith, size_positive high)) r.3 r'.3) (differ fuel high high' (omega (arith, size_positive low)) r.4 r'.4)
      | inr (inl less) ↦ branch_from_later level low high (branch level' low' high') r r' less (differ fuel low high (omega (arith, size_positive low')) r.3 r.4 r.0)
      | inr (inr more) ↦ differ_back (branch level' low' high') (branch level low high) (branch_from_later level' low' high' (branch level low high) r' r more (differ fuel low' high' (omega (arith, size_positive low)) r'.3 r'.4 r'.0))
    ]

-- ---- and so on a list

-- a number that is above each level
abbrev pub height : Diagram → ℕ
height (constant b) = 0
height (branch level low high) = 1 + level + height low + height high

pub IsWithin-more : (d : Diagram) (n m : ℕ) → n ≤ m → IsWithin n d → IsWithin m d
IsWithin-more (constant b) n m le within = tt
IsWithin-more (branch level low high) n m le within = (omega (arith, within.0), IsWithin-more low n m le within.1, IsWithin-more high n m le within.2)

pub IsWithin-height : (d : Diagram) → IsWithin (height d) d
IsWithin-height (constant b) = tt
IsWithin-height (branch level low high) =
    (omega arith, IsWithin-more low _ _ (omega arith) (IsWithin-height low), IsWithin-more high _ _ (omega arith) (IsWithin-height high))

-- the first n bits
abbrev first_bits : Bits → ℕ → List Bool
first_bits s zero = []
first_bits s (suc n) = first_bits s n ++ s n ∷ []

length-first_bits : (s : Bits) (n : ℕ) → length (first_bits s n) ≡ n
length-first_bits s zero = refl
length-first_bits s (suc n) = omega (arith, length_push (first_bits s n) (s n), length-first_bits s n)

bits_of-first_bits : (s : Bits) (n k : ℕ) → k < n → bits_of (first_bits s n) k ≡ s k
bits_of-first_bits s zero k less = absurd (omega arith)
bits_of-first_bits s (suc n) k less =
    elim (cases_lt k n) [
      | inl below ↦ get_or_append_left (first_bits s n) (s n ∷ []) false k (omega (arith, length-first_bits s n)) ∙ bits_of-first_bits s n k below
      | inr at ↦ let e : k ≡ n = omega arith in ap (λ i. bits_of (first_bits s (suc n)) i) e ∙ (get_or_push (first_bits s n) (s n) false n (length-first_bits s n) ∙ ap s (sym e))
    ]

value-first_bits : (d : Diagram) (n : ℕ) (s : Bits) → height d ≤ n → value d (bits_of (first_bits s n)) ≡ value d s
value-first_bits d n s le =
    value_below d n (bits_of (first_bits s n)) s (IsWithin-more d (height d) n le (IsWithin-height d)) (bits_of-first_bits s n)

pub differ_somewhere : (a b : Diagram) → DifferSomewhere a b
differ_somewhere a b reduced reduced' ne =
    let d : Differ a b = differ (size a + size b) a b (omega arith) reduced reduced' ne in
    let n : ℕ = height a + height b in
    (first_bits d.0 n, λ e. d.1 (sym (value-first_bits a n d.0 (omega arith)) ∙ (e ∙ value-first_bits b n d.0 (omega arith))))

-- reduced diagrams of one function are one
pub same_function : (a b : Diagram) → IsReduced a → IsReduced b → value a ≡ value b → a ≡ b
same_function a b reduced reduced' e =
    elim (equal_or_not a b) [
      | inl same ↦ same
      | inr ne ↦ let d : Differ a b = differ (size a + size b) a b (omega arith) reduced reduced' ne in absurd (d.1 (ap (λ f. f d.0) e))
    ]
