-- Bits that are a number's digits.
use Rattle.std.proofs.Common.{◌≡◌, ℕ, zero, suc, ◌+◌, ◌-◌, ◌^◌, ◌<◌, ◌≤◌, Bool, true, false, refl, sym, arith, nat_le}
use Rattle.std.proofs.lemmas.Bool.{false≢true}
use Rattle.std.proofs.lemmas.Bool.Decides.{nat_tests}
use Rattle.spec_model.specs.Diagrams.{Bits}
use Rattle.bit_compile.specs.Codes.{has_number}

-- truth values are the same where each is true if the other is
pub same_bools : (x y : Bool) → (x ≡ true → y ≡ true) → (y ≡ true → x ≡ true) → x ≡ y
same_bools true y there back = sym (there refl)
same_bools false true there back = back refl
same_bools false false there back = refl

-- only the number's own levels are read
pub has_number-same : (level w n : ℕ) (s t : Bits) → ((m : ℕ) → level ≤ m → m < level + w → s m ≡ t m) → has_number level w n s ≡ has_number level w n t
has_number-same level zero n s t same = refl
has_number-same level (suc w) n s t same =
    let here = same level (omega arith) (omega arith) in
    let high = has_number-same (suc level) w (n - 2 ^ w) s t (λ m low below. same m (omega arith) (omega arith)) in
    let low = has_number-same (suc level) w n s t (λ m low below. same m (omega arith) (omega arith)) in
    cc

pub number_high : (level w n : ℕ) (s : Bits) → 2 ^ w ≤ n → s level ≡ true → has_number (suc level) w (n - 2 ^ w) s ≡ true → has_number level (suc w) n s ≡ true
number_high level w n s h here rest =
    let high : nat_le (2 ^ w) n ≡ true = grind (arith, nat_tests) in
    cc

pub number_low : (level w n : ℕ) (s : Bits) → n < 2 ^ w → s level ≡ false → has_number (suc level) w n s ≡ true → has_number level (suc w) n s ≡ true
number_low level w n s h here rest =
    let low : nat_le (2 ^ w) n ≡ false = grind (arith, nat_tests) in
    cc

-- bits are the digits of one number
pub one_number : (level w m n : ℕ) (s : Bits) → m < 2 ^ w → n < 2 ^ w → has_number level w m s ≡ true → has_number level w n s ≡ true → m ≡ n
one_number level zero m n s small little a b = omega arith
one_number level (suc w) m n s small little a b =
    at (nat_le (2 ^ w) m) refl (nat_le (2 ^ w) n) refl (s level) refl (one_number (suc level) w (m - 2 ^ w) (n - 2 ^ w) s) (one_number (suc level) w m n s)
  where
    at : (x : Bool) → nat_le (2 ^ w) m ≡ x → (y : Bool) → nat_le (2 ^ w) n ≡ y → (z : Bool) → s level ≡ z → (m - 2 ^ w < 2 ^ w → n - 2 ^ w < 2 ^ w → has_number (suc level) w (m - 2 ^ w) s ≡ true → has_number (suc level) w (n - 2 ^ w) s ≡ true → m - 2 ^ w ≡ n - 2 ^ w) → (m < 2 ^ w → n < 2 ^ w → has_number (suc level) w m s ≡ true → has_number (suc level) w n s ≡ true → m ≡ n) → m ≡ n
    at true ex true ey true ez high low =
        let left : has_number (suc level) w (m - 2 ^ w) s ≡ true = cc in
        let right : has_number (suc level) w (n - 2 ^ w) s ≡ true = cc in
        let mh : 2 ^ w ≤ m = grind (arith, nat_tests) in
        let nh : 2 ^ w ≤ n = grind (arith, nat_tests) in
        let rest = high (omega arith) (omega arith) left right in
        omega (arith, rest)
    at true ex y ey false ez high low = let bad : false ≡ true = cc in absurd (false≢true bad)
    at true ex false ey true ez high low = let bad : false ≡ true = cc in absurd (false≢true bad)
    at false ex y ey true ez high low = let bad : false ≡ true = cc in absurd (false≢true bad)
    at false ex true ey false ez high low = let bad : false ≡ true = cc in absurd (false≢true bad)
    at false ex false ey false ez high low =
        let left : has_number (suc level) w m s ≡ true = cc in
        let right : has_number (suc level) w n s ≡ true = cc in
        let ml : m < 2 ^ w = grind (arith, nat_tests) in
        let nl : n < 2 ^ w = grind (arith, nat_tests) in
        low ml nl left right
