-- How often an input is read for what it gives.
use Rattle.std.proofs.Common.{◌≡◌, ℕ, ◌+◌, ◌<◌, ◌≤◌, List, [], ◌++◌, length, take, Option, Result, Ok, Err, IsErr, arith, length-append, length-take}
use Rattle.std.proofs.KnownBytes.{Consumes-nil, Consumes-trans, Consumes-kept}
use Rattle.std.specs.Io.KnownBytes.{Consumes, Keeps}
use Rattle.sp_outside.specs.Causes.{one_more}
use Rattle.sp_outside.specs.Parts.{ReadsUpTo, idle_in}

-- it was not read
pub none_read : (most idle : ℕ) (left : Option (List ℕ)) (reads : ℕ) → ReadsUpTo most idle left left reads reads
none_read most idle left reads = record { given = []; taken_from = Consumes-nil left; within = omega arith; each = omega arith }

-- more bytes and more reads may be let
pub read_within : (m n i j : ℕ) (a b : Option (List ℕ)) (r s : ℕ) → m ≤ n → i ≤ j → ReadsUpTo m i a b r s → ReadsUpTo n j a b r s
read_within m n i j a b r s most idle so =
    record { given = so.given; taken_from = so.taken_from; within = omega (arith, so.within, most); each = omega (arith, so.each, idle) }

-- what is read for one part and then for another is read for both
pub read_both : (m n i j : ℕ) (a b c : Option (List ℕ)) (r s t : ℕ) → ReadsUpTo m i a b r s → ReadsUpTo n j b c s t → ReadsUpTo (m + n) (i + j) a c r t
read_both m n i j a b c r s t first second =
    let e = length-append first.given second.given in
    record {
      given = first.given ++ second.given;
      taken_from = Consumes-trans a b c first.given second.given first.taken_from second.taken_from;
      within = omega (arith, e, first.within, second.within);
      each = omega (arith, e, first.each, second.each);
    }

-- where it failed, one read took none
pub idle_failed : {E : Type 0} (room : ℕ) (r : Result ℕ E) → IsErr r → 1 ≤ idle_in room r
idle_failed room (Ok n) is = absurd (cc)
idle_failed room (Err e) is = omega arith

-- ---- one read

-- it took some bytes
pub read_some : (a b : Option (List ℕ)) (r s n : ℕ) (buf : List ℕ) → n ≤ length buf → 0 < n → Consumes a b (take n buf) → s ≡ one_more r → ReadsUpTo n 0 a b r s
read_some a b r s n buf fits some taken once =
    let e = length-take n buf in
    record { given = take n buf; taken_from = taken; within = omega (arith, e, fits); each = omega (arith, e, fits, some, once) }

-- it took none, at the end of the input
pub read_end : (a b : Option (List ℕ)) (r s n : ℕ) (buf : List ℕ) → n ≡ 0 → Consumes a b (take n buf) → s ≡ one_more r → ReadsUpTo 0 1 a b r s
read_end a b r s n buf none taken once =
    let e = length-take n buf in
    record { given = take n buf; taken_from = taken; within = omega (arith, e, none); each = omega (arith, once) }

-- it failed
pub read_fault : (a b : Option (List ℕ)) (r s : ℕ) → Keeps a b → s ≡ one_more r → ReadsUpTo 0 1 a b r s
read_fault a b r s kept once =
    record { given = []; taken_from = Consumes-kept a a b [] (Consumes-nil a) kept; within = omega arith; each = omega (arith, once) }
