-- What reduced diagrams read, and their parts.
use Rattle.std.proofs.Common.{◌≡◌, ℕ, ◌<◌, ◌≤◌, inl, inr, sym, ◌∙◌, ap, subst, refl, arith, Bool, true, false, if◌then◌else◌}
use Rattle.std.proofs.lemmas.Bool.{cases_order}
use Rattle.spec_model.specs.Diagrams.{Diagram, constant, branch, Bits, value, with_bit, IsLater, IsReduced, IsWithin, IsPartOf}
use Rattle.spec_model.specs.DiagramReads.{Reads}
use Rattle.spec_model.proofs.Diagrams.{same_function, value-with_bit, value_at_false, value_at_true}
use Rattle.bdd_ops.specs.Reading.{Ignores, IgnoresTo}
use Rattle.bdd_ops.proofs.FunctionLemmas.{with_bit-swapped}

-- a diagram of later levels is one of levels later than an earlier one
pub later_than_earlier : (d : Diagram) (m level : ℕ) → m ≤ level → IsLater level d → IsLater m d
later_than_earlier (constant b) m level le later = tt
later_than_earlier (branch own low high) m level le later = omega arith

-- a reduced diagram reads no level up to one before its own
pub later_ignores : (d : Diagram) (level : ℕ) → IsReduced d → IsLater level d → IgnoresTo level (value d)
later_ignores d level reduced later m le s b = value-with_bit d m s b reduced (later_than_earlier d m level le later)

-- and its own it reads
pub own_is_read : (own : ℕ) (low high : Diagram) → IsReduced (branch own low high) → Ignores own (value (branch own low high)) → ⊥
own_is_read own low high reduced ignores =
    let agree : (s : Bits) → value low s ≡ value high s = λ s.
    sym (value_at_false own low high s reduced) ∙ (ignores s false ∙ (sym (ignores s true) ∙ value_at_true own low high s reduced)) in
    reduced.0 (same_function low high reduced.3 reduced.4 (λ i s. agree s i))

-- a reduced diagram that reads no level up to this one is of later levels
pub later_from_ignored : (d : Diagram) (level : ℕ) → IsReduced d → IgnoresTo level (value d) → IsLater level d
later_from_ignored (constant b) level reduced ignores = tt
later_from_ignored (branch own low high) level reduced ignores =
    elim (cases_order level own) [
      | inl same ↦ absurd (own_is_read own low high reduced (ignores own (omega arith)))
      | inr (inl before) ↦ before
      | inr (inr behind) ↦ absurd (own_is_read own low high reduced (ignores own (omega arith)))
    ]

-- a diagram is a part of itself
pub part_of_itself : (d : Diagram) → IsPartOf d d
part_of_itself (constant b) = refl
part_of_itself (branch own low high) = inl refl

-- a part of a part is a part
pub part_of_part : (x y d : Diagram) → IsPartOf x y → IsPartOf y d → IsPartOf x d
part_of_part x y (constant b) within part = subst (λ (p : Diagram). IsPartOf x p) part within
part_of_part x y (branch own low high) within (inl same) = subst (λ (p : Diagram). IsPartOf x p) same within
part_of_part x y (branch own low high) within (inr (inl part)) = inr (inl (part_of_part x y low within part))
part_of_part x y (branch own low high) within (inr (inr part)) = inr (inr (part_of_part x y high within part))

-- a reduced diagram of later levels reads later levels
pub reads_later : (d : Diagram) (level x : ℕ) → IsReduced d → IsLater level d → Reads x d → level < x
reads_later (constant b) level x reduced later reads = absurd reads
reads_later (branch own low high) level x reduced later (inl same) = omega arith
reads_later (branch own low high) level x reduced later (inr (inl in_low)) =
    let after : own < x = reads_later low own x reduced.3 reduced.1 in_low in omega arith
reads_later (branch own low high) level x reduced later (inr (inr in_high)) =
    let after : own < x = reads_later high own x reduced.4 reduced.2 in_high in omega arith

-- a part reads levels of the whole
pub reads_part : (part d : Diagram) (x : ℕ) → IsPartOf part d → Reads x part → Reads x d
reads_part part (constant b) x within reads = subst (λ (p : Diagram). Reads x p) within reads
reads_part part (branch own low high) x (inl same) reads = subst (λ (p : Diagram). Reads x p) same reads
reads_part part (branch own low high) x (inr (inl in_low)) reads = inr (inl (reads_part part low x in_low reads))
reads_part part (branch own low high) x (inr (inr in_high)) reads = inr (inr (reads_part part high x in_high reads))

if_same : (a b x y z w : Bool) → a ≡ b → x ≡ y → z ≡ w → (if a then x else z) ≡ (if b then y else w)
if_same a b x y z w p q r = rw (p, q, r) refl

-- bits that agree on the levels read give one value
pub value_read : (d : Diagram) (u v : Bits) → ((x : ℕ) → Reads x d → u x ≡ v x) → value d u ≡ value d v
value_read (constant b) u v agree = refl
value_read (branch own low high) u v agree =
    if_same (u own) (v own) (value high u) (value high v) (value low u) (value low v) (agree own (inl refl)) (value_read high u v (λ x reads. agree x (inr (inr reads)))) (value_read low u v (λ x reads. agree x (inr (inl reads))))

-- a part ignores a later level that the whole ignores
low_ignores : (own : ℕ) (low high : Diagram) (x : ℕ) → IsReduced (branch own low high) → own < x → Ignores x (value (branch own low high)) → Ignores x (value low)
low_ignores own low high x reduced before ignores s b =
    sym (value_at_false own low high (with_bit s x b) reduced)
    ∙ (ap (value (branch own low high)) (with_bit-swapped s own x b false (λ same. omega arith))
    ∙ (ignores (with_bit s own false) b ∙ value_at_false own low high s reduced))

high_ignores : (own : ℕ) (low high : Diagram) (x : ℕ) → IsReduced (branch own low high) → own < x → Ignores x (value (branch own low high)) → Ignores x (value high)
high_ignores own low high x reduced before ignores s b =
    sym (value_at_true own low high (with_bit s x b) reduced)
    ∙ (ap (value (branch own low high)) (with_bit-swapped s own x b true (λ same. omega arith))
    ∙ (ignores (with_bit s own true) b ∙ value_at_true own low high s reduced))

-- a reduced diagram depends on each level that stands in it
pub reads_depends : (d : Diagram) (x : ℕ) → IsReduced d → Reads x d → Ignores x (value d) → ⊥
reads_depends (constant b) x reduced reads ignores = reads
reads_depends (branch own low high) x reduced (inl same) ignores =
    own_is_read own low high reduced (subst (λ (l : ℕ). Ignores l (value (branch own low high))) same ignores)
reads_depends (branch own low high) x reduced (inr (inl in_low)) ignores =
    reads_depends low x reduced.3 in_low (low_ignores own low high x reduced (reads_later low own x reduced.3 reduced.1 in_low) ignores)
reads_depends (branch own low high) x reduced (inr (inr in_high)) ignores =
    reads_depends high x reduced.4 in_high (high_ignores own low high x reduced (reads_later high own x reduced.4 reduced.2 in_high) ignores)

-- the levels that stand in a diagram are within its levels
pub reads_within : (d : Diagram) (n x : ℕ) → IsWithin n d → Reads x d → x < n
reads_within (constant b) n x within reads = absurd reads
reads_within (branch own low high) n x within (inl same) = rw same within.0
reads_within (branch own low high) n x within (inr (inl in_low)) = reads_within low n x within.1 in_low
reads_within (branch own low high) n x within (inr (inr in_high)) = reads_within high n x within.2 in_high
