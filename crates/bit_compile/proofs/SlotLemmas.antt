-- Where the slots of a list of domains stand.
use Rattle.std.proofs.Common.{◌≡◌, ℕ, zero, suc, ◌+◌, ◌*◌, ◌^◌, ◌<◌, ◌≤◌, List, [], ◌∷◌, ◌++◌, map, length, take, get_or, refl, sym, ◌∙◌, ap, subst, arith, true, false, ◌⊎◌, inl, inr}
use Rattle.std.proofs.lemmas.Bool.{false≢true, and_parts}
use Rattle.std.specs.List.{list_any}
use Rattle.spec_model.specs.declared.value.Value.{Value}
use Rattle.spec_model.specs.declared.value.Value.TheVariants as value
use Rattle.spec_model.specs.declared.value.Domain.{Domain}
use Rattle.spec_model.specs.Views.{domain_data}
use Rattle.spec_model.specs.Values.{DomainData, TruthValues, is_assignment, same_value, values_of}
use Rattle.game_values.specs.declared.seen.At.{At}
use Rattle.game_values.specs.declared.seen.At.TheVariants.{Now, Next}
use Rattle.bit_compile.specs.declared.slots.Slot.{Slot}
use Rattle.bit_compile.specs.Domains.{width_of, level_count}
use Rattle.bit_compile.specs.Laid.{IsCountable, AreLaidOut, slots_from, IsOutside}
use Rattle.bit_compile.specs.Codes.{domain_in, width_at, level_at}

pub length-slots : (ds : List DomainData) (level : ℕ) → length (slots_from level ds) ≡ length ds
length-slots [] level = refl
length-slots (d ∷ ds) level = ap suc (length-slots ds (level + 2 * width_of d))

pub slot_at : (ds : List DomainData) (level k : ℕ) (slot : Slot) → k < length ds → slot ≡ get_or (slots_from level ds) k slot → (slot.first ≡ level + level_count (take k ds)) × (slot.width ≡ width_at ds k)
slot_at [] level k slot h e = absurd (omega arith)
slot_at (d ∷ ds) level zero slot h e = (ap (λ s. s.first) e ∙ omega arith, ap (λ s. s.width) e)
slot_at (d ∷ ds) level (suc k) slot h e = let r = slot_at ds (level + 2 * width_of d) k slot (omega arith) e in (omega (arith, r.0), r.1)

pub level_count-push : (ds : List DomainData) (d : DomainData) → level_count (ds ++ d ∷ []) ≡ level_count ds + 2 * width_of d
level_count-push [] d = omega arith
level_count-push (e ∷ ds) d = let rest = level_count-push ds d in omega (arith, rest)

pub slots-push : (ds : List DomainData) (level : ℕ) (d : DomainData) → slots_from level (ds ++ d ∷ []) ≡ slots_from level ds ++ record { first = level + level_count ds; width = width_of d } ∷ []
slots-push [] level d = ap (λ n. record { first = n; width = width_of d } ∷ []) (omega arith)
slots-push (e ∷ ds) level d =
    let place : (level + 2 * width_of e) + level_count ds ≡ level + (2 * width_of e + level_count ds) = omega arith in
    ap (λ rest. record { first = level; width = width_of e } ∷ rest) (slots-push ds (level + 2 * width_of e) d ∙ ap (λ n. slots_from (level + 2 * width_of e) ds ++ record { first = n; width = width_of d } ∷ []) place)

-- what holds of each domain and of one more holds of each of them together
pub each_pushed : (P : DomainData → Type 0) (ds : List DomainData) (d : DomainData) → ((k : ℕ) → k < length ds → P (domain_in ds k)) → P d → (k : ℕ) → k < length (ds ++ d ∷ []) → P (domain_in (ds ++ d ∷ []) k)
each_pushed P [] d all here zero h = here
each_pushed P [] d all here (suc k) h = absurd (omega arith)
each_pushed P (e ∷ ds) d all here zero h = all 0 (omega arith)
each_pushed P (e ∷ ds) d all here (suc k) h = each_pushed P ds d (λ j below. all (suc j) (omega arith)) here k (omega arith)

-- one slot more, after those that are laid out
pub laid_out-push : (ds : List DomainData) (slots : List Slot) (levels more width : ℕ) (d : DomainData) → AreLaidOut ds slots levels → IsCountable d → width ≡ width_of d → width ≤ 64 → more ≡ levels + 2 * width → more < 2 ^ 32 → AreLaidOut (ds ++ d ∷ []) (slots ++ record { first = levels; width = width } ∷ []) more
laid_out-push ds slots levels more width d laid countable is narrow sum small =
    let none : 0 + level_count ds ≡ level_count ds = omega arith in
    record {
      slots_are = rw (is, laid.slots_are, laid.level_number) (sym (slots-push ds 0 d ∙ ap (λ n. slots_from 0 ds ++ record { first = n; width = width_of d } ∷ []) none));
      level_number = (let all = level_count-push ds d in let so_far = laid.level_number in omega (arith, all, so_far, is, sum));
      small = small;
      countable = each_pushed IsCountable ds d laid.countable countable;
      narrow = each_pushed (λ d. width_of d ≤ 64) ds d laid.narrow (subst (λ w. w ≤ 64) is narrow);
    }

-- the bits of a slot are within those of all
pub slot_within : (ds : List DomainData) (k : ℕ) → k < length ds → level_count (take k ds) + 2 * width_at ds k ≤ level_count ds
slot_within [] k h = absurd (omega arith)
slot_within (d ∷ ds) zero h = omega arith
slot_within (d ∷ ds) (suc k) h = let rest = slot_within ds k (omega arith) in omega (arith, rest)

-- an earlier slot's bits are before those of a later one
pub slot_before : (ds : List DomainData) (j k : ℕ) → j < k → j < length ds → level_count (take j ds) + 2 * width_at ds j ≤ level_count (take k ds)
slot_before [] j k h below = absurd (omega arith)
slot_before (d ∷ ds) j zero h below = absurd (omega arith)
slot_before (d ∷ ds) zero (suc k) h below = omega arith
slot_before (d ∷ ds) (suc j) (suc k) h below = let rest = slot_before ds j k (omega arith) (omega arith) in omega (arith, rest)

-- the same bits of an earlier slot are before those of a later one
pub earlier_before : (ds : List DomainData) (at : At) (j k : ℕ) → j < k → k < length ds → level_at ds at j + width_at ds j ≤ level_at ds at k
earlier_before ds Now j k h below = let before = slot_before ds j k h (omega arith) in omega (arith, before)
earlier_before ds Next j k h below = let before = slot_before ds j k h (omega arith) in omega (arith, before)

-- a level of the other bits of a slot is outside these bits of each slot
pub others_outside : (ds : List DomainData) (at other : At) (j k m : ℕ) → (other ≡ at → ⊥) → j < length ds → k < length ds → level_at ds other j ≤ m → m < level_at ds other j + width_at ds j → IsOutside ds at k m
others_outside ds Now Now j k m differ hj hk low high = absurd (differ refl)
others_outside ds Next Next j k m differ hj hk low high = absurd (differ refl)
others_outside ds Now Next j k m differ hj hk low high = by_cases order
  where
    order : (j < k) ⊎ ((j ≡ k) ⊎ (k < j))
    order = grind arith

    by_cases : (j < k) ⊎ ((j ≡ k) ⊎ (k < j)) → IsOutside ds Now k m
    by_cases (inl less) = let before = slot_before ds j k less hj in inl (omega (arith, before, low, high))
    by_cases (inr (inl same)) = inr (rw (sym same) (omega (arith, low)))
    by_cases (inr (inr more)) = let before = slot_before ds k j more hk in inr (omega (arith, before, low, high))
others_outside ds Next Now j k m differ hj hk low high = by_cases order
  where
    order : (j < k) ⊎ ((j ≡ k) ⊎ (k < j))
    order = grind arith

    by_cases : (j < k) ⊎ ((j ≡ k) ⊎ (k < j)) → IsOutside ds Next k m
    by_cases (inl less) = let before = slot_before ds j k less hj in inl (omega (arith, before, low, high))
    by_cases (inr (inl same)) = inl (rw (sym same) (omega (arith, high)))
    by_cases (inr (inr more)) = let before = slot_before ds k j more hk in inr (omega (arith, before, low, high))

-- each value of an assignment is one of its domain's
pub value_among : (ds : List DomainData) (vs : List Value) (k : ℕ) → is_assignment ds vs ≡ true → k < length vs → list_any (same_value (get_or vs k (value.Bool false))) (values_of (domain_in ds k)) ≡ true
value_among [] [] k e h = absurd (omega arith)
value_among [] (w ∷ vs) k e h = absurd (false≢true e)
value_among (d ∷ ds) [] k e h = absurd (false≢true e)
value_among (d ∷ ds) (w ∷ vs) zero e h = (and_parts (list_any (same_value w) (values_of d)) _ e).0
value_among (d ∷ ds) (w ∷ vs) (suc k) e h = value_among ds vs k (and_parts (list_any (same_value w) (values_of d)) _ e).1 (omega arith)

pub length-assignment : (ds : List DomainData) (vs : List Value) → is_assignment ds vs ≡ true → length vs ≡ length ds
length-assignment [] [] e = refl
length-assignment [] (w ∷ vs) e = absurd (false≢true e)
length-assignment (d ∷ ds) [] e = absurd (false≢true e)
length-assignment (d ∷ ds) (w ∷ vs) e = ap suc (length-assignment ds vs (and_parts (list_any (same_value w) (values_of d)) _ e).1)

-- the domain numbered k, from that of the program
pub domain_is : (ds : List Domain) (k : ℕ) (d : Domain) → k < length ds → d ≡ get_or ds k d → domain_data d ≡ get_or (map domain_data ds) k TruthValues
domain_is [] k d h e = absurd (omega arith)
domain_is (x ∷ ds) zero d h e = ap domain_data e
domain_is (x ∷ ds) (suc k) d h e = domain_is ds k d (omega arith) e
