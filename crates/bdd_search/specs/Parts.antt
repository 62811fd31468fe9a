-- Values of a part of a state, by the slots that they belong to, and what is fixed of their bits.
use Rattle.std.specs.Prelude.{◌≡◌, ◌≢◌, ◌+◌, ◌<◌, ◌≤◌, ℕ, Bool, true, false, Option, List, length, get_or}
use Rattle.std.specs.List.{list_any}
use Rattle.spec_model.specs.declared.value.Value.{Value}
use Rattle.spec_model.specs.declared.value.Value.TheVariants as value
use Rattle.spec_model.specs.Values.{DomainData, is_assignment, same_value, values_of, rank_of, comes_before}
use Rattle.spec_model.specs.Diagrams.{Bits}
use Rattle.game_values.specs.declared.seen.At.{At}
use Rattle.game_values.specs.declared.seen.At.TheVariants.{Now, Next}
use Rattle.bdd_ops.specs.Paths.{AgreesAt, fixed_at, Agrees, NotAfter}
use Rattle.bit_compile.specs.Domains.{level_count}
use Rattle.bit_compile.specs.Codes.{has_number, domain_in, width_at, level_at, HasValues}

-- the value numbered k
abbrev pub value_in : List Value → ℕ → Value
value_in values k = get_or values k (value.Bool false)

-- each of the values is one of its slot's, the first of which is slot `from`
abbrev pub AreOf : List DomainData → ℕ → List Value → Type 0
AreOf ds from values = (k : ℕ) → k < length values → list_any (same_value (value_in values k)) (values_of (domain_in ds (from + k))) ≡ true

-- the values are those of the slots from one up to another, one for each
abbrev pub ArePart : List DomainData → (from end : ℕ) → List Value → Type 0
ArePart ds from end values = (from + length values ≡ end) × AreOf ds from values

-- the bits of the slot are the code of the value
abbrev pub has_value_at : List DomainData → At → ℕ → Value → Bits → Bool
has_value_at ds at k v s = has_number (level_at ds at k) (width_at ds k) (rank_of (domain_in ds k) v) s

-- the value is one of the slot's, and its bits stand there
pub record ShowsValue (ds : List DomainData) (at : At) (k : ℕ) (v : Value) (s : Bits) : Type 0 where
  pub among : list_any (same_value v) (values_of (domain_in ds k)) ≡ true
  pub bits : has_value_at ds at k v s ≡ true

-- the present or the next bits of the slots are the codes of these values
abbrev pub HaveValues : List DomainData → At → ℕ → List Value → Bits → Type 0
HaveValues ds at from values s = (k : ℕ) → k < length values → has_value_at ds at (from + k) (value_in values k) s ≡ true

-- ---- what is fixed

-- over so many levels from this one on the bits agree with what is fixed
abbrev pub AgreesWithin : List (Option Bool) → (level width : ℕ) → Bits → Type 0
AgreesWithin fixed level width s = (m : ℕ) → level ≤ m → m < level + width → AgreesAt (fixed_at fixed m) (s m)

-- bits that agree have the number's digits there
abbrev pub IsFixedTo : List (Option Bool) → (level width n : ℕ) → Type 0
IsFixedTo fixed level width n = (s : Bits) → AgreesWithin fixed level width s → has_number level width n s ≡ true

-- the bits of the slot are fixed to the code of the value
abbrev pub IsValueFixed : List DomainData → At → ℕ → Value → List (Option Bool) → Type 0
IsValueFixed ds at k v fixed = IsFixedTo fixed (level_at ds at k) (width_at ds k) (rank_of (domain_in ds k) v)

-- bits with the code of the value agree with what is fixed of the slot
abbrev pub AllowsValue : List DomainData → At → ℕ → Value → List (Option Bool) → Type 0
AllowsValue ds at k v fixed = (s : Bits) → has_value_at ds at k v s ≡ true → AgreesWithin fixed (level_at ds at k) (width_at ds k) s

-- of each slot the bits of its value are fixed
abbrev pub AreFixed : List DomainData → At → ℕ → List Value → List (Option Bool) → Type 0
AreFixed ds at from values fixed = (k : ℕ) → k < length values → IsValueFixed ds at (from + k) (value_in values k) fixed

-- what was fixed of the other bits of all slots stays fixed
abbrev pub KeepsOtherBits : List DomainData → At → (old new : List (Option Bool)) → Type 0
KeepsOtherBits ds at old new = (other : At) (vs : List Value) → other ≢ at → length vs ≤ length ds → AreFixed ds other 0 vs old → AreFixed ds other 0 vs new

-- bits that agreed with what was fixed and have these values agree with what is fixed now
abbrev pub AllowsValues : List DomainData → At → ℕ → List Value → (old new : List (Option Bool)) → Type 0
AllowsValues ds at from values old new = (s : Bits) → Agrees old 0 s → HaveValues ds at from values s → Agrees new 0 s

-- ---- what comes first

-- the present bits of each slot are the same
abbrev pub SamePresent : List DomainData → Bits → Bits → Type 0
SamePresent ds u v = (k m : ℕ) → k < length ds → level_at ds Now k ≤ m → m < level_at ds Now k + width_at ds k → u m ≡ v m

-- Values whose next bits do not come after those of others do not come after them.
abbrev pub FirstHaveFirst : List DomainData → (us vs : List Value) → (u v : Bits) → Type 0
FirstHaveFirst ds us vs u v =
    is_assignment ds us ≡ true → is_assignment ds vs ≡ true → HasValues ds Next us u → HasValues ds Next vs v → SamePresent ds u v →
    NotAfter (level_count ds) 0 u v → comes_before ds vs us ≡ false
