-- Codes and the values that they stand for.
use Rattle.std.proofs.Common.{◌≡◌, ◌==◌, ℕ, zero, suc, ℤ, pos, ◌+ℤ◌, ◌<◌, List, [], ◌∷◌, length, map, get_or, Option, Some, None, IfSome, refl, ap, subst, arith}
use Rattle.std.proofs.lemmas.Bool.Decides.{nat_tests, Decides-int_eq, same_from_decides}
use Rattle.std.proofs.lemmas.Int.{ints}
use Rattle.std.specs.Bool.{Decides}
use Rattle.std.specs.Ordering.{int_eq}
use Rattle.spec_model.specs.declared.value.Value.{Value}
use Rattle.spec_model.specs.declared.value.Value.TheVariants as value
use Rattle.spec_model.specs.declared.value.Var.{Var}
use Rattle.spec_model.specs.Values.{DomainData, WholeNumbers, Enumeration, same_value}
use Rattle.spec_model.specs.Views.{variable_data, domain_data}
use Rattle.spec_model.specs.declared.game.Hidden.{Hidden}
use Rattle.spec_model.specs.GameViews.{hidden_data}
use Rattle.spec_model.specs.Games.{entries_in}
use Rattle.column_planes.specs.Columns.{value_of_code, domain_in}

pub domain_of-variable : (vars : List Var) (k : ℕ) (v : Var) → k < length vars → domain_in (map variable_data vars) k ≡ domain_data (get_or vars k v).domain
domain_of-variable [] k v below = absurd (omega arith)
domain_of-variable (u ∷ vars) zero v below = refl
domain_of-variable (u ∷ vars) (suc k) v below = domain_of-variable vars k v (omega arith)

-- whole numbers are the same exactly where they are as far above a third
steps_same : (lo : ℤ) (c code : ℕ) → (c == code) ≡ int_eq (lo +ℤ pos c) (lo +ℤ pos code)
steps_same lo c code = same_from_decides _ _ by_codes (Decides-int_eq (lo +ℤ pos c) (lo +ℤ pos code))
  where
    by_codes : Decides (c == code) ((lo +ℤ pos c) ≡ (lo +ℤ pos code))
    by_codes = (λ e. let same : c ≡ code = grind (arith, nat_tests) in ap (λ n. lo +ℤ pos n) same, λ e. let same : c ≡ code = omega (arith, ints, e) in grind (arith, nat_tests))

abbrev IsOnly : DomainData → Value → ℕ → Type 0
IsOnly d v code = (c : ℕ) → (c == code) ≡ same_value (value_of_code d c) v

-- the code of a number or a name stands for no other
pub only_number : (lo hi : ℤ) (v : Value) (r : Option ℕ) → IfSome r (λ c. value_of_code (WholeNumbers lo hi) c ≡ v) → IfSome r (IsOnly (WholeNumbers lo hi) v)
only_number lo hi v None is = tt
only_number lo hi v (Some code) is = λ c. subst (λ w. (c == code) ≡ same_value (value.Int (lo +ℤ pos c)) w) is (steps_same lo c code)

pub only_name : (names : List ℕ) (v : Value) (r : Option ℕ) → IfSome r (λ c. value_of_code (Enumeration names) c ≡ v) → IfSome r (IsOnly (Enumeration names) v)
only_name names v None is = tt
only_name names v (Some code) is = λ c. subst (λ w. (c == code) ≡ same_value (value.Name c) w) is refl

-- the entries of a hidden table at a cell
pub entries_of-hidden : (hs : List Hidden) (k : ℕ) (h : Hidden) (cell : ℕ) → k < length hs → get_or (map (λ d. entries_in d cell) (map hidden_data hs)) k [] ≡ entries_in (hidden_data (get_or hs k h)) cell
entries_of-hidden [] k h cell below = absurd (omega arith)
entries_of-hidden (u ∷ hs) zero h cell below = refl
entries_of-hidden (u ∷ hs) (suc k) h cell below = entries_of-hidden hs k h cell (omega arith)
