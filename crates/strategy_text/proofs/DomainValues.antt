-- Values: what is written of them reads as them, and what is read is of its domain.
use Rattle.std.proofs.Common.{◌≡◌, ℕ, suc, zero, ◌<◌, ◌^◌, ℤ, pos, negsuc, int_le, Bool, true, false, not, ◌&&◌, ◌||◌, ◌==◌, nat_lt, cond, List, [], ◌∷◌, map, length, slice_index_or, find, Option, Some, None, option_map, option_and_then, ◌⊎◌, inl, inr, refl, sym, ap, subst, ◌∙◌, arith}
use Rattle.std.specs.List.{list_any, list_all}
use Rattle.std.specs.Str.{bytes_eq}
use Rattle.std.proofs.lemmas.Bool.{and_parts, and_from, or_cases, or_left, or_right, not-true, eqb-true, eq-eqb, ltb-true, lt-ltb, false≢true}
use Rattle.std.proofs.lemmas.List.Folds.{list_any_at}
use Rattle.std.proofs.lemmas.Option.{none-some, same_Some}
use Rattle.std.proofs.lemmas.Slice.Eq.{bytes_eq-Decides}
use Rattle.serde_json.specs.Data.{Data}
use Rattle.serde_json.specs.Find.{as_bool, as_number, as_str, as_integer, of_integer}
use Rattle.spec_model.specs.declared.value.Value.{Value}
use Rattle.spec_model.specs.declared.value.Value.TheVariants as value
use Rattle.spec_model.specs.declared.value.Owner.{Owner}
use Rattle.spec_model.specs.Values.{DomainData, TruthValues, WholeNumbers, Enumeration, Assignment, values_of, same_value, is_assignment}
use Rattle.spec_model.specs.Syntax.{VariableData, Specification}
use Rattle.spec_model.specs.Moves.{domains_of}
use Rattle.spec_model.specs.Games.{HiddenData}
use Rattle.spec_model.specs.Steps.{are_hidden_values}
use Rattle.spec_model.specs.WellMade.{all_differ, is_domain}
use Rattle.spec_model.specs.WellTyped.{WellTyped, is_domain_of}
use Rattle.spec_model.proofs.Domains.{none_in_range, none_named, no_number, no_name, named as named_among, within}
use Rattle.spec_model.proofs.SameNames.{differ-bytes}
use Rattle.strategy_text.specs.Written.{count_json, value_json}
use Rattle.strategy_text.specs.Reading.{each_read, count_of, if_below, count_below, small_of, if_within, named, value_of}

-- ---- names

abbrev at : List (List ℕ) → ℕ → List ℕ
at names n = slice_index_or names n []

-- different numbers have different texts
abbrev pub Differ : List (List ℕ) → Type 0
Differ names = (m n : ℕ) → m < length names → n < length names → slice_index_or names m [] ≡ slice_index_or names n [] → m ≡ n

never_again : (name : List ℕ) (names : List (List ℕ)) (n : ℕ) → not (list_any (bytes_eq name) names) ≡ true → n < length names → name ≡ at names n → ⊥
never_again name names n none below same =
    false≢true (sym (not-true _ none) ∙ list_any_at (bytes_eq name) names n [] below ((bytes_eq-Decides name (at names n)).1 same))

differ_at : (names : List (List ℕ)) → all_differ bytes_eq names ≡ true → Differ names
differ_at [] differ m n first second same = absurd (omega arith)
differ_at (name ∷ names) differ zero zero first second same = refl
differ_at (name ∷ names) differ zero (suc n) first second same = absurd (never_again name names n (and_parts (not (list_any (bytes_eq name) names)) _ differ).0 (omega arith) same)
differ_at (name ∷ names) differ (suc m) zero first second same = absurd (never_again name names m (and_parts (not (list_any (bytes_eq name) names)) _ differ).0 (omega arith) (sym same))
differ_at (name ∷ names) differ (suc m) (suc n) first second same = ap suc (differ_at names (and_parts (not (list_any (bytes_eq name) names)) _ differ).1 m n (omega arith) (omega arith) same)

pub names_differ : (s : Specification) → WellTyped s → Differ s.names
names_differ s typed = differ_at s.names (sym (differ-bytes s.names) ∙ typed.different_names)

-- a name that is listed is one of those there are
listed_below : (count : ℕ) (ns : List ℕ) (n : ℕ) → list_all (λ k. nat_lt k count) ns ≡ true → list_any (λ m. n == m) ns ≡ true → n < count
listed_below count [] n all among = absurd (false≢true among)
listed_below count (m ∷ ns) n all among = by (listed_below count ns n parts.1) (or_cases (n == m) (list_any (λ k. n == k) ns) among)
  where
    parts : (nat_lt m count ≡ true) × (list_all (λ k. nat_lt k count) ns ≡ true)
    parts = and_parts (nat_lt m count) _ all

    by : (list_any (λ k. n == k) ns ≡ true → n < count) → ((n == m) ≡ true) ⊎ (list_any (λ k. n == k) ns ≡ true) → n < count
    by rest (inl same) = let is = eqb-true n m same in let below = ltb-true m count parts.0 in omega arith
    by rest (inr later) = rest later

-- the text of a listed name leads back to it
find_name : (names : List (List ℕ)) → Differ names → (ns : List ℕ) (n : ℕ) → list_all (λ k. nat_lt k (length names)) ns ≡ true → n < length names → list_any (λ m. n == m) ns ≡ true
    → find (λ m. bytes_eq (slice_index_or names m []) (slice_index_or names n [])) ns ≡ Some n
find_name names differ [] n all below among = absurd (false≢true among)
find_name names differ (m ∷ ns) n all below among = by (find_name names differ ns n parts.1 below) (bytes_eq (at names m) (at names n)) refl
  where
    parts : (nat_lt m (length names) ≡ true) × (list_all (λ k. nat_lt k (length names)) ns ≡ true)
    parts = and_parts (nat_lt m (length names)) _ all

    later : bytes_eq (at names m) (at names n) ≡ false → ((n == m) ≡ true) ⊎ (list_any (λ k. n == k) ns ≡ true) → list_any (λ k. n == k) ns ≡ true
    later other (inl same) = absurd (false≢true (sym other ∙ (bytes_eq-Decides (at names m) (at names n)).1 (ap (at names) (sym (eqb-true n m same)))))
    later other (inr rest) = rest

    by : (list_any (λ k. n == k) ns ≡ true → find (λ k. bytes_eq (at names k) (at names n)) ns ≡ Some n) → (b : Bool) → bytes_eq (at names m) (at names n) ≡ b → cond b (Some m) (find (λ k. bytes_eq (at names k) (at names n)) ns) ≡ Some n
    by rest true same = ap Some (differ m n (ltb-true m (length names) parts.0) below ((bytes_eq-Decides (at names m) (at names n)).0 same))
    by rest false other = rest (later other (or_cases (n == m) _ among))

-- what is found is listed
find_among : (test : ℕ → Bool) (ns : List ℕ) (n : ℕ) → find test ns ≡ Some n → list_any (λ m. n == m) ns ≡ true
find_among test [] n is = absurd (none-some n is)
find_among test (m ∷ ns) n is = by (λ later. find_among test ns n later) (test m) is
  where
    by : (find test ns ≡ Some n → list_any (λ k. n == k) ns ≡ true) → (b : Bool) → cond b (Some m) (find test ns) ≡ Some n → ((n == m) || list_any (λ k. n == k) ns) ≡ true
    by rest true same = or_left (n == m) _ (eq-eqb n m (sym (same_Some m n same)))
    by rest false later = or_right (n == m) _ (rest later)

-- ---- values

as_integer-of_integer : (z : ℤ) → as_integer (of_integer z) ≡ Some z
as_integer-of_integer (pos n) = refl
as_integer-of_integer (negsuc n) = refl

not_in_range : (v : Value) (lo hi : ℤ) → ((b : Bool) × (v ≡ value.Bool b)) ⊎ ((n : ℕ) × (v ≡ value.Name n)) → list_any (same_value v) (values_of (WholeNumbers lo hi)) ≡ true → ⊥
not_in_range v lo hi other among = false≢true (sym (none_in_range v (no_number v other) lo hi) ∙ among)

not_named : (v : Value) (ns : List ℕ) → ((b : Bool) × (v ≡ value.Bool b)) ⊎ ((z : ℤ) × (v ≡ value.Int z)) → list_any (same_value v) (values_of (Enumeration ns)) ≡ true → ⊥
not_named v ns other among = false≢true (sym (none_named v (no_name v other) ns) ∙ among)

-- what is written of a value of the domain reads as it
pub value_back : (names : List (List ℕ)) → Differ names → (d : DomainData) (x : Value) → is_domain_of (length names) d ≡ true → list_any (same_value x) (values_of d) ≡ true → value_of names d (value_json names x) ≡ Some x
value_back names differ TruthValues (value.Bool b) is among = refl
value_back names differ TruthValues (value.Int z) is among = absurd (false≢true among)
value_back names differ TruthValues (value.Name n) is among = absurd (false≢true among)
value_back names differ (WholeNumbers lo hi) (value.Bool b) is among = absurd (not_in_range (value.Bool b) lo hi (inl (b, refl)) among)
value_back names differ (WholeNumbers lo hi) (value.Int z) is among = rw (as_integer-of_integer z, within z lo hi ∙ among)
value_back names differ (WholeNumbers lo hi) (value.Name n) is among = absurd (not_in_range (value.Name n) lo hi (inr (n, refl)) among)
value_back names differ (Enumeration ns) (value.Bool b) is among = absurd (not_named (value.Bool b) ns (inl (b, refl)) among)
value_back names differ (Enumeration ns) (value.Int z) is among = absurd (not_named (value.Int z) ns (inr (z, refl)) among)
value_back names differ (Enumeration ns) (value.Name n) is among =
    let all = (and_parts (is_domain (Enumeration ns)) (list_all (λ k. nat_lt k (length names)) ns) is).1 in
    let here : list_any (λ m. n == m) ns ≡ true = sym (named_among n ns) ∙ among in
    rw (find_name names differ ns n all (listed_below (length names) ns n all here) here)

-- what is read is of the domain
pub value_among : (names : List (List ℕ)) (d : DomainData) (json : Data) (x : Value) → value_of names d json ≡ Some x → list_any (same_value x) (values_of d) ≡ true
value_among names TruthValues json x is = by (as_bool json) is
  where
    by : (o : Option Bool) → option_map (λ b. value.Bool b) o ≡ Some x → list_any (same_value x) (values_of TruthValues) ≡ true
    by None none = absurd (none-some x none)
    by (Some true) same = subst (λ y. list_any (same_value y) (values_of TruthValues) ≡ true) (same_Some (value.Bool true) x same) refl
    by (Some false) same = subst (λ y. list_any (same_value y) (values_of TruthValues) ≡ true) (same_Some (value.Bool false) x same) refl
value_among names (WholeNumbers lo hi) json x is = by (option_and_then as_integer (as_number json)) is
  where
    at_number : (z : ℤ) (b : Bool) → (int_le lo z && int_le z hi) ≡ b → cond b (Some (value.Int z)) None ≡ Some x → list_any (same_value x) (values_of (WholeNumbers lo hi)) ≡ true
    at_number z true inside same = subst (λ y. list_any (same_value y) (values_of (WholeNumbers lo hi)) ≡ true) (same_Some (value.Int z) x same) (sym (within z lo hi) ∙ inside)
    at_number z false outside none = absurd (none-some x none)

    by : (o : Option ℤ) → option_and_then (if_within lo hi) o ≡ Some x → list_any (same_value x) (values_of (WholeNumbers lo hi)) ≡ true
    by None none = absurd (none-some x none)
    by (Some z) same = at_number z (int_le lo z && int_le z hi) refl same
value_among names (Enumeration ns) json x is = by (as_str json) is
  where
    at_name : (o : Option ℕ) → option_map (λ n. value.Name n) o ≡ Some x → ((n : ℕ) → o ≡ Some n → list_any (λ m. n == m) ns ≡ true) → list_any (same_value x) (values_of (Enumeration ns)) ≡ true
    at_name None none listed = absurd (none-some x none)
    at_name (Some n) same listed = subst (λ y. list_any (same_value y) (values_of (Enumeration ns)) ≡ true) (same_Some (value.Name n) x same) (named_among n ns ∙ listed n refl)

    by : (o : Option (List ℕ)) → option_and_then (named names ns) o ≡ Some x → list_any (same_value x) (values_of (Enumeration ns)) ≡ true
    by None none = absurd (none-some x none)
    by (Some text) same = at_name (find (λ m. bytes_eq (slice_index_or names m []) text) ns) same (λ n. find_among (λ m. bytes_eq (slice_index_or names m []) text) ns n)

-- ---- lists of values

pub values_back : (names : List (List ℕ)) → Differ names → (ds : List DomainData) (xs : Assignment) → list_all (is_domain_of (length names)) ds ≡ true → is_assignment ds xs ≡ true → each_read (value_of names) ds (map (value_json names) xs) ≡ Some xs
values_back names differ [] [] are among = refl
values_back names differ [] (x ∷ xs) are among = absurd (false≢true among)
values_back names differ (d ∷ ds) [] are among = absurd (false≢true among)
values_back names differ (d ∷ ds) (x ∷ xs) are among =
    let domains = and_parts (is_domain_of (length names) d) (list_all (is_domain_of (length names)) ds) are in
    let each = and_parts (list_any (same_value x) (values_of d)) (is_assignment ds xs) among in
    rw (value_back names differ d x domains.0 each.0, values_back names differ ds xs domains.1 each.1)

pub values_among : (names : List (List ℕ)) (ds : List DomainData) (js : List Data) (xs : Assignment) → each_read (value_of names) ds js ≡ Some xs → is_assignment ds xs ≡ true
values_among names [] [] xs is = subst (λ ys. is_assignment [] ys ≡ true) (same_Some [] xs is) refl
values_among names [] (j ∷ js) xs is = absurd (none-some xs is)
values_among names (d ∷ ds) [] xs is = absurd (none-some xs is)
values_among names (d ∷ ds) (j ∷ js) xs is = by (λ ys rest. values_among names ds js ys rest) (value_of names d j) refl (each_read (value_of names) ds js) refl is
  where
    by : ((ys : Assignment) → each_read (value_of names) ds js ≡ Some ys → is_assignment ds ys ≡ true) → (o : Option Value) → value_of names d j ≡ o → (r : Option Assignment) → each_read (value_of names) ds js ≡ r → option_and_then (λ y. option_map (λ ys. y ∷ ys) r) o ≡ Some xs → is_assignment (d ∷ ds) xs ≡ true
    by later None one r rest none = absurd (none-some xs none)
    by later (Some y) one None rest none = absurd (none-some xs none)
    by later (Some y) one (Some ys) rest same =
        subst (λ zs. is_assignment (d ∷ ds) zs ≡ true) (same_Some (y ∷ ys) xs same) (and_from (list_any (same_value y) (values_of d)) (is_assignment ds ys) (value_among names d j y one) (later ys rest))

-- the domains of an owner's variables are domains
pub owned_domains : (count : ℕ) (test : Owner → Bool) (vs : List VariableData) → list_all (λ (v : VariableData). is_domain_of count v.domain) vs ≡ true → list_all (is_domain_of count) (domains_of test vs) ≡ true
owned_domains count test [] are = refl
owned_domains count test (v ∷ vs) are = by (test v.owner) (owned_domains count test vs parts.1)
  where
    parts : (is_domain_of count v.domain ≡ true) × (list_all (λ (v : VariableData). is_domain_of count v.domain) vs ≡ true)
    parts = and_parts (is_domain_of count v.domain) _ are

    by : (b : Bool) → list_all (is_domain_of count) (domains_of test vs) ≡ true → list_all (is_domain_of count) (cond b (v.domain ∷ domains_of test vs) (domains_of test vs)) ≡ true
    by true rest = and_from (is_domain_of count v.domain) _ parts.0 rest
    by false rest = rest

-- ---- hidden values

pub below_back : (limit n : ℕ) → nat_lt n limit ≡ true → count_below limit (count_json n) ≡ Some n
below_back limit n below = rw below

pub small_back : (n : ℕ) → n < 2 ^ 32 → small_of (count_json n) ≡ Some n
small_back n below = below_back (2 ^ 32) n (lt-ltb n (2 ^ 32) below)

below_among : (limit : ℕ) (json : Data) (n : ℕ) → count_below limit json ≡ Some n → nat_lt n limit ≡ true
below_among limit json n is = by (count_of json) is
  where
    at_count : (m : ℕ) (b : Bool) → nat_lt m limit ≡ b → cond b (Some m) None ≡ Some n → nat_lt n limit ≡ true
    at_count m true below same = subst (λ k. nat_lt k limit ≡ true) (same_Some m n same) below
    at_count m false past none = absurd (none-some n none)

    by : (o : Option ℕ) → option_and_then (if_below limit) o ≡ Some n → nat_lt n limit ≡ true
    by None none = absurd (none-some n none)
    by (Some m) same = at_count m (nat_lt m limit) refl same

pub hidden_back : (hs : List HiddenData) (vs : List ℕ) → are_hidden_values hs vs ≡ true → each_read (λ (h : HiddenData). count_below h.values) hs (map count_json vs) ≡ Some vs
hidden_back [] [] are = refl
hidden_back [] (v ∷ vs) are = absurd (false≢true are)
hidden_back (h ∷ hs) [] are = absurd (false≢true are)
hidden_back (h ∷ hs) (v ∷ vs) are =
    let parts = and_parts (nat_lt v h.values) (are_hidden_values hs vs) are in
    rw (parts.0, hidden_back hs vs parts.1)

pub hidden_among : (hs : List HiddenData) (js : List Data) (vs : List ℕ) → each_read (λ (h : HiddenData). count_below h.values) hs js ≡ Some vs → are_hidden_values hs vs ≡ true
hidden_among [] [] vs is = subst (λ ys. are_hidden_values [] ys ≡ true) (same_Some [] vs is) refl
hidden_among [] (j ∷ js) vs is = absurd (none-some vs is)
hidden_among (h ∷ hs) [] vs is = absurd (none-some vs is)
hidden_among (h ∷ hs) (j ∷ js) vs is = by (λ ys rest. hidden_among hs js ys rest) (count_below h.values j) refl (each_read (λ (h : HiddenData). count_below h.values) hs js) refl is
  where
    by : ((ys : List ℕ) → each_read (λ (h : HiddenData). count_below h.values) hs js ≡ Some ys → are_hidden_values hs ys ≡ true) → (o : Option ℕ) → count_below h.values j ≡ o → (r : Option (List ℕ)) → each_read (λ (h : HiddenData). count_below h.values) hs js ≡ r → option_and_then (λ y. option_map (λ ys. y ∷ ys) r) o ≡ Some vs → are_hidden_values (h ∷ hs) vs ≡ true
    by later None one r rest none = absurd (none-some vs none)
    by later (Some y) one None rest none = absurd (none-some vs none)
    by later (Some y) one (Some ys) rest same =
        subst (λ zs. are_hidden_values (h ∷ hs) zs ≡ true) (same_Some (y ∷ ys) vs same) (and_from (nat_lt y h.values) _ (below_among h.values j y one) (later ys rest))
