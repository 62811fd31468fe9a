-- The names of a specification's variables are spelled as names of variables, and differ.
use Rattle.std.proofs.Common.{◌≡◌, ◌≢◌, ℕ, zero, suc, ◌+◌, ◌<◌, ◌≤◌, nat_le, Bool, true, false, not, ◌||◌, if◌then◌else◌, List, [], ◌∷◌, ◌++◌, All, map, flat_map, refl, sym, ap, ◌∙◌, arith, inl, inr}
use Rattle.std.specs.List.{list_all, list_any}
use Rattle.std.specs.Str.{bytes_eq}
use Rattle.std.specs.Fmt.{decimal}
use Rattle.std.proofs.lemmas.Bool.{and_parts, and_from, or_parts, or_from, not-true, not_from_false, false≢true, false_from_ne_true, leb-true}
use Rattle.std.proofs.lemmas.List.{map-append}
use Rattle.std.proofs.lemmas.List.Elements.{All-nil, All-cons, All-append, All-head, All-tail}
use Rattle.std.proofs.lemmas.List.Folds.{list_any-append}
use Rattle.spec_model.specs.Names.{IsName, IsElementName, IsVariableName}
use Rattle.spec_model.specs.Syntax.{VariableData}
use Rattle.spec_model.specs.WellMade.{all_differ}
use Rattle.spec_model.proofs.OneSpelling.{same_element, name_no_element}
use Rattle.spectra_resolved.specs.Texts.{ResolvedVariable, ResolvedText}
use Rattle.spectra_cases.specs.Formulas.{numbers_below}
use Rattle.spectra_sound.proofs.EnumNames.{eq-self, eq-same}
use Rattle.spectra_types.specs.Meanings.{element_name, element_of, variables_in}
use Rattle.spectra_types.proofs.Elements.{numbers_all}

-- ---- one variable

-- its elements are few, and what is no array is one alone
pub record IsFew (v : ResolvedVariable) : Type 0 where
  pub named : IsName v.name.text
  pub short : v.count ≤ 256
  pub alone : (v.array || nat_le v.count 1) ≡ true

-- an array's element, by its name and number
element : (text : List ℕ) (i : ℕ) → IsName text → i < 256 → IsElementName (text ++ (91 ∷ (decimal i ++ 93 ∷ [])))
element text i named below = record { array = text; number = i; named = named; below = below; bytes = refl }

-- the name of a variable, of an array's element or alone
abbrev called : Bool → List ℕ → ℕ → List ℕ
called array text i = if array then text ++ (91 ∷ (decimal i ++ 93 ∷ [])) else text

called_spelled : (array : Bool) (text : List ℕ) (i : ℕ) → IsName text → i < 256 → IsVariableName (called array text i)
called_spelled true text i named below = inr (element text i named below)
called_spelled false text i named below = inl named

-- one name is that of one variable alone
same_called : (a b : Bool) (m n : List ℕ) (i j : ℕ) → IsName m → IsName n → i < 256 → j < 256 → called a m i ≡ called b n j → m ≡ n
same_called true true m n i j first second below under same = (same_element m n i j first second below under same).0
same_called false false m n i j first second below under same = same
same_called true false m n i j first second below under same = absurd (name_no_element n second (record { array = m; number = i; named = first; below = below; bytes = sym same }))
same_called false true m n i j first second below under same = absurd (name_no_element m first (record { array = n; number = j; named = second; below = under; bytes = same }))

-- and of one element of an array alone
same_number : (text : List ℕ) (i j : ℕ) → IsName text → i < 256 → j < 256 → called true text i ≡ called true text j → i ≡ j
same_number text i j named below under same = (same_element text text i j named named below under same).1

-- ---- how they are spelled

module _ (text : ResolvedText) where
  abbrev Spelled : VariableData → Type 0
  Spelled v = IsVariableName v.name

  pub all_spelled : (vs : List ResolvedVariable) → All IsFew vs → All Spelled (flat_map (variables_in text) vs)
  all_spelled [] few = All-nil Spelled
  all_spelled (v ∷ vs) few =
      let one = All-head IsFew v vs few in
      let short = one.short in
      All-append Spelled (variables_in text v) (flat_map (variables_in text) vs)
      (numbers_all Spelled (element_of text v) v.count 0 v.count (omega arith) (λ i below. called_spelled v.array v.name.text i one.named (omega (arith, below, short))))
      (all_spelled vs (All-tail IsFew v vs few))

  -- ---- they differ

  abbrev names_of : List VariableData → List (List ℕ)
  names_of vs = map (λ (v : VariableData). v.name) vs

  -- the names of a variable's elements, by their numbers
  abbrev numbered : ResolvedVariable → List ℕ → List (List ℕ)
  numbered v is = names_of (map (element_of text v) is)

  differ_append : (xs ys : List (List ℕ)) → all_differ bytes_eq xs ≡ true → all_differ bytes_eq ys ≡ true → All (λ x. list_any (bytes_eq x) ys ≡ false) xs → all_differ bytes_eq (xs ++ ys) ≡ true
  differ_append [] ys first second none = second
  differ_append (x ∷ xs) ys first second none =
      let parts = and_parts (not (list_any (bytes_eq x) xs)) _ first in
      and_from _ _ (not_from_false _ (list_any-append (bytes_eq x) xs ys ∙ or_from _ _ (not-true _ parts.0) (All-head (λ x. list_any (bytes_eq x) ys ≡ false) x xs none)))
      (differ_append xs ys parts.1 second (All-tail (λ x. list_any (bytes_eq x) ys ≡ false) x xs none))

  -- no other number makes this name
  other_numbers : (v : ResolvedVariable) → v.array ≡ true → IsFew v → (i from n : ℕ) → i < from → from + n ≤ 256 → list_any (bytes_eq (element_name v i)) (numbered v (numbers_below from n)) ≡ false
  other_numbers v is one i from zero before few = refl
  other_numbers v is one i from (suc n) before few =
      or_from _ _
      (false_from_ne_true (bytes_eq (element_name v i) (element_name v from)) (λ same.
      let number : i ≡ from = same_number v.name.text i from one.named (omega (arith, before, few)) (omega (arith, few))
      (sym (ap (λ b. called b v.name.text i) is) ∙ eq-same (element_name v i) (element_name v from) same ∙ ap (λ b. called b v.name.text from) is) in
      absurd (omega (arith, before, number))))
      (other_numbers v is one i (suc from) n (omega (arith, before)) (omega (arith, few)))

  array_differs : (v : ResolvedVariable) → v.array ≡ true → IsFew v → (from n : ℕ) → from + n ≤ 256 → all_differ bytes_eq (numbered v (numbers_below from n)) ≡ true
  array_differs v is one from zero few = refl
  array_differs v is one from (suc n) few = and_from _ _ (not_from_false _ (other_numbers v is one from (suc from) n (omega arith) (omega (arith, few)))) (array_differs v is one (suc from) n (omega (arith, few)))

  one_differs : (v : ResolvedVariable) (n : ℕ) → n ≤ 1 → all_differ bytes_eq (numbered v (numbers_below 0 n)) ≡ true
  one_differs v zero few = refl
  one_differs v (suc zero) few = refl
  one_differs v (suc (suc n)) few = absurd (omega (arith, few))

  own_differ : (v : ResolvedVariable) → IsFew v → all_differ bytes_eq (names_of (variables_in text v)) ≡ true
  own_differ v one = by v.array refl one.alone
    where
      by : (b : Bool) → v.array ≡ b → (b || nat_le v.count 1) ≡ true → all_differ bytes_eq (names_of (variables_in text v)) ≡ true
      by true is alone = let short = one.short in array_differs v is one 0 v.count (omega (arith, short))
      by false is alone = one_differs v v.count (leb-true v.count 1 alone)

  -- no element of another variable has this name
  not_numbered : (v w : ResolvedVariable) → IsFew v → IsFew w → bytes_eq v.name.text w.name.text ≡ false → (i from n : ℕ) → i < 256 → from + n ≤ 256 → list_any (bytes_eq (element_name v i)) (numbered w (numbers_below from n)) ≡ false
  not_numbered v w one other differ i from zero below few = refl
  not_numbered v w one other differ i from (suc n) below few =
      or_from _ _
      (false_from_ne_true (bytes_eq (element_name v i) (element_name w from)) (λ same.
      let text : v.name.text ≡ w.name.text =
      same_called v.array w.array v.name.text w.name.text i from one.named other.named below (omega (arith, few)) (eq-same (element_name v i) (element_name w from) same) in
      false≢true (sym differ ∙ ap (λ t. bytes_eq v.name.text t) (sym text) ∙ eq-self v.name.text)))
      (not_numbered v w one other differ i (suc from) n below (omega (arith, few)))

  not_behind : (v : ResolvedVariable) → IsFew v → (i : ℕ) → i < 256 → (vs : List ResolvedVariable) → All IsFew vs → list_any (bytes_eq v.name.text) (map (λ (v : ResolvedVariable). v.name.text) vs) ≡ false →
      list_any (bytes_eq (element_name v i)) (names_of (flat_map (variables_in text) vs)) ≡ false
  not_behind v one i below [] few none = refl
  not_behind v one i below (w ∷ vs) few none =
      let parts = or_parts (bytes_eq v.name.text w.name.text) _ none in
      let other = All-head IsFew w vs few in
      let short = other.short in
      ap (list_any (bytes_eq (element_name v i))) (map-append (λ (v : VariableData). v.name) (variables_in text w) (flat_map (variables_in text) vs))
      ∙ list_any-append (bytes_eq (element_name v i)) (names_of (variables_in text w)) (names_of (flat_map (variables_in text) vs))
      ∙ or_from _ _ (not_numbered v w one other parts.0 i 0 w.count below (omega (arith, short))) (not_behind v one i below vs (All-tail IsFew w vs few) parts.1)

  names_numbered : (v : ResolvedVariable) (ys : List (List ℕ)) (end from n : ℕ) → from + n ≡ end → ((i : ℕ) → i < end → list_any (bytes_eq (element_name v i)) ys ≡ false) → All (λ x. list_any (bytes_eq x) ys ≡ false) (numbered v (numbers_below from n))
  names_numbered v ys end from zero is each = All-nil (λ x. list_any (bytes_eq x) ys ≡ false)
  names_numbered v ys end from (suc n) is each =
      All-cons (λ x. list_any (bytes_eq x) ys ≡ false) (element_name v from) _ (each from (omega (arith, is))) (names_numbered v ys end (suc from) n (omega (arith, is)) each)

  pub all_differ_named : (vs : List ResolvedVariable) → All IsFew vs → all_differ bytes_eq (map (λ (v : ResolvedVariable). v.name.text) vs) ≡ true → all_differ bytes_eq (names_of (flat_map (variables_in text) vs)) ≡ true
  all_differ_named [] few differ = refl
  all_differ_named (v ∷ vs) few differ =
      let parts = and_parts (not (list_any (bytes_eq v.name.text) (map (λ (v : ResolvedVariable). v.name.text) vs))) _ differ in
      let one = All-head IsFew v vs few in
      let behind = All-tail IsFew v vs few in
      let short = one.short in
      let rest = names_of (flat_map (variables_in text) vs) in
      ap (all_differ bytes_eq) (map-append (λ (v : VariableData). v.name) (variables_in text v) (flat_map (variables_in text) vs))
      ∙ differ_append (names_of (variables_in text v)) rest (own_differ v one) (all_differ_named vs behind parts.1)
      (names_numbered v rest v.count 0 v.count (omega arith) (λ i below. not_behind v one i (omega (arith, below, short)) vs behind (not-true _ parts.0)))

-- ---- all variables of a sound text

pub few_from : (vs : List ResolvedVariable) → All (λ (v : ResolvedVariable). IsName v.name.text) vs → list_all (λ (v : ResolvedVariable). nat_le v.count 256) vs ≡ true → list_all (λ (v : ResolvedVariable). v.array || nat_le v.count 1) vs ≡ true → All IsFew vs
few_from [] named short alone = All-nil IsFew
few_from (v ∷ vs) named short alone =
    let first = and_parts (nat_le v.count 256) _ short in
    let second = and_parts (v.array || nat_le v.count 1) _ alone in
    All-cons IsFew v vs
    (record { named = All-head (λ (v : ResolvedVariable). IsName v.name.text) v vs named; short = leb-true v.count 256 first.0; alone = second.0 })
    (few_from vs (All-tail (λ (v : ResolvedVariable). IsName v.name.text) v vs named) first.1 second.1)
