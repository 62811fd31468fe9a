-- A variable's name is spelled in one way, so that a specification is well typed in at most one way.
use Rattle.std.proofs.Common.{◌≡◌, ℕ, ◌<◌, ◌==◌, ◌||◌, inl, inr, true, false, List, [], ◌∷◌, ◌++◌, drop, get_or, refl, sym, ap, subst, ◌∙◌, arith}
use Rattle.std.specs.Coded.{le_prop}
use Rattle.std.specs.List.{list_any}
use Rattle.std.specs.Char.{is_ascii_alphanumeric}
use Rattle.std.specs.Str.{encode_utf8_all, all_scalars}
use Rattle.std.proofs.lemmas.Bool.{or_parts, or_right, eqb-true, false≢true}
use Rattle.std.proofs.lemmas.Fmt.{decimal_injective}
use Rattle.std.proofs.lemmas.List.{append_cancel_right}
use Rattle.std.proofs.lemmas.List.Folds.{list_any-append}
use Rattle.std.proofs.lemmas.Str.{encodes_same}
use mathlib.Core.Bool.{Bool-set}
use mathlib.Core.List.{is_set}
use mathlib.Core.HLevel.{×_prop, Σ_prop_path}
use native.Mathlib.Nat.{ℕ_set}
use Rattle.spec_model.specs.Names.{IsName, IsElementName, IsVariableName, is_spelled, index_text}
use Rattle.spec_model.specs.Words.{is_reserved}
use Rattle.spec_model.proofs.SpelledNames.{none_in_name}

-- ---- names

abbrev Spells : List ℕ → List ℕ → Type 0
Spells text cs = (all_scalars cs ≡ true) × ((text ≡ encode_utf8_all cs) × ((is_spelled cs ≡ true) × (is_reserved cs ≡ false)))

Spells-prop : (text cs : List ℕ) → IsProp (Spells text cs)
Spells-prop text cs =
    ×_prop (Bool-set (all_scalars cs) true)
    (×_prop (is_set ℕ_set text (encode_utf8_all cs)) (×_prop (Bool-set (is_spelled cs) true) (Bool-set (is_reserved cs) false)))

pub IsName-prop : (text : List ℕ) → IsProp (IsName text)
IsName-prop text = λ x y.
    let name : ((cs : List ℕ) × Spells text cs) → IsName text = λ p. record { characters = p.0; scalars = p.1.0; bytes = p.1.1.0; spelled = p.1.1.1.0; unreserved = p.1.1.1.1 } in
    let one : (cs : List ℕ) × Spells text cs = (x.characters, (x.scalars, (x.bytes, (x.spelled, x.unreserved)))) in
    let other : (cs : List ℕ) × Spells text cs = (y.characters, (y.scalars, (y.bytes, (y.spelled, y.unreserved)))) in
    let same : one ≡ other = Σ_prop_path (Spells-prop text) (encodes_same x.characters y.characters (sym x.bytes ∙ y.bytes)) in
    ap name same

-- ---- names of elements

-- no name has a bracket
bracket : (c : ℕ) → (c == 91) ≡ true → (c < 128) × ((is_ascii_alphanumeric c || c == 95) ≡ false)
bracket c is = subst (λ c. (c < 128) × ((is_ascii_alphanumeric c || c == 95) ≡ false)) (sym (eqb-true c 91 is)) (omega arith, refl)

no_bracket : (text : List ℕ) → IsName text → list_any (λ c. c == 91) text ≡ false
no_bracket = none_in_name (λ c. c == 91) bracket

-- what stands before the first bracket, and what behind it
one_bracket : (a b u v : List ℕ) → list_any (λ c. c == 91) a ≡ false → list_any (λ c. c == 91) b ≡ false → a ++ 91 ∷ u ≡ b ++ 91 ∷ v → (a ≡ b) × (u ≡ v)
one_bracket [] [] u v first second same = (refl, ap (drop 1) same)
one_bracket [] (d ∷ b) u v first second same = absurd (false≢true (sym (or_parts (d == 91) _ second).0 ∙ sym (ap (λ (cs : List ℕ). get_or cs 0 0 == 91) same)))
one_bracket (c ∷ a) [] u v first second same = absurd (false≢true (sym (or_parts (c == 91) _ first).0 ∙ ap (λ (cs : List ℕ). get_or cs 0 0 == 91) same))
one_bracket (c ∷ a) (d ∷ b) u v first second same =
    let rest = one_bracket a b u v (or_parts (c == 91) _ first).1 (or_parts (d == 91) _ second).1 (ap (drop 1) same) in
    let here : c ≡ d = ap (λ (cs : List ℕ). get_or cs 0 0) same in
    (rw (here, rest.0) refl, rest.1)

-- elements of one name are the same element of the same array
pub same_element : (a b : List ℕ) (m n : ℕ) → IsName a → IsName b → m < 256 → n < 256 → a ++ (91 ∷ (index_text m ++ 93 ∷ [])) ≡ b ++ (91 ∷ (index_text n ++ 93 ∷ [])) → (a ≡ b) × (m ≡ n)
same_element a b m n first second below under same =
    let parts = one_bracket a b _ _ (no_bracket a first) (no_bracket b second) same in
    (parts.0, decimal_injective m n (omega (arith, below)) (omega (arith, under)) (append_cancel_right (index_text m) (index_text n) (93 ∷ []) parts.1))

abbrev Indexes : List ℕ → List ℕ × ℕ → Type 0
Indexes text at = IsName at.0 × ((at.1 < 256) × (text ≡ at.0 ++ (91 ∷ (index_text at.1 ++ 93 ∷ []))))

Indexes-prop : (text : List ℕ) (at : List ℕ × ℕ) → IsProp (Indexes text at)
Indexes-prop text at = ×_prop (IsName-prop at.0) (×_prop le_prop (is_set ℕ_set text (at.0 ++ (91 ∷ (index_text at.1 ++ 93 ∷ [])))))

IsElementName-prop : (text : List ℕ) → IsProp (IsElementName text)
IsElementName-prop text = λ x y.
    let name : ((at : List ℕ × ℕ) × Indexes text at) → IsElementName text = λ p. record { array = p.0.0; number = p.0.1; named = p.1.0; below = p.1.1.0; bytes = p.1.1.1 } in
    let one : (at : List ℕ × ℕ) × Indexes text at = ((x.array, x.number), (x.named, (x.below, x.bytes))) in
    let other : (at : List ℕ × ℕ) × Indexes text at = ((y.array, y.number), (y.named, (y.below, y.bytes))) in
    let parts = same_element x.array y.array x.number y.number x.named y.named x.below y.below (sym x.bytes ∙ y.bytes) in
    let at : one.0 ≡ other.0 = rw (parts.0, parts.1) refl in
    ap name (Σ_prop_path (Indexes-prop text) at)

-- ---- names of variables

-- a name of an element has a bracket
has_bracket : (a u : List ℕ) → list_any (λ c. c == 91) (a ++ 91 ∷ u) ≡ true
has_bracket a u = list_any-append (λ c. c == 91) a (91 ∷ u) ∙ or_right (list_any (λ c. c == 91) a) true refl

-- no name is the name of an element
pub name_no_element : (text : List ℕ) → IsName text → IsElementName text → ⊥
name_no_element text name element = false≢true (sym (no_bracket text name) ∙ ap (list_any (λ c. c == 91)) element.bytes ∙ has_bracket element.array _)

pub IsVariableName-prop : (text : List ℕ) → IsProp (IsVariableName text)
IsVariableName-prop text (inl x) (inl y) = ap inl (IsName-prop text x y)
IsVariableName-prop text (inl x) (inr y) = absurd (name_no_element text x y)
IsVariableName-prop text (inr x) (inl y) = absurd (name_no_element text y x)
IsVariableName-prop text (inr x) (inr y) = ap inr (IsElementName-prop text x y)
