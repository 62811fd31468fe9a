-- Which ASCII characters stand in names and in names of elements.
use Rattle.std.proofs.Common.{◌≡◌, ℕ, suc, ◌<◌, ◌==◌, ◌||◌, ◌==◌, ◌⊎◌, Bool, true, false, List, [], ◌∷◌, ◌++◌, length, get_or, refl, sym, ap, ◌∙◌, arith, inl, inr}
use Rattle.std.specs.Prelude.{codes}
use Rattle.std.specs.List.{list_all, list_any}
use Rattle.std.specs.Char.{encode_utf8, is_ascii_alphanumeric}
use Rattle.std.specs.Str.{encode_utf8_all, all_scalars}
use Rattle.std.proofs.lemmas.Bool.{and_parts, and_from, or_from, or_cases, eqb-true, false≢true, false_from_ne_true}
use Rattle.std.proofs.lemmas.List.Folds.{list_any-append}
use Rattle.std.proofs.lemmas.List.{append-nil}
use Rattle.std.proofs.lemmas.Str.{inside_one, encode_ascii}
use Rattle.std.proofs.lemmas.Fmt.{decimal_is_IsNumeral}
use Rattle.std.proofs.lemmas.Str.Parse.{digit_at}
use Rattle.std.proofs.lemmas.Bool.Decides.{nat_tests}
use Rattle.unicode_ident.specs.Ident.{is_xid_start, is_xid_continue}
use Rattle.unicode_ident.proofs.Computing.{unicode_ident}
use Rattle.unicode_ident.proofs.IdentLemmas.{is_xid_continue-ascii, is_xid_start-is_xid_continue}
use Rattle.spec_model.specs.Names.{begins_name, is_spelled, is_reserved, index_text, IsName, IsVariableName}

underscore_goes_on : is_xid_continue 95 ≡ true
unfolding unicode_ident
underscore_goes_on = refl

-- what begins a name may go on in it
goes_on : (c : ℕ) → begins_name c ≡ true → is_xid_continue c ≡ true
goes_on c begins = by (or_cases (is_xid_start c) (c == 95) begins)
  where
    by : (is_xid_start c ≡ true) ⊎ ((c == 95) ≡ true) → is_xid_continue c ≡ true
    by (inl starts) = is_xid_start-is_xid_continue c starts
    by (inr is) = ap is_xid_continue (eqb-true c 95 is) ∙ underscore_goes_on

all_go_on : (cs : List ℕ) → is_spelled cs ≡ true → list_all is_xid_continue cs ≡ true
all_go_on [] spelled = refl
all_go_on (c ∷ cs) spelled =
    let parts = and_parts (begins_name c) (list_all is_xid_continue cs) spelled in
    and_from (is_xid_continue c) _ (goes_on c parts.0) parts.1

none_of : (p : ℕ → Bool) (xs : List ℕ) → ((k : ℕ) → k < length xs → p (get_or xs k 0) ≡ false) → list_any p xs ≡ false
none_of p [] none = refl
none_of p (x ∷ xs) none = or_from (p x) _ (none 0 (omega arith)) (none_of p xs (λ k below. none (suc k) (omega arith)))

-- a test that only ASCII characters pass, and neither letters nor digits nor _
module _ (p : ℕ → Bool) (never : (c : ℕ) → p c ≡ true → (c < 128) × ((is_ascii_alphanumeric c || c == 95) ≡ false)) where
  none_encoded : (c : ℕ) → is_xid_continue c ≡ true → list_any p (encode_utf8 c) ≡ false
  none_encoded c goes = none_of p (encode_utf8 c) (λ k below. false_from_ne_true (p (get_or (encode_utf8 c) k 0)) (λ passes. out k below passes))
    where
      out : (k : ℕ) → k < length (encode_utf8 c) → p (get_or (encode_utf8 c) k 0) ≡ true → ⊥
      out k below passes =
          let byte = never (get_or (encode_utf8 c) k 0) passes in
          let same : c ≡ get_or (encode_utf8 c) k 0 = inside_one c [] (encode_utf8 c) k (sym (append-nil (encode_utf8 c))) below byte.0 in
          false≢true (sym byte.1 ∙ sym (is_xid_continue-ascii (get_or (encode_utf8 c) k 0) byte.0) ∙ ap is_xid_continue (sym same) ∙ goes)

  none_in_all : (cs : List ℕ) → list_all is_xid_continue cs ≡ true → list_any p (encode_utf8_all cs) ≡ false
  none_in_all [] goes = refl
  none_in_all (c ∷ cs) goes =
      let parts = and_parts (is_xid_continue c) (list_all is_xid_continue cs) goes in
      list_any-append p (encode_utf8 c) (encode_utf8_all cs) ∙ or_from _ _ (none_encoded c parts.0) (none_in_all cs parts.1)

  -- no byte of a name passes it
  pub none_in_name : (text : List ℕ) → IsName text → list_any p text ≡ false
  none_in_name text is = ap (list_any p) is.bytes ∙ none_in_all is.characters (all_go_on is.characters is.spelled)

  none_in_index : (n : ℕ) → n < 256 → list_any p (index_text n) ≡ false
  none_in_index n small = none_of p (index_text n) (λ k below. false_from_ne_true (p (get_or (index_text n) k 0)) (λ passes. out k below passes))
    where
      out : (k : ℕ) → k < length (index_text n) → p (get_or (index_text n) k 0) ≡ true → ⊥
      out k below passes =
          let digit = digit_at (index_text n) k (decimal_is_IsNumeral n (omega arith)).0.1 below in
          let never_passes = never (get_or (index_text n) k 0) passes in
          grind (arith, nat_tests)

  -- no byte of a variable's name passes it, where neither bracket does
  pub none_in_variable : p 91 ≡ false → p 93 ≡ false → (text : List ℕ) → IsVariableName text → list_any p text ≡ false
  none_in_variable opens closes text (inl is) = none_in_name text is
  none_in_variable opens closes text (inr is) =
      ap (list_any p) is.bytes
      ∙ list_any-append p is.array (91 ∷ (index_text is.number ++ 93 ∷ []))
      ∙ or_from _ _ (none_in_name is.array is.named)
      (or_from (p 91) _ opens (list_any-append p (index_text is.number) (93 ∷ []) ∙ or_from _ _ (none_in_index is.number is.below) (or_from (p 93) false closes refl)))

-- ---- short names

one_is_name : (c : ℕ) → c < 128 → all_scalars (c ∷ []) ≡ true → begins_name c ≡ true → is_reserved (c ∷ []) ≡ false → IsName (c ∷ [])
one_is_name c small scalar begins free =
    record {
      characters = c ∷ [];
      scalars = scalar;
      bytes = sym (ap (λ (bs : List ℕ). bs ++ []) (encode_ascii c small));
      spelled = and_from _ _ begins refl;
      unreserved = free;
    }

-- the names that worked games have
pub a_is_name : IsName (codes "a")
unfolding unicode_ident is_reserved
a_is_name = one_is_name 97 (omega arith) refl refl refl

pub g_is_name : IsName (codes "g")
unfolding unicode_ident is_reserved
g_is_name = one_is_name 103 (omega arith) refl refl refl
