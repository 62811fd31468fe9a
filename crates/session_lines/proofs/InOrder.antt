-- Lines that have the items of the variables in their order.
use Rattle.std.proofs.Common.{◌≡◌, ℕ, ◌+◌, ◌<◌, Bool, true, false, not, ◌&&◌, ◌||◌, ◌==◌, cond, List, [], ◌∷◌, ◌++◌, map, length, take, set, get_or, filter, Option, Some, None, refl, sym, ap, ◌∙◌, subst, arith, append_assoc}
use Rattle.std.proofs.lemmas.Bool.{and_parts, not-true, eqb-true}
use Rattle.std.proofs.lemmas.Bool.Decides.{nat_tests}
use Rattle.std.proofs.lemmas.List.{append-nil, map_more, take_more_set}
use Rattle.std.specs.List.{list_any, list_all}
use Rattle.spec_model.specs.declared.value.Value.{Value}
use Rattle.spec_model.specs.declared.value.Var.{Var}
use Rattle.spec_model.specs.Values.{Assignment, values_of, same_value, is_assignment}
use Rattle.spec_model.specs.Syntax.{VariableData}
use Rattle.spec_model.specs.Views.{variable_data}
use Rattle.session_lines.specs.Shown.{text_of, item_of, items_of}
use Rattle.session_lines.specs.Reading.{is_blank, words, after_sign, after_name, names_one, IsWritten, AreGiven, Reads}
use Rattle.session_lines.specs.Beginning.{BeginsWith}
use Rattle.session_lines.specs.Room.{domains}
use Rattle.std.specs.Str.{bytes_eq}
use Rattle.session_lines.specs.Plain.{ArePlain, are_plain}
use Rattle.session_lines.proofs.ShownIsRead.{items_known, items_given, none_given}

-- ---- what an item is

signed : (c : ℕ) (cs text : List ℕ) (b : Bool) → (c == 61) ≡ b → cond b (Some cs) None ≡ Some text → c ∷ cs ≡ 61 ∷ text
signed c cs text true same is = let h = eqb-true c 61 same in cc
signed c cs text false same is = cc

named_on : (n c : ℕ) (ns cs text : List ℕ) (b : Bool) → (c == n) ≡ b → (after_name ns cs ≡ Some text → cs ≡ ns ++ 61 ∷ text) → cond b (after_name ns cs) None ≡ Some text → c ∷ cs ≡ n ∷ (ns ++ 61 ∷ text)
named_on n c ns cs text true same rest is = let h = eqb-true c n same in let k = rest is in cc
named_on n c ns cs text false same rest is = cc

pub item_is : (name w text : List ℕ) → after_name name w ≡ Some text → w ≡ name ++ 61 ∷ text
item_is [] [] text is = cc
item_is [] (c ∷ cs) text is = signed c cs text (c == 61) refl is
item_is (n ∷ ns) [] text is = cc
item_is (n ∷ ns) (c ∷ cs) text is = named_on n c ns cs text (c == n) refl (item_is ns cs text) is

-- a word that is an item stands first among the words
pub first_of : (name w text : List ℕ) (ws : List (List ℕ)) → after_name name w ≡ Some text → cond (not (length w == 0)) (w ∷ []) [] ++ ws ≡ (name ++ 61 ∷ text) ∷ ws
first_of [] [] text ws is = cc
first_of (n ∷ ns) [] text ws is = cc
first_of name (c ∷ cs) text ws is =
    let word : not (length (c ∷ cs) == 0) ≡ true = grind (arith, nat_tests) in
    ap (λ (b : Bool). cond b ((c ∷ cs) ∷ []) [] ++ ws) word ∙ ap (λ (w : List ℕ). w ∷ ws) (item_is name (c ∷ cs) text is)

-- ---- one item more

module _ (names : List (List ℕ)) where
  items_push : (vs : List VariableData) (xs : Assignment) (v : VariableData) (x : Value) → is_assignment (domains vs) xs ≡ true
      → items_of names (vs ++ v ∷ []) (xs ++ x ∷ []) ≡ items_of names vs xs ++ item_of names v x ∷ []
  items_push [] [] v x are = refl
  items_push [] (y ∷ xs) v x are = cc
  items_push (u ∷ vs) [] v x are = cc
  items_push (u ∷ vs) (y ∷ xs) v x are =
      ap (λ (ws : List (List ℕ)). item_of names u y ∷ ws) (items_push vs xs v x (and_parts (list_any (same_value y) (values_of u.domain)) (is_assignment (domains vs) xs) are).1)

  within_push : (vs : List VariableData) (xs : Assignment) (v : VariableData) (x : Value) → is_assignment (domains vs) xs ≡ true → list_any (same_value x) (values_of v.domain) ≡ true
      → is_assignment (domains (vs ++ v ∷ [])) (xs ++ x ∷ []) ≡ true
  within_push [] [] v x are is = ap (λ (b : Bool). b && true) is
  within_push [] (y ∷ xs) v x are is = cc
  within_push (u ∷ vs) [] v x are is = cc
  within_push (u ∷ vs) (y ∷ xs) v x are is =
      let parts = and_parts (list_any (same_value y) (values_of u.domain)) (is_assignment (domains vs) xs) are in
      ap (λ (b : Bool). b && is_assignment (domains (vs ++ v ∷ [])) (xs ++ x ∷ [])) parts.0 ∙ within_push vs xs v x parts.1 is

  begins_push : (vs : List VariableData) (xs : Assignment) (v : VariableData) (x : Value) (line rest text after : List ℕ) → BeginsWith names vs xs line rest
      → words rest ≡ (v.name ++ 61 ∷ text) ∷ words after → IsWritten names v.domain text x → BeginsWith names (vs ++ v ∷ []) (xs ++ x ∷ []) line after
  begins_push vs xs v x line rest text after begins next written =
      let item : v.name ++ 61 ∷ text ≡ item_of names v x = ap (λ (t : List ℕ). v.name ++ 61 ∷ t) written.text_is in
      let more : words rest ≡ item_of names v x ∷ words after = next ∙ ap (λ (w : List ℕ). w ∷ words after) item in
      record {
        words_are = begins.words_are
            ∙ ap (λ (ws : List (List ℕ)). items_of names vs xs ++ ws) more
            ∙ sym (append_assoc (items_of names vs xs) (item_of names v x ∷ []) (words after))
            ∙ ap (λ (ws : List (List ℕ)). ws ++ words after) (sym (items_push vs xs v x begins.within));
        within = within_push vs xs v x begins.within written.within;
      }

  -- one variable more
  pub begins_more : (vars : List Var) (values : List Value) (i : ℕ) (v : Var) (x : Value) (line rest text after : List ℕ) → i < length vars → i < length values → v ≡ get_or vars i v
      → BeginsWith names (map variable_data (take i vars)) (take i values) line rest → words rest ≡ ((variable_data v).name ++ 61 ∷ text) ∷ words after
      → IsWritten names (variable_data v).domain text x → BeginsWith names (map variable_data (take (i + 1) vars)) (take (i + 1) (set values i x)) line after
  begins_more vars values i v x line rest text after here there is front next written =
      let more = begins_push (map variable_data (take i vars)) (take i values) (variable_data v) x line rest text after front next written in
      let longer : map variable_data (take (i + 1) vars) ≡ map variable_data (take i vars) ++ variable_data v ∷ [] =
      map_more variable_data vars i v here ∙ ap (λ (u : Var). map variable_data (take i vars) ++ variable_data u ∷ []) (sym is) in
      subst (λ (xs : Assignment). BeginsWith names (map variable_data (take (i + 1) vars)) xs line after) (sym (take_more_set values i x there))
      (subst (λ (vs : List VariableData). BeginsWith names vs (take i values ++ x ∷ []) line after) (sym longer) more)

  -- such a line reads as the assignment, where no word is an item of two variables
  pub begins_reads : (vs : List VariableData) (xs : Assignment) (line : List ℕ) → ArePlain (map (λ v. v.name) vs) → BeginsWith names vs xs line [] → Reads names vs line xs
  begins_reads vs xs line plain begins =
      let cut : words line ≡ items_of names vs xs = begins.words_are ∙ append-nil (items_of names vs xs) in
      record {
        known = ap (list_all (names_one vs)) cut ∙ items_known names vs xs;
        given = subst (λ (ws : List (List ℕ)). AreGiven names ws vs xs) (sym cut) (items_given names [] vs xs plain (none_given vs) begins.within);
      }

-- ---- the test of names

pub plain_if : (names : List (List ℕ)) → are_plain names ≡ true → ArePlain names
plain_if [] is = tt
plain_if (name ∷ names) is =
    let own = and_parts (not (list_any (λ c. is_blank c || c == 61) name)) (not (list_any (bytes_eq name) names) && are_plain names) is in
    let rest = and_parts (not (list_any (bytes_eq name) names)) (are_plain names) own.1 in
    (not-true _ own.0, not-true _ rest.0, plain_if names rest.1)
