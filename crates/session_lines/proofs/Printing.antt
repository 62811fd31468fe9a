-- A line as it is printed, item by item.
use Rattle.std.proofs.Common.{◌≡◌, ℕ, ◌+◌, ◌<◌, ◌≤◌, List, [], ◌∷◌, ◌++◌, map, length, drop, get_or, flat_map, refl, sym, ap, ◌∙◌, arith, append_assoc, length-append}
use Rattle.std.proofs.lemmas.List.{drop_more, append-nil}
use Rattle.std.specs.List.{join_with_byte}
use Rattle.spec_model.specs.declared.value.Value.{Value}
use Rattle.spec_model.specs.declared.value.Var.{Var}
use Rattle.spec_model.specs.Views.{variable_data}
use Rattle.session_lines.specs.Shown.{item_of, items_of}

-- each with a space before it
abbrev pub spaced : List (List ℕ) → List ℕ
spaced items = flat_map (λ item. 32 ∷ item) items

-- the first behind these bytes, and each other behind a space
abbrev pub led : List ℕ → List (List ℕ) → List ℕ
led separator [] = []
led separator (item ∷ items) = separator ++ (item ++ spaced items)

led_by_space : (items : List (List ℕ)) → led (32 ∷ []) items ≡ spaced items
led_by_space [] = refl
led_by_space (item ∷ items) = refl

joined : (item : List ℕ) (items : List (List ℕ)) → join_with_byte 32 (item ∷ items) ≡ item ++ spaced items
joined item [] = sym (append-nil item)
joined item (next ∷ items) = ap (λ (l : List ℕ). item ++ (32 ∷ l)) (joined next items)

pub led_by_none : (items : List (List ℕ)) → led [] items ≡ join_with_byte 32 items
led_by_none [] = refl
led_by_none (item ∷ items) = sym (joined item items)

-- the items from a place on
abbrev pub rest_of : List (List ℕ) → List Var → List Value → ℕ → List (List ℕ)
rest_of names vars values i = items_of names (map variable_data (drop i vars)) (drop i values)

rest_more : (names : List (List ℕ)) (vars : List Var) (values : List Value) (i : ℕ) (d : Var) (e : Value) → i < length vars → length values ≡ length vars
    → rest_of names vars values i ≡ item_of names (variable_data (get_or vars i d)) (get_or values i e) ∷ rest_of names vars values (i + 1)
rest_more names vars values i d e here same =
    let there : i < length values = omega arith in
    ap (λ (vs : List Var). items_of names (map variable_data vs) (drop i values)) (drop_more vars i d here)
    ∙ ap (λ (xs : List Value). items_of names (map variable_data (get_or vars i d ∷ drop (i + 1) vars)) xs) (drop_more values i e there)

-- the whole line by what is printed, the separator and the item that follow, and what is left
pub parts : (names : List (List ℕ)) (vars : List Var) (values : List Value) (i : ℕ) (d : Var) (e : Value) → i < length vars → length values ≡ length vars
    → (separator out all : List ℕ) → out ++ led separator (rest_of names vars values i) ≡ all
    → ((out ++ separator) ++ item_of names (variable_data (get_or vars i d)) (get_or values i e)) ++ led (32 ∷ []) (rest_of names vars values (i + 1)) ≡ all
parts names vars values i d e here same separator out all so_far =
    let item = item_of names (variable_data (get_or vars i d)) (get_or values i e) in
    let rest = rest_of names vars values (i + 1) in
    append_assoc (out ++ separator) item (led (32 ∷ []) rest)
    ∙ append_assoc out separator (item ++ led (32 ∷ []) rest)
    ∙ ap (λ (l : List ℕ). out ++ (separator ++ (item ++ l))) (led_by_space rest)
    ∙ ap (λ (items : List (List ℕ)). out ++ led separator items) (sym (rest_more names vars values i d e here same))
    ∙ so_far

-- so there is room for the separator and the item where there is room for the line
pub parts_fit : (names : List (List ℕ)) (vars : List Var) (values : List Value) (i : ℕ) (d : Var) (e : Value) → i < length vars → length values ≡ length vars
    → (separator out all : List ℕ) → out ++ led separator (rest_of names vars values i) ≡ all
    → length out + (length separator + length (item_of names (variable_data (get_or vars i d)) (get_or values i e))) ≤ length all
parts_fit names vars values i d e here same separator out all so_far =
    let item = item_of names (variable_data (get_or vars i d)) (get_or values i e) in
    let rest = led (32 ∷ []) (rest_of names vars values (i + 1)) in
    omega (arith, ap length (parts names vars values i d e here same separator out all so_far), length-append ((out ++ separator) ++ item) rest, length-append (out ++ separator) item, length-append out separator)
