-- Where reading a declaration stops depends on the tokens up to there alone.
use Rattle.std.proofs.Common.{◌≡◌, ◌<◌, ◌||◌, List, [], ◌∷◌, ◌++◌, length, Ok, refl, Option, Some, None}
use Rattle.spectra_exprs.specs.declared.fault.SyntaxFault.TheVariants as faults
use Rattle.spectra_trees.specs.declared.class.Class.TheVariants as classes
use Rattle.spectra_trees.specs.declared.tree.Place.{Place}
use Rattle.spectra_trees.specs.declared.tree.OwnerWord.{OwnerWord}
use Rattle.spectra_trees.specs.Classes.{place_of}
use Rattle.spectra_trees.specs.Data.{NameData, Expression, TypeData, TypeShape, PartData, PartShape, LengthData, ItemData}
use Rattle.spectra_trees.specs.Lexemes.{Lexeme, name_of}
use Rattle.spectra_exprs.specs.Read.{◌>>=◌, starts, expect}
use Rattle.spectra_exprs.specs.Expressions.{inside, bound_of}
use Rattle.spectra_parser.specs.Items.{formula, name_after, names, name_type, range_type, named_type, type_of, some_length, length_of, vardecl, typedecl, definition, definition_after, define, parameter, parameter_after, some_parameters, parameters, predicate, own, part_formula, part_shape, part_line, pitem, mitem, pitem_after, mitem_after, inside_braces, pitems, mitems, name_parameters, pattern, monitor}
use Rattle.spectra_exprs.proofs.Stopping.{Stable, stable_then, stable_gives, stable_same, stable_unexpected, OfHead, starts_of_head, not_of_head, or_tests_of_head, stable_if, stable_told, err_no_ok}
use Rattle.spectra_exprs.proofs.StoppingSteps.{Uses, uses_token, uses_then, uses_if, uses_same, uses_unexpected, stable_steps}
use Rattle.spectra_exprs.proofs.StoppingExpressions.{stable_after, stable_inside, stable_whole, stable_bound}
use Rattle.spectra_parser.proofs.SoundItems.{n, type_same}
use Rattle.spectra_parser.proofs.SoundDeclarations.{own_at, shape_at, shape_same, line_part, pitem_same}

-- ---- names and types

name_behind : (all : List NameData) (c : Lexeme) → Stable (λ ts. expect classes.Name ts >>= λ m rest. Ok (all ++ name_of m ∷ [], rest))
unfolding place_of
name_behind all c = stable_after classes.Name (record { checked = refl }) (λ (m : Lexeme). stable_gives (all ++ name_of m ∷ []))

stable_name_after : (all : List NameData) → Stable (name_after all)
unfolding name_after place_of
stable_name_after all = stable_after classes.Comma (record { checked = refl }) (name_behind all)

pub uses_name_after : (all : List NameData) → Uses (name_after all)
unfolding name_after
uses_name_after all = uses_then (uses_token classes.Comma) (name_behind all)

stable_names : Stable names
unfolding names place_of
stable_names = stable_after classes.Name (record { checked = refl }) (λ (m : Lexeme). stable_steps (starts_of_head classes.Comma) uses_name_after stable_name_after (name_of m ∷ []))

stable_bounds : Stable (λ ts. bound_of (inside n) ts)
stable_bounds = stable_bound (inside n) (stable_inside n)

pub stable_formula : Stable formula
stable_formula = stable_whole (inside n) (stable_inside n)

stable_name_type : (at : Place) → Stable (name_type at)
unfolding name_type place_of
stable_name_type at = stable_then stable_names (λ (all : List NameData). stable_after classes.CloseBrace (record { checked = refl }) (λ (c : Lexeme). stable_gives (record { at = at; form = TypeShape.Names all })))

stable_range_type : (at : Place) → Stable (range_type at)
unfolding range_type place_of
stable_range_type at =
    stable_after classes.Open (record { checked = refl }) (λ (o : Lexeme). stable_then stable_bounds (λ (low : Expression). stable_after classes.UpTo (record { checked = refl }) (λ (u : Lexeme). stable_then stable_bounds
    (λ (high : Expression). stable_after classes.Close (record { checked = refl }) (λ (c : Lexeme). stable_gives (record { at = at; form = TypeShape.Range low high }))))))

stable_named_type : (t : Lexeme) → Stable (named_type t)
unfolding named_type
stable_named_type t = stable_gives (record { at = t.at; form = TypeShape.Named (name_of t) })

stable_type : Stable type_of
unfolding place_of
stable_type =
    stable_same type_same
    (stable_if (starts_of_head classes.Boolean) (stable_after classes.Boolean (record { checked = refl }) (λ (t : Lexeme). stable_gives (record { at = t.at; form = TypeShape.Boolean })))
    (stable_if (starts_of_head classes.Int) (stable_after classes.Int (record { checked = refl }) (λ (t : Lexeme). stable_range_type t.at))
    (stable_if (starts_of_head classes.OpenBrace) (stable_after classes.OpenBrace (record { checked = refl }) (λ (t : Lexeme). stable_name_type t.at))
    (stable_if (starts_of_head classes.Name) (stable_after classes.Name (record { checked = refl }) stable_named_type) stable_unexpected))))

-- ---- declarations

stable_length : Stable length_of
unfolding length_of some_length place_of
stable_length =
    stable_if (starts_of_head classes.OpenBracket) (stable_after classes.OpenBracket (record { checked = refl }) (λ (o : Lexeme). stable_after classes.Number (record { checked = refl })
    (λ (m : Lexeme). stable_after classes.CloseBracket (record { checked = refl }) (λ (c : Lexeme). stable_gives (Some (record { bracket = o.at; digits = m.text })))))) (stable_gives None)

pub stable_vardecl : (at : Place) (owner : OwnerWord) → Stable (vardecl at owner)
unfolding vardecl place_of
stable_vardecl at owner =
    stable_then stable_type (λ (d : TypeData). stable_then stable_length (λ (l : Option LengthData). stable_after classes.Name (record { checked = refl }) (λ (m : Lexeme). stable_after classes.Semicolon (record { checked = refl })
    (λ (s : Lexeme). stable_gives (ItemData.Variable (record { at = at; owner = owner; domain = d; length = l; name = name_of m }))))))

pub stable_typedecl : (at : Place) → Stable (typedecl at)
unfolding typedecl place_of
stable_typedecl at =
    stable_after classes.Name (record { checked = refl }) (λ (m : Lexeme). stable_after classes.Equal (record { checked = refl }) (λ (e : Lexeme). stable_then stable_type (λ (d : TypeData).
    stable_after classes.Semicolon (record { checked = refl }) (λ (s : Lexeme). stable_gives (ItemData.Alias (record { at = at; name = name_of m; body = d }))))))

definition_behind : (m : Lexeme) → Stable {A = NameData × Expression} (λ ts. expect classes.Becomes ts >>= λ b rest. formula rest >>= λ e rest. expect classes.Semicolon rest >>= λ s rest. Ok ((name_of m, e), rest))
unfolding place_of
definition_behind m =
    stable_after classes.Becomes (record { checked = refl }) (λ (b : Lexeme). stable_then stable_formula (λ (e : Expression). stable_after classes.Semicolon (record { checked = refl })
    (λ (s : Lexeme). stable_gives (name_of m, e))))

stable_definition : Stable definition
unfolding definition place_of
stable_definition = stable_after classes.Name (record { checked = refl }) definition_behind

uses_definition : Uses definition
unfolding definition
uses_definition = uses_then (uses_token classes.Name) definition_behind

stable_definition_after : (all : List (NameData × Expression)) → Stable (definition_after all)
unfolding definition_after
stable_definition_after all = stable_then stable_definition (λ (d : NameData × Expression). stable_gives (all ++ d ∷ []))

pub uses_definition_after : (all : List (NameData × Expression)) → Uses (definition_after all)
unfolding definition_after
uses_definition_after all = uses_then uses_definition (λ (d : NameData × Expression). stable_gives (all ++ d ∷ []))

pub stable_define : (at : Place) → Stable (define at)
unfolding define
stable_define at =
    stable_then stable_definition (λ (d : NameData × Expression). stable_then (stable_steps (starts_of_head classes.Name) uses_definition_after stable_definition_after (d ∷ []))
    (λ (all : List (NameData × Expression)). stable_gives (ItemData.Define (record { at = at; bodies = all }))))

stable_parameter : Stable parameter
unfolding parameter place_of
stable_parameter = stable_then stable_type (λ (d : TypeData). stable_after classes.Name (record { checked = refl }) (λ (m : Lexeme). stable_gives (d, name_of m)))

parameter_behind : (all : List (TypeData × NameData)) (c : Lexeme) → Stable (λ ts. parameter ts >>= λ p rest. Ok (all ++ p ∷ [], rest))
parameter_behind all c = stable_then stable_parameter (λ (p : TypeData × NameData). stable_gives (all ++ p ∷ []))

stable_parameter_after : (all : List (TypeData × NameData)) → Stable (parameter_after all)
unfolding parameter_after place_of
stable_parameter_after all = stable_after classes.Comma (record { checked = refl }) (parameter_behind all)

pub uses_parameter_after : (all : List (TypeData × NameData)) → Uses (parameter_after all)
unfolding parameter_after
uses_parameter_after all = uses_then (uses_token classes.Comma) (parameter_behind all)

stable_some_parameters : Stable some_parameters
unfolding some_parameters place_of
stable_some_parameters =
    stable_then stable_parameter (λ (p : TypeData × NameData). stable_then (stable_steps (starts_of_head classes.Comma) uses_parameter_after stable_parameter_after (p ∷ []))
    (λ (all : List (TypeData × NameData)). stable_after classes.Close (record { checked = refl }) (λ (c : Lexeme). stable_gives all)))

stable_parameters : Stable parameters
unfolding parameters place_of
stable_parameters = stable_if (starts_of_head classes.Close) (stable_after classes.Close (record { checked = refl }) (λ (c : Lexeme). stable_gives [])) stable_some_parameters

pub stable_predicate : (at : Place) → Stable (predicate at)
unfolding predicate place_of
stable_predicate at =
    stable_after classes.Name (record { checked = refl }) (λ (m : Lexeme). stable_after classes.Open (record { checked = refl }) (λ (o : Lexeme). stable_then stable_parameters (λ (ps : List (TypeData × NameData)).
    stable_after classes.Colon (record { checked = refl }) (λ (c : Lexeme). stable_then stable_formula (λ (e : Expression). stable_after classes.Semicolon (record { checked = refl })
    (λ (s : Lexeme). stable_gives (ItemData.Predicate (record { at = at; name = name_of m; params = ps; body = e }))))))))

-- ---- patterns and monitors

stable_own : (t : Lexeme) → Stable (own_at t)
unfolding own place_of
stable_own t =
    stable_then stable_type (λ (d : TypeData). stable_after classes.Name (record { checked = refl }) (λ (m : Lexeme). stable_after classes.Semicolon (record { checked = refl })
    (λ (s : Lexeme). stable_gives (record { at = t.at; form = PartShape.Own d (name_of m) }))))

stable_shape_at : (shape : Expression → PartShape) (t : Lexeme) → Stable (shape_at shape t)
unfolding part_formula
stable_shape_at shape t = stable_then stable_formula (λ (e : Expression). stable_gives (shape e))

stable_shape : Stable part_shape
unfolding place_of
stable_shape =
    stable_same shape_same
    (stable_if (starts_of_head classes.Ini) (stable_after classes.Ini (record { checked = refl }) (stable_shape_at PartShape.Initial))
    (stable_if (starts_of_head classes.Alw) (stable_after classes.Alw (record { checked = refl }) (stable_shape_at PartShape.Always))
    (stable_if (starts_of_head classes.AlwEv) (stable_after classes.AlwEv (record { checked = refl }) (stable_shape_at PartShape.Recurring)) stable_unexpected)))

uses_shape : Uses part_shape
uses_shape =
    uses_same shape_same
    (uses_if (starts classes.Ini) (uses_then (uses_token classes.Ini) (stable_shape_at PartShape.Initial))
    (uses_if (starts classes.Alw) (uses_then (uses_token classes.Alw) (stable_shape_at PartShape.Always))
    (uses_if (starts classes.AlwEv) (uses_then (uses_token classes.AlwEv) (stable_shape_at PartShape.Recurring)) uses_unexpected)))

line_behind : (at : Place) (f : PartShape) → Stable {A = PartData} (λ ts. expect classes.Semicolon ts >>= λ s rest. Ok (record { at = at; form = f }, rest))
unfolding place_of
line_behind at f = stable_after classes.Semicolon (record { checked = refl }) (λ (s : Lexeme). stable_gives (record { at = at; form = f }))

stable_part_line : (t : Lexeme) → Stable (part_line t.at)
unfolding part_line
stable_part_line t = stable_then stable_shape (line_behind t.at)

uses_part_line : (t : Lexeme) → Uses (part_line t.at)
unfolding part_line
uses_part_line t = uses_then uses_shape (line_behind t.at)

stable_line_part : Stable line_part
unfolding line_part
stable_line_part = stable_told line_part (λ (t : Lexeme) (ts : List Lexeme). part_line t.at ts) refl (λ (t : Lexeme) (ts : List Lexeme). refl) stable_part_line

uses_line_part : Uses line_part
unfolding line_part
uses_line_part = record { shorter = at }
  where
    at : (ts : List Lexeme) (a : PartData) (rest : List Lexeme) → line_part ts ≡ Ok (a, rest) → length rest < length ts
    at [] a rest e = absurd (err_no_ok (faults.Unexpected 0) (a, rest) e)
    at (t ∷ ts) a rest e = (uses_part_line t).shorter (t ∷ ts) a rest e

stable_pitem : Stable pitem
unfolding place_of
stable_pitem = stable_same pitem_same (stable_if (starts_of_head classes.Var) (stable_after classes.Var (record { checked = refl }) stable_own) stable_line_part)

uses_pitem : Uses pitem
uses_pitem = uses_same pitem_same (uses_if (starts classes.Var) (uses_then (uses_token classes.Var) stable_own) uses_line_part)

stable_mitem : Stable mitem
unfolding mitem
stable_mitem = stable_if (or_tests_of_head (starts_of_head classes.Ini) (starts_of_head classes.Alw)) stable_pitem stable_unexpected

uses_mitem : Uses mitem
unfolding mitem
uses_mitem = uses_if (λ ts. starts classes.Ini ts || starts classes.Alw ts) uses_pitem uses_unexpected

stable_pitem_after : (all : List PartData) → Stable (pitem_after all)
unfolding pitem_after
stable_pitem_after all = stable_then stable_pitem (λ (p : PartData). stable_gives (all ++ p ∷ []))

pub uses_pitem_after : (all : List PartData) → Uses (pitem_after all)
unfolding pitem_after
uses_pitem_after all = uses_then uses_pitem (λ (p : PartData). stable_gives (all ++ p ∷ []))

stable_mitem_after : (all : List PartData) → Stable (mitem_after all)
unfolding mitem_after
stable_mitem_after all = stable_then stable_mitem (λ (p : PartData). stable_gives (all ++ p ∷ []))

pub uses_mitem_after : (all : List PartData) → Uses (mitem_after all)
unfolding mitem_after
uses_mitem_after all = uses_then uses_mitem (λ (p : PartData). stable_gives (all ++ p ∷ []))

pub braces_of_head : OfHead inside_braces
unfolding inside_braces
braces_of_head = not_of_head (starts_of_head classes.CloseBrace)

stable_pitems : Stable pitems
unfolding pitems place_of
stable_pitems = stable_then (stable_steps braces_of_head uses_pitem_after stable_pitem_after []) (λ (parts : List PartData). stable_after classes.CloseBrace (record { checked = refl }) (λ (c : Lexeme). stable_gives parts))

stable_mitems : Stable mitems
unfolding mitems place_of
stable_mitems = stable_then (stable_steps braces_of_head uses_mitem_after stable_mitem_after []) (λ (parts : List PartData). stable_after classes.CloseBrace (record { checked = refl }) (λ (c : Lexeme). stable_gives parts))

stable_name_parameters : Stable name_parameters
unfolding name_parameters place_of
stable_name_parameters =
    stable_if (starts_of_head classes.Close) (stable_after classes.Close (record { checked = refl }) (λ (c : Lexeme). stable_gives []))
    (stable_then stable_names (λ (all : List NameData). stable_after classes.Close (record { checked = refl }) (λ (c : Lexeme). stable_gives all)))

pub stable_pattern : (at : Place) → Stable (pattern at)
unfolding pattern place_of
stable_pattern at =
    stable_after classes.Name (record { checked = refl }) (λ (m : Lexeme). stable_after classes.Open (record { checked = refl }) (λ (o : Lexeme). stable_then stable_name_parameters (λ (ps : List NameData).
    stable_after classes.OpenBrace (record { checked = refl }) (λ (b : Lexeme). stable_then stable_pitems (λ (parts : List PartData).
    stable_gives (ItemData.Pattern (record { at = at; name = name_of m; params = ps; parts = parts })))))))

pub stable_monitor : (at : Place) → Stable (monitor at)
unfolding monitor place_of
stable_monitor at =
    stable_then stable_type (λ (d : TypeData). stable_after classes.Name (record { checked = refl }) (λ (m : Lexeme). stable_after classes.OpenBrace (record { checked = refl }) (λ (b : Lexeme). stable_then stable_mitems
    (λ (parts : List PartData). stable_gives (ItemData.Monitor (record { at = at; domain = d; name = name_of m; parts = parts }))))))
