-- How many levels are open where reading a declaration goes on, and where it stops: one lemma for each production.
use Rattle.std.proofs.Common.{◌≡◌, ◌+◌, ◌≤◌, true, false, ◌||◌, List, [], ◌∷◌, ◌++◌, Option, Some, None, refl, arith}
use Rattle.spectra_trees.specs.declared.class.Class.TheVariants as classes
use Rattle.spectra_trees.specs.declared.tree.Place.{Place}
use Rattle.spectra_trees.specs.declared.tree.OwnerWord.{OwnerWord}
use Rattle.spectra_trees.specs.Classes.{place_of, same_class}
use Rattle.spectra_trees.specs.Data.{NameData, Expression, TypeData, TypeShape, PartData, PartShape, LengthData, ItemData}
use Rattle.spectra_trees.specs.Lexemes.{Lexeme, name_of}
use Rattle.spectra_exprs.specs.Read.{starts}
use Rattle.spectra_exprs.specs.Expressions.{inside, bound_of}
use Rattle.spectra_exprs.specs.Nesting.{Opening, sort_of, completed, ended, levels_of}
use Rattle.spectra_exprs.proofs.Counting.{Counts, Exactly, Shuts, Opens, counts_gives, counts_unexpected, counts_same, counts_from, counts_then, counts_if, counts_told, counts_steps}
use Rattle.spectra_exprs.proofs.CountingTokens.{shuts_exactly, counts_name, counts_operand, counts_plain, counts_level, counts_close, counts_separator, counts_separated, counts_mark, counts_head, counts_colon}
use Rattle.spectra_exprs.proofs.CountingExpressions.{counts_inside, counts_bound, counts_whole}
use Rattle.spectra_parser.specs.Items.{formula, name_after, names, name_type, range_type, named_type, type_of, some_length, length_of, vardecl, typedecl, definition, definition_after, define, parameter, parameter_after, some_parameters, parameters, predicate, own, part_formula, part_shape, part_line, pitem, mitem, pitem_after, mitem_after, inside_braces, pitems, mitems, name_parameters, pattern, monitor}
use Rattle.spectra_parser.proofs.SoundItems.{n, type_same}
use Rattle.spectra_parser.proofs.SoundDeclarations.{own_at, shape_at, shape_same, line_part, pitem_same}

module _ (stack : List Opening) (flat : completed stack ≡ stack) (shut : ended stack ≡ stack) (size : levels_of stack + n ≡ n) where
  pub few : levels_of stack ≤ n
  few = omega (arith, size)

  -- ---- names and types

  counts_name_after : (all : List NameData) → Counts n (Exactly false stack) (Exactly false stack) (name_after all)
  unfolding name_after sort_of same_class place_of
  counts_name_after all = counts_separated stack false shut classes.Comma refl few (λ (c : Lexeme). counts_name stack false classes.Name refl few (λ (m : Lexeme). counts_gives (all ++ name_of m ∷ [])))

  pub counts_names : Counts n (Exactly false stack) (Exactly false stack) names
  unfolding names sort_of same_class place_of
  counts_names = counts_name stack false classes.Name refl few (λ (m : Lexeme). counts_steps (starts classes.Comma) counts_name_after (name_of m ∷ []))

  counts_bounds : Counts n (Exactly false (Opening.Plain ∷ stack)) (Exactly false (Opening.Plain ∷ stack)) (λ ts. bound_of (inside n) ts)
  counts_bounds = counts_bound n (inside n) (counts_inside n) n (Opening.Plain ∷ stack) refl size

  pub counts_formula : Counts n (Exactly false stack) (Shuts stack) formula
  counts_formula = counts_whole n (inside n) (counts_inside n) n stack flat size

  counts_name_type : (at : Place) → Counts n (Exactly false stack) (Exactly false stack) (name_type at)
  unfolding name_type sort_of same_class place_of
  counts_name_type at = counts_then counts_names (λ (all : List NameData). counts_mark stack flat few classes.CloseBrace false refl (λ (c : Lexeme). counts_gives (record { at = at; form = TypeShape.Names all })))

  counts_range_type : (at : Place) → Counts n (Exactly true stack) (Exactly false stack) (range_type at)
  unfolding range_type sort_of same_class place_of
  counts_range_type at =
      counts_plain stack classes.Open refl few (λ (o : Lexeme). counts_then counts_bounds (λ (low : Expression). counts_mark (Opening.Plain ∷ stack) refl few classes.UpTo false refl (λ (u : Lexeme). counts_then counts_bounds
      (λ (high : Expression). counts_from (shuts_exactly false (Opening.Plain ∷ stack)) (counts_close stack Opening.Plain refl classes.Close refl few
      (λ (c : Lexeme). counts_gives (record { at = at; form = TypeShape.Range low high })))))))

  counts_named_type : (t : Lexeme) → Counts n (Exactly false stack) (Exactly false stack) (named_type t)
  unfolding named_type
  counts_named_type t = counts_gives (record { at = t.at; form = TypeShape.Named (name_of t) })

  pub counts_type : Counts n (Exactly false stack) (Exactly false stack) type_of
  unfolding sort_of same_class place_of
  counts_type =
      counts_same type_same
      (counts_if (counts_mark stack flat few classes.Boolean false refl (λ (t : Lexeme). counts_gives (record { at = t.at; form = TypeShape.Boolean })))
      (counts_if (counts_head stack flat few classes.Int refl (λ (t : Lexeme). counts_range_type t.at))
      (counts_if (counts_mark stack flat few classes.OpenBrace false refl (λ (t : Lexeme). counts_name_type t.at))
      (counts_if (counts_name stack false classes.Name refl few counts_named_type) counts_unexpected (starts classes.Name)) (starts classes.OpenBrace)) (starts classes.Int)) (starts classes.Boolean))

  -- ---- declarations

  counts_some_length : Counts n (Exactly false stack) (Exactly false stack) some_length
  unfolding some_length sort_of same_class place_of
  counts_some_length =
      counts_level stack classes.OpenBracket refl (λ (o : Lexeme). Opens.some (omega (arith, size)) (counts_operand (Opening.Level ∷ stack) classes.Number refl (omega (arith, size)) (λ (m : Lexeme).
      counts_from (shuts_exactly false (Opening.Level ∷ stack)) (counts_close stack Opening.Level refl classes.CloseBracket refl few (λ (c : Lexeme). counts_gives (Some (record { bracket = o.at; digits = m.text })))))))

  counts_length : Counts n (Exactly false stack) (Exactly false stack) length_of
  unfolding length_of
  counts_length = counts_if counts_some_length (counts_gives None) (starts classes.OpenBracket)

  pub counts_vardecl : (at : Place) (owner : OwnerWord) → Counts n (Exactly false stack) (Exactly false stack) (vardecl at owner)
  unfolding vardecl sort_of same_class place_of
  counts_vardecl at owner =
      counts_then counts_type (λ (d : TypeData). counts_then counts_length (λ (l : Option LengthData). counts_name stack false classes.Name refl few (λ (m : Lexeme). counts_separated stack false shut classes.Semicolon refl few
      (λ (s : Lexeme). counts_gives (ItemData.Variable (record { at = at; owner = owner; domain = d; length = l; name = name_of m }))))))

  pub counts_typedecl : (at : Place) → Counts n (Exactly false stack) (Exactly false stack) (typedecl at)
  unfolding typedecl sort_of same_class place_of
  counts_typedecl at =
      counts_name stack false classes.Name refl few (λ (m : Lexeme). counts_mark stack flat few classes.Equal false refl (λ (e : Lexeme). counts_then counts_type (λ (d : TypeData).
      counts_separated stack false shut classes.Semicolon refl few (λ (s : Lexeme). counts_gives (ItemData.Alias (record { at = at; name = name_of m; body = d }))))))

  counts_definition : Counts n (Exactly false stack) (Exactly false stack) definition
  unfolding definition sort_of same_class place_of
  counts_definition =
      counts_name stack false classes.Name refl few (λ (m : Lexeme). counts_mark stack flat few classes.Becomes false refl (λ (b : Lexeme). counts_then counts_formula (λ (e : Expression).
      counts_separator stack shut classes.Semicolon refl few (λ (s : Lexeme). counts_gives (name_of m, e)))))

  counts_definition_after : (all : List (NameData × Expression)) → Counts n (Exactly false stack) (Exactly false stack) (definition_after all)
  unfolding definition_after
  counts_definition_after all = counts_then counts_definition (λ (d : NameData × Expression). counts_gives (all ++ d ∷ []))

  pub counts_define : (at : Place) → Counts n (Exactly false stack) (Exactly false stack) (define at)
  unfolding define
  counts_define at =
      counts_then counts_definition (λ (d : NameData × Expression). counts_then (counts_steps (starts classes.Name) counts_definition_after (d ∷ []))
      (λ (all : List (NameData × Expression)). counts_gives (ItemData.Define (record { at = at; bodies = all }))))

  counts_parameter : Counts n (Exactly false stack) (Exactly false stack) parameter
  unfolding parameter sort_of same_class place_of
  counts_parameter = counts_then counts_type (λ (d : TypeData). counts_name stack false classes.Name refl few (λ (m : Lexeme). counts_gives (d, name_of m)))

  counts_parameter_after : (all : List (TypeData × NameData)) → Counts n (Exactly false stack) (Exactly false stack) (parameter_after all)
  unfolding parameter_after sort_of same_class place_of
  counts_parameter_after all = counts_separated stack false shut classes.Comma refl few (λ (c : Lexeme). counts_then counts_parameter (λ (p : TypeData × NameData). counts_gives (all ++ p ∷ [])))

  -- ---- patterns and monitors

  counts_own : (t : Lexeme) → Counts n (Exactly false stack) (Exactly false stack) (own_at t)
  unfolding own sort_of same_class place_of
  counts_own t =
      counts_then counts_type (λ (d : TypeData). counts_name stack false classes.Name refl few (λ (m : Lexeme). counts_separated stack false shut classes.Semicolon refl few
      (λ (s : Lexeme). counts_gives (record { at = t.at; form = PartShape.Own d (name_of m) }))))

  counts_shape_at : (shape : Expression → PartShape) (t : Lexeme) → Counts n (Exactly false stack) (Shuts stack) (shape_at shape t)
  unfolding part_formula
  counts_shape_at shape t = counts_then counts_formula (λ (e : Expression). counts_gives (shape e))

  counts_shape : Counts n (Exactly false stack) (Shuts stack) part_shape
  unfolding sort_of same_class place_of
  counts_shape =
      counts_same shape_same
      (counts_if (counts_mark stack flat few classes.Ini false refl (counts_shape_at PartShape.Initial))
      (counts_if (counts_mark stack flat few classes.Alw false refl (counts_shape_at PartShape.Always))
      (counts_if (counts_mark stack flat few classes.AlwEv false refl (counts_shape_at PartShape.Recurring)) counts_unexpected (starts classes.AlwEv)) (starts classes.Alw)) (starts classes.Ini))

  counts_part_line : (t : Lexeme) → Counts n (Exactly false stack) (Exactly false stack) (part_line t.at)
  unfolding part_line sort_of same_class place_of
  counts_part_line t = counts_then counts_shape (λ (f : PartShape). counts_separator stack shut classes.Semicolon refl few (λ (s : Lexeme). counts_gives (record { at = t.at; form = f })))

  counts_line_part : Counts n (Exactly false stack) (Exactly false stack) line_part
  unfolding line_part
  counts_line_part = counts_told line_part (λ (t : Lexeme) (ts : List Lexeme). part_line t.at ts) refl (λ (t : Lexeme) (ts : List Lexeme). refl) counts_part_line

  counts_pitem : Counts n (Exactly false stack) (Exactly false stack) pitem
  unfolding sort_of same_class place_of
  counts_pitem = counts_same pitem_same (counts_if (counts_mark stack flat few classes.Var false refl counts_own) counts_line_part (starts classes.Var))

  counts_mitem : Counts n (Exactly false stack) (Exactly false stack) mitem
  unfolding mitem
  counts_mitem = counts_if counts_pitem counts_unexpected (λ ts. starts classes.Ini ts || starts classes.Alw ts)

  counts_pitem_after : (all : List PartData) → Counts n (Exactly false stack) (Exactly false stack) (pitem_after all)
  unfolding pitem_after
  counts_pitem_after all = counts_then counts_pitem (λ (p : PartData). counts_gives (all ++ p ∷ []))

  counts_mitem_after : (all : List PartData) → Counts n (Exactly false stack) (Exactly false stack) (mitem_after all)
  unfolding mitem_after
  counts_mitem_after all = counts_then counts_mitem (λ (p : PartData). counts_gives (all ++ p ∷ []))

  pub counts_pitems : Counts n (Exactly false stack) (Exactly false stack) pitems
  unfolding pitems sort_of same_class place_of
  counts_pitems = counts_then (counts_steps inside_braces counts_pitem_after []) (λ (parts : List PartData). counts_mark stack flat few classes.CloseBrace false refl (λ (c : Lexeme). counts_gives parts))

  counts_mitems : Counts n (Exactly false stack) (Exactly false stack) mitems
  unfolding mitems sort_of same_class place_of
  counts_mitems = counts_then (counts_steps inside_braces counts_mitem_after []) (λ (parts : List PartData). counts_mark stack flat few classes.CloseBrace false refl (λ (c : Lexeme). counts_gives parts))

  pub counts_monitor : (at : Place) → Counts n (Exactly false stack) (Exactly false stack) (monitor at)
  unfolding monitor sort_of same_class place_of
  counts_monitor at =
      counts_then counts_type (λ (d : TypeData). counts_name stack false classes.Name refl few (λ (m : Lexeme). counts_mark stack flat few classes.OpenBrace false refl (λ (b : Lexeme). counts_then counts_mitems
      (λ (parts : List PartData). counts_gives (ItemData.Monitor (record { at = at; domain = d; name = name_of m; parts = parts }))))))

-- ---- inside a bracket that is no level, and behind it

module _ (stack : List Opening) (flat : completed stack ≡ stack) (shut : ended stack ≡ stack) (size : levels_of stack + n ≡ n) where
  room : levels_of stack ≤ n
  room = omega (arith, size)

  counts_some_parameters : Counts n (Exactly false (Opening.Plain ∷ stack)) (Exactly false stack) some_parameters
  unfolding some_parameters sort_of same_class place_of
  counts_some_parameters =
      counts_then (counts_parameter (Opening.Plain ∷ stack) refl refl size) (λ (p : TypeData × NameData). counts_then (counts_steps (starts classes.Comma) (counts_parameter_after (Opening.Plain ∷ stack) refl refl size) (p ∷ []))
      (λ (all : List (TypeData × NameData)). counts_from (shuts_exactly false (Opening.Plain ∷ stack)) (counts_close stack Opening.Plain refl classes.Close refl room (λ (c : Lexeme). counts_gives all))))

  counts_parameters : Counts n (Exactly false (Opening.Plain ∷ stack)) (Exactly false stack) parameters
  unfolding parameters sort_of same_class place_of
  counts_parameters =
      counts_if (counts_from (shuts_exactly false (Opening.Plain ∷ stack)) (counts_close stack Opening.Plain refl classes.Close refl room (λ (c : Lexeme). counts_gives []))) counts_some_parameters (starts classes.Close)

  pub counts_predicate : (at : Place) → Counts n (Exactly true stack) (Exactly false stack) (predicate at)
  unfolding predicate sort_of same_class place_of
  counts_predicate at =
      counts_name stack true classes.Name refl room (λ (m : Lexeme). counts_plain stack classes.Open refl room (λ (o : Lexeme). counts_then counts_parameters (λ (ps : List (TypeData × NameData)).
      counts_colon stack flat room classes.Colon false refl (λ (c : Lexeme). counts_then (counts_formula stack flat shut size) (λ (e : Expression). counts_separator stack shut classes.Semicolon refl room
      (λ (s : Lexeme). counts_gives (ItemData.Predicate (record { at = at; name = name_of m; params = ps; body = e }))))))))

  counts_name_parameters : Counts n (Exactly false (Opening.Plain ∷ stack)) (Exactly false stack) name_parameters
  unfolding name_parameters sort_of same_class place_of
  counts_name_parameters =
      counts_if (counts_from (shuts_exactly false (Opening.Plain ∷ stack)) (counts_close stack Opening.Plain refl classes.Close refl room (λ (c : Lexeme). counts_gives [])))
      (counts_then (counts_names (Opening.Plain ∷ stack) refl refl size) (λ (all : List NameData). counts_from (shuts_exactly false (Opening.Plain ∷ stack)) (counts_close stack Opening.Plain refl classes.Close refl room
      (λ (c : Lexeme). counts_gives all)))) (starts classes.Close)

  pub counts_pattern : (at : Place) → Counts n (Exactly true stack) (Exactly false stack) (pattern at)
  unfolding pattern sort_of same_class place_of
  counts_pattern at =
      counts_name stack true classes.Name refl room (λ (m : Lexeme). counts_plain stack classes.Open refl room (λ (o : Lexeme). counts_then counts_name_parameters (λ (ps : List NameData).
      counts_mark stack flat room classes.OpenBrace false refl (λ (b : Lexeme). counts_then (counts_pitems stack flat shut size) (λ (parts : List PartData).
      counts_gives (ItemData.Pattern (record { at = at; name = name_of m; params = ps; parts = parts })))))))
