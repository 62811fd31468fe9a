-- Reading a declaration: a phrase that an operator follows, and the word `true` in its place.
use Rattle.std.proofs.Common.{◌≡◌, suc, true, false, not, ◌||◌, List, [], ◌∷◌, ◌++◌, refl, ap, Option, Some, None}
use Rattle.spectra_trees.specs.declared.class.Class.TheVariants as classes
use Rattle.spectra_trees.specs.declared.tree.Place.{Place}
use Rattle.spectra_trees.specs.declared.tree.OwnerWord.{OwnerWord}
use Rattle.spectra_trees.specs.Classes.{place_of}
use Rattle.spectra_trees.specs.Data.{NameData, Expression, TypeData, TypeShape, PartData, PartShape, LengthData, ItemData}
use Rattle.spectra_trees.specs.Lexemes.{Lexeme, name_of}
use Rattle.spectra_exprs.specs.Read.{starts, all_of}
use Rattle.spectra_exprs.specs.Expressions.{inside, bound_of}
use Rattle.spectra_parser.specs.Items.{formula, name_after, names, name_type, range_type, named_type, type_of, some_length, length_of, vardecl, typedecl, definition, definition_after, define, parameter, parameter_after, some_parameters, parameters, predicate, own, part_formula, part_shape, part_line, pitem, mitem, pitem_after, mitem_after, inside_braces, pitems, mitems, name_parameters, pattern, monitor}
use Rattle.spectra_exprs.proofs.ClassSets.{among}
use Rattle.spectra_exprs.proofs.WholeExpressions.{b_expr}
use Rattle.spectra_exprs.proofs.Stopping.{starts_of_head, or_tests_of_head}
use Rattle.spectra_exprs.proofs.Shapes.{phrase_tokens}
use Rattle.spectra_exprs.proofs.Comparing.{Pair, instead, Tells, Blocks, blocks_none, off_class, blocks_unexpected, blocks_then, blocks_if, blocks_same, blocks_off, blocks_on, tells_gives, tells_same, tells_unexpected, tells_then, tells_after, tells_until, tells_map, tells_if, tells_if_word, word_starts, of_none, true_alone, tells_told}
use Rattle.spectra_exprs.proofs.ComparingSteps.{tells_loop, nothing_by, tells_steps}
use Rattle.spectra_exprs.proofs.ComparingExpressions.{tells_whole, tells_bound}
use Rattle.spectra_parser.proofs.SoundItems.{n, type_same}
use Rattle.spectra_parser.proofs.SoundDeclarations.{own_at, shape_at, shape_same, line_part, pitem_same}
use Rattle.spectra_parser.proofs.StoppingItems.{uses_name_after, uses_definition_after, uses_parameter_after, uses_pitem_after, uses_mitem_after, braces_of_head}

begins_no_comma : (t : Lexeme) (ts : List Lexeme) → among b_expr (place_of t.class) ≡ true → starts classes.Comma (t ∷ ts) ≡ false
unfolding starts place_of
begins_no_comma t ts on = off_class b_expr classes.Comma (record { checked = refl }) t on

no_name : (t : Lexeme) (ts : List Lexeme) → among true_alone (place_of t.class) ≡ true → starts classes.Name (t ∷ ts) ≡ false
unfolding starts place_of
no_name t ts on = off_class true_alone classes.Name (record { checked = refl }) t on

braces_go_on : (t : Lexeme) (ts : List Lexeme) → among true_alone (place_of t.class) ≡ true → inside_braces (t ∷ ts) ≡ true
unfolding inside_braces starts place_of
braces_go_on t ts on = ap not (off_class true_alone classes.CloseBrace (record { checked = refl }) t on)

-- ---- where no part begins

blocks_shape : Blocks true_alone [] part_shape
unfolding place_of
blocks_shape =
    blocks_same shape_same
    (blocks_if classes.Ini _ (record { checked = refl }) (blocks_if classes.Alw _ (record { checked = refl }) (blocks_if classes.AlwEv _ (record { checked = refl }) blocks_unexpected)))

blocks_line : Blocks true_alone [] line_part
unfolding line_part part_line
blocks_line = record { blocks = λ t ts on. (blocks_then {F = []} [] blocks_shape (λ (f : PartShape). blocks_none)).blocks t ts on }

blocks_pitem : Blocks true_alone [] pitem
unfolding place_of
blocks_pitem = blocks_same pitem_same (blocks_if classes.Var _ (record { checked = refl }) blocks_line)

blocks_mitem : Blocks true_alone [] mitem
unfolding mitem starts place_of
blocks_mitem = record {
  blocks = λ t ts on.
      let ini = off_class true_alone classes.Ini (record { checked = refl }) t on in
      let alw = off_class true_alone classes.Alw (record { checked = refl }) t on in
      rw (ini, alw) ((blocks_unexpected {A = PartData} {G = true_alone} {F = []}).blocks t ts on);
}

blocks_pitem_after : (all : List PartData) → Blocks true_alone [] (pitem_after all)
unfolding pitem_after
blocks_pitem_after all = blocks_then [] blocks_pitem (λ (p : PartData). blocks_none)

blocks_mitem_after : (all : List PartData) → Blocks true_alone [] (mitem_after all)
unfolding mitem_after
blocks_mitem_after all = blocks_then [] blocks_mitem (λ (p : PartData). blocks_none)

module _ (p : Pair) where
  -- ---- names and types

  tells_name_after : (all : List NameData) → Tells p [] (name_after all)
  unfolding name_after place_of
  tells_name_after all = tells_after p classes.Comma (record { checked = refl }) (λ (c : Lexeme). tells_after p classes.Name (record { checked = refl }) (λ (m : Lexeme). tells_gives p (all ++ name_of m ∷ [])))

  tells_names : Tells p [] names
  unfolding names place_of
  tells_names = tells_after p classes.Name (record { checked = refl }) (λ (m : Lexeme). tells_steps p [] (starts classes.Comma) (starts_of_head classes.Comma) (λ t ts on. of_none t on) begins_no_comma (record { checked = refl }) uses_name_after tells_name_after (name_of m ∷ []))

  pub tells_formula : Tells p phrase_tokens formula
  tells_formula = tells_whole p n

  tells_bounds : Tells p phrase_tokens (λ ts. bound_of (inside n) ts)
  tells_bounds = tells_bound p n

  tells_name_type : (at : Place) → Tells p [] (name_type at)
  unfolding name_type place_of
  tells_name_type at = tells_then p tells_names (λ (all : List NameData). tells_after p classes.CloseBrace (record { checked = refl }) (λ (c : Lexeme). tells_gives p (record { at = at; form = TypeShape.Names all })))

  tells_range_type : (at : Place) → Tells p [] (range_type at)
  unfolding range_type place_of
  tells_range_type at =
      tells_after p classes.Open (record { checked = refl }) (λ (o : Lexeme). tells_until p phrase_tokens classes.UpTo (record { checked = refl }) (record { checked = refl }) tells_bounds (λ (low : Expression) (u : Lexeme).
      tells_until p phrase_tokens classes.Close (record { checked = refl }) (record { checked = refl }) tells_bounds (λ (high : Expression) (c : Lexeme). tells_gives p (record { at = at; form = TypeShape.Range low high }))))

  tells_named_type : (t : Lexeme) → Tells p [] (named_type t)
  unfolding named_type
  tells_named_type t = tells_gives p (record { at = t.at; form = TypeShape.Named (name_of t) })

  tells_type : Tells p [] type_of
  unfolding place_of
  tells_type =
      tells_same p type_same
      (tells_if p classes.Boolean (record { checked = refl }) (tells_after p classes.Boolean (record { checked = refl }) (λ (t : Lexeme). tells_gives p (record { at = t.at; form = TypeShape.Boolean })))
      (tells_if p classes.Int (record { checked = refl }) (tells_after p classes.Int (record { checked = refl }) (λ (t : Lexeme). tells_range_type t.at))
      (tells_if p classes.OpenBrace (record { checked = refl }) (tells_after p classes.OpenBrace (record { checked = refl }) (λ (t : Lexeme). tells_name_type t.at))
      (tells_if_word p (starts_of_head classes.Name) (word_starts p classes.Name (record { checked = refl })) blocks_unexpected (tells_after p classes.Name (record { checked = refl }) tells_named_type) (tells_unexpected p)))))

  -- ---- declarations

  tells_length : Tells p [] length_of
  unfolding length_of some_length place_of
  tells_length =
      tells_if p classes.OpenBracket (record { checked = refl }) (tells_after p classes.OpenBracket (record { checked = refl }) (λ (o : Lexeme). tells_after p classes.Number (record { checked = refl })
      (λ (m : Lexeme). tells_after p classes.CloseBracket (record { checked = refl }) (λ (c : Lexeme). tells_gives p (Some (record { bracket = o.at; digits = m.text })))))) (tells_gives p None)

  pub tells_vardecl : (at : Place) (owner : OwnerWord) → Tells p [] (vardecl at owner)
  unfolding vardecl place_of
  tells_vardecl at owner =
      tells_then p tells_type (λ (d : TypeData). tells_then p tells_length (λ (l : Option LengthData). tells_after p classes.Name (record { checked = refl }) (λ (m : Lexeme). tells_after p classes.Semicolon (record { checked = refl })
      (λ (s : Lexeme). tells_gives p (ItemData.Variable (record { at = at; owner = owner; domain = d; length = l; name = name_of m }))))))

  pub tells_typedecl : (at : Place) → Tells p [] (typedecl at)
  unfolding typedecl place_of
  tells_typedecl at =
      tells_after p classes.Name (record { checked = refl }) (λ (m : Lexeme). tells_after p classes.Equal (record { checked = refl }) (λ (e : Lexeme). tells_then p tells_type (λ (d : TypeData).
      tells_after p classes.Semicolon (record { checked = refl }) (λ (s : Lexeme). tells_gives p (ItemData.Alias (record { at = at; name = name_of m; body = d }))))))

  tells_definition : Tells p [] definition
  unfolding definition place_of
  tells_definition =
      tells_after p classes.Name (record { checked = refl }) (λ (m : Lexeme). tells_after p classes.Becomes (record { checked = refl }) (λ (b : Lexeme).
      tells_until p phrase_tokens classes.Semicolon (record { checked = refl }) (record { checked = refl }) tells_formula (λ (e : Expression) (s : Lexeme). tells_gives p (name_of m, e))))

  tells_definition_after : (all : List (NameData × Expression)) → Tells p [] (definition_after all)
  unfolding definition_after
  tells_definition_after all = tells_then p tells_definition (λ (d : NameData × Expression). tells_gives p (all ++ d ∷ []))

  tells_definitions : (all : List (NameData × Expression)) → Tells p true_alone (λ ts. all_of (starts classes.Name) definition_after all ts)
  unfolding place_of
  tells_definitions all =
      tells_loop p {G = []} (starts_of_head classes.Name) uses_definition_after tells_definition_after (λ k a. blocks_none)
      (nothing_by p (starts classes.Name) definition_after (λ k a. blocks_off {G = true_alone} {F = true_alone} (starts classes.Name) definition_after no_name (record { checked = refl }) (suc k) a)) all

  pub tells_define : (at : Place) → Tells p true_alone (define at)
  unfolding define place_of
  tells_define at = tells_then p tells_definition (λ (d : NameData × Expression). tells_map p (λ (all : List (NameData × Expression)). ItemData.Define (record { at = at; bodies = all })) (record { checked = refl }) (tells_definitions (d ∷ [])))

  tells_parameter : Tells p [] parameter
  unfolding parameter place_of
  tells_parameter = tells_then p tells_type (λ (d : TypeData). tells_after p classes.Name (record { checked = refl }) (λ (m : Lexeme). tells_gives p (d, name_of m)))

  tells_parameter_after : (all : List (TypeData × NameData)) → Tells p [] (parameter_after all)
  unfolding parameter_after place_of
  tells_parameter_after all = tells_after p classes.Comma (record { checked = refl }) (λ (c : Lexeme). tells_then p tells_parameter (λ (x : TypeData × NameData). tells_gives p (all ++ x ∷ [])))

  tells_some_parameters : Tells p [] some_parameters
  unfolding some_parameters place_of
  tells_some_parameters =
      tells_then p tells_parameter (λ (x : TypeData × NameData). tells_then p
      (tells_steps p [] (starts classes.Comma) (starts_of_head classes.Comma) (λ t ts on. of_none t on) begins_no_comma (record { checked = refl }) uses_parameter_after tells_parameter_after (x ∷ []))
      (λ (all : List (TypeData × NameData)). tells_after p classes.Close (record { checked = refl }) (λ (c : Lexeme). tells_gives p all)))

  tells_parameters : Tells p [] parameters
  unfolding parameters place_of
  tells_parameters = tells_if p classes.Close (record { checked = refl }) (tells_after p classes.Close (record { checked = refl }) (λ (c : Lexeme). tells_gives p [])) tells_some_parameters

  pub tells_predicate : (at : Place) → Tells p [] (predicate at)
  unfolding predicate place_of
  tells_predicate at =
      tells_after p classes.Name (record { checked = refl }) (λ (m : Lexeme). tells_after p classes.Open (record { checked = refl }) (λ (o : Lexeme). tells_then p tells_parameters (λ (ps : List (TypeData × NameData)).
      tells_after p classes.Colon (record { checked = refl }) (λ (c : Lexeme). tells_until p phrase_tokens classes.Semicolon (record { checked = refl }) (record { checked = refl }) tells_formula
      (λ (e : Expression) (s : Lexeme). tells_gives p (ItemData.Predicate (record { at = at; name = name_of m; params = ps; body = e })))))))

  -- ---- patterns and monitors

  tells_own : (t : Lexeme) → Tells p [] (own_at t)
  unfolding own place_of
  tells_own t =
      tells_then p tells_type (λ (d : TypeData). tells_after p classes.Name (record { checked = refl }) (λ (m : Lexeme). tells_after p classes.Semicolon (record { checked = refl })
      (λ (s : Lexeme). tells_gives p (record { at = t.at; form = PartShape.Own d (name_of m) }))))

  tells_shape_at : (shape : Expression → PartShape) (t : Lexeme) → Tells p phrase_tokens (shape_at shape t)
  unfolding part_formula place_of
  tells_shape_at shape t = tells_map p shape (record { checked = refl }) tells_formula

  tells_shape : Tells p phrase_tokens part_shape
  unfolding place_of
  tells_shape =
      tells_same p shape_same
      (tells_if p classes.Ini (record { checked = refl }) (tells_after p classes.Ini (record { checked = refl }) (tells_shape_at PartShape.Initial))
      (tells_if p classes.Alw (record { checked = refl }) (tells_after p classes.Alw (record { checked = refl }) (tells_shape_at PartShape.Always))
      (tells_if p classes.AlwEv (record { checked = refl }) (tells_after p classes.AlwEv (record { checked = refl }) (tells_shape_at PartShape.Recurring)) (tells_unexpected p))))

  tells_part_line : (t : Lexeme) → Tells p [] (part_line t.at)
  unfolding part_line place_of
  tells_part_line t = tells_until p phrase_tokens classes.Semicolon (record { checked = refl }) (record { checked = refl }) tells_shape (λ (f : PartShape) (s : Lexeme). tells_gives p (record { at = t.at; form = f }))

  tells_line_part : Tells p [] line_part
  unfolding line_part
  tells_line_part = tells_told p line_part (λ (t : Lexeme) (ts : List Lexeme). part_line t.at ts) (λ (t : Lexeme) (ts : List Lexeme). refl) blocks_line tells_part_line

  tells_pitem : Tells p [] pitem
  unfolding place_of
  tells_pitem = tells_same p pitem_same (tells_if p classes.Var (record { checked = refl }) (tells_after p classes.Var (record { checked = refl }) tells_own) tells_line_part)

  no_word_line : starts classes.Ini (instead p) || starts classes.Alw (instead p) ≡ false
  unfolding place_of
  no_word_line = let ini = word_starts p classes.Ini (record { checked = refl }) in let alw = word_starts p classes.Alw (record { checked = refl }) in rw (ini, alw) refl

  tells_mitem : Tells p [] mitem
  unfolding mitem
  tells_mitem = tells_if_word p (or_tests_of_head (starts_of_head classes.Ini) (starts_of_head classes.Alw)) no_word_line blocks_unexpected tells_pitem (tells_unexpected p)

  tells_pitem_after : (all : List PartData) → Tells p [] (pitem_after all)
  unfolding pitem_after
  tells_pitem_after all = tells_then p tells_pitem (λ (x : PartData). tells_gives p (all ++ x ∷ []))

  tells_mitem_after : (all : List PartData) → Tells p [] (mitem_after all)
  unfolding mitem_after
  tells_mitem_after all = tells_then p tells_mitem (λ (x : PartData). tells_gives p (all ++ x ∷ []))

  tells_pitems : Tells p [] pitems
  unfolding pitems place_of
  tells_pitems =
      tells_then p (tells_loop p {G = []} braces_of_head uses_pitem_after tells_pitem_after (λ k a. blocks_none) (nothing_by p inside_braces pitem_after (λ k a. blocks_on {G = true_alone} {F = []} inside_braces braces_go_on blocks_pitem_after k a)) [])
      (λ (parts : List PartData). tells_after p classes.CloseBrace (record { checked = refl }) (λ (c : Lexeme). tells_gives p parts))

  tells_mitems : Tells p [] mitems
  unfolding mitems place_of
  tells_mitems =
      tells_then p (tells_loop p {G = []} braces_of_head uses_mitem_after tells_mitem_after (λ k a. blocks_none) (nothing_by p inside_braces mitem_after (λ k a. blocks_on {G = true_alone} {F = []} inside_braces braces_go_on blocks_mitem_after k a)) [])
      (λ (parts : List PartData). tells_after p classes.CloseBrace (record { checked = refl }) (λ (c : Lexeme). tells_gives p parts))

  tells_name_parameters : Tells p [] name_parameters
  unfolding name_parameters place_of
  tells_name_parameters =
      tells_if p classes.Close (record { checked = refl }) (tells_after p classes.Close (record { checked = refl }) (λ (c : Lexeme). tells_gives p []))
      (tells_then p tells_names (λ (all : List NameData). tells_after p classes.Close (record { checked = refl }) (λ (c : Lexeme). tells_gives p all)))

  pub tells_pattern : (at : Place) → Tells p [] (pattern at)
  unfolding pattern place_of
  tells_pattern at =
      tells_after p classes.Name (record { checked = refl }) (λ (m : Lexeme). tells_after p classes.Open (record { checked = refl }) (λ (o : Lexeme). tells_then p tells_name_parameters (λ (ps : List NameData).
      tells_after p classes.OpenBrace (record { checked = refl }) (λ (b : Lexeme). tells_then p tells_pitems (λ (parts : List PartData).
      tells_gives p (ItemData.Pattern (record { at = at; name = name_of m; params = ps; parts = parts })))))))

  pub tells_monitor : (at : Place) → Tells p [] (monitor at)
  unfolding monitor place_of
  tells_monitor at =
      tells_then p tells_type (λ (d : TypeData). tells_after p classes.Name (record { checked = refl }) (λ (m : Lexeme). tells_after p classes.OpenBrace (record { checked = refl }) (λ (b : Lexeme). tells_then p tells_mitems
      (λ (parts : List PartData). tells_gives p (ItemData.Monitor (record { at = at; domain = d; name = name_of m; parts = parts }))))))
