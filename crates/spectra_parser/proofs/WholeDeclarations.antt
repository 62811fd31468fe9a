-- What is a declaration, a pattern or a monitor of the grammar is read.
use Rattle.std.proofs.Common.{◌≡◌, ℕ, ◌<◌, Bool, true, false, ◌||◌, append_assoc, List, [], ◌∷◌, ◌++◌, Ok, ◌⊎◌, inl, inr, refl, ◌∙◌, Option, Some, None}
use Rattle.spectra_trees.specs.declared.class.Class.{Class}
use Rattle.spectra_trees.specs.declared.class.Class.TheVariants as classes
use Rattle.spectra_trees.specs.declared.tree.Place.{Place}
use Rattle.spectra_trees.specs.declared.tree.OwnerWord.{OwnerWord}
use Rattle.spectra_trees.specs.Classes.{place_of, same_class}
use Rattle.spectra_trees.specs.Data.{NameData, Expression, TypeData, PartData, PartShape, LengthData, ItemData}
use Rattle.spectra_trees.specs.Lexemes.{Lexeme, name_of}
use Rattle.spectra_exprs.specs.Read.{Reader, ◌>>=◌, unexpected, starts, expect, all_of}
use Rattle.spectra_parser.specs.Items.{some_length, length_of, vardecl, typedecl, definition, definition_after, define, parameter, parameter_after, some_parameters, parameters, predicate, own, part_formula, part_shape, part_line, pitem, mitem, pitem_after, mitem_after, inside_braces, pitems, mitems, name_parameters, pattern, monitor}
use Rattle.spectra_exprs.specs.Forms.{Gives, Token, ◌▸◌, Steps}
use Rattle.spectra_exprs.specs.Grammar.{ExprOf, Levels}
use Rattle.spectra_parser.specs.ItemGrammar.{TypeIn, SomeLength, LengthOf, VardeclIn, TypedeclIn, DefinitionIn, DefinitionAfter, DefineIn, ParameterIn, ParameterAfter, ParametersIn, PredicateIn, ShapeIn, LineIn, PitemIn, MitemIn, PitemAfter, MitemAfter, NameParameters, PatternIn, MonitorIn}
use Rattle.spectra_parser.proofs.SoundItems.{n}
use Rattle.spectra_parser.proofs.SoundDeclarations.{own_at, shape_at, shape_same, line_part, pitem_same}
use Rattle.spectra_exprs.proofs.ClassSets.{going, starts_going}
use Rattle.spectra_exprs.proofs.Completeness.{Reaches, reaches_then, Whole, Begins, whole_gives, whole_then, follows_none, whole_same, begins_token, begins_then, begins_wider, begins_or, follows_begins, follows_gives, whole_choice, whole_only, whole_steps, begins_of, whole_after, whole_until, whole_map, steps_at}
use Rattle.spectra_exprs.proofs.WholeExpressions.{c_expr}
use Rattle.spectra_parser.proofs.WholeItems.{whole_formula, whole_names, b_type, begins_type, whole_type}
use Rattle.spectra_exprs.proofs.ClassSets.{going_apart}

abbrev pub end_name : List Class
end_name = classes.Name ∷ []

-- ---- declarations

abbrev pub b_shape : List Class
b_shape = classes.Ini ∷ classes.Alw ∷ classes.AlwEv ∷ []

abbrev pub b_pitem : List Class
b_pitem = classes.Var ∷ b_shape

pub either_on : (a b : Bool) → (a ≡ true) ⊎ (b ≡ true) → a || b ≡ true
either_on true b e = refl
either_on false b (inl e) = absurd (cc)
either_on false b (inr e) = e

pub braces_on : (ts : List Lexeme) → going b_pitem ts ≡ true → inside_braces ts ≡ true
unfolding inside_braces place_of
braces_on ts on = let off : starts classes.CloseBrace ts ≡ false = starts_going classes.CloseBrace ts ∙ going_apart b_pitem (classes.CloseBrace ∷ []) (record { checked = refl }) ts on in rw off refl

pub none_going : (ts : List Lexeme) → going [] ts ≡ false
none_going [] = refl
none_going (t ∷ ts) = refl

module _ {E : Type 0} (step : List PartData → List Lexeme → List PartData → Type 0) (R : List PartData → Reader (List PartData)) (begins : (a : List PartData) → Begins b_pitem (step a)) (each : (a : List PartData) → Whole E [] (step a) (R a)) where
  whole_braces : Whole E [] (Steps step [] ▸ λ parts. Token classes.CloseBrace ▸ λ c. Gives parts) (λ ts. all_of inside_braces R [] ts >>= λ all rest. expect classes.CloseBrace rest >>= λ c rest. Ok (all, rest))
  unfolding inside_braces place_of
  whole_braces = record { reads = λ used b rest t off. at used b rest t.front t.value t.back t.parts t.before t.after off }
    where
      at : (used : List Lexeme) (b : List PartData) (rest front : List Lexeme) (a : List PartData) (back : List Lexeme) → used ≡ front ++ back → Steps step [] front a → (Token classes.CloseBrace ▸ λ c. Gives a) back b → going [] rest ≡ false
          → Reaches E (all_of inside_braces R [] (used ++ rest) >>= λ all rest. expect classes.CloseBrace rest >>= λ c rest. Ok (all, rest)) (b, rest)
      at used b rest front a back parts before close off =
          let shut : starts classes.CloseBrace (back ++ rest) ≡ true = starts_going classes.CloseBrace (back ++ rest) ∙ (begins_then (begins_token classes.CloseBrace)).first back b rest close in
          let stop : inside_braces (back ++ rest) ≡ false = rw shut refl in
          let read = steps_at b_pitem inside_braces braces_on begins (record { checked = refl }) each (back ++ rest) stop (none_going (back ++ rest)) [] front a before in
          rw (parts, append_assoc front back rest)
          (reaches_then (all_of inside_braces R [] (front ++ (back ++ rest))) (λ all rest. expect classes.CloseBrace rest >>= λ c rest. Ok (all, rest)) a (back ++ rest) (b, rest) read
          ((whole_after classes.CloseBrace (λ (c : Lexeme). whole_gives [] a)).reads back b rest close off))

pub whole_name_parameters : {E : Type 0} → Whole E [] NameParameters name_parameters
unfolding name_parameters place_of
whole_name_parameters =
    whole_choice classes.Close (begins_then (begins_token classes.Close)) (follows_begins end_name (record { checked = refl }) (begins_then (begins_then (begins_token classes.Name))))
    (whole_after classes.Close (λ (c : Lexeme). whole_gives [] [])) (whole_until classes.Close (record { checked = refl }) whole_names (λ (all : List NameData) (c : Lexeme). whole_gives [] all))

-- the grammar may have more levels than are read
module _ {E : Type 0} (left : ℕ) (deep : n < left → E) where
  whole_length : Whole E (classes.OpenBracket ∷ []) LengthOf length_of
  unfolding length_of some_length place_of
  whole_length =
      whole_choice classes.OpenBracket (begins_then (begins_token classes.OpenBracket)) (follows_gives None (record { checked = refl }))
      (whole_after classes.OpenBracket (λ (o : Lexeme). whole_after classes.Number (λ (m : Lexeme). whole_after classes.CloseBracket (λ (c : Lexeme). whole_gives _ (Some (record { bracket = o.at; digits = m.text }))))))
      (whole_gives (classes.OpenBracket ∷ []) None)

  pub whole_vardecl : (at : Place) (owner : OwnerWord) → Whole E [] (VardeclIn left at owner) (vardecl at owner)
  unfolding vardecl place_of
  whole_vardecl at owner =
      whole_then (whole_type left deep) (λ (d : TypeData). follows_none) (λ (d : TypeData). whole_until classes.Name (record { checked = refl }) whole_length (λ (l : Option LengthData) (m : Lexeme). whole_after classes.Semicolon
      (λ (s : Lexeme). whole_gives [] (ItemData.Variable (record { at = at; owner = owner; domain = d; length = l; name = name_of m })))))

  pub whole_typedecl : (at : Place) → Whole E [] (TypedeclIn left at) (typedecl at)
  unfolding typedecl place_of
  whole_typedecl at =
      whole_after classes.Name (λ (m : Lexeme). whole_after classes.Equal (λ (e : Lexeme). whole_until classes.Semicolon (record { checked = refl }) (whole_type left deep)
      (λ (d : TypeData) (s : Lexeme). whole_gives [] (ItemData.Alias (record { at = at; name = name_of m; body = d })))))

  pub whole_definition : Whole E [] (DefinitionIn left) definition
  unfolding definition place_of
  whole_definition =
      whole_after classes.Name (λ (m : Lexeme). whole_after classes.Becomes (λ (b : Lexeme). whole_until classes.Semicolon (record { checked = refl }) (whole_formula left deep) (λ (e : Expression) (s : Lexeme). whole_gives [] (name_of m, e))))

  pub whole_definition_after : (all : List (NameData × Expression)) → Whole E [] (DefinitionAfter left all) (definition_after all)
  unfolding definition_after place_of
  whole_definition_after all = whole_map (λ (d : NameData × Expression). all ++ d ∷ []) (record { checked = refl }) whole_definition

  pub begins_definition_after : (all : List (NameData × Expression)) → Begins end_name (DefinitionAfter left all)
  begins_definition_after all = begins_then (begins_then (begins_token classes.Name))

  pub whole_define : (at : Place) → Whole E end_name (DefineIn left at) (define at)
  unfolding define place_of
  whole_define at =
      whole_then whole_definition (λ (d : NameData × Expression). follows_none)
      (λ (d : NameData × Expression). whole_map (λ (all : List (NameData × Expression)). ItemData.Define (record { at = at; bodies = all })) (record { checked = refl })
      (whole_steps end_name {C = end_name} (starts classes.Name) (starts_going classes.Name) begins_definition_after (record { checked = refl }) (record { checked = refl }) (record { checked = refl }) whole_definition_after (d ∷ [])))

  pub whole_parameter : Whole E [] (ParameterIn left) parameter
  unfolding parameter place_of
  whole_parameter = whole_until classes.Name (record { checked = refl }) (whole_type left deep) (λ (d : TypeData) (m : Lexeme). whole_gives [] (d, name_of m))

  pub whole_parameter_after : (all : List (TypeData × NameData)) → Whole E [] (ParameterAfter left all) (parameter_after all)
  unfolding parameter_after place_of
  whole_parameter_after all = whole_after classes.Comma (λ (c : Lexeme). whole_map (λ (p : TypeData × NameData). all ++ p ∷ []) (record { checked = refl }) whole_parameter)

  pub begins_parameter_after : (all : List (TypeData × NameData)) → Begins (classes.Comma ∷ []) (ParameterAfter left all)
  begins_parameter_after all = begins_then (begins_token classes.Comma)

  pub whole_some_parameters : Whole E [] (ParameterIn left ▸ λ p. Steps (ParameterAfter left) (p ∷ []) ▸ λ all. Token classes.Close ▸ λ c. Gives all) some_parameters
  unfolding some_parameters place_of
  whole_some_parameters =
      whole_then whole_parameter (λ (p : TypeData × NameData). follows_none)
      (λ (p : TypeData × NameData). whole_until classes.Close (record { checked = refl })
      (whole_steps (classes.Comma ∷ []) {C = classes.Comma ∷ []} (starts classes.Comma) (starts_going classes.Comma) begins_parameter_after (record { checked = refl }) (record { checked = refl }) (record { checked = refl }) whole_parameter_after (p ∷ []))
      (λ (all : List (TypeData × NameData)) (c : Lexeme). whole_gives [] all))

  pub whole_parameters : Whole E [] (ParametersIn left) parameters
  unfolding parameters place_of
  whole_parameters =
      whole_choice classes.Close (begins_then (begins_token classes.Close)) (follows_begins b_type (record { checked = refl }) (begins_then (begins_then (begins_type left deep)))) (whole_after classes.Close (λ (c : Lexeme). whole_gives [] [])) whole_some_parameters

  pub whole_predicate : (at : Place) → Whole E [] (PredicateIn left at) (predicate at)
  unfolding predicate place_of
  whole_predicate at =
      whole_after classes.Name (λ (m : Lexeme). whole_after classes.Open (λ (o : Lexeme). whole_until classes.Colon (record { checked = refl }) whole_parameters (λ (ps : List (TypeData × NameData)) (c : Lexeme).
      whole_until classes.Semicolon (record { checked = refl }) (whole_formula left deep) (λ (e : Expression) (s : Lexeme). whole_gives [] (ItemData.Predicate (record { at = at; name = name_of m; params = ps; body = e }))))))

  -- ---- patterns and monitors

  pub whole_own : (t : Lexeme) → Whole E [] (TypeIn left ▸ λ d. Token classes.Name ▸ λ m. Token classes.Semicolon ▸ λ s. Gives (record { at = t.at; form = PartShape.Own d (name_of m) })) (own_at t)
  unfolding own place_of
  whole_own t =
      whole_until classes.Name (record { checked = refl }) (whole_type left deep) (λ (d : TypeData) (m : Lexeme). whole_after classes.Semicolon (λ (s : Lexeme). whole_gives [] (record { at = t.at; form = PartShape.Own d (name_of m) })))

  pub whole_shape_at : (shape : Expression → PartShape) (t : Lexeme) → Whole E c_expr (ExprOf (Levels left) ▸ λ e. Gives (shape e)) (shape_at shape t)
  unfolding part_formula place_of
  whole_shape_at shape t = whole_map shape (record { checked = refl }) (whole_formula left deep)

  pub begins_shape : Begins b_shape (ShapeIn left)
  unfolding place_of
  begins_shape = begins_or (begins_of classes.Ini _ (record { checked = refl })) (begins_or (begins_of classes.Alw _ (record { checked = refl })) (begins_of classes.AlwEv _ (record { checked = refl })))

  pub whole_shape : Whole E c_expr (ShapeIn left) part_shape
  unfolding place_of
  whole_shape =
      whole_same shape_same
      (whole_choice classes.Ini (begins_then (begins_token classes.Ini)) (follows_begins (classes.Alw ∷ classes.AlwEv ∷ []) (record { checked = refl }) (begins_or (begins_of classes.Alw _ (record { checked = refl })) (begins_of classes.AlwEv _ (record { checked = refl }))))
      (whole_after classes.Ini (whole_shape_at PartShape.Initial))
      (whole_choice classes.Alw (begins_then (begins_token classes.Alw)) (follows_begins (classes.AlwEv ∷ []) (record { checked = refl }) (begins_then (begins_token classes.AlwEv)))
      (whole_after classes.Alw (whole_shape_at PartShape.Always))
      (whole_only unexpected classes.AlwEv (begins_then (begins_token classes.AlwEv)) (whole_after classes.AlwEv (whole_shape_at PartShape.Recurring)))))

  pub whole_part_line : (at : Place) → Whole E [] (ShapeIn left ▸ λ f. Token classes.Semicolon ▸ λ s. Gives (record { at = at; form = f })) (part_line at)
  unfolding part_line place_of
  whole_part_line at = whole_until classes.Semicolon (record { checked = refl }) whole_shape (λ (f : PartShape) (s : Lexeme). whole_gives [] (record { at = at; form = f }))

  pub whole_line_part : Whole E [] (LineIn left) line_part
  unfolding line_part
  whole_line_part = record { reads = λ used p rest h off. at used p rest h.token h.more h.first ((whole_part_line h.token.at).reads used p rest h.line off) }
    where
      at : (used : List Lexeme) (p : PartData) (rest : List Lexeme) (t : Lexeme) (more : List Lexeme) → used ≡ t ∷ more → Reaches E (part_line t.at (used ++ rest)) (p, rest) → Reaches E (line_part (used ++ rest)) (p, rest)
      at used p rest t more first reached = let here = rw first at reached in rw first here

  pub begins_line_part : Begins b_shape (LineIn left)
  begins_line_part = record { first = λ used p rest h. (begins_then begins_shape).first used p rest h.line }

  pub whole_pitem : Whole E [] (PitemIn left) pitem
  unfolding place_of
  whole_pitem = whole_same pitem_same (whole_choice classes.Var (begins_then (begins_token classes.Var)) (follows_begins b_shape (record { checked = refl }) begins_line_part) (whole_after classes.Var whole_own) whole_line_part)

  pub begins_pitem : Begins b_pitem (PitemIn left)
  unfolding place_of
  begins_pitem = begins_or (begins_of classes.Var _ (record { checked = refl })) (begins_wider (record { checked = refl }) begins_line_part)

  pub whole_mitem : Whole E [] (MitemIn left) mitem
  unfolding mitem starts
  whole_mitem = record { reads = λ used p rest h off. at used p rest h.token h.more h.first (either_on (same_class h.token.class classes.Ini) (same_class h.token.class classes.Alw) h.word) (whole_pitem.reads used p rest h.part off) }
    where
      at : (used : List Lexeme) (p : PartData) (rest : List Lexeme) (t : Lexeme) (more : List Lexeme) → used ≡ t ∷ more → same_class t.class classes.Ini || same_class t.class classes.Alw ≡ true → Reaches E (pitem (used ++ rest)) (p, rest)
          → Reaches E (mitem (used ++ rest)) (p, rest)
      at used p rest t more first on reached = let here = rw first at reached in rw (first, on) here

  pub begins_mitem : Begins b_pitem (MitemIn left)
  begins_mitem = record { first = λ used p rest h. begins_pitem.first used p rest h.part }

  pub whole_pitem_after : (all : List PartData) → Whole E [] (PitemAfter left all) (pitem_after all)
  unfolding pitem_after place_of
  whole_pitem_after all = whole_map (λ (p : PartData). all ++ p ∷ []) (record { checked = refl }) whole_pitem

  pub whole_mitem_after : (all : List PartData) → Whole E [] (MitemAfter left all) (mitem_after all)
  unfolding mitem_after place_of
  whole_mitem_after all = whole_map (λ (p : PartData). all ++ p ∷ []) (record { checked = refl }) whole_mitem

  pub whole_pitems : Whole E [] (Steps (PitemAfter left) [] ▸ λ parts. Token classes.CloseBrace ▸ λ c. Gives parts) pitems
  unfolding pitems
  whole_pitems = whole_braces (PitemAfter left) pitem_after (λ (a : List PartData). begins_then begins_pitem) whole_pitem_after

  pub whole_mitems : Whole E [] (Steps (MitemAfter left) [] ▸ λ parts. Token classes.CloseBrace ▸ λ c. Gives parts) mitems
  unfolding mitems
  whole_mitems = whole_braces (MitemAfter left) mitem_after (λ (a : List PartData). begins_then begins_mitem) whole_mitem_after

  pub whole_pattern : (at : Place) → Whole E [] (PatternIn left at) (pattern at)
  unfolding pattern place_of
  whole_pattern at =
      whole_after classes.Name (λ (m : Lexeme). whole_after classes.Open (λ (o : Lexeme). whole_until classes.OpenBrace (record { checked = refl }) whole_name_parameters (λ (ps : List NameData) (b : Lexeme).
      whole_map (λ (parts : List PartData). ItemData.Pattern (record { at = at; name = name_of m; params = ps; parts = parts })) (record { checked = refl }) whole_pitems)))

  pub whole_monitor : (at : Place) → Whole E [] (MonitorIn left at) (monitor at)
  unfolding monitor place_of
  whole_monitor at =
      whole_until classes.Name (record { checked = refl }) (whole_type left deep) (λ (d : TypeData) (m : Lexeme). whole_after classes.OpenBrace (λ (b : Lexeme).
      whole_map (λ (parts : List PartData). ItemData.Monitor (record { at = at; domain = d; name = name_of m; parts = parts })) (record { checked = refl }) whole_mitems))
