-- What is read as a declaration, a pattern or a monitor is one of the grammar.
use Rattle.std.proofs.Common.{◌≡◌, ℕ, Bool, true, false, cond, ◌||◌, List, [], ◌∷◌, ◌++◌, Ok, Err, ◌⊎◌, inl, inr, refl, sym, ap, subst, ◌∙◌, Option, Some, None}
use Rattle.spectra_exprs.specs.declared.fault.SyntaxFault.TheVariants as faults
use Rattle.spectra_trees.specs.declared.class.Class.{Class}
use Rattle.spectra_trees.specs.declared.class.Class.TheVariants as classes
use Rattle.spectra_trees.specs.declared.tree.Place.{Place}
use Rattle.spectra_trees.specs.declared.tree.OwnerWord.{OwnerWord}
use Rattle.spectra_trees.specs.Classes.{same_class}
use Rattle.spectra_trees.specs.Data.{NameData, Expression, TypeData, PartData, PartShape, LengthData, ItemData}
use Rattle.spectra_trees.specs.Lexemes.{Lexeme, name_of}
use Rattle.spectra_exprs.specs.Read.{Read, Reader, ◌>>=◌, unexpected, first_number, starts, expect}
use Rattle.spectra_parser.specs.Items.{some_length, length_of, vardecl, typedecl, definition, definition_after, define, parameter, parameter_after, some_parameters, parameters, predicate, own, part_formula, part_shape, part_line, pitem, mitem, pitem_after, mitem_after, inside_braces, pitems, mitems, name_parameters, pattern, monitor}
use Rattle.spectra_exprs.specs.Forms.{Gives, Token, ◌▸◌, Steps}
use Rattle.spectra_exprs.specs.Grammar.{ExprOf, Levels}
use Rattle.spectra_parser.specs.ItemGrammar.{TypeIn, SomeLength, LengthOf, VardeclIn, TypedeclIn, DefinitionIn, DefinitionAfter, DefineIn, ParameterIn, ParameterAfter, ParametersIn, PredicateIn, ShapeIn, LineIn, PitemIn, MitemIn, PitemAfter, MitemAfter, NameParameters, PatternIn, MonitorIn}
use Rattle.spectra_exprs.proofs.Soundness.{Got, Sound, sound_gives, sound_fault, sound_token, sound_then, sound_same, sound_if, sound_steps, branch_same, sound_unexpected, sound_both}
use Rattle.spectra_parser.proofs.SoundItems.{n, sound_formula, sound_names, sound_type}

-- ---- declarations

sound_some_length : Sound SomeLength some_length
unfolding some_length
sound_some_length =
    sound_then (sound_token classes.OpenBracket) (λ (o : Lexeme). sound_then (sound_token classes.Number) (λ (m : Lexeme). sound_then (sound_token classes.CloseBracket)
    (λ (c : Lexeme). sound_gives (Some (record { bracket = o.at; digits = m.text })))))

sound_length : Sound LengthOf length_of
unfolding length_of
sound_length = sound_if (starts classes.OpenBracket) sound_some_length (sound_gives None)

pub sound_vardecl : (at : Place) (owner : OwnerWord) → Sound (VardeclIn n at owner) (vardecl at owner)
unfolding vardecl
sound_vardecl at owner =
    sound_then sound_type (λ (d : TypeData). sound_then sound_length (λ (l : Option LengthData). sound_then (sound_token classes.Name) (λ (m : Lexeme). sound_then (sound_token classes.Semicolon)
    (λ (s : Lexeme). sound_gives (ItemData.Variable (record { at = at; owner = owner; domain = d; length = l; name = name_of m }))))))

pub sound_typedecl : (at : Place) → Sound (TypedeclIn n at) (typedecl at)
unfolding typedecl
sound_typedecl at =
    sound_then (sound_token classes.Name) (λ (m : Lexeme). sound_then (sound_token classes.Equal) (λ (e : Lexeme). sound_then sound_type (λ (d : TypeData). sound_then (sound_token classes.Semicolon)
    (λ (s : Lexeme). sound_gives (ItemData.Alias (record { at = at; name = name_of m; body = d }))))))

pub sound_definition : Sound (DefinitionIn n) definition
unfolding definition
sound_definition =
    sound_then (sound_token classes.Name) (λ (m : Lexeme). sound_then (sound_token classes.Becomes) (λ (b : Lexeme). sound_then sound_formula (λ (e : Expression). sound_then (sound_token classes.Semicolon)
    (λ (s : Lexeme). sound_gives (name_of m, e)))))

pub sound_definition_after : (all : List (NameData × Expression)) → Sound (DefinitionAfter n all) (definition_after all)
unfolding definition_after
sound_definition_after all = sound_then sound_definition (λ (d : NameData × Expression). sound_gives (all ++ d ∷ []))

pub sound_define : (at : Place) → Sound (DefineIn n at) (define at)
unfolding define
sound_define at =
    sound_then sound_definition (λ (d : NameData × Expression). sound_then (sound_steps (starts classes.Name) sound_definition_after (d ∷ []))
    (λ (all : List (NameData × Expression)). sound_gives (ItemData.Define (record { at = at; bodies = all }))))

pub sound_parameter : Sound (ParameterIn n) parameter
unfolding parameter
sound_parameter = sound_then sound_type (λ (d : TypeData). sound_then (sound_token classes.Name) (λ (m : Lexeme). sound_gives (d, name_of m)))

pub sound_parameter_after : (all : List (TypeData × NameData)) → Sound (ParameterAfter n all) (parameter_after all)
unfolding parameter_after
sound_parameter_after all = sound_then (sound_token classes.Comma) (λ (c : Lexeme). sound_then sound_parameter (λ (p : TypeData × NameData). sound_gives (all ++ p ∷ [])))

pub sound_some_parameters : Sound (ParameterIn n ▸ λ p. Steps (ParameterAfter n) (p ∷ []) ▸ λ all. Token classes.Close ▸ λ c. Gives all) some_parameters
unfolding some_parameters
sound_some_parameters =
    sound_then sound_parameter (λ (p : TypeData × NameData). sound_then (sound_steps (starts classes.Comma) sound_parameter_after (p ∷ []))
    (λ (all : List (TypeData × NameData)). sound_then (sound_token classes.Close) (λ (c : Lexeme). sound_gives all)))

pub sound_parameters : Sound (ParametersIn n) parameters
unfolding parameters
sound_parameters = sound_if (starts classes.Close) (sound_then (sound_token classes.Close) (λ (c : Lexeme). sound_gives [])) sound_some_parameters

pub sound_predicate : (at : Place) → Sound (PredicateIn n at) (predicate at)
unfolding predicate
sound_predicate at =
    sound_then (sound_token classes.Name) (λ (m : Lexeme). sound_then (sound_token classes.Open) (λ (o : Lexeme). sound_then sound_parameters (λ (ps : List (TypeData × NameData)).
    sound_then (sound_token classes.Colon) (λ (c : Lexeme). sound_then sound_formula (λ (e : Expression). sound_then (sound_token classes.Semicolon)
    (λ (s : Lexeme). sound_gives (ItemData.Predicate (record { at = at; name = name_of m; params = ps; body = e }))))))))

-- ---- patterns and monitors

abbrev pub own_at : Lexeme → Reader PartData
own_at t rest = own t.at rest

pub sound_own : (t : Lexeme) → Sound (TypeIn n ▸ λ d. Token classes.Name ▸ λ m. Token classes.Semicolon ▸ λ s. Gives (record { at = t.at; form = PartShape.Own d (name_of m) })) (own_at t)
unfolding own
sound_own t =
    sound_then sound_type (λ (d : TypeData). sound_then (sound_token classes.Name) (λ (m : Lexeme). sound_then (sound_token classes.Semicolon)
    (λ (s : Lexeme). sound_gives (record { at = t.at; form = PartShape.Own d (name_of m) }))))

abbrev pub shape_at : (Expression → PartShape) → Lexeme → Reader PartShape
shape_at shape t rest = part_formula shape rest

pub sound_shape_at : (shape : Expression → PartShape) (t : Lexeme) → Sound (ExprOf (Levels n) ▸ λ e. Gives (shape e)) (shape_at shape t)
unfolding part_formula
sound_shape_at shape t = sound_then sound_formula (λ (e : Expression). sound_gives (shape e))

pub shape_same : (ts : List Lexeme) → part_shape ts
    ≡ cond (starts classes.Ini ts) (expect classes.Ini ts >>= shape_at PartShape.Initial)
    (cond (starts classes.Alw ts) (expect classes.Alw ts >>= shape_at PartShape.Always)
    (cond (starts classes.AlwEv ts) (expect classes.AlwEv ts >>= shape_at PartShape.Recurring) (unexpected ts)))
unfolding part_shape starts expect unexpected first_number
shape_same [] = refl
shape_same (t ∷ ts) =
    branch_same (same_class t.class classes.Ini) t ts _ (shape_at PartShape.Initial) _ _
    (branch_same (same_class t.class classes.Alw) t ts _ (shape_at PartShape.Always) _ _
    (branch_same (same_class t.class classes.AlwEv) t ts _ (shape_at PartShape.Recurring) _ _ refl))

pub sound_shape : Sound (ShapeIn n) part_shape
sound_shape =
    sound_same shape_same
    (sound_if (starts classes.Ini) (sound_then (sound_token classes.Ini) (sound_shape_at PartShape.Initial))
    (sound_if (starts classes.Alw) (sound_then (sound_token classes.Alw) (sound_shape_at PartShape.Always))
    (sound_both (starts classes.AlwEv) (sound_then (sound_token classes.AlwEv) (sound_shape_at PartShape.Recurring)) sound_unexpected)))

pub sound_part_line : (at : Place) → Sound (ShapeIn n ▸ λ f. Token classes.Semicolon ▸ λ s. Gives (record { at = at; form = f })) (part_line at)
unfolding part_line
sound_part_line at = sound_then sound_shape (λ (f : PartShape). sound_then (sound_token classes.Semicolon) (λ (s : Lexeme). sound_gives (record { at = at; form = f })))

-- tokens with a first one
pub record HasFirst (used : List Lexeme) : Type 0 where
  pub token : Lexeme
  pub more : List Lexeme
  pub first : used ≡ token ∷ more

pub token_first : {A : Type 0} (class : Class) (P : Lexeme → List Lexeme → A → Type 0) (used : List Lexeme) (a : A) → (Token class ▸ P) used a → HasFirst used
token_first class P used a d = record { token = d.value; more = d.back; first = d.parts ∙ ap (λ (f : List Lexeme). f ++ d.back) d.before.alone }

pub shape_first : (left : ℕ) (used : List Lexeme) (f : PartShape) → ShapeIn left used f → HasFirst used
shape_first left used f (inl p) = token_first classes.Ini (λ t. ExprOf (Levels left) ▸ λ e. Gives (PartShape.Initial e)) used f p
shape_first left used f (inr (inl p)) = token_first classes.Alw (λ t. ExprOf (Levels left) ▸ λ e. Gives (PartShape.Always e)) used f p
shape_first left used f (inr (inr p)) = token_first classes.AlwEv (λ t. ExprOf (Levels left) ▸ λ e. Gives (PartShape.Recurring e)) used f p

pub line_first : (left : ℕ) (at : Place) (used : List Lexeme) (p : PartData) → (ShapeIn left ▸ λ f. Token classes.Semicolon ▸ λ s. Gives (record { at = at; form = f })) used p → HasFirst used
line_first left at used p d = let h = shape_first left d.front d.value d.before in record { token = h.token; more = h.more ++ d.back; first = d.parts ∙ ap (λ (f : List Lexeme). f ++ d.back) h.first }

unfoldable pub line_part : Reader PartData
line_part [] = Err (faults.Unexpected 0)
line_part (t ∷ ts) = part_line t.at (t ∷ ts)

pub same_head : (t u : Lexeme) (ts us : List Lexeme) → t ∷ ts ≡ u ∷ us → t ≡ u
same_head t u ts us e = cc

-- with so many levels, if a line at each place is
pub sound_line_part_at : (left : ℕ) → ((at : Place) → Sound (ShapeIn left ▸ λ f. Token classes.Semicolon ▸ λ s. Gives (record { at = at; form = f })) (part_line at)) → Sound (LineIn left) line_part
unfolding line_part
sound_line_part_at left lines = record { got = reads }
  where
    reads : (ts : List Lexeme) (p : PartData) (rest : List Lexeme) → line_part ts ≡ Ok (p, rest) → Got (LineIn left) ts p rest
    reads [] p rest e = (sound_fault (LineIn left) (λ ts. faults.Unexpected 0)).got [] p rest e
    reads (t ∷ ts) p rest e =
        let g = (lines t.at).got (t ∷ ts) p rest e in
        let h = line_first left t.at g.used p g.derives in
        let is : t ≡ h.token = same_head t h.token ts (h.more ++ rest) (g.front ∙ ap (λ (u : List Lexeme). u ++ rest) h.first) in
        record {
          used = g.used;
          front = g.front;
          derives = record {
            token = t;
            more = h.more;
            first = h.first ∙ ap (λ (u : Lexeme). u ∷ h.more) (sym is);
            line = g.derives;
          };
        }

pub sound_line_part : Sound (LineIn n) line_part
sound_line_part = sound_line_part_at n sound_part_line

pub pitem_same : (ts : List Lexeme) → pitem ts ≡ cond (starts classes.Var ts) (expect classes.Var ts >>= own_at) (line_part ts)
unfolding pitem starts expect line_part
pitem_same [] = refl
pitem_same (t ∷ ts) = branch_same (same_class t.class classes.Var) t ts _ own_at _ _ refl

pub sound_pitem : Sound (PitemIn n) pitem
sound_pitem = sound_same pitem_same (sound_if (starts classes.Var) (sound_then (sound_token classes.Var) sound_own) sound_line_part)

pub pitem_first : (left : ℕ) (used : List Lexeme) (p : PartData) → PitemIn left used p → HasFirst used
pitem_first left used p (inl d) = token_first classes.Var (λ t. TypeIn left ▸ λ d. Token classes.Name ▸ λ m. Token classes.Semicolon ▸ λ s. Gives (record { at = t.at; form = PartShape.Own d (name_of m) })) used p d
pitem_first left used p (inr d) = record { token = d.token; more = d.more; first = d.first }

pub either_word : (a b : Bool) → a || b ≡ true → (a ≡ true) ⊎ (b ≡ true)
either_word true b e = inl refl
either_word false b e = inr e

pub mitem_word : (ts used rest : List Lexeme) (t : Lexeme) (more : List Lexeme) → ts ≡ used ++ rest → used ≡ t ∷ more → starts classes.Ini ts || starts classes.Alw ts ≡ true
    → (same_class t.class classes.Ini ≡ true) ⊎ (same_class t.class classes.Alw ≡ true)
unfolding starts
mitem_word ts used rest t more front first on =
    let whole : ts ≡ t ∷ (more ++ rest) = front ∙ ap (λ (u : List Lexeme). u ++ rest) first in
    either_word (same_class t.class classes.Ini) (same_class t.class classes.Alw) (subst (λ (l : List Lexeme). starts classes.Ini l || starts classes.Alw l ≡ true) whole on)

-- with so many levels, if a pitem is
pub sound_mitem_at : (left : ℕ) → Sound (PitemIn left) pitem → Sound (MitemIn left) mitem
unfolding mitem
sound_mitem_at left items = record { got = λ ts p rest e. by_word (starts classes.Ini ts || starts classes.Alw ts) ts p rest refl e }
  where
    by_word : (b : Bool) (ts : List Lexeme) (p : PartData) (rest : List Lexeme) → starts classes.Ini ts || starts classes.Alw ts ≡ b → cond {A = Read PartData} b (pitem ts) (unexpected ts) ≡ Ok (p, rest) → Got (MitemIn left) ts p rest
    by_word true ts p rest on e =
        let g = items.got ts p rest e in
        let h = pitem_first left g.used p g.derives in
        record { used = g.used; front = g.front; derives = record { token = h.token; more = h.more; first = h.first; word = mitem_word ts g.used rest h.token h.more g.front h.first on; part = g.derives } }
    by_word false ts p rest on e = (sound_unexpected {P = MitemIn left}).got ts p rest e

pub sound_mitem : Sound (MitemIn n) mitem
sound_mitem = sound_mitem_at n sound_pitem

pub sound_pitem_after : (all : List PartData) → Sound (PitemAfter n all) (pitem_after all)
unfolding pitem_after
sound_pitem_after all = sound_then sound_pitem (λ (p : PartData). sound_gives (all ++ p ∷ []))

pub sound_mitem_after : (all : List PartData) → Sound (MitemAfter n all) (mitem_after all)
unfolding mitem_after
sound_mitem_after all = sound_then sound_mitem (λ (p : PartData). sound_gives (all ++ p ∷ []))

pub sound_pitems : Sound (Steps (PitemAfter n) [] ▸ λ parts. Token classes.CloseBrace ▸ λ c. Gives parts) pitems
unfolding pitems
sound_pitems = sound_then (sound_steps inside_braces sound_pitem_after []) (λ (parts : List PartData). sound_then (sound_token classes.CloseBrace) (λ (c : Lexeme). sound_gives parts))

pub sound_mitems : Sound (Steps (MitemAfter n) [] ▸ λ parts. Token classes.CloseBrace ▸ λ c. Gives parts) mitems
unfolding mitems
sound_mitems = sound_then (sound_steps inside_braces sound_mitem_after []) (λ (parts : List PartData). sound_then (sound_token classes.CloseBrace) (λ (c : Lexeme). sound_gives parts))

pub sound_name_parameters : Sound NameParameters name_parameters
unfolding name_parameters
sound_name_parameters =
    sound_if (starts classes.Close) (sound_then (sound_token classes.Close) (λ (c : Lexeme). sound_gives []))
    (sound_then sound_names (λ (all : List NameData). sound_then (sound_token classes.Close) (λ (c : Lexeme). sound_gives all)))

pub sound_pattern : (at : Place) → Sound (PatternIn n at) (pattern at)
unfolding pattern
sound_pattern at =
    sound_then (sound_token classes.Name) (λ (m : Lexeme). sound_then (sound_token classes.Open) (λ (o : Lexeme). sound_then sound_name_parameters (λ (ps : List NameData).
    sound_then (sound_token classes.OpenBrace) (λ (b : Lexeme). sound_then sound_pitems (λ (parts : List PartData).
    sound_gives (ItemData.Pattern (record { at = at; name = name_of m; params = ps; parts = parts })))))))

pub sound_monitor : (at : Place) → Sound (MonitorIn n at) (monitor at)
unfolding monitor
sound_monitor at =
    sound_then sound_type (λ (d : TypeData). sound_then (sound_token classes.Name) (λ (m : Lexeme). sound_then (sound_token classes.OpenBrace) (λ (b : Lexeme). sound_then sound_mitems
    (λ (parts : List PartData). sound_gives (ItemData.Monitor (record { at = at; domain = d; name = name_of m; parts = parts }))))))
