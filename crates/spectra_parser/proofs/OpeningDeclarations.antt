-- Where reading a declaration, a pattern or a monitor stops, what was used begins one.
use Rattle.std.proofs.Common.{◌≡◌, ℕ, Bool, true, false, cond, ◌||◌, List, [], ◌∷◌, ◌++◌, append-nil, append_assoc, Err, ◌⊎◌, inl, inr, refl, sym, ap, subst, ◌∙◌, Option, Some, None}
use Rattle.spectra_exprs.specs.declared.fault.SyntaxFault.TheVariants as faults
use Rattle.spectra_trees.specs.declared.class.Class.TheVariants as classes
use Rattle.spectra_trees.specs.declared.tree.Place.{Place}
use Rattle.spectra_trees.specs.declared.tree.OwnerWord.{OwnerWord}
use Rattle.spectra_trees.specs.Classes.{place_of}
use Rattle.spectra_trees.specs.Data.{NameData, Expression, TypeData, PartData, PartShape, LengthData, ItemData}
use Rattle.spectra_trees.specs.Lexemes.{Lexeme, name_of}
use Rattle.spectra_exprs.specs.Read.{Read, unexpected, starts}
use Rattle.spectra_parser.specs.Items.{some_length, length_of, vardecl, typedecl, definition, definition_after, define, parameter, parameter_after, some_parameters, parameters, predicate, own, part_formula, part_shape, part_line, pitem, mitem, pitem_after, mitem_after, inside_braces, pitems, mitems, name_parameters, pattern, monitor}
use Rattle.spectra_exprs.specs.Forms.{Gives, Token, ◌▸◌, Steps}
use Rattle.spectra_exprs.specs.Grammar.{ExprOf, Sum, Levels}
use Rattle.spectra_parser.specs.ItemGrammar.{TypeIn, SomeLength, LengthOf, VardeclIn, TypedeclIn, DefinitionIn, DefinitionAfter, DefineIn, ParameterIn, ParameterAfter, ParametersIn, PredicateIn, ShapeIn, LineIn, PitemIn, MitemIn, PitemAfter, MitemAfter, NameParameters, PatternIn, MonitorIn}
use Rattle.spectra_exprs.proofs.Opening.{Begun, EndsWhole, IsBehind, OpensAt, opens_as, spelled_append, Full, opens_here, full_then, full_gives, full_same, full_token, full_if, full_only, full_unexpected}
use Rattle.spectra_exprs.proofs.OpeningSteps.{full_steps}
use Rattle.spectra_exprs.proofs.Examples.{a_Alw, a_AlwEv, a_Becomes, a_Close, a_CloseBrace, a_CloseBracket, a_Colon, a_Comma, a_Equal, a_Ini, a_Name, a_Number, a_Open, a_OpenBrace, a_OpenBracket, a_Semicolon, a_Var}
use Rattle.spectra_exprs.proofs.Stopping.{err_is}
use Rattle.spectra_exprs.proofs.ClassSets.{going, going_apart, starts_going}
use Rattle.spectra_exprs.proofs.Completeness.{Begins, begins_wider}
use Rattle.spectra_exprs.proofs.WholeExpressions.{b_expr}
use Rattle.spectra_exprs.proofs.WholeLevels.{whole_inside, begins_expr, begins_sum}
use Rattle.spectra_exprs.specs.Expressions.{inside}
use Rattle.spectra_exprs.specs.Phrases.{Phrase, ArePhrase}
use Rattle.spectra_exprs.specs.declared.fault.SyntaxFault.{SyntaxFault}
use Rattle.spectra_exprs.proofs.OpeningExpressions.{begun_expr}
use Rattle.spectra_parser.proofs.SoundDeclarations.{own_at, shape_at, shape_same, line_first, line_part, pitem_same, mitem_word, sound_line_part_at, sound_mitem_at}
use Rattle.spectra_parser.proofs.OpeningItems.{wide, full_formula, full_names, full_type}

-- ---- declarations

full_some_length : Full SomeLength some_length
unfolding some_length
full_some_length =
    full_then (full_token classes.OpenBracket a_OpenBracket) (λ (o : Lexeme). full_then (full_token classes.Number a_Number) (λ (m : Lexeme). full_then (full_token classes.CloseBracket a_CloseBracket)
    (λ (c : Lexeme). full_gives (Some (record { bracket = o.at; digits = m.text })))))

full_length : Full LengthOf length_of
unfolding length_of
full_length = full_if (starts classes.OpenBracket) full_some_length (full_gives None)

pub full_vardecl : (at : Place) (owner : OwnerWord) → Full (VardeclIn wide at owner) (vardecl at owner)
unfolding vardecl
full_vardecl at owner =
    full_then full_type (λ (d : TypeData). full_then full_length (λ (l : Option LengthData). full_then (full_token classes.Name a_Name) (λ (m : Lexeme). full_then (full_token classes.Semicolon a_Semicolon)
    (λ (s : Lexeme). full_gives (ItemData.Variable (record { at = at; owner = owner; domain = d; length = l; name = name_of m }))))))

pub full_typedecl : (at : Place) → Full (TypedeclIn wide at) (typedecl at)
unfolding typedecl
full_typedecl at =
    full_then (full_token classes.Name a_Name) (λ (m : Lexeme). full_then (full_token classes.Equal a_Equal) (λ (e : Lexeme). full_then full_type (λ (d : TypeData). full_then (full_token classes.Semicolon a_Semicolon)
    (λ (s : Lexeme). full_gives (ItemData.Alias (record { at = at; name = name_of m; body = d }))))))

pub full_definition : Full (DefinitionIn wide) definition
unfolding definition
full_definition =
    full_then (full_token classes.Name a_Name) (λ (m : Lexeme). full_then (full_token classes.Becomes a_Becomes) (λ (b : Lexeme). full_then full_formula (λ (e : Expression). full_then (full_token classes.Semicolon a_Semicolon)
    (λ (s : Lexeme). full_gives (name_of m, e)))))

pub full_definition_after : (all : List (NameData × Expression)) → Full (DefinitionAfter wide all) (definition_after all)
unfolding definition_after
full_definition_after all = full_then full_definition (λ (d : NameData × Expression). full_gives (all ++ d ∷ []))

pub full_define : (at : Place) → Full (DefineIn wide at) (define at)
unfolding define
full_define at =
    full_then full_definition (λ (d : NameData × Expression). full_then (full_steps (starts classes.Name) full_definition_after (d ∷ []))
    (λ (all : List (NameData × Expression)). full_gives (ItemData.Define (record { at = at; bodies = all }))))

pub full_parameter : Full (ParameterIn wide) parameter
unfolding parameter
full_parameter = full_then full_type (λ (d : TypeData). full_then (full_token classes.Name a_Name) (λ (m : Lexeme). full_gives (d, name_of m)))

pub full_parameter_after : (all : List (TypeData × NameData)) → Full (ParameterAfter wide all) (parameter_after all)
unfolding parameter_after
full_parameter_after all = full_then (full_token classes.Comma a_Comma) (λ (c : Lexeme). full_then full_parameter (λ (p : TypeData × NameData). full_gives (all ++ p ∷ [])))

pub full_some_parameters : Full (ParameterIn wide ▸ λ p. Steps (ParameterAfter wide) (p ∷ []) ▸ λ all. Token classes.Close ▸ λ c. Gives all) some_parameters
unfolding some_parameters
full_some_parameters =
    full_then full_parameter (λ (p : TypeData × NameData). full_then (full_steps (starts classes.Comma) full_parameter_after (p ∷ []))
    (λ (all : List (TypeData × NameData)). full_then (full_token classes.Close a_Close) (λ (c : Lexeme). full_gives all)))

pub full_parameters : Full (ParametersIn wide) parameters
unfolding parameters
full_parameters = full_if (starts classes.Close) (full_then (full_token classes.Close a_Close) (λ (c : Lexeme). full_gives [])) full_some_parameters

pub full_predicate : (at : Place) → Full (PredicateIn wide at) (predicate at)
unfolding predicate
full_predicate at =
    full_then (full_token classes.Name a_Name) (λ (m : Lexeme). full_then (full_token classes.Open a_Open) (λ (o : Lexeme). full_then full_parameters (λ (ps : List (TypeData × NameData)).
    full_then (full_token classes.Colon a_Colon) (λ (c : Lexeme). full_then full_formula (λ (e : Expression). full_then (full_token classes.Semicolon a_Semicolon)
    (λ (s : Lexeme). full_gives (ItemData.Predicate (record { at = at; name = name_of m; params = ps; body = e }))))))))

-- ---- patterns and monitors

pub full_own : (t : Lexeme) → Full (TypeIn wide ▸ λ d. Token classes.Name ▸ λ m. Token classes.Semicolon ▸ λ s. Gives (record { at = t.at; form = PartShape.Own d (name_of m) })) (own_at t)
unfolding own
full_own t =
    full_then full_type (λ (d : TypeData). full_then (full_token classes.Name a_Name) (λ (m : Lexeme). full_then (full_token classes.Semicolon a_Semicolon)
    (λ (s : Lexeme). full_gives (record { at = t.at; form = PartShape.Own d (name_of m) }))))

pub full_shape_at : (shape : Expression → PartShape) (t : Lexeme) → Full (ExprOf (Levels wide) ▸ λ e. Gives (shape e)) (shape_at shape t)
unfolding part_formula
full_shape_at shape t = full_then full_formula (λ (e : Expression). full_gives (shape e))

pub full_shape : Full (ShapeIn wide) part_shape
full_shape =
    full_same shape_same
    (full_if (starts classes.Ini) (full_then (full_token classes.Ini a_Ini) (full_shape_at PartShape.Initial))
    (full_if (starts classes.Alw) (full_then (full_token classes.Alw a_Alw) (full_shape_at PartShape.Always))
    (full_only (starts classes.AlwEv) (full_then (full_token classes.AlwEv a_AlwEv) (full_shape_at PartShape.Recurring)))))

pub full_part_line : (at : Place) → Full (ShapeIn wide ▸ λ f. Token classes.Semicolon ▸ λ s. Gives (record { at = at; form = f })) (part_line at)
unfolding part_line
full_part_line at = full_then full_shape (λ (f : PartShape). full_then (full_token classes.Semicolon a_Semicolon) (λ (s : Lexeme). full_gives (record { at = at; form = f })))

-- ini 0 ;
begun_line : Begun (LineIn wide) []
begun_line =
    let e = begun_expr (Levels wide) in
    record {
      more = a_Ini.token ∷ (e.more ++ a_Semicolon.token ∷ []);
      spelled = (a_Ini.spelled, spelled_append e.more (a_Semicolon.token ∷ []) e.spelled (a_Semicolon.spelled, tt));
      value = record { at = a_Ini.token.at; form = PartShape.Initial e.value };
      derives = record {
        token = a_Ini.token;
        more = e.more ++ a_Semicolon.token ∷ [];
        first = refl;
        line = record {
          front = a_Ini.token ∷ e.more;
          value = PartShape.Initial e.value;
          back = a_Semicolon.token ∷ [];
          parts = refl;
          before = inl (record {
            front = a_Ini.token ∷ [];
            value = a_Ini.token;
            back = e.more;
            parts = refl;
            before = record { alone = refl; is = a_Ini.is };
            after = record { front = e.more; value = e.value; back = []; parts = sym (append-nil e.more); before = e.derives; after = record { nothing = refl; same = refl } };
          });
          after = record { front = a_Semicolon.token ∷ []; value = a_Semicolon.token; back = []; parts = refl; before = record { alone = refl; is = a_Semicolon.is }; after = record { nothing = refl; same = refl } };
        };
      };
    }

begun_monitored : Begun (MitemIn wide) []
unfolding begun_line
begun_monitored =
    let l = begun_line in
    record { more = l.more; spelled = l.spelled; value = l.value; derives = record { token = a_Ini.token; more = (begun_expr (Levels wide)).more ++ a_Semicolon.token ∷ []; first = refl; word = inl a_Ini.is; part = inr l.derives } }

abbrev LineAt : Place → List Lexeme → PartData → Type 0
LineAt at = ShapeIn wide ▸ λ f. Token classes.Semicolon ▸ λ s. Gives (record { at = at; form = f })

-- a line that is begun at some place is one at the place of its first token
line_begun : (at : Place) (used : List Lexeme) → Begun (LineAt at) used → Begun (LineIn wide) used
line_begun at used b =
    let d = b.derives in
    let h = line_first wide at (used ++ b.more) b.value d in
    record {
      more = b.more;
      spelled = b.spelled;
      value = record { at = h.token.at; form = d.value };
      derives = record {
        token = h.token;
        more = h.more;
        first = h.first;
        line = record {
          front = d.front;
          value = d.value;
          back = d.back;
          parts = d.parts;
          before = d.before;
          after = record { front = d.after.front; value = d.after.value; back = d.after.back; parts = d.after.parts; before = d.after.before; after = record { nothing = d.after.after.nothing; same = refl } };
        };
      };
    }

full_line_part : Full (LineIn wide) line_part
unfolding line_part
full_line_part = record { sound = sound_line_part_at wide (λ at. (full_part_line at).sound); opens = opens; whole = begun_line }
  where
    behind : (t : Lexeme) (ts : List Lexeme) (f : SyntaxFault) → OpensAt (LineAt t.at) (t ∷ ts) f ⊎ ⊥ → OpensAt (LineIn wide) (t ∷ ts) f
    behind t ts f (inl q) = opens_as (LineAt t.at) (LineIn wide) (line_begun t.at) (t ∷ ts) f q
    behind t ts f (inr q) = absurd q

    opens : (ts : List Lexeme) (f : SyntaxFault) → line_part ts ≡ Err f → OpensAt (LineIn wide) ts f ⊎ ⊥
    opens [] f e = inl (subst (λ (g : SyntaxFault). OpensAt (LineIn wide) [] g) (err_is {A = PartData} (faults.Unexpected 0) f e) (opens_here (LineIn wide) [] 0 refl begun_line))
    opens (t ∷ ts) f e = inl (behind t ts f ((full_part_line t.at).opens (t ∷ ts) f e))

pub full_pitem : Full (PitemIn wide) pitem
full_pitem = full_same pitem_same (full_if (starts classes.Var) (full_then (full_token classes.Var a_Var) full_own) full_line_part)

monitored : (ts used rest : List Lexeme) → ts ≡ used ++ rest → starts classes.Ini ts || starts classes.Alw ts ≡ true → Begun (PitemIn wide) used → Begun (MitemIn wide) used
monitored ts [] rest front on b = begun_monitored
monitored ts (u ∷ used) rest front on b =
    record { more = b.more; spelled = b.spelled; value = b.value; derives = record { token = u; more = used ++ b.more; first = refl; word = mitem_word ts (u ∷ used) rest u used front refl on; part = b.derives } }

-- no phrase begins as a line does
pub phrase_starts : (sort : Phrase) (left : ℕ) (phrase rest : List Lexeme) → ArePhrase sort left phrase → going b_expr (phrase ++ rest) ≡ true
unfolding place_of
phrase_starts Phrase.Whole left phrase rest p = (begins_expr (Levels left) (inside left) (whole_inside {E = Unit {0}} left left (λ less. tt))).first phrase p.0 rest p.1
phrase_starts Phrase.Bound left phrase rest p =
    let b : Begins b_expr (Sum (Levels left)) = begins_wider (record { checked = refl }) (begins_sum (Levels left) (inside left) (whole_inside {E = Unit {0}} left left (λ less. tt))) in
    b.first phrase p.0 rest p.1

no_line : (ts : List Lexeme) → going b_expr ts ≡ true → starts classes.Ini ts || starts classes.Alw ts ≡ true → ⊥
unfolding place_of
no_line ts phrase on =
    let ini = starts_going classes.Ini ts ∙ going_apart b_expr (classes.Ini ∷ []) (record { checked = refl }) ts phrase in
    let alw = starts_going classes.Alw ts ∙ going_apart b_expr (classes.Alw ∷ []) (record { checked = refl }) ts phrase in
    neither (starts classes.Ini ts) (starts classes.Alw ts) ini alw on
  where
    neither : (a b : Bool) → a ≡ false → b ≡ false → a || b ≡ true → ⊥
    neither true b e f on = absurd (cc)
    neither false b e f on = absurd (cc)

module _ (ts used rest phrase : List Lexeme) (front : ts ≡ used ++ rest) (on : starts classes.Ini ts || starts classes.Alw ts ≡ true) (sort : Phrase) (left : ℕ) (whole : ArePhrase sort left phrase) where
  ends_by : (first : List Lexeme) → used ≡ first ++ phrase → ((other : List Lexeme) → ArePhrase sort left other → Begun (PitemIn wide) (first ++ other)) → EndsWhole (MitemIn wide) used
  ends_by [] parts any =
      let same : ts ≡ phrase ++ rest = front ∙ ap (λ (u : List Lexeme). u ++ rest) parts in
      absurd (no_line ts (subst (λ (u : List Lexeme). going b_expr u ≡ true) (sym same) (phrase_starts sort left phrase rest whole)) on)
  ends_by (t ∷ first) parts any =
      let word = mitem_word ts used rest t (first ++ phrase) front parts on in
      record {
        front = t ∷ first;
        phrase = phrase;
        parts = parts;
        sort = sort;
        left = left;
        whole = whole;
        any = λ other p.
            let b = any other p in
            record { more = b.more; spelled = b.spelled; value = b.value; derives = record { token = t; more = (first ++ other) ++ b.more; first = refl; word = word; part = b.derives } };
      }

monitored_behind : (f : SyntaxFault) (ts used rest : List Lexeme) → ts ≡ used ++ rest → starts classes.Ini ts || starts classes.Alw ts ≡ true → IsBehind (PitemIn wide) f used → IsBehind (MitemIn wide) f used
monitored_behind (faults.Unexpected at) ts used rest front on b = tt
monitored_behind (faults.TooDeep at) ts used rest front on b =
    let parts : ts ≡ b.front ++ b.token ∷ rest = front ∙ ap (λ (u : List Lexeme). u ++ rest) b.parts ∙ append_assoc b.front (b.token ∷ []) rest in
    record { front = b.front; token = b.token; parts = b.parts; begun = monitored ts b.front (b.token ∷ rest) parts on b.begun }
monitored_behind (faults.Parentheses at) ts used rest front on b = ends_by ts used rest b.phrase front on b.sort b.left b.whole b.front b.parts b.any
monitored_behind faults.Memory ts used rest front on b = tt

full_mitem : Full (MitemIn wide) mitem
unfolding mitem
full_mitem = record { sound = sound_mitem_at wide full_pitem.sound; opens = λ ts f e. inl (by_word (starts classes.Ini ts || starts classes.Alw ts) ts f refl e); whole = begun_monitored }
  where
    turned : (ts : List Lexeme) (f : SyntaxFault) → starts classes.Ini ts || starts classes.Alw ts ≡ true → OpensAt (PitemIn wide) ts f ⊎ ⊥ → OpensAt (MitemIn wide) ts f
    turned ts f on (inl q) = record { used = q.used; rest = q.rest; front = q.front; place = q.place; begun = monitored ts q.used q.rest q.front on q.begun; behind = monitored_behind f ts q.used q.rest q.front on q.behind }
    turned ts f on (inr q) = absurd q

    refused : (ts : List Lexeme) (f : SyntaxFault) → OpensAt (MitemIn wide) ts f ⊎ ⊥ → OpensAt (MitemIn wide) ts f
    refused ts f (inl q) = q
    refused ts f (inr q) = absurd q

    by_word : (b : Bool) (ts : List Lexeme) (f : SyntaxFault) → starts classes.Ini ts || starts classes.Alw ts ≡ b → cond {A = Read PartData} b (pitem ts) (unexpected ts) ≡ Err f → OpensAt (MitemIn wide) ts f
    by_word true ts f on e = turned ts f on (full_pitem.opens ts f e)
    by_word false ts f on e = refused ts f ((full_unexpected begun_monitored).opens ts f e)

pub full_pitem_after : (all : List PartData) → Full (PitemAfter wide all) (pitem_after all)
unfolding pitem_after
full_pitem_after all = full_then full_pitem (λ (p : PartData). full_gives (all ++ p ∷ []))

pub full_mitem_after : (all : List PartData) → Full (MitemAfter wide all) (mitem_after all)
unfolding mitem_after
full_mitem_after all = full_then full_mitem (λ (p : PartData). full_gives (all ++ p ∷ []))

pub full_pitems : Full (Steps (PitemAfter wide) [] ▸ λ parts. Token classes.CloseBrace ▸ λ c. Gives parts) pitems
unfolding pitems
full_pitems = full_then (full_steps inside_braces full_pitem_after []) (λ (parts : List PartData). full_then (full_token classes.CloseBrace a_CloseBrace) (λ (c : Lexeme). full_gives parts))

pub full_mitems : Full (Steps (MitemAfter wide) [] ▸ λ parts. Token classes.CloseBrace ▸ λ c. Gives parts) mitems
unfolding mitems
full_mitems = full_then (full_steps inside_braces full_mitem_after []) (λ (parts : List PartData). full_then (full_token classes.CloseBrace a_CloseBrace) (λ (c : Lexeme). full_gives parts))

pub full_name_parameters : Full NameParameters name_parameters
unfolding name_parameters
full_name_parameters =
    full_if (starts classes.Close) (full_then (full_token classes.Close a_Close) (λ (c : Lexeme). full_gives []))
    (full_then full_names (λ (all : List NameData). full_then (full_token classes.Close a_Close) (λ (c : Lexeme). full_gives all)))

pub full_pattern : (at : Place) → Full (PatternIn wide at) (pattern at)
unfolding pattern
full_pattern at =
    full_then (full_token classes.Name a_Name) (λ (m : Lexeme). full_then (full_token classes.Open a_Open) (λ (o : Lexeme). full_then full_name_parameters (λ (ps : List NameData).
    full_then (full_token classes.OpenBrace a_OpenBrace) (λ (b : Lexeme). full_then full_pitems (λ (parts : List PartData).
    full_gives (ItemData.Pattern (record { at = at; name = name_of m; params = ps; parts = parts })))))))

pub full_monitor : (at : Place) → Full (MonitorIn wide at) (monitor at)
unfolding monitor
full_monitor at =
    full_then full_type (λ (d : TypeData). full_then (full_token classes.Name a_Name) (λ (m : Lexeme). full_then (full_token classes.OpenBrace a_OpenBrace) (λ (b : Lexeme). full_then full_mitems
    (λ (parts : List PartData). full_gives (ItemData.Monitor (record { at = at; domain = d; name = name_of m; parts = parts }))))))
