-- Where reading a line, an item or a text stops, what was used begins one.
use Rattle.std.proofs.Common.{List, [], ◌∷◌, ◌++◌, Some, None}
use Rattle.spec_model.specs.declared.spec.Role.{Role}
use Rattle.spectra_trees.specs.declared.class.Class.TheVariants as classes
use Rattle.spectra_trees.specs.declared.tree.Place.{Place}
use Rattle.spectra_trees.specs.declared.tree.OwnerWord.{OwnerWord}
use Rattle.spectra_trees.specs.Data.{NameData, Expression, RegexData, BodyData, ItemData}
use Rattle.spectra_trees.specs.Lexemes.{Lexeme, name_of}
use Rattle.spectra_exprs.specs.Read.{starts}
use Rattle.spectra_exprs.specs.Expressions.{inside}
use Rattle.spectra_regexes.specs.Regexes.{inside_regex}
use Rattle.spectra_parser.specs.Items.{body_formula, trigger, use_behind, pattern_use, body_of, Said, labelled, unlabelled, named, said, line, declaration, item_of, item_after, before_end, semicolon, imported, import_after, text_of}
use Rattle.spectra_exprs.specs.Forms.{Gives, Token, ◌▸◌, ◌∣◌}
use Rattle.spectra_exprs.specs.Grammar.{ExprOf, Levels}
use Rattle.spectra_regexes.specs.RegexGrammar.{RegexOf, RegexLevels}
use Rattle.spectra_parser.specs.ItemGrammar.{Owner, RoleOf, TypedeclIn, DefineIn, PredicateIn, PatternIn, MonitorIn, UseIn, BodyIn, SaidIn, LineOf, ItemIn, ItemAfter, ImportAfter, TextIn}
use Rattle.spectra_exprs.proofs.Opening.{Full, full_then, full_gives, full_same, full_token, full_if, full_only}
use Rattle.spectra_exprs.proofs.OpeningSteps.{FullLook, never_before, full_look, full_steps}
use Rattle.spectra_exprs.proofs.Examples.{a_Alw, a_AlwEv, a_Colon, a_Define, a_Head, a_Import, a_Ini, a_Monitor, a_Name, a_Open, a_Pattern, a_Predicate, a_Semicolon, a_Text, a_Then, a_Trig, a_TypeWord}
use Rattle.spectra_exprs.proofs.OpeningExpressions.{full_inside, full_arguments}
use Rattle.spectra_regexes.proofs.OpeningRegexes.{full_inside_regex, full_regex}
use Rattle.spectra_parser.proofs.SoundItems.{n}
use Rattle.spectra_parser.proofs.SoundTexts.{body_at, trigger_at, body_same, owner_at, owner_looks, role_at, role_looks, declaration_same, item_same}
use Rattle.spectra_parser.proofs.StoppingTexts.{owner_look, role_look}
use Rattle.spectra_parser.proofs.OpeningItems.{wide, inner, deeper, full_formula}
use Rattle.spectra_parser.proofs.OpeningDeclarations.{full_vardecl, full_typedecl, full_define, full_predicate, full_pattern, full_monitor}

-- ---- lines

full_use : (m : Lexeme) → Full (UseIn wide m) (use_behind m)
unfolding use_behind
full_use m = full_then (full_token classes.Open a_Open) (λ (o : Lexeme). full_then (full_arguments wide (inside n) (full_inside wide n inner)) (λ (es : List Expression). full_gives (BodyData.Call (name_of m) es)))

full_pattern_use : Full (Token classes.Name ▸ λ m. UseIn wide m) pattern_use
unfolding pattern_use
full_pattern_use = full_then (full_token classes.Name a_Name) full_use

full_body_at : (body : Expression → BodyData) (t : Lexeme) → Full (ExprOf (Levels wide) ▸ λ e. Gives (body e)) (body_at body t)
unfolding body_formula
full_body_at body t = full_then full_formula (λ (e : Expression). full_gives (body e))

full_trigger : (t : Lexeme) → Full (RegexOf (RegexLevels wide) ▸ λ cause. Token classes.Then ▸ λ u. RegexOf (RegexLevels wide) ▸ λ effect. Gives (BodyData.Trigger t.at cause effect)) (trigger_at t)
unfolding trigger
full_trigger t =
    full_then (full_regex (RegexLevels wide) (inside_regex n) (full_inside_regex wide n deeper)) (λ (cause : RegexData). full_then (full_token classes.Then a_Then) (λ (u : Lexeme).
    full_then (full_regex (RegexLevels wide) (inside_regex n) (full_inside_regex wide n deeper)) (λ (effect : RegexData). full_gives (BodyData.Trigger t.at cause effect))))

full_body : Full (BodyIn wide) body_of
full_body =
    full_same body_same
    (full_if (starts classes.Ini) (full_then (full_token classes.Ini a_Ini) (full_body_at BodyData.Initial))
    (full_if (starts classes.Alw) (full_then (full_token classes.Alw a_Alw) (full_body_at BodyData.Always))
    (full_if (starts classes.AlwEv) (full_then (full_token classes.AlwEv a_AlwEv) (full_body_at BodyData.Recurring))
    (full_if (starts classes.Trig) (full_then (full_token classes.Trig a_Trig) full_trigger) full_pattern_use))))

full_labelled : (m : Lexeme) → Full (Token classes.Colon ▸ λ c. BodyIn wide ▸ λ b. Gives (Some (name_of m), b)) (labelled m)
unfolding labelled
full_labelled m = full_then (full_token classes.Colon a_Colon) (λ (c : Lexeme). full_then full_body (λ (b : BodyData). full_gives (Some (name_of m), b)))

full_unlabelled : (m : Lexeme) → Full (UseIn wide m ▸ λ b. Gives (None, b)) (unlabelled m)
unfolding unlabelled
full_unlabelled m = full_then (full_use m) (λ (b : BodyData). full_gives (None, b))

full_named : Full (Token classes.Name ▸ λ m. (Token classes.Colon ▸ λ c. BodyIn wide ▸ λ b. Gives (Some (name_of m), b)) ∣ (UseIn wide m ▸ λ b. Gives (None, b))) named
unfolding named
full_named = full_then (full_token classes.Name a_Name) (λ (m : Lexeme). full_if (starts classes.Colon) (full_labelled m) (full_unlabelled m))

full_said : Full (SaidIn wide) said
unfolding said
full_said = full_if (starts classes.Name) full_named (full_then full_body (λ (b : BodyData). full_gives (None, b)))

full_line : (at : Place) (role : Role) → Full (LineOf wide at role) (line at role)
unfolding line
full_line at role =
    full_then full_said (λ (b : Said). full_then (full_token classes.Semicolon a_Semicolon) (λ (s : Lexeme). full_gives (ItemData.Statement (record { at = at; role = role; name = b.0; body = b.1 }))))

-- ---- items

owner_full : FullLook (λ (x : Lexeme × OwnerWord). None) Owner owner_at
owner_full = record { looks = owner_looks; stable = owner_look; whole = λ x t e. absurd (never_before t e) }

role_full : FullLook (λ (x : Lexeme × Role). None) RoleOf role_at
role_full = record { looks = role_looks; stable = role_look; whole = λ x t e. absurd (never_before t e) }

full_declaration : Full ((Token classes.TypeWord ▸ λ t. TypedeclIn wide t.at) ∣ (Token classes.Define ▸ λ t. DefineIn wide t.at) ∣ (Token classes.Predicate ▸ λ t. PredicateIn wide t.at)
    ∣ (Token classes.Pattern ▸ λ t. PatternIn wide t.at) ∣ (Token classes.Monitor ▸ λ t. MonitorIn wide t.at)) declaration
full_declaration =
    full_same declaration_same
    (full_if (starts classes.TypeWord) (full_then (full_token classes.TypeWord a_TypeWord) (λ (t : Lexeme). full_typedecl t.at))
    (full_if (starts classes.Define) (full_then (full_token classes.Define a_Define) (λ (t : Lexeme). full_define t.at))
    (full_if (starts classes.Predicate) (full_then (full_token classes.Predicate a_Predicate) (λ (t : Lexeme). full_predicate t.at))
    (full_if (starts classes.Pattern) (full_then (full_token classes.Pattern a_Pattern) (λ (t : Lexeme). full_pattern t.at))
    (full_only (starts classes.Monitor) (full_then (full_token classes.Monitor a_Monitor) (λ (t : Lexeme). full_monitor t.at)))))))

full_item : Full (ItemIn wide) item_of
full_item =
    full_same item_same
    (full_look owner_full (λ (o : Lexeme × OwnerWord). full_vardecl o.0.at o.1) (full_look role_full (λ (o : Lexeme × Role). full_line o.0.at o.1) full_declaration))

pub full_item_after : (all : List ItemData) → Full (ItemAfter wide all) (item_after all)
unfolding item_after
full_item_after all = full_then full_item (λ (i : ItemData). full_gives (all ++ i ∷ []))

-- ---- texts

full_semicolon : (all : List NameData) → Full ((Token classes.Semicolon ▸ λ s. Gives all) ∣ Gives all) (semicolon all)
unfolding semicolon
full_semicolon all = full_if (starts classes.Semicolon) (full_then (full_token classes.Semicolon a_Semicolon) (λ (s : Lexeme). full_gives all)) (full_gives all)

full_import_after : (all : List NameData) → Full (ImportAfter all) (import_after all)
unfolding import_after
full_import_after all = full_then (full_token classes.Import a_Import) (λ (i : Lexeme). full_then (full_token classes.Text a_Text) (λ (t : Lexeme). full_semicolon (all ++ imported i t ∷ [])))

pub full_text : Full (TextIn wide) text_of
unfolding text_of
full_text =
    full_then (full_steps (starts classes.Import) full_import_after []) (λ (imports : List NameData). full_then (full_token classes.Head a_Head) (λ (h : Lexeme). full_then (full_token classes.Name a_Name) (λ (m : Lexeme).
    full_then (full_steps before_end full_item_after []) (λ (items : List ItemData). full_gives (record { header = name_of m; imports = imports; items = items })))))
