-- What is read as a line, an item or a text is one of the grammar.
use Rattle.std.proofs.Common.{◌≡◌, cond, List, [], ◌∷◌, ◌++◌, Option, Some, None, option_map, refl, sym, ap, subst}
use Rattle.std.specs.Option.{option_map_or}
use Rattle.spec_model.specs.declared.spec.Role.{Role}
use Rattle.spectra_trees.specs.declared.class.Class.{Class}
use Rattle.spectra_trees.specs.declared.class.Class.TheVariants as classes
use Rattle.spectra_trees.specs.declared.tree.Place.{Place}
use Rattle.spectra_trees.specs.declared.tree.OwnerWord.{OwnerWord}
use Rattle.spectra_trees.specs.Classes.{same_class}
use Rattle.spectra_trees.specs.Data.{NameData, Expression, RegexData, BodyData, ItemData}
use Rattle.spectra_trees.specs.Lexemes.{Lexeme, name_of}
use Rattle.spectra_exprs.specs.Read.{Read, Reader, ◌>>=◌, unexpected, first_number, starts, expect}
use Rattle.spectra_exprs.specs.Expressions.{inside}
use Rattle.spectra_regexes.specs.Regexes.{inside_regex}
use Rattle.spectra_parser.specs.Items.{vardecl, typedecl, define, predicate, pattern, monitor, body_formula, trigger, use_behind, pattern_use, body_of, Said, labelled, unlabelled, named, said, line, owner_word, role_word, declaration, item_of, item_after, before_end, semicolon, imported, import_after, text_of}
use Rattle.spectra_exprs.specs.Forms.{Gives, Token, ◌▸◌, ◌∣◌}
use Rattle.spectra_exprs.specs.Grammar.{ExprOf, Levels}
use Rattle.spectra_regexes.specs.RegexGrammar.{RegexOf, RegexLevels}
use Rattle.spectra_parser.specs.ItemGrammar.{Owner, RoleOf, TypedeclIn, DefineIn, PredicateIn, PatternIn, MonitorIn, UseIn, BodyIn, SaidIn, LineOf, ItemIn, ItemAfter, ImportAfter, TextIn}
use Rattle.spectra_exprs.proofs.Soundness.{Got, Sound, some_value, no_some, sound_gives, sound_token, sound_then, sound_same, sound_if, Looks, sound_look, sound_steps, branch_same, sound_unexpected, sound_both}
use Rattle.spectra_exprs.proofs.SoundExpressions.{sound_inside, sound_arguments}
use Rattle.spectra_regexes.proofs.SoundRegexes.{sound_regex, sound_inside_regex}
use Rattle.spectra_parser.proofs.SoundItems.{n, sound_formula}
use Rattle.spectra_parser.proofs.SoundDeclarations.{sound_vardecl, sound_typedecl, sound_define, sound_predicate, sound_pattern, sound_monitor}

-- ---- lines

sound_use : (m : Lexeme) → Sound (UseIn n m) (use_behind m)
unfolding use_behind
sound_use m = sound_then (sound_token classes.Open) (λ (o : Lexeme). sound_then (sound_arguments (Levels n) (inside n) (sound_inside n)) (λ (es : List Expression). sound_gives (BodyData.Call (name_of m) es)))

sound_pattern_use : Sound (Token classes.Name ▸ λ m. UseIn n m) pattern_use
unfolding pattern_use
sound_pattern_use = sound_then (sound_token classes.Name) sound_use

abbrev pub body_at : (Expression → BodyData) → Lexeme → Reader BodyData
body_at body t rest = body_formula body rest

sound_body_at : (body : Expression → BodyData) (t : Lexeme) → Sound (ExprOf (Levels n) ▸ λ e. Gives (body e)) (body_at body t)
unfolding body_formula
sound_body_at body t = sound_then sound_formula (λ (e : Expression). sound_gives (body e))

abbrev pub trigger_at : Lexeme → Reader BodyData
trigger_at t rest = trigger t.at rest

sound_trigger : (t : Lexeme) → Sound (RegexOf (RegexLevels n) ▸ λ cause. Token classes.Then ▸ λ u. RegexOf (RegexLevels n) ▸ λ effect. Gives (BodyData.Trigger t.at cause effect)) (trigger_at t)
unfolding trigger
sound_trigger t =
    sound_then (sound_regex (RegexLevels n) (inside_regex n) (sound_inside_regex n)) (λ (cause : RegexData). sound_then (sound_token classes.Then) (λ (u : Lexeme).
    sound_then (sound_regex (RegexLevels n) (inside_regex n) (sound_inside_regex n)) (λ (effect : RegexData). sound_gives (BodyData.Trigger t.at cause effect))))

pub body_same : (ts : List Lexeme) → body_of ts
    ≡ cond (starts classes.Ini ts) (expect classes.Ini ts >>= body_at BodyData.Initial)
    (cond (starts classes.Alw ts) (expect classes.Alw ts >>= body_at BodyData.Always)
    (cond (starts classes.AlwEv ts) (expect classes.AlwEv ts >>= body_at BodyData.Recurring) (cond (starts classes.Trig ts) (expect classes.Trig ts >>= trigger_at) (pattern_use ts))))
unfolding body_of starts expect pattern_use
body_same [] = refl
body_same (t ∷ ts) =
    branch_same (same_class t.class classes.Ini) t ts _ (body_at BodyData.Initial) _ _
    (branch_same (same_class t.class classes.Alw) t ts _ (body_at BodyData.Always) _ _
    (branch_same (same_class t.class classes.AlwEv) t ts _ (body_at BodyData.Recurring) _ _ (branch_same (same_class t.class classes.Trig) t ts _ trigger_at _ _ refl)))

sound_body : Sound (BodyIn n) body_of
sound_body =
    sound_same body_same
    (sound_if (starts classes.Ini) (sound_then (sound_token classes.Ini) (sound_body_at BodyData.Initial))
    (sound_if (starts classes.Alw) (sound_then (sound_token classes.Alw) (sound_body_at BodyData.Always))
    (sound_if (starts classes.AlwEv) (sound_then (sound_token classes.AlwEv) (sound_body_at BodyData.Recurring))
    (sound_if (starts classes.Trig) (sound_then (sound_token classes.Trig) sound_trigger) sound_pattern_use))))

sound_labelled : (m : Lexeme) → Sound (Token classes.Colon ▸ λ c. BodyIn n ▸ λ b. Gives (Some (name_of m), b)) (labelled m)
unfolding labelled
sound_labelled m = sound_then (sound_token classes.Colon) (λ (c : Lexeme). sound_then sound_body (λ (b : BodyData). sound_gives (Some (name_of m), b)))

sound_unlabelled : (m : Lexeme) → Sound (UseIn n m ▸ λ b. Gives (None, b)) (unlabelled m)
unfolding unlabelled
sound_unlabelled m = sound_then (sound_use m) (λ (b : BodyData). sound_gives (None, b))

sound_named : Sound (Token classes.Name ▸ λ m. (Token classes.Colon ▸ λ c. BodyIn n ▸ λ b. Gives (Some (name_of m), b)) ∣ (UseIn n m ▸ λ b. Gives (None, b))) named
unfolding named
sound_named = sound_then (sound_token classes.Name) (λ (m : Lexeme). sound_if (starts classes.Colon) (sound_labelled m) (sound_unlabelled m))

sound_said : Sound (SaidIn n) said
unfolding said
sound_said = sound_if (starts classes.Name) sound_named (sound_then sound_body (λ (b : BodyData). sound_gives (None, b)))

sound_line : (at : Place) (role : Role) → Sound (LineOf n at role) (line at role)
unfolding line
sound_line at role =
    sound_then sound_said (λ (b : Said). sound_then (sound_token classes.Semicolon) (λ (s : Lexeme). sound_gives (ItemData.Statement (record { at = at; role = role; name = b.0; body = b.1 }))))

-- ---- items

unfoldable pub owner_at : List Lexeme → Option ((Lexeme × OwnerWord) × List Lexeme)
owner_at [] = None
owner_at (t ∷ ts) = option_map (λ w. ((t, w), ts)) (owner_word t.class)

unfoldable pub role_at : List Lexeme → Option ((Lexeme × Role) × List Lexeme)
role_at [] = None
role_at (t ∷ ts) = option_map (λ w. ((t, w), ts)) (role_word t.class)

module _ {W : Type 0} (word : Class → Option W) where
  word_at : (o : Option W) (K : List Lexeme → Lexeme × W → Type 0) (t : Lexeme) (ts : List Lexeme) (x : Lexeme × W) (rest : List Lexeme) → ((w : W) → o ≡ Some w → K (t ∷ []) (t, w))
      → option_map {U = (Lexeme × W) × List Lexeme} (λ w. ((t, w), ts)) o ≡ Some (x, rest) → Got K (t ∷ ts) x rest
  word_at (Some w) K t ts x rest is e =
      let p = some_value (t, w) x ts rest e in
      record { used = t ∷ []; front = ap (λ (r : List Lexeme). t ∷ r) (sym p.1); derives = subst (λ (y : Lexeme × W). K (t ∷ []) y) (sym p.0) (is w refl) }
  word_at None K t ts x rest is e = absurd (no_some (x, rest) e)

pub owner_looks : Looks Owner owner_at
unfolding owner_at
owner_looks = record { found = looks }
  where
    looks : (ts : List Lexeme) (x : Lexeme × OwnerWord) (rest : List Lexeme) → owner_at ts ≡ Some (x, rest) → Got Owner ts x rest
    looks [] x rest e = absurd (no_some (x, rest) e)
    looks (t ∷ ts) x rest e = word_at owner_word (owner_word t.class) Owner t ts x rest (λ w is. record { alone = refl; word = is }) e

pub role_looks : Looks RoleOf role_at
unfolding role_at
role_looks = record { found = looks }
  where
    looks : (ts : List Lexeme) (x : Lexeme × Role) (rest : List Lexeme) → role_at ts ≡ Some (x, rest) → Got RoleOf ts x rest
    looks [] x rest e = absurd (no_some (x, rest) e)
    looks (t ∷ ts) x rest e = word_at role_word (role_word t.class) RoleOf t ts x rest (λ w is. record { alone = refl; word = is }) e

option_same : {W V A : Type 0} (o : Option W) (h : W → V) (f : W → Read A) (g : V → Read A) (d e : Read A) → ((w : W) → f w ≡ g (h w)) → d ≡ e → option_map_or f o d ≡ option_map_or g (option_map h o) e
option_same (Some w) h f g d e each same = each w
option_same None h f g d e each same = same

abbrev pub typedecl_at : Lexeme → Reader ItemData
typedecl_at t rest = typedecl t.at rest

abbrev pub define_at : Lexeme → Reader ItemData
define_at t rest = define t.at rest

abbrev pub predicate_at : Lexeme → Reader ItemData
predicate_at t rest = predicate t.at rest

abbrev pub pattern_at : Lexeme → Reader ItemData
pattern_at t rest = pattern t.at rest

abbrev pub monitor_at : Lexeme → Reader ItemData
monitor_at t rest = monitor t.at rest

pub declaration_same : (ts : List Lexeme) → declaration ts
    ≡ cond (starts classes.TypeWord ts) (expect classes.TypeWord ts >>= typedecl_at)
    (cond (starts classes.Define ts) (expect classes.Define ts >>= define_at)
    (cond (starts classes.Predicate ts) (expect classes.Predicate ts >>= predicate_at)
    (cond (starts classes.Pattern ts) (expect classes.Pattern ts >>= pattern_at) (cond (starts classes.Monitor ts) (expect classes.Monitor ts >>= monitor_at) (unexpected ts)))))
unfolding declaration starts expect unexpected first_number
declaration_same [] = refl
declaration_same (t ∷ ts) =
    branch_same (same_class t.class classes.TypeWord) t ts _ typedecl_at _ _
    (branch_same (same_class t.class classes.Define) t ts _ define_at _ _
    (branch_same (same_class t.class classes.Predicate) t ts _ predicate_at _ _
    (branch_same (same_class t.class classes.Pattern) t ts _ pattern_at _ _ (branch_same (same_class t.class classes.Monitor) t ts _ monitor_at _ _ refl))))

pub item_same : (ts : List Lexeme) → item_of ts ≡ option_map_or (λ o. vardecl o.0.0.at o.0.1 o.1) (owner_at ts) (option_map_or (λ o. line o.0.0.at o.0.1 o.1) (role_at ts) (declaration ts))
unfolding item_of owner_at role_at declaration
item_same [] = refl
item_same (t ∷ ts) =
    option_same (owner_word t.class) (λ w. ((t, w), ts)) (λ (w : OwnerWord). vardecl t.at w ts) (λ o. vardecl o.0.0.at o.0.1 o.1) _ _ (λ (w : OwnerWord). refl)
    (option_same (role_word t.class) (λ w. ((t, w), ts)) (λ (w : Role). line t.at w ts) (λ o. line o.0.0.at o.0.1 o.1) _ _ (λ (w : Role). refl) refl)

sound_declaration : Sound ((Token classes.TypeWord ▸ λ t. TypedeclIn n t.at) ∣ (Token classes.Define ▸ λ t. DefineIn n t.at) ∣ (Token classes.Predicate ▸ λ t. PredicateIn n t.at)
    ∣ (Token classes.Pattern ▸ λ t. PatternIn n t.at) ∣ (Token classes.Monitor ▸ λ t. MonitorIn n t.at)) declaration
sound_declaration =
    sound_same declaration_same
    (sound_if (starts classes.TypeWord) (sound_then (sound_token classes.TypeWord) (λ (t : Lexeme). sound_typedecl t.at))
    (sound_if (starts classes.Define) (sound_then (sound_token classes.Define) (λ (t : Lexeme). sound_define t.at))
    (sound_if (starts classes.Predicate) (sound_then (sound_token classes.Predicate) (λ (t : Lexeme). sound_predicate t.at))
    (sound_if (starts classes.Pattern) (sound_then (sound_token classes.Pattern) (λ (t : Lexeme). sound_pattern t.at))
    (sound_both (starts classes.Monitor) (sound_then (sound_token classes.Monitor) (λ (t : Lexeme). sound_monitor t.at)) sound_unexpected)))))

sound_item : Sound (ItemIn n) item_of
sound_item =
    sound_same item_same
    (sound_look owner_looks (λ (o : Lexeme × OwnerWord). sound_vardecl o.0.at o.1) (sound_look role_looks (λ (o : Lexeme × Role). sound_line o.0.at o.1) sound_declaration))

pub sound_item_after : (all : List ItemData) → Sound (ItemAfter n all) (item_after all)
unfolding item_after
sound_item_after all = sound_then sound_item (λ (i : ItemData). sound_gives (all ++ i ∷ []))

-- ---- texts

sound_semicolon : (all : List NameData) → Sound ((Token classes.Semicolon ▸ λ s. Gives all) ∣ Gives all) (semicolon all)
unfolding semicolon
sound_semicolon all = sound_if (starts classes.Semicolon) (sound_then (sound_token classes.Semicolon) (λ (s : Lexeme). sound_gives all)) (sound_gives all)

sound_import_after : (all : List NameData) → Sound (ImportAfter all) (import_after all)
unfolding import_after
sound_import_after all = sound_then (sound_token classes.Import) (λ (i : Lexeme). sound_then (sound_token classes.Text) (λ (t : Lexeme). sound_semicolon (all ++ imported i t ∷ [])))

pub sound_text : Sound (TextIn n) text_of
unfolding text_of
sound_text =
    sound_then (sound_steps (starts classes.Import) sound_import_after []) (λ (imports : List NameData). sound_then (sound_token classes.Head) (λ (h : Lexeme). sound_then (sound_token classes.Name) (λ (m : Lexeme).
    sound_then (sound_steps before_end sound_item_after []) (λ (items : List ItemData). sound_gives (record { header = name_of m; imports = imports; items = items })))))
