-- Where reading a line, an item or a text stops depends on the tokens up to there alone.
use Rattle.std.proofs.Common.{◌≡◌, Bool, false, not, List, [], ◌∷◌, ◌++◌, Option, Some, None, option_map, Ok, refl, sym, ap, ◌∙◌}
use Rattle.spec_model.specs.declared.spec.Role.{Role}
use Rattle.spectra_trees.specs.declared.class.Class.{Class}
use Rattle.spectra_trees.specs.declared.class.Class.TheVariants as classes
use Rattle.spectra_trees.specs.declared.tree.Place.{Place}
use Rattle.spectra_trees.specs.declared.tree.OwnerWord.{OwnerWord}
use Rattle.spectra_trees.specs.Classes.{place_of, same_class}
use Rattle.spectra_trees.specs.Data.{NameData, Expression, RegexData, BodyData, ItemData, TreeData}
use Rattle.spectra_trees.specs.Lexemes.{Lexeme, name_of}
use Rattle.spectra_exprs.specs.Read.{Reader, ◌>>=◌, starts, expect, all_of}
use Rattle.spectra_exprs.specs.Expressions.{inside}
use Rattle.spectra_regexes.specs.Regexes.{inside_regex}
use Rattle.spectra_parser.specs.Items.{vardecl, body_formula, trigger, use_behind, pattern_use, body_of, Said, labelled, unlabelled, named, said, line, owner_word, role_word, declaration, item_of, item_after, semicolon, imported, import_after}
use Rattle.spectra_exprs.proofs.Soundness.{some_value, no_some}
use Rattle.spectra_exprs.proofs.Stopping.{SameHead, Stable, stable_then, stable_gives, stable_same, stable_unexpected, starts_of_head, not_of_head, stable_if}
use Rattle.spectra_exprs.proofs.StoppingSteps.{Looked, StableLook, stable_look, Uses, uses_token, uses_then, uses_if, uses_same, uses_unexpected, uses_look, stable_steps}
use Rattle.spectra_exprs.proofs.WholeExpressions.{keys, lookup_some}
use Rattle.spectra_exprs.proofs.StoppingExpressions.{stable_after, not_end_of, no_none, stable_inside, stable_arguments}
use Rattle.spectra_regexes.proofs.StoppingRegexes.{stable_inside_regex, stable_regex}
use Rattle.spectra_parser.proofs.SoundItems.{n}
use Rattle.spectra_parser.proofs.SoundTexts.{body_at, trigger_at, body_same, owner_at, role_at, declaration_same, item_same}
use Rattle.spectra_parser.proofs.WholeTexts.{owner_table, role_table, in_owners, in_roles}
use Rattle.spectra_parser.proofs.StoppingItems.{stable_formula, stable_vardecl, stable_typedecl, stable_define, stable_predicate, stable_pattern, stable_monitor}

-- ---- lines

stable_use : (m : Lexeme) → Stable (use_behind m)
unfolding use_behind place_of
stable_use m =
    stable_after classes.Open (record { checked = refl }) (λ (o : Lexeme). stable_then (stable_arguments (inside n) (stable_inside n)) (λ (es : List Expression). stable_gives (BodyData.Call (name_of m) es)))

stable_pattern_use : Stable pattern_use
unfolding pattern_use place_of
stable_pattern_use = stable_after classes.Name (record { checked = refl }) stable_use

stable_body_at : (body : Expression → BodyData) (t : Lexeme) → Stable (body_at body t)
unfolding body_formula
stable_body_at body t = stable_then stable_formula (λ (e : Expression). stable_gives (body e))

stable_trigger : (t : Lexeme) → Stable (trigger_at t)
unfolding trigger place_of
stable_trigger t =
    stable_then (stable_regex (inside_regex n) (stable_inside_regex n)) (λ (cause : RegexData). stable_after classes.Then (record { checked = refl }) (λ (u : Lexeme).
    stable_then (stable_regex (inside_regex n) (stable_inside_regex n)) (λ (effect : RegexData). stable_gives (BodyData.Trigger t.at cause effect))))

stable_body : Stable body_of
unfolding place_of
stable_body =
    stable_same body_same
    (stable_if (starts_of_head classes.Ini) (stable_after classes.Ini (record { checked = refl }) (stable_body_at BodyData.Initial))
    (stable_if (starts_of_head classes.Alw) (stable_after classes.Alw (record { checked = refl }) (stable_body_at BodyData.Always))
    (stable_if (starts_of_head classes.AlwEv) (stable_after classes.AlwEv (record { checked = refl }) (stable_body_at BodyData.Recurring))
    (stable_if (starts_of_head classes.Trig) (stable_after classes.Trig (record { checked = refl }) stable_trigger) stable_pattern_use))))

stable_labelled : (m : Lexeme) → Stable (labelled m)
unfolding labelled place_of
stable_labelled m = stable_after classes.Colon (record { checked = refl }) (λ (c : Lexeme). stable_then stable_body (λ (b : BodyData). stable_gives (Some (name_of m), b)))

stable_unlabelled : (m : Lexeme) → Stable (unlabelled m)
unfolding unlabelled
stable_unlabelled m = stable_then (stable_use m) (λ (b : BodyData). stable_gives (None, b))

stable_named : Stable named
unfolding named place_of
stable_named = stable_after classes.Name (record { checked = refl }) (λ (m : Lexeme). stable_if (starts_of_head classes.Colon) (stable_labelled m) (stable_unlabelled m))

stable_said : Stable said
unfolding said
stable_said = stable_if (starts_of_head classes.Name) stable_named (stable_then stable_body (λ (b : BodyData). stable_gives (None, b)))

stable_line : (at : Place) (role : Role) → Stable (line at role)
unfolding line place_of
stable_line at role =
    stable_then stable_said (λ (b : Said). stable_after classes.Semicolon (record { checked = refl }) (λ (s : Lexeme). stable_gives (ItemData.Statement (record { at = at; role = role; name = b.0; body = b.1 }))))

-- ---- items

none_known : (t u : Lexeme) → ◌≡◌ {A = Option Lexeme} None (Some t) → t ≡ u
none_known t u e = absurd (cc)

-- a look for a word of a table at the first token
module _ {W : Type 0} (word : Class → Option W) (quiet : (t : Lexeme) (w : W) → word t.class ≡ Some w → same_class t.class classes.Finish ≡ false) (look : List Lexeme → Option ((Lexeme × W) × List Lexeme)) (empty : look [] ≡ None) (same : (t : Lexeme) (ts : List Lexeme) → look (t ∷ ts) ≡ option_map {U = (Lexeme × W) × List Lexeme} (λ w. ((t, w), ts)) (word t.class)) where
  found_word : (o : Option W) (t : Lexeme) (ts : List Lexeme) (x : Lexeme × W) (rest : List Lexeme) → word t.class ≡ o
      → option_map {U = (Lexeme × W) × List Lexeme} (λ w. ((t, w), ts)) o ≡ Some (x, rest) → Looked (λ (x : Lexeme × W). None) look (t ∷ ts) x rest
  found_word (Some w) t ts x rest is e =
      let p = some_value (t, w) x ts rest e in
      record {
        token = t;
        front = ap (λ (r : List Lexeme). t ∷ r) (sym p.1);
        quiet = quiet t w is;
        again = λ more. same t more ∙ ap (λ (o : Option W). option_map {U = (Lexeme × W) × List Lexeme} (λ w. ((t, w), more)) o) is ∙ ap (λ (y : Lexeme × W). Some (y, more)) (sym p.0);
        known = λ u k. none_known u t k;
      }
  found_word None t ts x rest is e = absurd (no_some (x, rest) e)

  looks : (ts : List Lexeme) (x : Lexeme × W) (rest : List Lexeme) → look ts ≡ Some (x, rest) → Looked (λ (x : Lexeme × W). None) look ts x rest
  looks [] x rest e = absurd (no_some (x, rest) (sym empty ∙ e))
  looks (t ∷ ts) x rest e = found_word (word t.class) t ts x rest refl (sym (same t ts) ∙ e)

  still : (o : Option W) (t : Lexeme) (ts more : List Lexeme) → word t.class ≡ o → option_map {U = (Lexeme × W) × List Lexeme} (λ w. ((t, w), ts)) o ≡ None → look (t ∷ more) ≡ None
  still (Some w) t ts more is e = absurd (no_none ((t, w), ts) e)
  still None t ts more is e = same t more ∙ ap (λ (o : Option W). option_map {U = (Lexeme × W) × List Lexeme} (λ w. ((t, w), more)) o) is

  over : (ts more : List Lexeme) → SameHead ts more → look ts ≡ None → look more ≡ None
  over [] more h e = ap look h ∙ empty
  over (t ∷ ts) more h e = ap look h.1 ∙ still (word t.class) t ts h.0 refl (sym (same t ts) ∙ e)

  word_look : StableLook (λ (x : Lexeme × W). None) look
  word_look = record { found = looks; passes = over }

pub owner_look : StableLook (λ (x : Lexeme × OwnerWord). None) owner_at
unfolding owner_at place_of
owner_look =
    word_look owner_word (λ t w is. not_end_of (keys owner_table) (record { checked = refl }) t (lookup_some owner_table t.class w (sym (in_owners t.class) ∙ is))) owner_at refl (λ (t : Lexeme) (ts : List Lexeme). refl)

pub role_look : StableLook (λ (x : Lexeme × Role). None) role_at
unfolding role_at place_of
role_look =
    word_look role_word (λ t w is. not_end_of (keys role_table) (record { checked = refl }) t (lookup_some role_table t.class w (sym (in_roles t.class) ∙ is))) role_at refl (λ (t : Lexeme) (ts : List Lexeme). refl)

stable_declaration : Stable declaration
unfolding place_of
stable_declaration =
    stable_same declaration_same
    (stable_if (starts_of_head classes.TypeWord) (stable_after classes.TypeWord (record { checked = refl }) (λ (t : Lexeme). stable_typedecl t.at))
    (stable_if (starts_of_head classes.Define) (stable_after classes.Define (record { checked = refl }) (λ (t : Lexeme). stable_define t.at))
    (stable_if (starts_of_head classes.Predicate) (stable_after classes.Predicate (record { checked = refl }) (λ (t : Lexeme). stable_predicate t.at))
    (stable_if (starts_of_head classes.Pattern) (stable_after classes.Pattern (record { checked = refl }) (λ (t : Lexeme). stable_pattern t.at))
    (stable_if (starts_of_head classes.Monitor) (stable_after classes.Monitor (record { checked = refl }) (λ (t : Lexeme). stable_monitor t.at)) stable_unexpected)))))

uses_declaration : Uses declaration
uses_declaration =
    uses_same declaration_same
    (uses_if (starts classes.TypeWord) (uses_then (uses_token classes.TypeWord) (λ (t : Lexeme). stable_typedecl t.at))
    (uses_if (starts classes.Define) (uses_then (uses_token classes.Define) (λ (t : Lexeme). stable_define t.at))
    (uses_if (starts classes.Predicate) (uses_then (uses_token classes.Predicate) (λ (t : Lexeme). stable_predicate t.at))
    (uses_if (starts classes.Pattern) (uses_then (uses_token classes.Pattern) (λ (t : Lexeme). stable_pattern t.at))
    (uses_if (starts classes.Monitor) (uses_then (uses_token classes.Monitor) (λ (t : Lexeme). stable_monitor t.at)) uses_unexpected)))))

stable_owned : (o : Lexeme × OwnerWord) → Stable (vardecl o.0.at o.1)
stable_owned o = stable_vardecl o.0.at o.1

stable_of_role : (o : Lexeme × Role) → Stable (line o.0.at o.1)
stable_of_role o = stable_line o.0.at o.1

stable_item : Stable item_of
stable_item = stable_same item_same (stable_look owner_look stable_owned (stable_look role_look stable_of_role stable_declaration))

uses_item : Uses item_of
uses_item = uses_same item_same (uses_look owner_look stable_owned (uses_look role_look stable_of_role uses_declaration))

pub stable_item_after : (all : List ItemData) → Stable (item_after all)
unfolding item_after
stable_item_after all = stable_then stable_item (λ (i : ItemData). stable_gives (all ++ i ∷ []))

pub uses_item_after : (all : List ItemData) → Uses (item_after all)
unfolding item_after
uses_item_after all = uses_then uses_item (λ (i : ItemData). stable_gives (all ++ i ∷ []))

-- ---- texts

stable_semicolon : (all : List NameData) → Stable (semicolon all)
unfolding semicolon place_of
stable_semicolon all = stable_if (starts_of_head classes.Semicolon) (stable_after classes.Semicolon (record { checked = refl }) (λ (s : Lexeme). stable_gives all)) (stable_gives all)

import_behind : (all : List NameData) (i : Lexeme) → Stable (λ ts. expect classes.Text ts >>= λ t rest. semicolon (all ++ imported i t ∷ []) rest)
unfolding place_of
import_behind all i = stable_after classes.Text (record { checked = refl }) (λ (t : Lexeme). stable_semicolon (all ++ imported i t ∷ []))

pub stable_import_after : (all : List NameData) → Stable (import_after all)
unfolding import_after place_of
stable_import_after all = stable_after classes.Import (record { checked = refl }) (import_behind all)

pub uses_import_after : (all : List NameData) → Uses (import_after all)
unfolding import_after
uses_import_after all = uses_then (uses_token classes.Import) (import_behind all)

-- whether the text goes on, by its first token alone
abbrev pub goes_on : List Lexeme → Bool
goes_on ts = not (starts classes.Finish ts)

-- a text whose first end is taken for its last
abbrev pub to_first_end : Reader TreeData
to_first_end ts =
    all_of (starts classes.Import) import_after [] ts >>= λ imports rest. expect classes.Head rest >>= λ h rest. expect classes.Name rest
    >>= λ m rest. all_of goes_on item_after [] rest >>= λ items rest. Ok (record { header = name_of m; imports = imports; items = items }, rest)

pub stable_to_first_end : Stable to_first_end
unfolding place_of
stable_to_first_end =
    stable_then (stable_steps (starts_of_head classes.Import) uses_import_after stable_import_after []) (λ (imports : List NameData). stable_after classes.Head (record { checked = refl }) (λ (h : Lexeme).
    stable_after classes.Name (record { checked = refl }) (λ (m : Lexeme). stable_then (stable_steps (not_of_head (starts_of_head classes.Finish)) uses_item_after stable_item_after [])
    (λ (items : List ItemData). stable_gives (record { header = name_of m; imports = imports; items = items })))))
