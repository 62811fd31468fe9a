-- What holds of the tree of every text besides its grammar.
use Rattle.std.proofs.Common.{◌≡◌, ◌⊎◌, ℕ, suc, ◌+◌, ◌<◌, ◌≤◌, All, true, false, List, [], ◌∷◌, ◌++◌, length, map, flat_map, Option, Some, None, inl, inr, refl, sym, ap, subst, ◌∙◌, arith, length-append, append-nil}
use Rattle.std.specs.Prelude.{if◌then◌else◌, Bool}
use Rattle.std.specs.List.{list_all}
use Rattle.std.proofs.lemmas.Bool.{and_parts, and_from, false≢true}
use Rattle.std.proofs.lemmas.List.Elements.{All-nil, All-cons, All-push, All-append, All-same, All-map}
use Rattle.std.proofs.lemmas.List.Concat.{flat_map-append}
use Rattle.spec_model.specs.declared.spec.Role.{Role}
use Rattle.spec_model.specs.declared.spec.Role.TheVariants.{Assumption, Guarantee}
use Rattle.spec_model.specs.Names.{IsName}
use Rattle.spectra_lexer.specs.declared.token.Token.{Token as LexedToken}
use Rattle.spectra_lexer.specs.Tokens.{AreTokens}
use Rattle.spectra_trees.specs.declared.class.Class.{Class}
use Rattle.spectra_trees.specs.declared.class.Class.TheVariants as classes
use Rattle.spectra_trees.specs.declared.tree.Place.{Place}
use Rattle.spectra_trees.specs.declared.tree.OwnerWord.{OwnerWord}
use Rattle.spectra_trees.specs.Classes.{same_class, place_of}
use Rattle.spectra_trees.specs.Data.{NameData, TypeData, TypeShape, PartData, PartShape, BodyData, ItemData, TreeData}
use Rattle.spectra_trees.specs.Lexemes.{Lexeme, name_of, lexemes_from, lexemes}
use Rattle.spectra_exprs.specs.Forms.{Grammar, Gives, Token, ◌▸◌, ◌∣◌, Steps, done, one_more}
use Rattle.spectra_exprs.proofs.ClassSets.{Apart}
use Rattle.spectra_exprs.proofs.ShapesOfTokens.{not_both}
use Rattle.spectra_exprs.specs.Expressions.{levels_of_a_text}
use Rattle.spectra_parser.specs.Items.{role_word, imported, Said}
use Rattle.spectra_parser.specs.ItemGrammar.{Names, NameAfter, TypeIn, Owner, RoleOf, VardeclIn, TypedeclIn, DefineIn, ParameterIn, ParameterAfter, ParametersIn, PredicateIn, ShapeIn, OwnIn, LineIn, PitemIn, MitemIn, PitemAfter, MitemAfter, PatternIn, MonitorIn, UseIn, BodyIn, SaidIn, LineOf, ItemIn, ItemAfter, ImportAfter, TextIn, Text}
use Rattle.spectra_parser.specs.Shapes.{part_types, types_in, IsSpelled, IsShapedType, has_choices, has_shaped_sides, is_written_role, is_monitor_part, has_shaped_lines, variable_names, IsShapedItem, IsShaped}
use Rattle.spectra_parser.specs.Texts.{IsText}
use Rattle.spectra_parser.proofs.NamedTokens.{AreNamed, named_parts, Makes, makes_gives, makes_either, makes_steps, makes_then, makes_behind, makes_name}
use Rattle.spectra_parser.proofs.SpelledTokens.{named_tokens}
use Rattle.spectra_parser.proofs.ShapedRegexes.{HasChoices, makes_side}
use Rattle.spectra_parser.proofs.TokenCount.{count}
use Rattle.spectra_parser.proofs.KeptItems.{quantifiers_rise}

-- ---- types

abbrev Shaped : TypeData → Type 0
Shaped t = IsShapedType t.form

-- at least one name, each spelled as one
record SomeNames (all : List NameData) : Type 0 where
  some : 0 < length all
  spelled : All IsSpelled all

one_name : (n : Lexeme) → IsName n.text → SomeNames (name_of n ∷ [])
one_name n is = record { some = omega arith; spelled = All-cons IsSpelled (name_of n) [] is (All-nil IsSpelled) }

more_names : (all : List NameData) (n : Lexeme) → SomeNames all → IsName n.text → SomeNames (all ++ name_of n ∷ [])
more_names all n so_far is = record { some = omega (arith, length-append all (name_of n ∷ [])); spelled = All-push IsSpelled all (name_of n) so_far.spelled is }

makes_names : Makes Names SomeNames
makes_names =
    makes_name SomeNames _ (λ n is. makes_steps SomeNames NameAfter
    (λ all so_far. makes_behind SomeNames _ _ (λ c. makes_name SomeNames _ (λ m by. makes_gives SomeNames (all ++ name_of m ∷ []) (more_names all m so_far by))))
    (name_of n ∷ []) (one_name n is))

module _ (left : ℕ) where
  makes_type : Makes (TypeIn left) Shaped
  makes_type =
      makes_either Shaped _ _ (makes_behind Shaped _ _ (λ t. makes_gives Shaped (record { at = t.at; form = TypeShape.Boolean }) tt))
      (makes_either Shaped _ _
      (makes_behind Shaped _ _ (λ t. makes_behind Shaped _ _ (λ o. makes_behind Shaped _ _ (λ low. makes_behind Shaped _ _ (λ u. makes_behind Shaped _ _ (λ high. makes_behind Shaped _ _
      (λ c. makes_gives Shaped (record { at = t.at; form = TypeShape.Range low high }) tt)))))))
      (makes_either Shaped _ _
      (makes_behind Shaped _ _ (λ t. makes_then SomeNames Shaped _ _ makes_names (λ all are. makes_behind Shaped _ _ (λ c. makes_gives Shaped (record { at = t.at; form = TypeShape.Names all }) (are.some, are.spelled)))))
      (makes_behind Shaped _ _ (λ t. makes_gives Shaped (record { at = t.at; form = TypeShape.Named (name_of t) }) tt))))

  -- ---- declarations

  -- one with one type
  of_one_type : (i : ItemData) (t : TypeData) → types_in i ≡ t ∷ [] → Shaped t → has_shaped_lines i ≡ true → All IsSpelled (variable_names i) → IsShapedItem i
  of_one_type i t same is lines variables = record { types = All-same Shaped _ _ same (All-cons Shaped t [] is (All-nil Shaped)); lines = lines; variables = variables }

  makes_vardecl : (at : Place) (owner : OwnerWord) → Makes (VardeclIn left at owner) IsShapedItem
  makes_vardecl at owner =
      makes_then Shaped IsShapedItem _ _ makes_type (λ d is. makes_behind IsShapedItem _ _ (λ l. makes_name IsShapedItem _ (λ n by. makes_behind IsShapedItem _ _
      (λ s. makes_gives IsShapedItem (ItemData.Variable (record { at = at; owner = owner; domain = d; length = l; name = name_of n }))
      (of_one_type _ d refl is refl (All-cons IsSpelled (name_of n) [] by (All-nil IsSpelled)))))))

  makes_typedecl : (at : Place) → Makes (TypedeclIn left at) IsShapedItem
  makes_typedecl at =
      makes_behind IsShapedItem _ _ (λ n. makes_behind IsShapedItem _ _ (λ e. makes_then Shaped IsShapedItem _ _ makes_type (λ d is. makes_behind IsShapedItem _ _
      (λ s. makes_gives IsShapedItem (ItemData.Alias (record { at = at; name = name_of n; body = d })) (of_one_type _ d refl is refl (All-nil IsSpelled))))))

  makes_define : (at : Place) → Makes (DefineIn left at) IsShapedItem
  makes_define at =
      makes_behind IsShapedItem _ _ (λ d. makes_behind IsShapedItem _ _
      (λ all. makes_gives IsShapedItem (ItemData.Define (record { at = at; bodies = all })) (record { types = All-nil Shaped; lines = refl; variables = All-nil IsSpelled })))

  abbrev ShapedParameter : TypeData × NameData → Type 0
  ShapedParameter a = Shaped a.0

  abbrev ShapedParameters : List (TypeData × NameData) → Type 0
  ShapedParameters as' = All ShapedParameter as'

  makes_parameter : Makes (ParameterIn left) ShapedParameter
  makes_parameter = makes_then Shaped ShapedParameter _ _ makes_type (λ d is. makes_behind ShapedParameter _ _ (λ n. makes_gives ShapedParameter (d, name_of n) is))

  makes_parameters : Makes (ParametersIn left) ShapedParameters
  makes_parameters =
      makes_either ShapedParameters _ _ (makes_behind ShapedParameters _ _ (λ c. makes_gives ShapedParameters [] (All-nil ShapedParameter)))
      (makes_then ShapedParameter ShapedParameters _ _ makes_parameter (λ p is. makes_then ShapedParameters ShapedParameters _ _
      (makes_steps ShapedParameters (ParameterAfter left)
      (λ all so_far. makes_behind ShapedParameters _ _ (λ c. makes_then ShapedParameter ShapedParameters _ _ makes_parameter (λ q by. makes_gives ShapedParameters (all ++ q ∷ []) (All-push ShapedParameter all q so_far by))))
      (p ∷ []) (All-cons ShapedParameter p [] is (All-nil ShapedParameter)))
      (λ all each. makes_behind ShapedParameters _ _ (λ c. makes_gives ShapedParameters all each))))

  makes_predicate : (at : Place) → Makes (PredicateIn left at) IsShapedItem
  makes_predicate at =
      makes_behind IsShapedItem _ _ (λ n. makes_behind IsShapedItem _ _ (λ o. makes_then ShapedParameters IsShapedItem _ _ makes_parameters (λ ps each. makes_behind IsShapedItem _ _ (λ c.
      makes_behind IsShapedItem _ _ (λ e. makes_behind IsShapedItem _ _ (λ s. makes_gives IsShapedItem (ItemData.Predicate (record { at = at; name = name_of n; params = ps; body = e }))
      (record { types = All-map Shaped (λ (a : TypeData × NameData). a.0) ps each; lines = refl; variables = All-nil IsSpelled })))))))

  -- ---- patterns

  abbrev ShapedPart : PartData → Type 0
  ShapedPart p = All Shaped (part_types p)

  abbrev ShapedParts : List PartData → Type 0
  ShapedParts ps = All Shaped (flat_map part_types ps)

  abbrev IsLine : PartShape → Type 0
  IsLine f = (at : Place) → ShapedPart (record { at = at; form = f })

  no_types : (f : PartShape) → ((at : Place) → part_types (record { at = at; form = f }) ≡ []) → IsLine f
  no_types f none = λ at. All-same Shaped _ _ (none at) (All-nil Shaped)

  makes_shape : Makes (ShapeIn left) IsLine
  makes_shape =
      makes_either IsLine _ _ (makes_behind IsLine _ _ (λ t. makes_behind IsLine _ _ (λ e. makes_gives IsLine (PartShape.Initial e) (no_types (PartShape.Initial e) (λ at. refl)))))
      (makes_either IsLine _ _ (makes_behind IsLine _ _ (λ t. makes_behind IsLine _ _ (λ e. makes_gives IsLine (PartShape.Always e) (no_types (PartShape.Always e) (λ at. refl)))))
      (makes_behind IsLine _ _ (λ t. makes_behind IsLine _ _ (λ e. makes_gives IsLine (PartShape.Recurring e) (no_types (PartShape.Recurring e) (λ at. refl))))))

  makes_own : Makes (OwnIn left) ShapedPart
  makes_own =
      makes_behind ShapedPart _ _ (λ t. makes_then Shaped ShapedPart _ _ makes_type (λ d is. makes_behind ShapedPart _ _ (λ n. makes_behind ShapedPart _ _
      (λ s. makes_gives ShapedPart (record { at = t.at; form = PartShape.Own d (name_of n) }) (All-cons Shaped d [] is (All-nil Shaped))))))

  makes_line : Makes (LineIn left) ShapedPart
  makes_line used p named line = makes_then IsLine ShapedPart _ _ makes_shape (λ f is. makes_behind ShapedPart _ _ (λ s. makes_gives ShapedPart (record { at = line.token.at; form = f }) (is line.token.at))) used p named line.line

  makes_pitem : Makes (PitemIn left) ShapedPart
  makes_pitem = makes_either ShapedPart _ _ makes_own makes_line

  one_part_more : (ps : List PartData) (p : PartData) → ShapedParts ps → ShapedPart p → ShapedParts (ps ++ p ∷ [])
  one_part_more ps p so_far is =
      All-same Shaped _ _ (flat_map-append part_types ps (p ∷ [])) (All-append Shaped (flat_map part_types ps) (part_types p ++ []) so_far (All-append Shaped (part_types p) [] is (All-nil Shaped)))

  makes_pattern : (at : Place) → Makes (PatternIn left at) IsShapedItem
  makes_pattern at =
      makes_behind IsShapedItem _ _ (λ n. makes_behind IsShapedItem _ _ (λ o. makes_behind IsShapedItem _ _ (λ ps. makes_behind IsShapedItem _ _ (λ b. makes_then ShapedParts IsShapedItem _ _
      (makes_then ShapedParts ShapedParts _ _ (makes_steps ShapedParts (PitemAfter left)
      (λ all so_far. makes_then ShapedPart ShapedParts _ _ makes_pitem (λ p is. makes_gives ShapedParts (all ++ p ∷ []) (one_part_more all p so_far is)))
      [] (All-nil Shaped))
      (λ parts each. makes_behind ShapedParts _ _ (λ c. makes_gives ShapedParts parts each)))
      (λ parts each. makes_gives IsShapedItem (ItemData.Pattern (record { at = at; name = name_of n; params = ps; parts = parts })) (record { types = each; lines = refl; variables = All-nil IsSpelled }))))))

  -- ---- monitors

  abbrev IsMonitorPart : PartData → Type 0
  IsMonitorPart p = is_monitor_part p.form ≡ true

  abbrev AreMonitorParts : List PartData → Type 0
  AreMonitorParts ps = list_all (λ (p : PartData). is_monitor_part p.form) ps ≡ true

  -- the first of these tokens is of a class
  first_is : {A : Type 0} (class : Class) (Q : Lexeme → Grammar A) (t : Lexeme) (more used front back : List Lexeme) (a : A) → used ≡ t ∷ more → used ≡ front ++ back → (Token class ▸ Q) front a →
      same_class t.class class ≡ true
  first_is class Q t more used front back a first parts both =
      let behind : front ≡ both.value ∷ both.back = both.parts ∙ ap (λ (ts : List Lexeme). ts ++ both.back) both.before.alone in
      let same : t ∷ more ≡ both.value ∷ (both.back ++ back) = sym first ∙ (parts ∙ ap (λ (ts : List Lexeme). ts ++ back) behind) in
      let one : t ≡ both.value = cc in
      subst (λ (u : Lexeme). same_class u.class class ≡ true) (sym one) both.before.is

  never : {P : Type 0} (b : Bool) → b ≡ false → b ≡ true → P
  never b out is = absurd (false≢true (sym out ∙ is))

  -- a token that begins a line of a monitor begins nothing else
  begins_no : (t : Lexeme) → (same_class t.class classes.Ini ≡ true) ⊎ (same_class t.class classes.Alw ≡ true) → (same_class t.class classes.Var ≡ false) × (same_class t.class classes.AlwEv ≡ false)
  unfolding place_of
  begins_no t (inl is) = (not_both classes.Ini classes.Var (record { checked = refl }) t is, not_both classes.Ini classes.AlwEv (record { checked = refl }) t is)
  begins_no t (inr is) = (not_both classes.Alw classes.Var (record { checked = refl }) t is, not_both classes.Alw classes.AlwEv (record { checked = refl }) t is)

  shape_in_monitor : (t : Lexeme) (more used front back : List Lexeme) (f : PartShape) → used ≡ t ∷ more → used ≡ front ++ back → same_class t.class classes.AlwEv ≡ false → ShapeIn left front f → is_monitor_part f ≡ true
  shape_in_monitor t more used front back f first parts out (inl p) = ap is_monitor_part p.after.after.same
  shape_in_monitor t more used front back f first parts out (inr (inl p)) = ap is_monitor_part p.after.after.same
  shape_in_monitor t more used front back f first parts out (inr (inr p)) = never _ out (first_is classes.AlwEv _ t more used front back f first parts p)

  part_in_monitor : (t : Lexeme) (more used : List Lexeme) (p : PartData) → used ≡ t ∷ more → (same_class t.class classes.Ini ≡ true) ⊎ (same_class t.class classes.Alw ≡ true) → PitemIn left used p → IsMonitorPart p
  part_in_monitor t more used p first word (inl own) = never _ (begins_no t word).0 (first_is classes.Var _ t more used used [] p first (sym (append-nil used)) own)
  part_in_monitor t more used p first word (inr line) =
      let is = shape_in_monitor t more used line.line.front line.line.back line.line.value first line.line.parts (begins_no t word).1 line.line.before in
      ap (λ (q : PartData). is_monitor_part q.form) line.line.after.after.same ∙ is

  makes_mitem : Makes (MitemIn left) IsMonitorPart
  makes_mitem used p named m = part_in_monitor m.token m.more used p m.first m.word m.part

  one_mitem_more : (ps : List PartData) (p : PartData) → AreMonitorParts ps → IsMonitorPart p → AreMonitorParts (ps ++ p ∷ [])
  one_mitem_more [] p so_far is = and_from (is_monitor_part p.form) true is refl
  one_mitem_more (q ∷ ps) p so_far is = let parts = and_parts (is_monitor_part q.form) _ so_far in and_from (is_monitor_part q.form) _ parts.0 (one_mitem_more ps p parts.1 is)

  makes_monitor : (at : Place) → Makes (MonitorIn left at) IsShapedItem
  makes_monitor at =
      makes_then Shaped IsShapedItem _ _ makes_type (λ d is. makes_name IsShapedItem _ (λ n by. makes_behind IsShapedItem _ _ (λ b. makes_then AreMonitorParts IsShapedItem _ _
      (makes_then AreMonitorParts AreMonitorParts _ _ (makes_steps AreMonitorParts (MitemAfter left)
      (λ all so_far. makes_then IsMonitorPart AreMonitorParts _ _ makes_mitem (λ p part. makes_gives AreMonitorParts (all ++ p ∷ []) (one_mitem_more all p so_far part)))
      [] refl)
      (λ parts each. makes_behind AreMonitorParts _ _ (λ c. makes_gives AreMonitorParts parts each)))
      (λ parts each. makes_gives IsShapedItem (ItemData.Monitor (record { at = at; domain = d; name = name_of n; parts = parts })) (of_one_type _ d refl is each (All-cons IsSpelled (name_of n) [] by (All-nil IsSpelled)))))))

  -- ---- lines

  abbrev ShapedBody : BodyData → Type 0
  ShapedBody b = has_shaped_sides b ≡ true

  makes_use : (n : Lexeme) → Makes (UseIn left n) ShapedBody
  makes_use n = makes_behind ShapedBody _ _ (λ o. makes_behind ShapedBody _ _ (λ es. makes_gives ShapedBody (BodyData.Call (name_of n) es) refl))

  makes_body : Makes (BodyIn left) ShapedBody
  makes_body =
      makes_either ShapedBody _ _ (makes_behind ShapedBody _ _ (λ t. makes_behind ShapedBody _ _ (λ e. makes_gives ShapedBody (BodyData.Initial e) refl)))
      (makes_either ShapedBody _ _ (makes_behind ShapedBody _ _ (λ t. makes_behind ShapedBody _ _ (λ e. makes_gives ShapedBody (BodyData.Always e) refl)))
      (makes_either ShapedBody _ _ (makes_behind ShapedBody _ _ (λ t. makes_behind ShapedBody _ _ (λ e. makes_gives ShapedBody (BodyData.Recurring e) refl)))
      (makes_either ShapedBody _ _
      (makes_behind ShapedBody _ _ (λ t. makes_then HasChoices ShapedBody _ _ (makes_side left) (λ cause one. makes_behind ShapedBody _ _ (λ u. makes_then HasChoices ShapedBody _ _ (makes_side left)
      (λ effect other. makes_gives ShapedBody (BodyData.Trigger t.at cause effect) (and_from (has_choices cause) _ one other))))))
      (makes_behind ShapedBody _ _ makes_use))))

  abbrev ShapedSaid : Said → Type 0
  ShapedSaid b = ShapedBody b.1

  makes_said : Makes (SaidIn left) ShapedSaid
  makes_said =
      makes_either ShapedSaid _ _ (makes_behind ShapedSaid _ _ (λ n. makes_either ShapedSaid _ _
      (makes_behind ShapedSaid _ _ (λ c. makes_then ShapedBody ShapedSaid _ _ makes_body (λ b is. makes_gives ShapedSaid (Some (name_of n), b) is)))
      (makes_then ShapedBody ShapedSaid _ _ (makes_use n) (λ b is. makes_gives ShapedSaid (None, b) is))))
      (makes_then ShapedBody ShapedSaid _ _ makes_body (λ b is. makes_gives ShapedSaid (None, b) is))

  makes_statement : (at : Place) (role : Role) → is_written_role role ≡ true → Makes (LineOf left at role) IsShapedItem
  makes_statement at role written =
      makes_then ShapedSaid IsShapedItem _ _ makes_said (λ b is. makes_behind IsShapedItem _ _ (λ s. makes_gives IsShapedItem (ItemData.Statement (record { at = at; role = role; name = b.0; body = b.1 }))
      (record { types = All-nil Shaped; lines = and_from (is_written_role role) _ written is; variables = All-nil IsSpelled })))

  -- ---- items

  written : (c : Class) (role : Role) → role_word c ≡ Some role → is_written_role role ≡ true
  unfolding role_word
  written c role word = by_word (same_class c classes.Asm) (same_class c classes.Gar) word
    where
      by_word : (a g : Bool) → (if a then Some Assumption else if g then Some Guarantee else None) ≡ Some role → is_written_role role ≡ true
      by_word true g e = let same : Assumption ≡ role = cc in subst (λ r. is_written_role r ≡ true) same refl
      by_word false true e = let same : Guarantee ≡ role = cc in subst (λ r. is_written_role r ≡ true) same refl
      by_word false false e = absurd (cc)

  makes_line_item : Makes (RoleOf ▸ λ o. LineOf left o.0.at o.1) IsShapedItem
  makes_line_item used i named both =
      let parts = named_parts both.front both.back (subst AreNamed both.parts named) in
      makes_statement both.value.0.at both.value.1 (written both.value.0.class both.value.1 both.before.word) both.back i parts.1 both.after

  makes_item : Makes (ItemIn left) IsShapedItem
  makes_item =
      makes_either IsShapedItem _ _ (makes_behind IsShapedItem _ _ (λ (o : Lexeme × OwnerWord). makes_vardecl o.0.at o.1))
      (makes_either IsShapedItem _ _ makes_line_item
      (makes_either IsShapedItem _ _ (makes_behind IsShapedItem _ _ (λ t. makes_typedecl t.at))
      (makes_either IsShapedItem _ _ (makes_behind IsShapedItem _ _ (λ t. makes_define t.at))
      (makes_either IsShapedItem _ _ (makes_behind IsShapedItem _ _ (λ t. makes_predicate t.at))
      (makes_either IsShapedItem _ _ (makes_behind IsShapedItem _ _ (λ t. makes_pattern t.at))
      (makes_behind IsShapedItem _ _ (λ t. makes_monitor t.at)))))))

  abbrev AreShaped : List ItemData → Type 0
  AreShaped is = All IsShapedItem is

  makes_items : Makes (Steps (ItemAfter left) []) AreShaped
  makes_items =
      makes_steps AreShaped (ItemAfter left) (λ all so_far. makes_then IsShapedItem AreShaped _ _ makes_item (λ i is. makes_gives AreShaped (all ++ i ∷ []) (All-push IsShapedItem all i so_far is)))
      [] (All-nil IsShapedItem)

  -- ---- texts

  abbrev HasShapedItems : TreeData → Type 0
  HasShapedItems tree = AreShaped tree.items

  makes_text : Makes (TextIn left) HasShapedItems
  makes_text =
      makes_behind HasShapedItems _ _ (λ imports. makes_behind HasShapedItems _ _ (λ h. makes_behind HasShapedItems _ _ (λ n. makes_then AreShaped HasShapedItems _ _ makes_items
      (λ items are. makes_gives HasShapedItems (record { header = name_of n; imports = imports; items = items }) are))))

-- ---- imports

pushed : (all : List NameData) (i t : Lexeme) (used : List Lexeme) (more : List NameData) → ((Token classes.Semicolon ▸ λ s. Gives (all ++ imported i t ∷ [])) ∣ Gives (all ++ imported i t ∷ [])) used more → length more ≡ length all + 1
pushed all i t used more (inl q) = ap length q.after.same ∙ length-append all (imported i t ∷ [])
pushed all i t used more (inr q) = ap length q.same ∙ length-append all (imported i t ∷ [])

-- each import takes a token at least
one_import : (all : List NameData) (used : List Lexeme) (more : List NameData) → ImportAfter all used more → length more ≤ length all + length used
one_import all used more p =
    omega (arith, pushed all p.value p.after.value p.after.back more p.after.after, ap length (p.parts ∙ ap (λ (ts : List Lexeme). ts ++ p.back) p.before.alone))

several_imports : (all : List NameData) (used : List Lexeme) (more : List NameData) → Steps ImportAfter all used more → length more ≤ length all + length used
several_imports all used more (done _) = omega arith
several_imports all used more (one_more _ front b back _ first rest) = omega (arith, one_import all front b first, several_imports b back more rest, length-append front back)

tokens_and_lexemes : (text : List ℕ) (number : ℕ) (tokens : List LexedToken) → length (lexemes_from text number tokens) ≡ length tokens
tokens_and_lexemes text number [] = refl
tokens_and_lexemes text number (t ∷ tokens) = ap suc (tokens_and_lexemes text (number + 1) tokens)

fewer_than_tokens : (left : ℕ) (ts : List Lexeme) (tree : TreeData) → Text left ts tree → length tree.imports + 1 ≤ length ts
fewer_than_tokens left ts tree text =
    let d = text.derives in
    let same : length tree.imports ≡ length d.value = ap (λ (t : TreeData). length t.imports) d.after.after.after.after.same in
    omega (arith, same, several_imports [] d.front d.value d.before, ap length d.parts, length-append d.front d.back, ap length text.whole, length-append text.used (text.end ∷ []))

pub shaped_text : (text : List ℕ) (tokens : List LexedToken) (tree : TreeData) → AreTokens text tokens → IsText text tokens tree → IsShaped tree
shaped_text text tokens tree lexed is =
    let named = (named_parts is.used (is.end ∷ []) (subst AreNamed is.whole (named_tokens text tokens lexed))).0 in
    record {
      items = makes_text levels_of_a_text is.used tree named is.derives;
      few_imports = omega (arith, fewer_than_tokens levels_of_a_text (lexemes text tokens) tree is, tokens_and_lexemes text 0 tokens, count text tokens lexed, lexed.short);
      quantified = quantifiers_rise text tokens tree lexed is;
    }
