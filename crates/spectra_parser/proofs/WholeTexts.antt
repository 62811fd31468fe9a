-- What is a line, an item or a text of the grammar is read.
use Rattle.std.proofs.Common.{◌≡◌, ℕ, ◌<◌, Bool, true, false, ◌||◌, nat_eq, append_assoc, append-nil, List, [], ◌∷◌, ◌++◌, Some, None, Ok, inl, inr, refl, sym, ap, ◌∙◌}
use Rattle.spec_model.specs.declared.spec.Role.{Role}
use Rattle.spectra_trees.specs.declared.class.Class.{Class}
use Rattle.spectra_trees.specs.declared.class.Class.TheVariants as classes
use Rattle.spectra_trees.specs.declared.tree.Place.{Place}
use Rattle.spectra_trees.specs.declared.tree.OwnerWord.{OwnerWord}
use Rattle.spectra_trees.specs.declared.tree.OwnerWord.TheVariants as owners
use Rattle.spec_model.specs.declared.spec.Role.TheVariants.{Assumption, Guarantee}
use Rattle.spectra_trees.specs.Classes.{place_of, same_class}
use Rattle.spectra_trees.specs.Data.{NameData, Expression, RegexData, BodyData, ItemData, TreeData}
use Rattle.spectra_trees.specs.Lexemes.{Lexeme, name_of}
use Rattle.spectra_exprs.specs.Read.{◌>>=◌, unexpected, starts, all_of}
use Rattle.spectra_exprs.specs.Expressions.{inside}
use Rattle.spectra_regexes.specs.Regexes.{inside_regex}
use Rattle.spectra_parser.specs.Items.{body_formula, trigger, use_behind, pattern_use, body_of, Said, labelled, unlabelled, named, said, line, owner_word, role_word, declaration, item_of, item_after, at_end, before_end, semicolon, imported, import_after}
use Rattle.spectra_exprs.specs.Forms.{Gives, Token, ◌▸◌, ◌∣◌, Steps}
use Rattle.spectra_exprs.specs.Grammar.{ExprOf, Levels}
use Rattle.spectra_regexes.specs.RegexGrammar.{RegexOf, RegexLevels}
use Rattle.spectra_parser.specs.ItemGrammar.{Owner, RoleOf, TypedeclIn, DefineIn, PredicateIn, PatternIn, MonitorIn, UseIn, BodyIn, SaidIn, LineOf, ItemIn, ItemAfter, ImportAfter}
use Rattle.spectra_parser.proofs.SoundItems.{n}
use Rattle.spectra_parser.proofs.SoundTexts.{body_at, trigger_at, body_same, owner_at, role_at, declaration_same, item_same}
use Rattle.spectra_exprs.proofs.ClassSets.{going, starts_going}
use Rattle.spectra_exprs.proofs.Completeness.{Reaches, reaches_then, Whole, Begins, whole_gives, whole_calm, whole_same, whole_narrower, begins_token, begins_then, begins_wider, begins_or, follows_begins, follows_gives, follows_or, whole_choice, whole_only, Finds, whole_look, whole_steps, begins_of, whole_after, whole_until, whole_map, steps_at}
use Rattle.spectra_exprs.proofs.WholeExpressions.{c_expr, keys, lookup, lookup_some, lookup_none}
use Rattle.spectra_exprs.proofs.WholeLevels.{whole_inside, whole_arguments}
use Rattle.spectra_regexes.proofs.WholeRegexes.{c_regex, whole_regex, whole_inside_regex}
use Rattle.spectra_parser.proofs.WholeItems.{whole_formula}
use Rattle.spectra_exprs.proofs.ClassSets.{going_apart}
use Rattle.spectra_parser.proofs.WholeDeclarations.{end_name, whole_vardecl, whole_typedecl, whole_define, whole_predicate, whole_pattern, whole_monitor}

-- ---- lines

abbrev c_body : List Class
c_body = c_regex ++ c_expr

abbrev pub owner_table : List (Class × OwnerWord)
owner_table = (classes.Env, owners.Env) ∷ (classes.Sys, owners.Sys) ∷ (classes.Aux, owners.Aux) ∷ []

abbrev pub role_table : List (Class × Role)
role_table = (classes.Asm, Assumption) ∷ (classes.Gar, Guarantee) ∷ []

pub in_owners : (c : Class) → owner_word c ≡ lookup owner_table c
unfolding owner_word same_class
in_owners c = refl

pub in_roles : (c : Class) → role_word c ≡ lookup role_table c
unfolding role_word same_class
in_roles c = refl

pub finds_owner : Finds (keys owner_table) Owner owner_at
unfolding owner_at
finds_owner = record { finds = λ used x rest p. at used x rest p.alone p.word; passes = over }
  where
    at : (used : List Lexeme) (x : Lexeme × OwnerWord) (rest : List Lexeme) → used ≡ x.0 ∷ [] → owner_word x.0.class ≡ Some x.1 → owner_at (used ++ rest) ≡ Some (x, rest)
    at used x rest alone word = rw (alone, word) refl

    over : (ts : List Lexeme) → going (keys owner_table) ts ≡ false → owner_at ts ≡ None
    over [] e = refl
    over (t ∷ ts) e = let none : owner_word t.class ≡ None = in_owners t.class ∙ lookup_none owner_table t.class e in rw none refl

pub finds_role : Finds (keys role_table) RoleOf role_at
unfolding role_at
finds_role = record { finds = λ used x rest p. at used x rest p.alone p.word; passes = over }
  where
    at : (used : List Lexeme) (x : Lexeme × Role) (rest : List Lexeme) → used ≡ x.0 ∷ [] → role_word x.0.class ≡ Some x.1 → role_at (used ++ rest) ≡ Some (x, rest)
    at used x rest alone word = rw (alone, word) refl

    over : (ts : List Lexeme) → going (keys role_table) ts ≡ false → role_at ts ≡ None
    over [] e = refl
    over (t ∷ ts) e = let none : role_word t.class ≡ None = in_roles t.class ∙ lookup_none role_table t.class e in rw none refl

begins_owner : Begins (keys owner_table) Owner
begins_owner = record { first = λ used x rest p. at used x rest p.alone p.word }
  where
    at : (used : List Lexeme) (x : Lexeme × OwnerWord) (rest : List Lexeme) → used ≡ x.0 ∷ [] → owner_word x.0.class ≡ Some x.1 → going (keys owner_table) (used ++ rest) ≡ true
    at used x rest alone word = rw alone (lookup_some owner_table x.0.class x.1 (sym (in_owners x.0.class) ∙ word))

begins_role : Begins (keys role_table) RoleOf
begins_role = record { first = λ used x rest p. at used x rest p.alone p.word }
  where
    at : (used : List Lexeme) (x : Lexeme × Role) (rest : List Lexeme) → used ≡ x.0 ∷ [] → role_word x.0.class ≡ Some x.1 → going (keys role_table) (used ++ rest) ≡ true
    at used x rest alone word = rw alone (lookup_some role_table x.0.class x.1 (sym (in_roles x.0.class) ∙ word))

abbrev b_declaration : List Class
b_declaration = classes.TypeWord ∷ classes.Define ∷ classes.Predicate ∷ classes.Pattern ∷ classes.Monitor ∷ []

abbrev pub b_item : List Class
b_item = keys owner_table ++ keys role_table ++ b_declaration

whole_semicolon : {E : Type 0} → (all : List NameData) → Whole E (classes.Semicolon ∷ []) ((Token classes.Semicolon ▸ λ s. Gives all) ∣ Gives all) (semicolon all)
unfolding semicolon place_of
whole_semicolon all = whole_choice classes.Semicolon (begins_then (begins_token classes.Semicolon)) (follows_gives all (record { checked = refl })) (whole_after classes.Semicolon (λ (s : Lexeme). whole_gives (classes.Semicolon ∷ []) all)) (whole_gives (classes.Semicolon ∷ []) all)

whole_import_after : {E : Type 0} → (all : List NameData) → Whole E (classes.Semicolon ∷ []) (ImportAfter all) (import_after all)
unfolding import_after
whole_import_after all = whole_after classes.Import (λ (i : Lexeme). whole_after classes.Text (λ (t : Lexeme). whole_semicolon (all ++ imported i t ∷ [])))

begins_import_after : (all : List NameData) → Begins (classes.Import ∷ []) (ImportAfter all)
begins_import_after all = begins_then (begins_token classes.Import)

abbrev pub c_imports : List Class
c_imports = classes.Import ∷ classes.Semicolon ∷ []

pub whole_imports : {E : Type 0} → Whole E c_imports (Steps ImportAfter []) (λ ts. all_of (starts classes.Import) import_after [] ts)
unfolding place_of
whole_imports = whole_steps (classes.Import ∷ []) (starts classes.Import) (starts_going classes.Import) begins_import_after (record { checked = refl }) (record { checked = refl }) (record { checked = refl }) whole_import_after []

pub item_on : (ts : List Lexeme) → going b_item ts ≡ true → before_end ts ≡ true
unfolding before_end at_end same_class place_of
item_on [] on = absurd (cc)
item_on (t ∷ []) on = let off : going (classes.Finish ∷ []) (t ∷ []) ≡ false = going_apart b_item (classes.Finish ∷ []) (record { checked = refl }) (t ∷ []) on in rw (sym (last_of (nat_eq (place_of t.class) (place_of classes.Finish))) ∙ off) refl
  where
    last_of : (a : Bool) → a || false ≡ a
    last_of true = refl
    last_of false = refl
item_on (t ∷ u ∷ ts) on = refl

-- the grammar may have more levels than are read
module _ {E : Type 0} (left : ℕ) (deep : n < left → E) where
  whole_use : (m : Lexeme) → Whole E [] (UseIn left m) (use_behind m)
  unfolding use_behind place_of
  whole_use m = whole_after classes.Open (λ (o : Lexeme). whole_map (λ (es : List Expression). BodyData.Call (name_of m) es) (record { checked = refl }) (whole_arguments (Levels left) (inside n) (whole_inside left n deep)))

  whole_body_at : (body : Expression → BodyData) (t : Lexeme) → Whole E c_body (ExprOf (Levels left) ▸ λ e. Gives (body e)) (body_at body t)
  unfolding body_formula place_of
  whole_body_at body t = whole_calm (record { checked = refl }) (whole_map body (record { checked = refl }) (whole_formula left deep))

  whole_trigger : (t : Lexeme) → Whole E c_body (RegexOf (RegexLevels left) ▸ λ cause. Token classes.Then ▸ λ u. RegexOf (RegexLevels left) ▸ λ effect. Gives (BodyData.Trigger t.at cause effect)) (trigger_at t)
  unfolding trigger place_of
  whole_trigger t =
      whole_until classes.Then (record { checked = refl }) (whole_regex (RegexLevels left) (inside_regex n) (whole_inside_regex left n deep)) (λ (cause : RegexData) (u : Lexeme).
      whole_calm (record { checked = refl }) (whole_map (λ (effect : RegexData). BodyData.Trigger t.at cause effect) (record { checked = refl }) (whole_regex (RegexLevels left) (inside_regex n) (whole_inside_regex left n deep))))

  whole_pattern_use : Whole E c_body (Token classes.Name ▸ λ m. UseIn left m) pattern_use
  unfolding pattern_use place_of
  whole_pattern_use = whole_calm (record { checked = refl }) (whole_after classes.Name whole_use)

  whole_body : Whole E c_body (BodyIn left) body_of
  unfolding place_of
  whole_body =
      whole_same body_same
      (whole_choice classes.Ini (begins_then (begins_token classes.Ini))
      (follows_begins (classes.Alw ∷ classes.AlwEv ∷ classes.Trig ∷ classes.Name ∷ []) (record { checked = refl }) (begins_or (begins_of classes.Alw _ (record { checked = refl })) (begins_or (begins_of classes.AlwEv _ (record { checked = refl })) (begins_or (begins_of classes.Trig _ (record { checked = refl })) (begins_of classes.Name _ (record { checked = refl }))))))
      (whole_after classes.Ini (whole_body_at BodyData.Initial))
      (whole_choice classes.Alw (begins_then (begins_token classes.Alw))
      (follows_begins (classes.AlwEv ∷ classes.Trig ∷ classes.Name ∷ []) (record { checked = refl }) (begins_or (begins_of classes.AlwEv _ (record { checked = refl })) (begins_or (begins_of classes.Trig _ (record { checked = refl })) (begins_of classes.Name _ (record { checked = refl })))))
      (whole_after classes.Alw (whole_body_at BodyData.Always))
      (whole_choice classes.AlwEv (begins_then (begins_token classes.AlwEv)) (follows_begins (classes.Trig ∷ classes.Name ∷ []) (record { checked = refl }) (begins_or (begins_of classes.Trig _ (record { checked = refl })) (begins_of classes.Name _ (record { checked = refl }))))
      (whole_after classes.AlwEv (whole_body_at BodyData.Recurring))
      (whole_choice classes.Trig (begins_then (begins_token classes.Trig)) (follows_begins (classes.Name ∷ []) (record { checked = refl }) (begins_then (begins_token classes.Name))) (whole_after classes.Trig whole_trigger) whole_pattern_use))))

  whole_labelled : (m : Lexeme) → Whole E c_body (Token classes.Colon ▸ λ c. BodyIn left ▸ λ b. Gives (Some (name_of m), b)) (labelled m)
  unfolding labelled place_of
  whole_labelled m = whole_after classes.Colon (λ (c : Lexeme). whole_map (λ (b : BodyData). (Some (name_of m), b)) (record { checked = refl }) whole_body)

  whole_unlabelled : (m : Lexeme) → Whole E c_body (UseIn left m ▸ λ b. Gives (None, b)) (unlabelled m)
  unfolding unlabelled place_of
  whole_unlabelled m = whole_calm (record { checked = refl }) (whole_map (λ (b : BodyData). (None, b)) (record { checked = refl }) (whole_use m))

  abbrev Named : List Lexeme → Said → Type 0
  Named = Token classes.Name ▸ λ m. (Token classes.Colon ▸ λ c. BodyIn left ▸ λ b. Gives (Some (name_of m), b)) ∣ (UseIn left m ▸ λ b. Gives (None, b))

  whole_named : Whole E c_body Named named
  unfolding named place_of
  whole_named =
      whole_after classes.Name (λ (m : Lexeme). whole_choice classes.Colon (begins_then (begins_token classes.Colon)) (follows_begins (classes.Open ∷ []) (record { checked = refl }) (begins_then (begins_then (begins_token classes.Open))))
      (whole_labelled m) (whole_unlabelled m))

  -- a body that begins with a word
  abbrev WordBody : List Lexeme → BodyData → Type 0
  WordBody =
      (Token classes.Ini ▸ λ t. ExprOf (Levels left) ▸ λ e. Gives (BodyData.Initial e))
      ∣ (Token classes.Alw ▸ λ t. ExprOf (Levels left) ▸ λ e. Gives (BodyData.Always e))
      ∣ (Token classes.AlwEv ▸ λ t. ExprOf (Levels left) ▸ λ e. Gives (BodyData.Recurring e))
      ∣ (Token classes.Trig ▸ λ t. RegexOf (RegexLevels left) ▸ λ cause. Token classes.Then ▸ λ u. RegexOf (RegexLevels left) ▸ λ effect. Gives (BodyData.Trigger t.at cause effect))

  word_body : (used : List Lexeme) (b : BodyData) → WordBody used b → BodyIn left used b
  word_body used b (inl p) = inl p
  word_body used b (inr (inl p)) = inr (inl p)
  word_body used b (inr (inr (inl p))) = inr (inr (inl p))
  word_body used b (inr (inr (inr p))) = inr (inr (inr (inl p)))

  begins_word_body : Begins (classes.Ini ∷ classes.Alw ∷ classes.AlwEv ∷ classes.Trig ∷ []) WordBody
  unfolding place_of
  begins_word_body = begins_or (begins_of classes.Ini _ (record { checked = refl })) (begins_or (begins_of classes.Alw _ (record { checked = refl })) (begins_or (begins_of classes.AlwEv _ (record { checked = refl })) (begins_of classes.Trig _ (record { checked = refl }))))

  -- a pattern's use without a label is read as what begins with a name
  by_name : (used front : List Lexeme) (b : BodyData) (back : List Lexeme) (x : Said) → used ≡ front ++ back → BodyIn left front b → Gives {A = Said} (None, b) back x → (Named ∣ (WordBody ▸ λ b. Gives (None, b))) used x
  by_name used front b back x parts (inl p) g = inr (record { front = front; value = b; back = back; parts = parts; before = inl p; after = g })
  by_name used front b back x parts (inr (inl p)) g = inr (record { front = front; value = b; back = back; parts = parts; before = inr (inl p); after = g })
  by_name used front b back x parts (inr (inr (inl p))) g = inr (record { front = front; value = b; back = back; parts = parts; before = inr (inr (inl p)); after = g })
  by_name used front b back x parts (inr (inr (inr (inl p)))) g = inr (record { front = front; value = b; back = back; parts = parts; before = inr (inr (inr p)); after = g })
  by_name used front b back x parts (inr (inr (inr (inr t)))) g =
      inl (record {
        front = t.front;
        value = t.value;
        back = t.back ++ back;
        parts = parts ∙ ap (λ (f : List Lexeme). f ++ back) t.parts ∙ append_assoc t.front t.back back;
        before = t.before;
        after = inr (record { front = t.back; value = b; back = back; parts = refl; before = t.after; after = g });
      })

  said_split : (used : List Lexeme) (x : Said) → SaidIn left used x → (Named ∣ (WordBody ▸ λ b. Gives (None, b))) used x
  said_split used x (inl p) = inl p
  said_split used x (inr t) = by_name used t.front t.value t.back x t.parts t.before t.after

  whole_said : Whole E c_body (SaidIn left) said
  unfolding said place_of
  whole_said =
      whole_narrower (Named ∣ (WordBody ▸ λ b. Gives (None, b))) said_split
      (whole_choice classes.Name (begins_then (begins_token classes.Name)) (follows_begins (classes.Ini ∷ classes.Alw ∷ classes.AlwEv ∷ classes.Trig ∷ []) (record { checked = refl }) (begins_then begins_word_body))
      whole_named (whole_map (λ (b : BodyData). (None, b)) (record { checked = refl }) (whole_narrower (BodyIn left) word_body whole_body)))

  whole_line : (at : Place) (role : Role) → Whole E [] (LineOf left at role) (line at role)
  unfolding line place_of
  whole_line at role =
      whole_until classes.Semicolon (record { checked = refl }) whole_said (λ (b : Said) (s : Lexeme). whole_gives [] (ItemData.Statement (record { at = at; role = role; name = b.0; body = b.1 })))

  -- ---- items

  abbrev Declaration : List Lexeme → ItemData → Type 0
  Declaration =
      (Token classes.TypeWord ▸ λ t. TypedeclIn left t.at) ∣ (Token classes.Define ▸ λ t. DefineIn left t.at) ∣ (Token classes.Predicate ▸ λ t. PredicateIn left t.at)
      ∣ (Token classes.Pattern ▸ λ t. PatternIn left t.at) ∣ (Token classes.Monitor ▸ λ t. MonitorIn left t.at)

  begins_declaration : Begins b_declaration Declaration
  unfolding place_of
  begins_declaration =
      begins_or (begins_of classes.TypeWord _ (record { checked = refl })) (begins_or (begins_of classes.Define _ (record { checked = refl })) (begins_or (begins_of classes.Predicate _ (record { checked = refl })) (begins_or (begins_of classes.Pattern _ (record { checked = refl })) (begins_of classes.Monitor _ (record { checked = refl })))))

  whole_declaration : Whole E end_name Declaration declaration
  unfolding place_of
  whole_declaration =
      whole_same declaration_same
      (whole_choice classes.TypeWord (begins_then (begins_token classes.TypeWord))
      (follows_begins (classes.Define ∷ classes.Predicate ∷ classes.Pattern ∷ classes.Monitor ∷ []) (record { checked = refl })
      (begins_or (begins_of classes.Define _ (record { checked = refl })) (begins_or (begins_of classes.Predicate _ (record { checked = refl })) (begins_or (begins_of classes.Pattern _ (record { checked = refl })) (begins_of classes.Monitor _ (record { checked = refl }))))))
      (whole_calm (record { checked = refl }) (whole_after classes.TypeWord (λ (t : Lexeme). whole_typedecl left deep t.at)))
      (whole_choice classes.Define (begins_then (begins_token classes.Define))
      (follows_begins (classes.Predicate ∷ classes.Pattern ∷ classes.Monitor ∷ []) (record { checked = refl }) (begins_or (begins_of classes.Predicate _ (record { checked = refl })) (begins_or (begins_of classes.Pattern _ (record { checked = refl })) (begins_of classes.Monitor _ (record { checked = refl })))))
      (whole_after classes.Define (λ (t : Lexeme). whole_define left deep t.at))
      (whole_choice classes.Predicate (begins_then (begins_token classes.Predicate))
      (follows_begins (classes.Pattern ∷ classes.Monitor ∷ []) (record { checked = refl }) (begins_or (begins_of classes.Pattern _ (record { checked = refl })) (begins_of classes.Monitor _ (record { checked = refl }))))
      (whole_calm (record { checked = refl }) (whole_after classes.Predicate (λ (t : Lexeme). whole_predicate left deep t.at)))
      (whole_choice classes.Pattern (begins_then (begins_token classes.Pattern)) (follows_begins (classes.Monitor ∷ []) (record { checked = refl }) (begins_then (begins_token classes.Monitor)))
      (whole_calm (record { checked = refl }) (whole_after classes.Pattern (λ (t : Lexeme). whole_pattern left deep t.at)))
      (whole_only unexpected classes.Monitor (begins_then (begins_token classes.Monitor)) (whole_calm (record { checked = refl }) (whole_after classes.Monitor (λ (t : Lexeme). whole_monitor left deep t.at))))))))

  pub begins_item : Begins b_item (ItemIn left)
  unfolding place_of
  begins_item = begins_or (begins_wider (record { checked = refl }) (begins_then begins_owner)) (begins_or (begins_wider (record { checked = refl }) (begins_then begins_role)) (begins_wider (record { checked = refl }) begins_declaration))

  whole_item : Whole E end_name (ItemIn left) item_of
  unfolding place_of
  whole_item =
      whole_same item_same
      (whole_look (keys owner_table) finds_owner (follows_or (follows_begins (keys role_table) (record { checked = refl }) (begins_then begins_role)) (follows_begins b_declaration (record { checked = refl }) begins_declaration))
      (λ (o : Lexeme × OwnerWord). whole_calm (record { checked = refl }) (whole_vardecl left deep o.0.at o.1))
      (whole_look (keys role_table) finds_role (follows_begins b_declaration (record { checked = refl }) begins_declaration) (λ (o : Lexeme × Role). whole_calm (record { checked = refl }) (whole_line o.0.at o.1)) whole_declaration))

  whole_item_after : (all : List ItemData) → Whole E end_name (ItemAfter left all) (item_after all)
  unfolding item_after place_of
  whole_item_after all = whole_map (λ (i : ItemData). all ++ i ∷ []) (record { checked = refl }) whole_item

  -- ---- texts

  module _ (end : Lexeme) (finish : same_class end.class classes.Finish ≡ true) where
    at_finish : before_end (end ∷ []) ≡ false
    unfolding before_end at_end
    at_finish = rw finish refl

    quiet_finish : going end_name (end ∷ []) ≡ false
    unfolding same_class place_of
    quiet_finish = going_apart (classes.Finish ∷ []) end_name (record { checked = refl }) (end ∷ []) (last_of (nat_eq (place_of end.class) (place_of classes.Finish)) ∙ finish)
      where
        last_of : (a : Bool) → a || false ≡ a
        last_of true = refl
        last_of false = refl

    items_read : (used : List Lexeme) (items : List ItemData) → Steps (ItemAfter left) [] used items → Reaches E (all_of before_end item_after [] (used ++ end ∷ [])) (items, end ∷ [])
    unfolding place_of
    items_read used items s = steps_at b_item before_end item_on (λ (a : List ItemData). begins_then begins_item) (record { checked = refl }) whole_item_after (end ∷ []) at_finish quiet_finish [] used items s

    pub tail_read : (imports : List NameData) (m : Lexeme) (used : List Lexeme) (tree : TreeData) → (Steps (ItemAfter left) [] ▸ λ items. Gives (record { header = name_of m; imports = imports; items = items })) used tree
        → Reaches E (all_of before_end item_after [] (used ++ end ∷ []) >>= λ items rest. Ok (record { header = name_of m; imports = imports; items = items }, rest)) (tree, end ∷ [])
    tail_read imports m used tree t =
        let whole : used ≡ t.front = t.parts ∙ ap (λ (b : List Lexeme). t.front ++ b) t.after.nothing ∙ append-nil t.front in
        rw whole
        (reaches_then (all_of before_end item_after [] (t.front ++ end ∷ [])) (λ items rest. Ok (record { header = name_of m; imports = imports; items = items }, rest)) t.value (end ∷ []) (tree, end ∷ [])
        (items_read t.front t.value t.before) (Reaches.read (ap (λ (x : TreeData). Ok (x, end ∷ [])) (sym t.after.same))))
