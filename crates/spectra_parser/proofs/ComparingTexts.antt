-- Reading a line, an item or a text: a phrase that an operator follows, and the word `true` in its place.
use Rattle.std.proofs.Common.{◌≡◌, true, false, not, List, [], ◌∷◌, ◌++◌, Some, None, refl, ap}
use Rattle.spec_model.specs.declared.spec.Role.{Role}
use Rattle.spectra_trees.specs.declared.class.Class.TheVariants as classes
use Rattle.spectra_trees.specs.declared.tree.Place.{Place}
use Rattle.spectra_trees.specs.declared.tree.OwnerWord.{OwnerWord}
use Rattle.spectra_trees.specs.Classes.{place_of}
use Rattle.spectra_trees.specs.Data.{NameData, Expression, RegexData, BodyData, ItemData}
use Rattle.spectra_trees.specs.Lexemes.{Lexeme, name_of}
use Rattle.spectra_exprs.specs.Read.{starts, all_of}
use Rattle.spectra_regexes.specs.Regexes.{inside_regex, regex_of}
use Rattle.spectra_parser.specs.Items.{vardecl, body_formula, trigger, use_behind, pattern_use, body_of, Said, labelled, unlabelled, named, said, line, declaration, item_of, item_after, semicolon, imported, import_after}
use Rattle.spectra_exprs.proofs.ClassSets.{among, going_apart}
use Rattle.spectra_exprs.proofs.WholeExpressions.{b_expr, keys}
use Rattle.spectra_exprs.proofs.Stopping.{starts_of_head, not_of_head}
use Rattle.spectra_exprs.proofs.Shapes.{phrase_tokens}
use Rattle.spectra_exprs.proofs.Comparing.{Pair, Tells, Blocks, blocks_none, off_class, blocks_unexpected, blocks_then, blocks_after, blocks_if, blocks_look, blocks_same, blocks_on, tells_gives, tells_same, tells_unexpected, tells_then, tells_after, tells_until, tells_map, tells_wider, tells_if, tells_if_word, word_starts, said_apart, instead_apart, of_none, true_alone}
use Rattle.spectra_exprs.proofs.ComparingSteps.{tells_look, tells_loop, nothing_by, tells_steps}
use Rattle.spectra_exprs.proofs.ComparingExpressions.{tells_arguments}
use Rattle.spectra_regexes.proofs.StoppingRegexes.{stable_inside_regex}
use Rattle.spectra_regexes.proofs.ComparingRegexes.{tells_regex, tells_inside_regex}
use Rattle.spectra_parser.proofs.SoundItems.{n}
use Rattle.spectra_parser.proofs.SoundTexts.{body_at, trigger_at, body_same, owner_at, role_at, declaration_same, item_same}
use Rattle.spectra_parser.proofs.WholeTexts.{owner_table, role_table, finds_owner, finds_role}
use Rattle.spectra_parser.proofs.StoppingTexts.{owner_look, role_look, uses_item_after, uses_import_after, goes_on, to_first_end}
use Rattle.spectra_parser.proofs.ComparingItems.{tells_formula, tells_vardecl, tells_typedecl, tells_define, tells_predicate, tells_pattern, tells_monitor}

-- ---- where no body and no item begins

blocks_body : Blocks true_alone [] body_of
unfolding pattern_use place_of
blocks_body =
    blocks_same body_same
    (blocks_if classes.Ini _ (record { checked = refl }) (blocks_if classes.Alw _ (record { checked = refl }) (blocks_if classes.AlwEv _ (record { checked = refl }) (blocks_if classes.Trig _ (record { checked = refl })
    (blocks_after classes.Name use_behind (record { checked = refl }))))))

blocks_declaration : Blocks true_alone [] declaration
unfolding place_of
blocks_declaration =
    blocks_same declaration_same
    (blocks_if classes.TypeWord _ (record { checked = refl }) (blocks_if classes.Define _ (record { checked = refl }) (blocks_if classes.Predicate _ (record { checked = refl }) (blocks_if classes.Pattern _ (record { checked = refl })
    (blocks_if classes.Monitor _ (record { checked = refl }) blocks_unexpected)))))

no_owner : (t : Lexeme) (ts : List Lexeme) → among true_alone (place_of t.class) ≡ true → owner_at (t ∷ ts) ≡ None
unfolding place_of
no_owner t ts on = finds_owner.passes (t ∷ ts) (going_apart true_alone (keys owner_table) (record { checked = refl }) (t ∷ ts) on)

no_role : (t : Lexeme) (ts : List Lexeme) → among true_alone (place_of t.class) ≡ true → role_at (t ∷ ts) ≡ None
unfolding place_of
no_role t ts on = finds_role.passes (t ∷ ts) (going_apart true_alone (keys role_table) (record { checked = refl }) (t ∷ ts) on)

blocks_item : Blocks true_alone [] item_of
blocks_item =
    blocks_same item_same
    (blocks_look owner_at (λ (o : Lexeme × OwnerWord). vardecl o.0.at o.1) no_owner (blocks_look role_at (λ (o : Lexeme × Role). line o.0.at o.1) no_role blocks_declaration))

blocks_item_after : (all : List ItemData) → Blocks true_alone [] (item_after all)
unfolding item_after
blocks_item_after all = blocks_then [] blocks_item (λ (i : ItemData). blocks_none)

items_go_on : (t : Lexeme) (ts : List Lexeme) → among true_alone (place_of t.class) ≡ true → goes_on (t ∷ ts) ≡ true
unfolding starts place_of
items_go_on t ts on = ap not (off_class true_alone classes.Finish (record { checked = refl }) t on)

begins_no_import : (t : Lexeme) (ts : List Lexeme) → among b_expr (place_of t.class) ≡ true → starts classes.Import (t ∷ ts) ≡ false
unfolding starts place_of
begins_no_import t ts on = off_class b_expr classes.Import (record { checked = refl }) t on

module _ (p : Pair) where
  -- ---- lines

  tells_use : (m : Lexeme) → Tells p [] (use_behind m)
  unfolding use_behind place_of
  tells_use m = tells_after p classes.Open (record { checked = refl }) (λ (o : Lexeme). tells_then p (tells_arguments p n) (λ (es : List Expression). tells_gives p (BodyData.Call (name_of m) es)))

  tells_pattern_use : Tells p [] pattern_use
  unfolding pattern_use place_of
  tells_pattern_use = tells_after p classes.Name (record { checked = refl }) tells_use

  tells_body_at : (body : Expression → BodyData) (t : Lexeme) → Tells p phrase_tokens (body_at body t)
  unfolding body_formula place_of
  tells_body_at body t = tells_map p body (record { checked = refl }) (tells_formula p)

  tells_regexes : Tells p true_alone (regex_of (inside_regex n))
  tells_regexes = tells_regex p (inside_regex n) (stable_inside_regex n) (tells_inside_regex p n)

  tells_trigger : (t : Lexeme) → Tells p true_alone (trigger_at t)
  unfolding trigger place_of
  tells_trigger t =
      tells_until p true_alone classes.Then (record { checked = refl }) (record { checked = refl }) tells_regexes (λ (cause : RegexData) (u : Lexeme).
      tells_map p (λ (effect : RegexData). BodyData.Trigger t.at cause effect) (record { checked = refl }) tells_regexes)

  tells_body : Tells p phrase_tokens body_of
  unfolding place_of
  tells_body =
      tells_same p body_same
      (tells_if p classes.Ini (record { checked = refl }) (tells_after p classes.Ini (record { checked = refl }) (tells_body_at BodyData.Initial))
      (tells_if p classes.Alw (record { checked = refl }) (tells_after p classes.Alw (record { checked = refl }) (tells_body_at BodyData.Always))
      (tells_if p classes.AlwEv (record { checked = refl }) (tells_after p classes.AlwEv (record { checked = refl }) (tells_body_at BodyData.Recurring))
      (tells_if p classes.Trig (record { checked = refl }) (tells_after p classes.Trig (record { checked = refl }) (λ (t : Lexeme). tells_wider p {F = true_alone} (record { checked = refl }) (tells_trigger t)))
      (tells_wider p {F = []} (record { checked = refl }) tells_pattern_use)))))

  tells_labelled : (m : Lexeme) → Tells p phrase_tokens (labelled m)
  unfolding labelled place_of
  tells_labelled m = tells_after p classes.Colon (record { checked = refl }) (λ (c : Lexeme). tells_map p (λ (b : BodyData). (Some (name_of m), b)) (record { checked = refl }) tells_body)

  tells_unlabelled : (m : Lexeme) → Tells p phrase_tokens (unlabelled m)
  unfolding unlabelled place_of
  tells_unlabelled m = tells_then p (tells_use m) (λ (b : BodyData). tells_gives p (None, b))

  tells_named : Tells p phrase_tokens named
  unfolding named place_of
  tells_named = tells_after p classes.Name (record { checked = refl }) (λ (m : Lexeme). tells_if p classes.Colon (record { checked = refl }) (tells_labelled m) (tells_unlabelled m))

  tells_said : Tells p phrase_tokens said
  unfolding said place_of
  tells_said =
      tells_if_word p (starts_of_head classes.Name) (word_starts p classes.Name (record { checked = refl })) (blocks_then [] blocks_body (λ (b : BodyData). blocks_none)) tells_named
      (tells_map p (λ (b : BodyData). (None, b)) (record { checked = refl }) tells_body)

  tells_line : (at : Place) (role : Role) → Tells p [] (line at role)
  unfolding line place_of
  tells_line at role =
      tells_until p phrase_tokens classes.Semicolon (record { checked = refl }) (record { checked = refl }) tells_said (λ (b : Said) (s : Lexeme). tells_gives p (ItemData.Statement (record { at = at; role = role; name = b.0; body = b.1 })))

  -- ---- items

  tells_declaration : Tells p true_alone declaration
  unfolding place_of
  tells_declaration =
      tells_same p declaration_same
      (tells_if p classes.TypeWord (record { checked = refl }) (tells_after p classes.TypeWord (record { checked = refl }) (λ (t : Lexeme). tells_wider p {F = []} (record { checked = refl }) (tells_typedecl p t.at)))
      (tells_if p classes.Define (record { checked = refl }) (tells_after p classes.Define (record { checked = refl }) (λ (t : Lexeme). tells_define p t.at))
      (tells_if p classes.Predicate (record { checked = refl }) (tells_after p classes.Predicate (record { checked = refl }) (λ (t : Lexeme). tells_wider p {F = []} (record { checked = refl }) (tells_predicate p t.at)))
      (tells_if p classes.Pattern (record { checked = refl }) (tells_after p classes.Pattern (record { checked = refl }) (λ (t : Lexeme). tells_wider p {F = []} (record { checked = refl }) (tells_pattern p t.at)))
      (tells_if p classes.Monitor (record { checked = refl }) (tells_after p classes.Monitor (record { checked = refl }) (λ (t : Lexeme). tells_wider p {F = []} (record { checked = refl }) (tells_monitor p t.at))) (tells_unexpected p))))))

  tells_item : Tells p true_alone item_of
  unfolding place_of
  tells_item =
      tells_same p item_same
      (tells_look p owner_look (λ (o : Lexeme × OwnerWord). tells_wider p {F = []} (record { checked = refl }) (tells_vardecl p o.0.at o.1))
      (tells_look p role_look (λ (o : Lexeme × Role). tells_wider p {F = []} (record { checked = refl }) (tells_line o.0.at o.1)) tells_declaration
      (finds_role.passes _ (said_apart p (keys role_table) (record { checked = refl }))) (finds_role.passes _ (instead_apart p (keys role_table) (record { checked = refl }))))
      (finds_owner.passes _ (said_apart p (keys owner_table) (record { checked = refl }))) (finds_owner.passes _ (instead_apart p (keys owner_table) (record { checked = refl }))))

  tells_item_after : (all : List ItemData) → Tells p true_alone (item_after all)
  unfolding item_after place_of
  tells_item_after all = tells_map p (λ (i : ItemData). all ++ i ∷ []) (record { checked = refl }) tells_item

  -- ---- texts

  tells_semicolon : (all : List NameData) → Tells p [] (semicolon all)
  unfolding semicolon place_of
  tells_semicolon all = tells_if p classes.Semicolon (record { checked = refl }) (tells_after p classes.Semicolon (record { checked = refl }) (λ (s : Lexeme). tells_gives p all)) (tells_gives p all)

  tells_import_after : (all : List NameData) → Tells p [] (import_after all)
  unfolding import_after place_of
  tells_import_after all = tells_after p classes.Import (record { checked = refl }) (λ (i : Lexeme). tells_after p classes.Text (record { checked = refl }) (λ (t : Lexeme). tells_semicolon (all ++ imported i t ∷ [])))

  tells_items : Tells p [] (λ ts. all_of goes_on item_after [] ts)
  tells_items =
      tells_loop p {G = true_alone} (not_of_head (starts_of_head classes.Finish)) uses_item_after tells_item_after (λ k a. blocks_on {G = true_alone} {F = []} goes_on items_go_on blocks_item_after k a)
      (nothing_by p goes_on item_after (λ k a. blocks_on {G = true_alone} {F = []} goes_on items_go_on blocks_item_after k a)) []

  pub tells_text : Tells p [] to_first_end
  unfolding place_of
  tells_text =
      tells_then p (tells_steps p [] (starts classes.Import) (starts_of_head classes.Import) (λ t ts on. of_none t on) begins_no_import (record { checked = refl }) uses_import_after tells_import_after [])
      (λ (imports : List NameData). tells_after p classes.Head (record { checked = refl }) (λ (h : Lexeme). tells_after p classes.Name (record { checked = refl }) (λ (m : Lexeme). tells_then p tells_items
      (λ (items : List ItemData). tells_gives p (record { header = name_of m; imports = imports; items = items })))))
