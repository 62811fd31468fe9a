-- The variables of the quantifiers of a text stand in it in their order.
use Rattle.std.proofs.Common.{◌≡◌, ℕ, zero, suc, List, [], ◌∷◌, ◌++◌, flat_map, Some, None, refl, ap, subst, ◌∙◌, append-nil}
use Rattle.std.proofs.lemmas.List.{map-append}
use Rattle.std.proofs.lemmas.Grind.{flat_map-append}
use Rattle.spec_model.specs.declared.spec.Role.{Role}
use Rattle.spectra_lexer.specs.declared.token.Token.{Token as LexedToken}
use Rattle.spectra_lexer.specs.Tokens.{AreTokens}
use Rattle.spectra_trees.specs.declared.tree.Place.{Place}
use Rattle.spectra_trees.specs.declared.tree.OwnerWord.{OwnerWord}
use Rattle.spectra_trees.specs.Data.{NameData, Expression, RegexData, regexes, PartData, PartShape, BodyData, ItemData, TreeData}
use Rattle.spectra_trees.specs.Lexemes.{Lexeme, name_of, lexemes}
use Rattle.spectra_exprs.specs.Expressions.{levels_of_a_text}
use Rattle.spectra_exprs.specs.Forms.{Grammar, Gives, ◌▸◌, Steps}
use Rattle.spectra_exprs.specs.Grammar.{ExprOf, Levels}
use Rattle.spectra_regexes.specs.RegexGrammar.{DeeperRegex, Ratom, Repeated, Post, Follower, Cat, Branch, RegexOf, RegexLevels}
use Rattle.spectra_parser.specs.Items.{Said}
use Rattle.spectra_parser.specs.ItemGrammar.{VardeclIn, TypedeclIn, DefinitionIn, DefinitionAfter, DefineIn, PredicateIn, ShapeIn, OwnIn, LineIn, PitemIn, MitemIn, MitemAfter, PatternIn, MonitorIn, UseIn, BodyIn, SaidIn, LineOf, ItemIn, ItemAfter, TextIn}
use Rattle.spectra_parser.specs.Quantifiers.{AreRising, quantified_in, regex_quantified, each_regex_quantified, definition_quantified, shape_quantified, part_quantified, body_quantified, item_quantified, tree_quantified}
use Rattle.spectra_parser.specs.Texts.{IsText}
use Rattle.spectra_parser.proofs.Kept.{IsPartOf, none_of, itself, of_same, joined, parts_rise, places, Keeps, keeps_gives, keeps_either, keeps_from, keeps_then, keeps_behind, keeps_next, keeps_steps}
use Rattle.spectra_parser.proofs.KeptExpressions.{all_in, keeps_expr, keeps_arguments}
use Rattle.spectra_parser.proofs.RisingTokens.{rising_tokens}

-- one more of several
module _ {A : Type 0} (of : A → List Place) where
  abbrev all_of : List A → List Place
  all_of xs = flat_map of xs

  keeps_more : (P : Grammar A) (xs : List A) → Keeps [] P of → Keeps (all_of xs) (P ▸ λ x. Gives (xs ++ x ∷ [])) all_of
  keeps_more P xs one =
      keeps_next (all_of xs) all_of of P _ one
      (λ x. keeps_gives (all_of xs ++ of x) all_of (xs ++ x ∷ []) (of_same _ _ (flat_map-append of xs (x ∷ []) ∙ ap (λ ps. all_of xs ++ ps) (append-nil (of x)))))

  -- a first one, and then more
  keeps_first : (step : List A → Grammar (List A)) (x : A) → ((xs : List A) → Keeps (all_of xs) (step xs) all_of) → Keeps (of x) (Steps step (x ∷ [])) all_of
  keeps_first step x more = keeps_from (of x) all_of _ (all_of (x ∷ [])) (of_same _ _ (append-nil (of x))) (keeps_steps all_of step more (x ∷ []))

-- ---- regular expressions

abbrev all_regexes : List RegexData → List Place
all_regexes rs = flat_map regex_quantified rs

each_is : (rs : List RegexData) → each_regex_quantified (regexes rs) ≡ all_regexes rs
each_is [] = refl
each_is (r ∷ rs) = ap (λ ps. regex_quantified r ++ ps) (each_is rs)

module _ (d : DeeperRegex) (atom : Keeps [] d.Atom quantified_in) (inner : Keeps [] d.Inner regex_quantified) where
  ratom : Keeps [] (Ratom d) regex_quantified
  ratom =
      keeps_either [] regex_quantified _ _
      (keeps_behind [] regex_quantified _ _ (λ t. keeps_then [] regex_quantified quantified_in _ _ atom (λ e. keeps_behind (quantified_in e) regex_quantified _ _ (λ u. keeps_gives (quantified_in e) regex_quantified (RegexData.Atom e) (itself _)))))
      (keeps_behind [] regex_quantified _ _ (λ t. keeps_then [] regex_quantified regex_quantified _ _ inner (λ x. keeps_behind (regex_quantified x) regex_quantified _ _ (λ u. keeps_gives (regex_quantified x) regex_quantified x (itself _)))))

  post : Keeps [] (Post d) regex_quantified
  post =
      keeps_then [] regex_quantified regex_quantified _ _ ratom
      (λ x. keeps_steps regex_quantified Repeated (λ y. keeps_behind (regex_quantified y) regex_quantified _ _ (λ times. keeps_gives (regex_quantified y) regex_quantified (RegexData.Repeat y times) (itself _))) x)

  two_are : (x y : RegexData) → all_regexes (x ∷ y ∷ []) ≡ regex_quantified x ++ regex_quantified y
  two_are x y = ap (λ ps. regex_quantified x ++ ps) (append-nil (regex_quantified y))

  follower : (all : List RegexData) → Keeps (all_regexes all) (Follower d all) all_regexes
  follower all = keeps_more regex_quantified (Post d) all post

  cat : Keeps [] (Cat d) regex_quantified
  cat =
      keeps_then [] regex_quantified regex_quantified _ _ post (λ x. keeps_either (regex_quantified x) regex_quantified _ _
      (keeps_next (regex_quantified x) regex_quantified regex_quantified _ _ post (λ y. keeps_then (regex_quantified x ++ regex_quantified y) regex_quantified all_regexes _ _
      (keeps_from (regex_quantified x ++ regex_quantified y) all_regexes _ (all_regexes (x ∷ y ∷ [])) (of_same _ _ (two_are x y)) (keeps_steps all_regexes (Follower d) follower (x ∷ y ∷ [])))
      (λ all. keeps_gives (all_regexes all) regex_quantified (RegexData.Cat (regexes all)) (of_same _ _ (each_is all)))))
      (keeps_gives (regex_quantified x) regex_quantified x (itself _)))

  branch : (all : List RegexData) → Keeps (all_regexes all) (Branch d all) all_regexes
  branch all = keeps_behind (all_regexes all) all_regexes _ _ (λ t. keeps_more regex_quantified (Cat d) all cat)

  regex : Keeps [] (RegexOf d) regex_quantified
  regex =
      keeps_then [] regex_quantified regex_quantified _ _ cat (λ x. keeps_either (regex_quantified x) regex_quantified _ _
      (keeps_behind (regex_quantified x) regex_quantified _ _ (λ t. keeps_next (regex_quantified x) regex_quantified regex_quantified _ _ cat (λ y. keeps_then (regex_quantified x ++ regex_quantified y) regex_quantified all_regexes _ _
      (keeps_from (regex_quantified x ++ regex_quantified y) all_regexes _ (all_regexes (x ∷ y ∷ [])) (of_same _ _ (two_are x y)) (keeps_steps all_regexes (Branch d) branch (x ∷ y ∷ [])))
      (λ all. keeps_gives (all_regexes all) regex_quantified (RegexData.Alt (regexes all)) (of_same _ _ (each_is all))))))
      (keeps_gives (regex_quantified x) regex_quantified x (itself _)))

keeps_regex : (left : ℕ) → Keeps [] (RegexOf (RegexLevels left)) regex_quantified
keeps_regex zero = regex (RegexLevels zero) (λ used a none. absurd none) (λ used a none. absurd none)
keeps_regex (suc left) = regex (RegexLevels (suc left)) (keeps_expr left) (keeps_regex left)

-- ---- definitions

module _ (left : ℕ) where
  abbrev expr : Keeps [] (ExprOf (Levels left)) quantified_in
  expr = keeps_expr left

  abbrev in_bodies : List (NameData × Expression) → List Place
  in_bodies ds = flat_map definition_quantified ds

  -- one whose item is made of what has no such places
  nothing_kept : {A : Type 0} (P : Grammar A) (Q : A → Grammar ItemData) → ((a : A) → Keeps [] (Q a) item_quantified) → Keeps [] (P ▸ Q) item_quantified
  nothing_kept P Q rest = keeps_behind [] item_quantified P Q rest

  definition : Keeps [] (DefinitionIn left) definition_quantified
  definition =
      keeps_behind [] definition_quantified _ _ (λ n. keeps_behind [] definition_quantified _ _ (λ b. keeps_then [] definition_quantified quantified_in _ _ expr (λ e. keeps_behind (quantified_in e) definition_quantified _ _
      (λ s. keeps_gives (quantified_in e) definition_quantified (name_of n, e) (itself _)))))

  define : (at : Place) → Keeps [] (DefineIn left at) item_quantified
  define at =
      keeps_then [] item_quantified definition_quantified _ _ definition (λ d. keeps_then (definition_quantified d) item_quantified in_bodies _ _
      (keeps_first definition_quantified (DefinitionAfter left) d (λ all. keeps_more definition_quantified (DefinitionIn left) all definition))
      (λ all. keeps_gives (in_bodies all) item_quantified (ItemData.Define (record { at = at; bodies = all })) (of_same _ _ (append-nil (in_bodies all)))))

  predicate : (at : Place) → Keeps [] (PredicateIn left at) item_quantified
  predicate at =
      nothing_kept _ _ (λ n. nothing_kept _ _ (λ o. nothing_kept _ _ (λ ps. nothing_kept _ _ (λ c. keeps_then [] item_quantified quantified_in _ _ expr (λ e. keeps_behind (quantified_in e) item_quantified _ _
      (λ s. keeps_gives (quantified_in e) item_quantified (ItemData.Predicate (record { at = at; name = name_of n; params = ps; body = e })) (of_same _ _ (append-nil (quantified_in e)))))))))

  -- ---- monitors

  abbrev in_parts : List PartData → List Place
  in_parts ps = flat_map part_quantified ps

  shape : Keeps [] (ShapeIn left) shape_quantified
  shape =
      keeps_either [] shape_quantified _ _ (keeps_behind [] shape_quantified _ _ (λ t. keeps_then [] shape_quantified quantified_in _ _ expr (λ e. keeps_gives (quantified_in e) shape_quantified (PartShape.Initial e) (itself _))))
      (keeps_either [] shape_quantified _ _ (keeps_behind [] shape_quantified _ _ (λ t. keeps_then [] shape_quantified quantified_in _ _ expr (λ e. keeps_gives (quantified_in e) shape_quantified (PartShape.Always e) (itself _))))
      (keeps_behind [] shape_quantified _ _ (λ t. keeps_then [] shape_quantified quantified_in _ _ expr (λ e. keeps_gives (quantified_in e) shape_quantified (PartShape.Recurring e) (itself _)))))

  own : Keeps [] (OwnIn left) part_quantified
  own =
      keeps_behind [] part_quantified _ _ (λ t. keeps_behind [] part_quantified _ _ (λ d. keeps_behind [] part_quantified _ _ (λ n. keeps_behind [] part_quantified _ _
      (λ s. keeps_gives [] part_quantified (record { at = t.at; form = PartShape.Own d (name_of n) }) (none_of [])))))

  line : Keeps [] (LineIn left) part_quantified
  line used p is =
      keeps_then [] part_quantified shape_quantified _ _ shape (λ f. keeps_behind (shape_quantified f) part_quantified _ _ (λ s. keeps_gives (shape_quantified f) part_quantified (record { at = is.token.at; form = f }) (itself _)))
      used p is.line

  pitem : Keeps [] (PitemIn left) part_quantified
  pitem = keeps_either [] part_quantified _ _ own line

  mitem : Keeps [] (MitemIn left) part_quantified
  mitem used p is = pitem used p is.part

  monitor : (at : Place) → Keeps [] (MonitorIn left at) item_quantified
  monitor at =
      nothing_kept _ _ (λ d. nothing_kept _ _ (λ n. nothing_kept _ _ (λ b. keeps_then [] item_quantified in_parts _ _
      (keeps_then [] in_parts in_parts _ _ (keeps_steps in_parts (MitemAfter left) (λ all. keeps_more part_quantified (MitemIn left) all mitem) [])
      (λ parts. keeps_behind (in_parts parts) in_parts _ _ (λ c. keeps_gives (in_parts parts) in_parts parts (itself _))))
      (λ parts. keeps_gives (in_parts parts) item_quantified (ItemData.Monitor (record { at = at; domain = d; name = name_of n; parts = parts })) (itself _)))))

  -- ---- lines

  pattern_use : (n : Lexeme) → Keeps [] (UseIn left n) body_quantified
  pattern_use n = keeps_behind [] body_quantified _ _ (λ o. keeps_then [] body_quantified all_in _ _ (keeps_arguments left) (λ es. keeps_gives (all_in es) body_quantified (BodyData.Call (name_of n) es) (itself _)))

  body : Keeps [] (BodyIn left) body_quantified
  body =
      keeps_either [] body_quantified _ _ (keeps_behind [] body_quantified _ _ (λ t. keeps_then [] body_quantified quantified_in _ _ expr (λ e. keeps_gives (quantified_in e) body_quantified (BodyData.Initial e) (itself _))))
      (keeps_either [] body_quantified _ _ (keeps_behind [] body_quantified _ _ (λ t. keeps_then [] body_quantified quantified_in _ _ expr (λ e. keeps_gives (quantified_in e) body_quantified (BodyData.Always e) (itself _))))
      (keeps_either [] body_quantified _ _ (keeps_behind [] body_quantified _ _ (λ t. keeps_then [] body_quantified quantified_in _ _ expr (λ e. keeps_gives (quantified_in e) body_quantified (BodyData.Recurring e) (itself _))))
      (keeps_either [] body_quantified _ _
      (keeps_behind [] body_quantified _ _ (λ t. keeps_then [] body_quantified regex_quantified _ _ (keeps_regex left) (λ cause. keeps_behind (regex_quantified cause) body_quantified _ _ (λ u.
      keeps_next (regex_quantified cause) body_quantified regex_quantified _ _ (keeps_regex left)
      (λ effect. keeps_gives (regex_quantified cause ++ regex_quantified effect) body_quantified (BodyData.Trigger t.at cause effect) (itself _))))))
      (keeps_behind [] body_quantified _ _ pattern_use))))

  abbrev in_said : Said → List Place
  in_said b = body_quantified b.1

  said : Keeps [] (SaidIn left) in_said
  said =
      keeps_either [] in_said _ _ (keeps_behind [] in_said _ _ (λ n. keeps_either [] in_said _ _
      (keeps_behind [] in_said _ _ (λ c. keeps_then [] in_said body_quantified _ _ body (λ b. keeps_gives (body_quantified b) in_said (Some (name_of n), b) (itself _))))
      (keeps_then [] in_said body_quantified _ _ (pattern_use n) (λ b. keeps_gives (body_quantified b) in_said (None, b) (itself _)))))
      (keeps_then [] in_said body_quantified _ _ body (λ b. keeps_gives (body_quantified b) in_said (None, b) (itself _)))

  statement : (at : Place) (role : Role) → Keeps [] (LineOf left at role) item_quantified
  statement at role =
      keeps_then [] item_quantified in_said _ _ said (λ b. keeps_behind (in_said b) item_quantified _ _
      (λ s. keeps_gives (in_said b) item_quantified (ItemData.Statement (record { at = at; role = role; name = b.0; body = b.1 })) (itself _)))

  -- ---- items

  variable : (at : Place) (owner : OwnerWord) → Keeps [] (VardeclIn left at owner) item_quantified
  variable at owner =
      nothing_kept _ _ (λ d. nothing_kept _ _ (λ l. nothing_kept _ _ (λ n. nothing_kept _ _
      (λ s. keeps_gives [] item_quantified (ItemData.Variable (record { at = at; owner = owner; domain = d; length = l; name = name_of n })) (none_of [])))))

  alias : (at : Place) → Keeps [] (TypedeclIn left at) item_quantified
  alias at =
      nothing_kept _ _ (λ n. nothing_kept _ _ (λ e. nothing_kept _ _ (λ d. nothing_kept _ _ (λ s. keeps_gives [] item_quantified (ItemData.Alias (record { at = at; name = name_of n; body = d })) (none_of [])))))

  pattern_item : (at : Place) → Keeps [] (PatternIn left at) item_quantified
  pattern_item at =
      nothing_kept _ _ (λ n. nothing_kept _ _ (λ o. nothing_kept _ _ (λ ps. nothing_kept _ _ (λ b. nothing_kept _ _
      (λ parts. keeps_gives [] item_quantified (ItemData.Pattern (record { at = at; name = name_of n; params = ps; parts = parts })) (none_of []))))))

  item : Keeps [] (ItemIn left) item_quantified
  item =
      keeps_either [] item_quantified _ _ (nothing_kept _ _ (λ o. variable o.0.at o.1))
      (keeps_either [] item_quantified _ _ (nothing_kept _ _ (λ o. statement o.0.at o.1))
      (keeps_either [] item_quantified _ _ (nothing_kept _ _ (λ t. alias t.at))
      (keeps_either [] item_quantified _ _ (nothing_kept _ _ (λ t. define t.at))
      (keeps_either [] item_quantified _ _ (nothing_kept _ _ (λ t. predicate t.at))
      (keeps_either [] item_quantified _ _ (nothing_kept _ _ (λ t. pattern_item t.at))
      (nothing_kept _ _ (λ t. monitor t.at)))))))

  -- ---- texts

  abbrev in_items : List ItemData → List Place
  in_items is = flat_map item_quantified is

  text : Keeps [] (TextIn left) tree_quantified
  text =
      keeps_behind [] tree_quantified _ _ (λ imports. keeps_behind [] tree_quantified _ _ (λ h. keeps_behind [] tree_quantified _ _ (λ n. keeps_then [] tree_quantified in_items _ _
      (keeps_steps in_items (ItemAfter left) (λ all. keeps_more item_quantified (ItemIn left) all item) [])
      (λ items. keeps_gives (in_items items) tree_quantified (record { header = name_of n; imports = imports; items = items }) (itself _)))))

pub quantifiers_rise : (text : List ℕ) (tokens : List LexedToken) (tree : TreeData) → AreTokens text tokens → IsText text tokens tree → AreRising (tree_quantified tree)
quantifiers_rise source tokens tree lexed is =
    let all : IsPartOf (tree_quantified tree) (places is.used ++ places (is.end ∷ [])) =
    subst (λ ps. IsPartOf ps (places is.used ++ places (is.end ∷ []))) (append-nil (tree_quantified tree))
    (joined (tree_quantified tree) (places is.used) [] (places (is.end ∷ [])) (text levels_of_a_text is.used tree is.derives) (none_of (places (is.end ∷ [])))) in
    let whole : places (lexemes source tokens) ≡ places is.used ++ places (is.end ∷ []) = ap places is.whole ∙ map-append (λ (t : Lexeme). t.at) is.used (is.end ∷ []) in
    parts_rise (tree_quantified tree) (places is.used ++ places (is.end ∷ [])) all (subst AreRising whole (rising_tokens source tokens lexed))
