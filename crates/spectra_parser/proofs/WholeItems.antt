-- What is a type of the grammar is read.
use Rattle.std.proofs.Common.{ℕ, ◌<◌, List, [], ◌∷◌, ◌++◌, refl}
use Rattle.spectra_trees.specs.declared.class.Class.{Class}
use Rattle.spectra_trees.specs.declared.class.Class.TheVariants as classes
use Rattle.spectra_trees.specs.declared.tree.Place.{Place}
use Rattle.spectra_trees.specs.Classes.{place_of}
use Rattle.spectra_trees.specs.Data.{NameData, Expression, TypeShape}
use Rattle.spectra_trees.specs.Lexemes.{Lexeme, name_of}
use Rattle.spectra_exprs.specs.Read.{unexpected, starts}
use Rattle.spectra_exprs.specs.Expressions.{inside, bound_of}
use Rattle.spectra_parser.specs.Items.{formula, name_after, names, name_type, range_type, named_type, type_of}
use Rattle.spectra_exprs.specs.Forms.{Gives, Token, ◌▸◌}
use Rattle.spectra_exprs.specs.Grammar.{ExprOf, Levels}
use Rattle.spectra_parser.specs.ItemGrammar.{NameAfter, Names, Bound, TypeIn}
use Rattle.spectra_parser.proofs.SoundItems.{n, type_same}
use Rattle.spectra_exprs.proofs.ClassSets.{starts_going}
use Rattle.spectra_exprs.proofs.Completeness.{Whole, Begins, whole_gives, whole_same, begins_token, begins_then, begins_or, follows_begins, whole_choice, whole_only, whole_steps, begins_of, whole_after, whole_until}
use Rattle.spectra_exprs.proofs.WholeExpressions.{c_expr}
use Rattle.spectra_exprs.proofs.WholeLevels.{whole_inside, whole_bound, whole_whole}

begins_name_after : (all : List NameData) → Begins (classes.Comma ∷ []) (NameAfter all)
begins_name_after all = begins_then (begins_token classes.Comma)

whole_name_after : {E : Type 0} → (all : List NameData) → Whole E [] (NameAfter all) (name_after all)
unfolding name_after
whole_name_after all = whole_after classes.Comma (λ (c : Lexeme). whole_after classes.Name (λ (m : Lexeme). whole_gives [] (all ++ name_of m ∷ [])))

pub whole_names : {E : Type 0} → Whole E (classes.Comma ∷ []) Names names
unfolding names place_of
whole_names = whole_after classes.Name (λ (m : Lexeme). whole_steps (classes.Comma ∷ []) (starts classes.Comma) (starts_going classes.Comma) begins_name_after (record { checked = refl }) (record { checked = refl }) (record { checked = refl }) whole_name_after (name_of m ∷ []))

whole_name_type : {E : Type 0} → (at : Place) → Whole E [] (Names ▸ λ all. Token classes.CloseBrace ▸ λ c. Gives (record { at = at; form = TypeShape.Names all })) (name_type at)
unfolding name_type place_of
whole_name_type at = whole_until classes.CloseBrace (record { checked = refl }) whole_names (λ (all : List NameData) (c : Lexeme). whole_gives [] (record { at = at; form = TypeShape.Names all }))

whole_named_type : {E : Type 0} → (t : Lexeme) → Whole E [] (Gives (record { at = t.at; form = TypeShape.Named (name_of t) })) (named_type t)
unfolding named_type
whole_named_type t = whole_gives [] (record { at = t.at; form = TypeShape.Named (name_of t) })

abbrev pub b_type : List Class
b_type = classes.Boolean ∷ classes.Int ∷ classes.OpenBrace ∷ classes.Name ∷ []

-- the grammar may have more levels than are read
module _ {E : Type 0} (left : ℕ) (deep : n < left → E) where
  pub whole_formula : Whole E c_expr (ExprOf (Levels left)) formula
  whole_formula = whole_whole (Levels left) (inside n) (whole_inside left n deep)

  whole_bounds : Whole E c_expr (Bound left) (λ ts. bound_of (inside n) ts)
  whole_bounds = whole_bound (Levels left) (inside n) (whole_inside left n deep)

  whole_range_type : (at : Place) → Whole E [] (Token classes.Open ▸ λ o. Bound left ▸ λ low. Token classes.UpTo ▸ λ u. Bound left ▸ λ high. Token classes.Close ▸ λ c. Gives (record { at = at; form = TypeShape.Range low high })) (range_type at)
  unfolding range_type place_of
  whole_range_type at =
      whole_after classes.Open (λ (o : Lexeme). whole_until classes.UpTo (record { checked = refl }) whole_bounds (λ (low : Expression) (u : Lexeme). whole_until classes.Close (record { checked = refl }) whole_bounds
      (λ (high : Expression) (c : Lexeme). whole_gives [] (record { at = at; form = TypeShape.Range low high }))))

  pub begins_type : Begins b_type (TypeIn left)
  unfolding place_of
  begins_type = begins_or (begins_of classes.Boolean _ (record { checked = refl })) (begins_or (begins_of classes.Int _ (record { checked = refl })) (begins_or (begins_of classes.OpenBrace _ (record { checked = refl })) (begins_of classes.Name _ (record { checked = refl }))))

  pub whole_type : Whole E [] (TypeIn left) type_of
  unfolding place_of
  whole_type =
      whole_same type_same
      (whole_choice classes.Boolean (begins_then (begins_token classes.Boolean))
      (follows_begins (classes.Int ∷ classes.OpenBrace ∷ classes.Name ∷ []) (record { checked = refl }) (begins_or (begins_of classes.Int _ (record { checked = refl })) (begins_or (begins_of classes.OpenBrace _ (record { checked = refl })) (begins_of classes.Name _ (record { checked = refl })))))
      (whole_after classes.Boolean (λ (t : Lexeme). whole_gives [] (record { at = t.at; form = TypeShape.Boolean })))
      (whole_choice classes.Int (begins_then (begins_token classes.Int))
      (follows_begins (classes.OpenBrace ∷ classes.Name ∷ []) (record { checked = refl }) (begins_or (begins_of classes.OpenBrace _ (record { checked = refl })) (begins_of classes.Name _ (record { checked = refl }))))
      (whole_after classes.Int (λ (t : Lexeme). whole_range_type t.at))
      (whole_choice classes.OpenBrace (begins_then (begins_token classes.OpenBrace)) (follows_begins (classes.Name ∷ []) (record { checked = refl }) (begins_then (begins_token classes.Name)))
      (whole_after classes.OpenBrace (λ (t : Lexeme). whole_name_type t.at))
      (whole_only unexpected classes.Name (begins_then (begins_token classes.Name)) (whole_after classes.Name whole_named_type)))))
