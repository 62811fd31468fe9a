-- What is read as a type is one of the grammar.
use Rattle.std.proofs.Common.{◌≡◌, ℕ, cond, List, [], ◌∷◌, ◌++◌, Ok, refl}
use Rattle.spectra_trees.specs.declared.class.Class.TheVariants as classes
use Rattle.spectra_trees.specs.declared.tree.Place.{Place}
use Rattle.spectra_trees.specs.Classes.{same_class}
use Rattle.spectra_trees.specs.Data.{NameData, Expression, TypeData, TypeShape}
use Rattle.spectra_trees.specs.Lexemes.{Lexeme, name_of}
use Rattle.spectra_exprs.specs.Read.{Reader, ◌>>=◌, unexpected, first_number, starts, expect}
use Rattle.spectra_exprs.specs.Expressions.{inside, bound_of, levels_of_a_text}
use Rattle.spectra_parser.specs.Items.{formula, name_after, names, name_type, range_type, named_type, type_of}
use Rattle.spectra_exprs.specs.Forms.{Gives, Token, ◌▸◌}
use Rattle.spectra_exprs.specs.Grammar.{ExprOf, Levels}
use Rattle.spectra_parser.specs.ItemGrammar.{NameAfter, Names, Bound, TypeIn}
use Rattle.spectra_exprs.proofs.Soundness.{Sound, sound_gives, sound_token, sound_then, sound_same, sound_if, sound_steps, branch_same, sound_unexpected, sound_both}
use Rattle.spectra_exprs.proofs.SoundExpressions.{sound_inside, sound_bound, sound_whole}

abbrev pub n : ℕ
n = levels_of_a_text

sound_name_after : (all : List NameData) → Sound (NameAfter all) (name_after all)
unfolding name_after
sound_name_after all = sound_then (sound_token classes.Comma) (λ (c : Lexeme). sound_then (sound_token classes.Name) (λ (m : Lexeme). sound_gives (all ++ name_of m ∷ [])))

pub sound_names : Sound Names names
unfolding names
sound_names = sound_then (sound_token classes.Name) (λ (m : Lexeme). sound_steps (starts classes.Comma) sound_name_after (name_of m ∷ []))

sound_bounds : Sound (Bound n) (λ ts. bound_of (inside n) ts)
sound_bounds = sound_bound (Levels n) (inside n) (sound_inside n)

pub sound_formula : Sound (ExprOf (Levels n)) formula
sound_formula = sound_whole (Levels n) (inside n) (sound_inside n)

sound_name_type : (at : Place) → Sound (Names ▸ λ all. Token classes.CloseBrace ▸ λ c. Gives (record { at = at; form = TypeShape.Names all })) (name_type at)
unfolding name_type
sound_name_type at = sound_then sound_names (λ (all : List NameData). sound_then (sound_token classes.CloseBrace) (λ (c : Lexeme). sound_gives (record { at = at; form = TypeShape.Names all })))

sound_range_type : (at : Place) → Sound (Token classes.Open ▸ λ o. Bound n ▸ λ low. Token classes.UpTo ▸ λ u. Bound n ▸ λ high. Token classes.Close ▸ λ c. Gives (record { at = at; form = TypeShape.Range low high })) (range_type at)
unfolding range_type
sound_range_type at =
    sound_then (sound_token classes.Open) (λ (o : Lexeme). sound_then sound_bounds (λ (low : Expression). sound_then (sound_token classes.UpTo) (λ (u : Lexeme). sound_then sound_bounds
    (λ (high : Expression). sound_then (sound_token classes.Close) (λ (c : Lexeme). sound_gives (record { at = at; form = TypeShape.Range low high }))))))

sound_named_type : (t : Lexeme) → Sound (Gives (record { at = t.at; form = TypeShape.Named (name_of t) })) (named_type t)
unfolding named_type
sound_named_type t = sound_gives (record { at = t.at; form = TypeShape.Named (name_of t) })

abbrev pub boolean_type : Lexeme → Reader TypeData
boolean_type t rest = Ok (record { at = t.at; form = TypeShape.Boolean }, rest)

abbrev pub range_at : Lexeme → Reader TypeData
range_at t rest = range_type t.at rest

abbrev pub names_at : Lexeme → Reader TypeData
names_at t rest = name_type t.at rest

pub type_same : (ts : List Lexeme) → type_of ts
    ≡ cond (starts classes.Boolean ts) (expect classes.Boolean ts >>= boolean_type)
    (cond (starts classes.Int ts) (expect classes.Int ts >>= range_at)
    (cond (starts classes.OpenBrace ts) (expect classes.OpenBrace ts >>= names_at) (cond (starts classes.Name ts) (expect classes.Name ts >>= named_type) (unexpected ts))))
unfolding type_of starts expect unexpected first_number
type_same [] = refl
type_same (t ∷ ts) =
    branch_same (same_class t.class classes.Boolean) t ts _ boolean_type _ _
    (branch_same (same_class t.class classes.Int) t ts _ range_at _ _
    (branch_same (same_class t.class classes.OpenBrace) t ts _ names_at _ _ (branch_same (same_class t.class classes.Name) t ts _ named_type _ _ refl)))

pub sound_type : Sound (TypeIn n) type_of
sound_type =
    sound_same type_same
    (sound_if (starts classes.Boolean) (sound_then (sound_token classes.Boolean) (λ (t : Lexeme). sound_gives (record { at = t.at; form = TypeShape.Boolean })))
    (sound_if (starts classes.Int) (sound_then (sound_token classes.Int) (λ (t : Lexeme). sound_range_type t.at))
    (sound_if (starts classes.OpenBrace) (sound_then (sound_token classes.OpenBrace) (λ (t : Lexeme). sound_name_type t.at))
    (sound_both (starts classes.Name) (sound_then (sound_token classes.Name) sound_named_type) sound_unexpected))))
