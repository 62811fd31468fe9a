-- Where reading a type stops, what was used begins one.
use Rattle.std.proofs.Common.{ℕ, suc, ◌+◌, ◌<◌, List, [], ◌∷◌, ◌++◌, arith}
use Rattle.spectra_trees.specs.declared.class.Class.TheVariants as classes
use Rattle.spectra_trees.specs.declared.tree.Place.{Place}
use Rattle.spectra_trees.specs.Data.{NameData, Expression, TypeShape}
use Rattle.spectra_trees.specs.Lexemes.{Lexeme, name_of}
use Rattle.spectra_exprs.specs.Read.{starts}
use Rattle.spectra_exprs.specs.Expressions.{inside, bound_of}
use Rattle.spectra_parser.specs.Items.{formula, name_after, names, name_type, range_type, named_type, type_of}
use Rattle.spectra_exprs.specs.Forms.{Gives, Token, ◌▸◌}
use Rattle.spectra_exprs.specs.Grammar.{ExprOf, Levels}
use Rattle.spectra_parser.specs.ItemGrammar.{NameAfter, Names, Bound, TypeIn}
use Rattle.spectra_exprs.proofs.Opening.{Full, full_then, full_gives, full_same, full_token, full_if, full_only}
use Rattle.spectra_exprs.proofs.OpeningSteps.{full_steps}
use Rattle.spectra_exprs.proofs.Examples.{a_Boolean, a_Close, a_CloseBrace, a_Comma, a_Int, a_Name, a_Open, a_OpenBrace, a_UpTo}
use Rattle.spectra_exprs.proofs.OpeningExpressions.{full_inside, full_bound, full_whole}
use Rattle.spectra_parser.proofs.SoundItems.{n, type_same}

-- the levels of what is begun: a level too many may want one more behind it
abbrev pub wide : ℕ
wide = n + 2

pub inner : n < wide
inner = omega arith

pub deeper : suc n < wide
deeper = omega arith

full_name_after : (all : List NameData) → Full (NameAfter all) (name_after all)
unfolding name_after
full_name_after all = full_then (full_token classes.Comma a_Comma) (λ (c : Lexeme). full_then (full_token classes.Name a_Name) (λ (m : Lexeme). full_gives (all ++ name_of m ∷ [])))

pub full_names : Full Names names
unfolding names
full_names = full_then (full_token classes.Name a_Name) (λ (m : Lexeme). full_steps (starts classes.Comma) full_name_after (name_of m ∷ []))

full_bounds : Full (Bound wide) (λ ts. bound_of (inside n) ts)
full_bounds = full_bound wide (inside n) (full_inside wide n inner)

pub full_formula : Full (ExprOf (Levels wide)) formula
full_formula = full_whole wide (inside n) (full_inside wide n inner)

full_name_type : (at : Place) → Full (Names ▸ λ all. Token classes.CloseBrace ▸ λ c. Gives (record { at = at; form = TypeShape.Names all })) (name_type at)
unfolding name_type
full_name_type at = full_then full_names (λ (all : List NameData). full_then (full_token classes.CloseBrace a_CloseBrace) (λ (c : Lexeme). full_gives (record { at = at; form = TypeShape.Names all })))

full_range_type : (at : Place) → Full (Token classes.Open ▸ λ o. Bound wide ▸ λ low. Token classes.UpTo ▸ λ u. Bound wide ▸ λ high. Token classes.Close ▸ λ c. Gives (record { at = at; form = TypeShape.Range low high })) (range_type at)
unfolding range_type
full_range_type at =
    full_then (full_token classes.Open a_Open) (λ (o : Lexeme). full_then full_bounds (λ (low : Expression). full_then (full_token classes.UpTo a_UpTo) (λ (u : Lexeme). full_then full_bounds
    (λ (high : Expression). full_then (full_token classes.Close a_Close) (λ (c : Lexeme). full_gives (record { at = at; form = TypeShape.Range low high }))))))

full_named_type : (t : Lexeme) → Full (Gives (record { at = t.at; form = TypeShape.Named (name_of t) })) (named_type t)
unfolding named_type
full_named_type t = full_gives (record { at = t.at; form = TypeShape.Named (name_of t) })

pub full_type : Full (TypeIn wide) type_of
full_type =
    full_same type_same
    (full_if (starts classes.Boolean) (full_then (full_token classes.Boolean a_Boolean) (λ (t : Lexeme). full_gives (record { at = t.at; form = TypeShape.Boolean })))
    (full_if (starts classes.Int) (full_then (full_token classes.Int a_Int) (λ (t : Lexeme). full_range_type t.at))
    (full_if (starts classes.OpenBrace) (full_then (full_token classes.OpenBrace a_OpenBrace) (λ (t : Lexeme). full_name_type t.at))
    (full_only (starts classes.Name) (full_then (full_token classes.Name a_Name) full_named_type)))))
