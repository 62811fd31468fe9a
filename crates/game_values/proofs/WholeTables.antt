-- The hidden tables of a well-made game have an entry for every value and letter.
use Rattle.std.proofs.Common.{◌≡◌, ℕ, ◌*◌, ◌^◌, Bool, true, ◌==◌, nat_lt, List, [], ◌∷◌, length, map, refl, ◌∙◌, ap, arith}
use Rattle.std.specs.List.{list_all}
use Rattle.std.proofs.lemmas.Bool.{and_parts}
use Rattle.std.proofs.lemmas.List.{length-map}
use borrow.Author.Tests.{ltb-true, eqb-true}
use Rattle.spec_model.specs.declared.expr.Expr.{Expr}
use Rattle.spec_model.specs.declared.game.Hidden.{Hidden}
use Rattle.spec_model.specs.Syntax.{Formula}
use Rattle.spec_model.specs.Views.{formula}
use Rattle.spec_model.specs.GameViews.{hidden_data}
use Rattle.spec_model.specs.Typing.{Scope}
use Rattle.spec_model.specs.WellMade.{is_table, are_tables, cell_count}
use Rattle.game_values.specs.Whole.{IsWhole, AreWhole}

pub table_whole : (sc : Scope) (h : Hidden) → is_table sc (hidden_data h) ≡ true → IsWhole h
table_whole sc h e =
    let one = and_parts (nat_lt h.first h.values) _ e in
    let two = and_parts (list_all (λ v. nat_lt v h.values) h.next.items) _ one.1 in
    let three = and_parts (length h.next.items == cell_count (hidden_data h)) _ two.1 in
    let first = ltb-true h.first h.values one.0 in
    (omega (arith, first), eqb-true (length h.next.items) (cell_count (hidden_data h)) three.0 ∙ ap (λ n. h.values * 2 ^ n) (length-map h.atoms.items formula))

pub tables_whole : (sc : Scope) (hs : List Hidden) → are_tables sc (map hidden_data hs) ≡ true → AreWhole hs
tables_whole sc [] e = tt
tables_whole sc (h ∷ hs) e =
    let parts = and_parts (is_table sc (hidden_data h)) _ e in
    (table_whole sc h parts.0, tables_whole _ hs parts.1)

-- what is told of each line of the program is told of the line that it stands for
pub map-flags : (f : Formula → Bool) (ls : List (ℕ × Expr)) → map (λ (l : ℕ × Expr). f (formula l.1)) ls ≡ map (λ (l : ℕ × Formula). f l.1) (map (λ (l : ℕ × Expr). (l.0, formula l.1)) ls)
map-flags f [] = refl
map-flags f (l ∷ ls) = ap (λ r. f (formula l.1) ∷ r) (map-flags f ls)
