-- Which assumption an input breaks first in a game, and which guarantee or monitor's line an output does.
use Rattle.std.specs.Prelude.{ℕ, Bool, false, not, ◌++◌, if◌then◌else◌, min, List, [], ◌∷◌, Option, Some, None, is_some, option_map}
use Rattle.std.specs.List.{list_any}
use Rattle.spec_model.specs.declared.game.Label.{Label}
use Rattle.spec_model.specs.Values.{Assignment}
use Rattle.spec_model.specs.Syntax.{Formula}
use Rattle.spec_model.specs.Moves.{has_next}
use Rattle.spec_model.specs.Games.{GameData, outputs_of}
use Rattle.spec_model.specs.Steps.{Before, reached, line_holds, waits_for_output}
pub use Rattle.spec_model.specs.Rules.{line_label}

-- the numbers of the lines that pass a test
abbrev pub numbers_where : (Formula → Bool) → List (ℕ × Formula) → List ℕ
numbers_where test [] = []
numbers_where test (l ∷ ls) = if test l.1 then l.0 ∷ numbers_where test ls else numbers_where test ls

-- whether some output after the input makes a line false that is judged at the move
abbrev pub breaks : GameData → (late : Bool) → Before → Assignment → Formula → Bool
breaks g late b x e = list_any (λ y. not (line_holds g late b (reached g b x y) e)) (outputs_of g)

-- the numbers of the assumptions that the input breaks: an initial one at the first move alone
abbrev pub broken_by : GameData → Before → Assignment → List ℕ
broken_by g b x =
    (if is_some b then [] else numbers_where (breaks g false b x) g.initial_asm)
    ++ numbers_where (λ e. breaks g (waits_for_output g e) b x e) g.safe_asm

abbrev pub lesser : Option ℕ → Option ℕ → Option ℕ
lesser None n = n
lesser (Some m) None = Some m
lesser (Some m) (Some n) = Some (min m n)

-- the least of several numbers, if there are any
abbrev pub least : List ℕ → Option ℕ
least [] = None
least (n ∷ ns) = lesser (Some n) (least ns)

-- the first assumption that the input breaks: numbers rise in text order
abbrev pub first_broken : GameData → Before → Assignment → Option Label
first_broken g b x = option_map line_label (least (broken_by g b x))

-- ---- outputs

-- the numbers of the guarantees and monitors' lines that the output breaks: an initial one at the first move alone
abbrev pub broken_with : GameData → Before → Assignment → Assignment → List ℕ
broken_with g b x y =
    (if is_some b then [] else numbers_where (λ e. not (line_holds g false b (reached g b x y) e)) g.initial_gar)
    ++ numbers_where (λ e. not (line_holds g (has_next e) b (reached g b x y) e)) g.safe_gar

-- the first of them that the output breaks after the input
abbrev pub first_broken_output : GameData → Before → Assignment → Assignment → Option Label
first_broken_output g b x y = option_map line_label (least (broken_with g b x y))
