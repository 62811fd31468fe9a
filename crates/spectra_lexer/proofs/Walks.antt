-- A walk over a text, character by character.
use Rattle.std.proofs.Common.{◌≡◌, ℕ, ◌+◌, ◌&&◌, true, List, [], ◌∷◌, ◌++◌, length, refl, sym, ap, ◌∙◌, append_assoc, arith}
use Rattle.std.specs.List.{list_all}
use Rattle.std.specs.Char.{len_utf8}
use Rattle.std.proofs.lemmas.Bool.{and_from}
use Rattle.std.proofs.lemmas.List.Folds.{list_all-append}
use Rattle.std.proofs.lemmas.Str.{len_utf8_bounds}
use Rattle.spectra_lexer.specs.declared.characters.Run.{Run}
use Rattle.spectra_lexer.specs.declared.spot.Spot.{Spot}
use Rattle.spectra_lexer.specs.Characters.{goes_on, ends_run, IsRun}
use Rattle.spectra_lexer.specs.Tokens.{past, behind}
use Rattle.spectra_lexer.specs.Progress.{IsInside}

pub past-append : (xs ys : List ℕ) (at : Spot) → past (xs ++ ys) at ≡ past ys (past xs at)
past-append [] ys at = refl
past-append (x ∷ xs) ys at = past-append xs ys (behind x at)

-- from a spot to another over characters that go on
pub record Walked (run : Run) (at : Spot) (text : List ℕ) (here : Spot) (rest : List ℕ) : Type 0 where
  pub front : List ℕ
  pub parts : text ≡ front ++ rest
  pub goes : list_all (goes_on run) front ≡ true
  pub spot : here ≡ past front at

pub stands : (run : Run) (at : Spot) (text : List ℕ) → Walked run at text at text
stands run at text = record { front = []; parts = refl; goes = refl; spot = refl }

pub one_more : (run : Run) (at : Spot) (text : List ℕ) (here : Spot) (rest : List ℕ) (c : ℕ) (after : List ℕ) → Walked run at text here rest → rest ≡ c ∷ after → goes_on run c ≡ true
    → Walked run at text (behind c here) after
one_more run at text here rest c after w e g =
    record {
      front = w.front ++ c ∷ [];
      parts = w.parts ∙ (ap (λ (x : List ℕ). w.front ++ x) e ∙ sym (append_assoc w.front (c ∷ []) after));
      goes = list_all-append (goes_on run) w.front (c ∷ []) ∙ and_from (list_all (goes_on run) w.front) (goes_on run c && true) w.goes (rw g refl);
      spot = ap (behind c) w.spot ∙ sym (past-append w.front (c ∷ []) at);
    }

pub walk_ends : (run : Run) (at : Spot) (text : List ℕ) (here : Spot) (rest : List ℕ) → Walked run at text here rest → ends_run run rest ≡ true
    → (front : List ℕ) × IsRun run text front rest × (here ≡ past front at)
walk_ends run at text here rest w ends = (w.front, record { parts = w.parts; goes = w.goes; ends = ends }, w.spot)

pub inside_behind : (at : Spot) (c : ℕ) (rest after : List ℕ) → IsInside at rest → length rest ≡ len_utf8 c + length after → IsInside (behind c at) after
inside_behind at c rest after i e =
    let bounds = len_utf8_bounds c in
    record { byte = omega (arith, i.byte, e); line = grind (arith, i.line, bounds.0); column = grind (arith, i.column, bounds.0) }
