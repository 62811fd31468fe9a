-- Which characters separate tokens, begin a name, and go on in a run.
use Rattle.std.specs.Prelude.{ℕ, ◌≡◌, ◌==◌, ◌&&◌, ◌||◌, nat_le, not, Bool, true, List, [], ◌∷◌, ◌++◌}
use Rattle.std.specs.List.{list_all}
use Rattle.unicode_ident.specs.Ident.{is_xid_continue}
-- what a name begins with
pub use Rattle.spec_model.specs.Words.{begins_name}
use Rattle.spectra_lexer.specs.declared.characters.Run.{Run}
use Rattle.spectra_lexer.specs.declared.characters.Run.TheVariants as runs

-- space, tab, carriage return or line feed
abbrev pub is_blank : ℕ → Bool
is_blank c = c == 32 || c == 9 || c == 13 || c == 10

abbrev pub is_digit : ℕ → Bool
is_digit c = nat_le 48 c && nat_le c 57

-- whether a run of a sort goes on with a character
abbrev pub goes_on : Run → ℕ → Bool
goes_on runs.Blank c = is_blank c
goes_on runs.Line c = not (c == 10)
goes_on runs.Name c = is_xid_continue c
goes_on runs.Number c = is_digit c
goes_on runs.Quoted c = not (c == 34) && not (c == 10)
goes_on runs.Every c = true

-- what would make no run before it longer
abbrev pub ends_run : Run → List ℕ → Bool
ends_run run [] = true
ends_run run (c ∷ cs) = not (goes_on run c)

-- the longest run at the front of a text
pub record IsRun (run : Run) (text front rest : List ℕ) : Type 0 where
  pub parts : text ≡ front ++ rest
  pub goes : list_all (goes_on run) front ≡ true
  pub ends : ends_run run rest ≡ true
