-- The text of a table reads as the table.
use Rattle.std.proofs.Common.{◌≡◌, ℕ, ◌≤◌, List, length, Some, IsUtf8, false, ap, ◌∙◌, arith}
use Rattle.std.proofs.lemmas.Bool.{le-leb}
use Rattle.std.proofs.lemmas.Str.{is_utf8-from_IsUtf8}
use Rattle.serde_json.specs.Data.{Data, depth}
use Rattle.serde_json.specs.Read.{read, max_depth}
use Rattle.serde_json.specs.Written.{has_float, compact_text}
use Rattle.spec_model.specs.Syntax.{Specification}
use Rattle.spec_model.specs.Games.{GameData}
use Rattle.spec_model.specs.WellTyped.{WellTyped}
use Rattle.hidden_game.specs.GameOf.{game_of}
use Rattle.strategy_tables.specs.Games.{TableData, IsTableOf}
use Rattle.strategy_text.specs.Written.{table_json, table_text, most_bytes}
use Rattle.strategy_text.specs.Reading.{json_in, table_of, table_in}
use Rattle.strategy_text.specs.Laws.{FitsProgram}
use Rattle.strategy_text.proofs.Plain.{table_plain}
use Rattle.strategy_text.proofs.Back.{reads_back}

module _ (s : Specification) (t : TableData) (json : Data) (bytes : List ℕ) (is : json ≡ table_json s.names t) where
  pub text_exact : (has_float json ≡ false → bytes ≡ compact_text json) → bytes ≡ table_text s t
  text_exact written = written (ap has_float is ∙ (table_plain s.names t).floatless) ∙ ap compact_text is

  pub text_back : WellTyped s → IsTableOf (game_of s) t → FitsProgram t → length bytes ≤ most_bytes → IsUtf8 bytes → (depth json ≤ max_depth → read bytes ≡ Some json) → table_in s bytes ≡ Some t
  text_back typed of_game fits few utf8 reads =
      let shallow = (table_plain s.names t).shallow in
      let read_is : read bytes ≡ Some (table_json s.names t) = reads (omega (arith, ap depth is)) ∙ ap Some is in
      rw (le-leb (length bytes) most_bytes few, is_utf8-from_IsUtf8 bytes utf8, read_is) (reads_back s typed t of_game fits)

-- the table of the bytes is that of their JSON
pub read_whole : (s : Specification) (bytes : List ℕ) (json : Data) (names : List (List ℕ)) (g : GameData) → length bytes ≤ most_bytes → json_in bytes ≡ Some json → names ≡ s.names → g ≡ game_of s → table_in s bytes ≡ table_of names g json
read_whole s bytes json names g few there names_are game_is = rw (le-leb (length bytes) most_bytes few, there, names_are, game_is)
