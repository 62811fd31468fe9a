-- What a session wrote for the lines that it read, and how it ended.
use Rattle.std.specs.Prelude.{ℕ, ◌≤◌, List, [], ◌∷◌, ◌++◌, length, option_map, Option}
use Rattle.std.specs.Io.KnownBytes.{Consumes}
use Rattle.spec_model.specs.declared.game.Label.{Label}
use Rattle.spec_model.specs.Values.{Assignment}
use Rattle.spec_model.specs.Syntax.{Specification}
use Rattle.spec_model.specs.Rules.{Run, line_label}
use Rattle.spec_model.specs.Plays.{IsPlay}
use Rattle.spec_model.specs.Realizable.{Kept}
use Rattle.spec_model.specs.Moves.{broken_assumption, rules_of}
use Rattle.session_lines.specs.Shown.{inputs_of, outputs_of, show}
use Rattle.session_lines.specs.Reading.{Reads}
use Rattle.session.specs.declared.talking.End.{End}
use Rattle.session.specs.Ends.{Ends, Wrote}

-- the line reads as an input, the output as it is shown
abbrev pub ReadsInput : Specification → List ℕ → Assignment → Type 0
ReadsInput s line x = Reads s.names (inputs_of s) line x

abbrev pub shown_output : Specification → Assignment → List ℕ
shown_output s y = show s.names (outputs_of s) y ++ 10 ∷ []

-- the lines read as the inputs of the run
abbrev pub AreInputs : Specification → List (List ℕ) → Run → Type 0
AreInputs s [] [] = Unit {0}
AreInputs s (line ∷ lines) (p ∷ h) = ReadsInput s line p.input × AreInputs s lines h
AreInputs s _ _ = ⊥

-- the outputs of the run, each shown on a line
abbrev pub shown_outputs : Specification → Run → List ℕ
shown_outputs s [] = []
shown_outputs s (p ∷ h) = shown_output s p.output ++ shown_outputs s h

-- the first assumption that an input breaks after the run
abbrev pub first_broken_after : Specification → Run → Assignment → Option Label
first_broken_after s h x = option_map line_label (broken_assumption s h x)

-- how a talk ends, once the play is h and these lines were handed out
abbrev pub EndsSo : Specification → (limit : ℕ) → (given : List ℕ) → (left : Option (List ℕ)) → (handed : List (List ℕ)) → Run → (rose_in rose_out : Type 0) → End → Type 0
EndsSo s limit given left handed h rose_in rose_out end = Ends (ReadsInput s) (first_broken_after s h) limit given left handed (length h) rose_in rose_out end

-- The talk: the input gave some bytes; of their lines the first read as the inputs of a play whose outputs were written, each
-- move is legal, and each recurring guarantee is kept within k rounds; and it ended so.
pub record RunTalk (s : Specification) (k limit : ℕ) (left_old left_new written_old written_new : Option (List ℕ)) (rose_in rose_out : Type 0) (end : End) : Type 0 where
  pub given : List ℕ
  pub taken_from : Consumes left_old left_new given
  pub handed : List (List ℕ)
  pub play : Run
  pub inputs : AreInputs s handed play
  pub legal : IsPlay (rules_of s) play
  pub kept : Kept (rules_of s) k play
  pub few : length play ≤ limit
  pub wrote : Wrote end written_old written_new (shown_outputs s play)
  pub ends : EndsSo s limit given left_new handed play rose_in rose_out end
