-- What a session of the environment's side wrote for the lines that it read, and how it ended.
use Rattle.std.specs.Prelude.{◌≡◌, ℕ, ◌==◌, ◌≤◌, true, if◌then◌else◌, List, [], ◌∷◌, ◌++◌, codes, length, option_map, Option}
use Rattle.std.specs.Fmt.{decimal}
use Rattle.std.specs.Io.KnownBytes.{Consumes}
use Rattle.spec_model.specs.declared.game.Label.{Label}
use Rattle.spec_model.specs.Values.{Assignment}
use Rattle.spec_model.specs.Syntax.{Specification}
use Rattle.spec_model.specs.Rules.{Run, line_label}
use Rattle.spec_model.specs.Plays.{IsPlay}
use Rattle.spec_model.specs.Unrealizable.{NoteData, Shift, Deny, Beaten}
use Rattle.spec_model.specs.Moves.{broken_guarantee, legal_input, rules_of}
use Rattle.session_lines.specs.Shown.{inputs_of, outputs_of, show}
use Rattle.session_lines.specs.Reading.{Reads}
use Rattle.session.specs.declared.talking.End.{End}
use Rattle.session.specs.Ends.{Ends, Wrote}

-- the line reads as an output, the input as it is shown
abbrev pub ReadsOutput : Specification → List ℕ → Assignment → Type 0
ReadsOutput s line y = Reads s.names (outputs_of s) line y

abbrev pub shown_input : Specification → Assignment → List ℕ
shown_input s x = show s.names (inputs_of s) x ++ 10 ∷ []

-- the lines read as the outputs of the run
abbrev pub AreOutputs : Specification → List (List ℕ) → Run → Type 0
AreOutputs s [] [] = Unit {0}
AreOutputs s (line ∷ lines) (p ∷ h) = ReadsOutput s line p.output × AreOutputs s lines h
AreOutputs s _ _ = ⊥

-- the line of a denial: a goal is told by its line's number, and by its part where the line gives several
abbrev pub denial_line : Label → List ℕ
denial_line l = codes "deny #" ++ (decimal l.line ++ (if l.part == 0 then codes "\n" else (codes "." ++ (decimal l.part ++ codes "\n"))))

-- the line of a note
abbrev pub note_line : NoteData → List ℕ
note_line Shift = codes "shift\n"
note_line (Deny l) = denial_line l

-- the inputs of the run and the one after it, each shown on a line, and between two of them the note of the position
abbrev pub shown_inputs : Specification → Run → List NoteData → (next : Assignment) → List ℕ
shown_inputs s (p ∷ h) (w ∷ ws) x = shown_input s p.input ++ (note_line w ++ shown_inputs s h ws x)
shown_inputs s _ _ x = shown_input s x

-- the first guarantee, or line of a monitor, that an output breaks after the run and an input
abbrev pub first_broken_reply : Specification → Run → Assignment → Assignment → Option Label
first_broken_reply s h x y = option_map line_label (broken_guarantee s h x y)

-- how a talk ends, once the play is h, these lines were handed out, and the input x was given after it
abbrev pub EndsAfter : Specification → (limit : ℕ) → (given : List ℕ) → (left : Option (List ℕ)) → (handed : List (List ℕ)) → Run → (x : Assignment) → (rose_in rose_out : Type 0) → End → Type 0
EndsAfter s limit given left handed h x rose_in rose_out end = Ends (ReadsOutput s) (first_broken_reply s h x) limit given left handed (length h) rose_in rose_out end

-- The talk: the input gave some bytes; of their lines the first read as the outputs of a play whose inputs were written with
-- its notes, and then one input more; each move is legal, and the noted play beats the system within n shifts and m denials
-- in a row; and it ended so.
pub record CounterTalk (s : Specification) (n m limit : ℕ) (left_old left_new written_old written_new : Option (List ℕ)) (rose_in rose_out : Type 0) (end : End) : Type 0 where
  pub given : List ℕ
  pub taken_from : Consumes left_old left_new given
  pub handed : List (List ℕ)
  pub play : Run
  pub notes : List NoteData
  pub next : Assignment
  pub outputs : AreOutputs s handed play
  pub legal : IsPlay (rules_of s) play
  pub legal_next : legal_input s play next ≡ true
  pub beaten : Beaten (rules_of s) n m play notes
  pub few : length play ≤ limit
  pub wrote : Wrote end written_old written_new (shown_inputs s play notes next)
  pub ends : EndsAfter s limit given left_new handed play next rose_in rose_out end
