-- The terms of a session of the environment's side.
use Rattle.std.specs.Prelude.{◌≡◌, ℕ, true, List, [], ◌∷◌, ◌++◌}
use Rattle.spec_model.specs.Values.{Assignment}
use Rattle.spec_model.specs.Syntax.{Specification}
use Rattle.spec_model.specs.Rules.{Run, after}
use Rattle.spec_model.specs.Unrealizable.{NoteData, Beaten}
use Rattle.spec_model.specs.Moves.{legal_input, rules_of}
use Rattle.session_lines.specs.Shown.{inputs_of, outputs_of}
use Rattle.session.specs.Exchanges.{Terms}
use Rattle.session.specs.CounterTalks.{ReadsOutput, shown_input, note_line, first_broken_reply}

-- the noted play so far, which beats the system within so many shifts and denials in a row, and the input given after it
pub record CounterState : Type 0 where
  pub shifts : ℕ
  pub denials : ℕ
  pub play : Run
  pub notes : List NoteData
  pub input : Assignment

-- a legal input is written before the first line
pub record OpensCounter (s : Specification) (st : CounterState) (text : List ℕ) (next : CounterState) : Type 0 where
  pub input : Assignment
  pub legal : legal_input s st.play input ≡ true
  pub shown : text ≡ shown_input s input
  pub goes_on : next ≡ record { shifts = st.shifts; denials = st.denials; play = st.play; notes = st.notes; input = input }
  pub beaten : Beaten (rules_of s) st.shifts st.denials st.play st.notes

-- the note of the position that an output completes is written, and a legal input
pub record AnswersOutput (s : Specification) (st : CounterState) (y : Assignment) (text : List ℕ) (next : CounterState) : Type 0 where
  pub note : NoteData
  pub input : Assignment
  pub legal : legal_input s (after st.play st.input y) input ≡ true
  pub shown : text ≡ note_line note ++ shown_input s input
  pub goes_on : next ≡ record { shifts = st.shifts; denials = st.denials; play = after st.play st.input y; notes = st.notes ++ note ∷ []; input = input }
  pub beaten : Beaten (rules_of s) st.shifts st.denials (after st.play st.input y) (st.notes ++ note ∷ [])

abbrev pub counter_terms : Specification → Terms CounterState Assignment
counter_terms s =
    record {
      names = s.names;
      wanted = outputs_of s;
      shown = inputs_of s;
      ReadsAs = ReadsOutput s;
      first_broken = λ st y. first_broken_reply s st.play st.input y;
      Opens = OpensCounter s;
      Answers = AnswersOutput s;
    }
