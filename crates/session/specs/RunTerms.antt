-- The terms of a session of the system's side.
use Rattle.std.specs.Prelude.{◌≡◌, ℕ, true, List, []}
use Rattle.spec_model.specs.Values.{Assignment}
use Rattle.spec_model.specs.Syntax.{Specification}
use Rattle.spec_model.specs.Rules.{Run, after}
use Rattle.spec_model.specs.Realizable.{Kept}
use Rattle.spec_model.specs.Moves.{legal_output, rules_of}
use Rattle.session_lines.specs.Shown.{inputs_of, outputs_of}
use Rattle.session.specs.Exchanges.{Terms}
use Rattle.session.specs.Talks.{ReadsInput, shown_output, first_broken_after}

-- the play so far, which keeps each recurring guarantee within so many rounds
pub record RunState : Type 0 where
  pub rounds : ℕ
  pub play : Run

-- nothing is written before the first line
pub record OpensRun (s : Specification) (st : RunState) (text : List ℕ) (next : RunState) : Type 0 where
  pub nothing : text ≡ []
  pub same : next ≡ st
  pub kept : Kept (rules_of s) st.rounds st.play

-- a legal output is written
pub record AnswersInput (s : Specification) (st : RunState) (x : Assignment) (text : List ℕ) (next : RunState) : Type 0 where
  pub output : Assignment
  pub legal : legal_output s st.play x output ≡ true
  pub shown : text ≡ shown_output s output
  pub goes_on : next ≡ record { rounds = st.rounds; play = after st.play x output }
  pub kept : Kept (rules_of s) st.rounds (after st.play x output)

abbrev pub run_terms : Specification → Terms RunState Assignment
run_terms s =
    record {
      names = s.names;
      wanted = inputs_of s;
      shown = outputs_of s;
      ReadsAs = ReadsInput s;
      first_broken = λ st x. first_broken_after s st.play x;
      Opens = OpensRun s;
      Answers = AnswersInput s;
    }
