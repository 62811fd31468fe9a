-- The terms of a talk of many sessions.
use Rattle.std.specs.Prelude.{◌≡◌, ℕ, ◌==◌, if◌then◌else◌, List, [], None}
use Rattle.spec_model.specs.Syntax.{Specification}
use Rattle.spec_model.specs.Games.{GameData}
use Rattle.gr1_law.specs.Layers.{LayerSets}
use Rattle.session_lines.specs.Shown.{inputs_of, outputs_of}
use Rattle.session.specs.Exchanges.{Terms}
use Rattle.many_sessions.specs.Numbered.{Message, IsNumbered}
use Rattle.many_sessions.specs.Solo.{Session, unplayed, play_of, IsReply}
use Rattle.many_sessions.specs.Talks.{answer_line, IsKeptPlay}

-- the game, the layers by which outputs are chosen, the number of rounds, and each session by its number
pub record ManyState : Type 0 where
  pub game : GameData
  pub layers : LayerSets
  pub rounds : ℕ
  pub sessions : ℕ → Session

-- one session is another from now on
abbrev pub changed : (ℕ → Session) → ℕ → Session → ℕ → Session
changed sessions n t k = if n == k then t else sessions k

abbrev pub with_session : ManyState → ℕ → Session → ManyState
with_session st n t = record { game = st.game; layers = st.layers; rounds = st.rounds; sessions = changed st.sessions n t }

-- no session has begun
abbrev pub unbegun : GameData → LayerSets → (k : ℕ) → ManyState
unbegun g l k = record { game = g; layers = l; rounds = k; sessions = λ n. unplayed }

-- nothing is written before the first line
pub record OpensMany (s : Specification) (st : ManyState) (text : List ℕ) (next : ManyState) : Type 0 where
  pub nothing : text ≡ []
  pub same : next ≡ st
  pub kept : IsKeptPlay s st.rounds []

-- the session's reply is written behind its number, and no other session is changed
pub record AnswersMessage (s : Specification) (st : ManyState) (m : Message) (text : List ℕ) (next : ManyState) : Type 0 where
  pub reply : List ℕ
  pub session : Session
  pub replies : IsReply s st.game st.layers (st.sessions m.session) m.text reply session
  pub kept : IsKeptPlay s st.rounds (play_of (st.sessions m.session)) → IsKeptPlay s st.rounds (play_of session)
  pub shown : text ≡ answer_line m reply
  pub goes_on : next ≡ with_session st m.session session

abbrev pub many_terms : Specification → Terms ManyState Message
many_terms s =
    record {
      names = s.names;
      wanted = inputs_of s;
      shown = outputs_of s;
      ReadsAs = IsNumbered;
      first_broken = λ st m. None;
      Opens = OpensMany s;
      Answers = AnswersMessage s;
    }
