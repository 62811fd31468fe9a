-- What comes of one line of a session.
use Rattle.std.specs.Prelude.{◌≡◌, ℕ, true, List, Some, None}
use Rattle.spec_model.specs.declared.game.Label.{Label}
use Rattle.spec_model.specs.Rules.{Run, after}
use Rattle.spec_model.specs.Values.{Assignment, is_assignment}
use Rattle.spec_model.specs.Syntax.{VariableData, Specification}
use Rattle.spec_model.specs.Steps.{Before, reached}
use Rattle.gr1_law.specs.Choice.{Memory, IsChosen}
use Rattle.regions.specs.Kept.{Kept}
use Rattle.controller.specs.declared.controller.Controller.{Controller}
use Rattle.session_lines.specs.Room.{domains}
use Rattle.session_lines.specs.Shown.{outputs_of, show}
use Rattle.many_sessions.specs.declared.many.Many.{Many}
use Rattle.many_sessions.specs.declared.turning.Outcome.{Outcome}
use Rattle.many_sessions.specs.declared.turning.Outcome.TheVariants as outcomes
use Rattle.session.specs.Talks.{first_broken_after}
use Rattle.many_sessions.specs.Solo.{Session, alive, over, play_of, refused_text, ended_text, broken_text, IsReply}
use Rattle.many_sessions.specs.Talks.{IsKeptPlay}
use Rattle.many_sessions.specs.Terms.{ManyState, with_session}
use Rattle.many_sessions.specs.Seats.{Serves}

-- what is told of an outcome, with the output that was chosen where a move was made
abbrev pub reply_of : (names : List (List ℕ)) → List VariableData → Outcome → Assignment → List ℕ
reply_of names vs outcomes.Ended y = ended_text
reply_of names vs outcomes.Refused y = refused_text
reply_of names vs (outcomes.Broken label) y = broken_text label
reply_of names vs outcomes.Moved y = show names vs y

-- the output has a value for each variable, where a move was made
abbrev pub CanBeTold : List VariableData → Outcome → Assignment → Type 0
CanBeTold vs outcomes.Moved y = is_assignment (domains vs) y ≡ true
CanBeTold vs _ y = Unit {0}

module _ {G R M : Type 0} (kept : G → Kept R M) where
  -- the output that is chosen was made, and the session goes on
  pub record HasMoved (s : Specification) (st : ManyState) (n : ℕ) (h : Run) (b : Before) (m : Memory) (x y : Assignment) (many : Many) (c : Controller G R M) : Type 0 where
    pub unbroken : first_broken_after s h x ≡ None
    pub next : Memory
    pub chosen : IsChosen st.game st.layers b m x y next
    pub play : IsKeptPlay s st.rounds (after h x y)
    pub fits : is_assignment (domains (outputs_of s)) y ≡ true
    pub serves : Serves kept many c s (with_session st n (alive (after h x y) (Some (reached st.game b x y)) next))

  -- the input breaks an assumption, and the session is over
  pub record HasBroken (s : Specification) (st : ManyState) (n : ℕ) (h : Run) (x : Assignment) (label : Label) (many : Many) (c : Controller G R M) : Type 0 where
    pub broken : first_broken_after s h x ≡ Some label
    pub serves : Serves kept many c s (with_session st n (over h))

  -- what came of an input
  abbrev pub MovesOn : Specification → ManyState → ℕ → Run → Before → Memory → (x y : Assignment) → Many → Controller G R M → Outcome → Type 0
  MovesOn s st n h b m x y many c outcomes.Moved = HasMoved s st n h b m x y many c
  MovesOn s st n h b m x y many c (outcomes.Broken label) = HasBroken s st n h x label many c
  MovesOn s st n h b m x y many c outcomes.Refused = ⊥
  MovesOn s st n h b m x y many c outcomes.Ended = ⊥

  -- the session took its text, and the seats and the play serve the sessions with the new one
  pub record TakesTurn (s : Specification) (st : ManyState) (n : ℕ) (text : List ℕ) (many : Many) (c : Controller G R M) (outcome : Outcome) : Type 0 where
    pub session : Session
    pub replies : IsReply s st.game st.layers (st.sessions n) text (reply_of s.names (outputs_of s) outcome many.output.items) session
    pub kept_on : IsKeptPlay s st.rounds (play_of (st.sessions n)) → IsKeptPlay s st.rounds (play_of session)
    pub can_tell : CanBeTold (outputs_of s) outcome many.output.items
    pub serves : Serves kept many c s (with_session st n session)
