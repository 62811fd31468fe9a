-- What one session is told for its texts, whatever the others are.
use Rattle.std.specs.Prelude.{◌≡◌, ◌⊎◌, ℕ, List, [], ◌∷◌, ◌++◌, codes, Option, Some, None}
use Rattle.std.specs.Fmt.{decimal}
use Rattle.spec_model.specs.declared.game.Label.{Label}
use Rattle.spec_model.specs.Values.{Assignment}
use Rattle.spec_model.specs.Syntax.{Specification}
use Rattle.spec_model.specs.Rules.{Run, after}
use Rattle.spec_model.specs.Games.{GameData}
use Rattle.spec_model.specs.Steps.{Before, reached}
use Rattle.gr1_law.specs.Layers.{LayerSets}
use Rattle.gr1_law.specs.Choice.{Memory, first_memory, IsChosen}
use Rattle.session_lines.specs.Shown.{outputs_of, show}
use Rattle.session.specs.Ends.{IsRefused}
use Rattle.session.specs.Talks.{ReadsInput, first_broken_after}

-- a session with its play: it goes on, with its last state and what is remembered there, or it is over
pub data Session : Type 0 where
  alive : Run → Before → Memory → Session
  over : Run → Session

-- before its first line
abbrev pub unplayed : Session
unplayed = alive [] None first_memory

abbrev pub play_of : Session → Run
play_of (alive h b m) = h
play_of (over h) = h

abbrev pub refused_text : List ℕ
refused_text = codes "refused"

abbrev pub ended_text : List ℕ
ended_text = codes "ended"

abbrev pub broken_text : Label → List ℕ
broken_text l = codes "assumption broken #" ++ decimal l.line

module _ (s : Specification) (g : GameData) (l : LayerSets) where
  -- the text reads as a legal input, and is answered by the output that is chosen by the layers
  pub record IsPlayed (h : Run) (b : Before) (m : Memory) (text reply : List ℕ) (next : Session) : Type 0 where
    pub input : Assignment
    pub output : Assignment
    pub reads : ReadsInput s text input
    pub unbroken : first_broken_after s h input ≡ None
    pub memory : Memory
    pub chosen : IsChosen g l b m input output memory
    pub told : reply ≡ show s.names (outputs_of s) output
    pub goes_on : next ≡ alive (after h input output) (Some (reached g b input output)) memory

  -- no input reads, which ends the session
  pub record IsTurnedDown (h : Run) (text reply : List ℕ) (next : Session) : Type 0 where
    pub refused : IsRefused (ReadsInput s) (Some text)
    pub told : reply ≡ refused_text
    pub ends : next ≡ over h

  -- the input breaks an assumption, which ends the session
  pub record Breaks (h : Run) (text reply : List ℕ) (next : Session) : Type 0 where
    pub input : Assignment
    pub label : Label
    pub reads : ReadsInput s text input
    pub broken : first_broken_after s h input ≡ Some label
    pub told : reply ≡ broken_text label
    pub ends : next ≡ over h

  -- what the next text of a session is answered, and the session after it
  abbrev pub IsReply : Session → (text reply : List ℕ) → (next : Session) → Type 0
  IsReply (alive h b m) text reply next = IsPlayed h b m text reply next ⊎ (IsTurnedDown h text reply next ⊎ Breaks h text reply next)
  IsReply (over h) text reply next = (reply ≡ ended_text) × (next ≡ over h)

  -- texts and their replies, from one session to another
  abbrev pub IsSoloFrom : Session → (texts replies : List (List ℕ)) → (last : Session) → Type 0
  IsSoloFrom t [] [] last = last ≡ t
  IsSoloFrom t (text ∷ texts) (reply ∷ replies) last = (next : Session) × IsReply t text reply next × IsSoloFrom next texts replies last
  IsSoloFrom _ _ _ _ = ⊥

  -- these are the replies to a session's texts, from its first one
  abbrev pub IsSolo : (texts replies : List (List ℕ)) → (last : Session) → Type 0
  IsSolo texts replies last = IsSoloFrom unplayed texts replies last
