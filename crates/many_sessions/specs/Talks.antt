-- What is written for many sessions on one input, and how that ended.
use Rattle.std.specs.Prelude.{◌≡◌, ℕ, Bool, ◌==◌, ◌≤◌, List, [], ◌∷◌, ◌++◌, length, map, filter, Option}
use Rattle.std.specs.Fmt.{decimal}
use Rattle.std.specs.Io.KnownBytes.{Consumes}
use Rattle.spec_model.specs.Syntax.{Specification}
use Rattle.spec_model.specs.Rules.{Run}
use Rattle.spec_model.specs.Plays.{IsPlay}
use Rattle.spec_model.specs.Realizable.{Kept}
use Rattle.spec_model.specs.Moves.{rules_of}
use Rattle.spec_model.specs.Games.{GameData}
use Rattle.gr1_law.specs.Layers.{LayerSets}
use Rattle.session.specs.Ends.{Wrote}
use Rattle.many_sessions.specs.declared.talking.ManyEnd.{ManyEnd}
use Rattle.many_sessions.specs.Numbered.{Message, IsNumbered}
use Rattle.many_sessions.specs.Solo.{Session, play_of, IsSolo}
use Rattle.many_sessions.specs.Ends.{end_of, ManyEnds}

-- what a line is read as, and the reply to it
pub record Turn : Type 0 where
  pub message : Message
  pub reply : List ℕ

-- the line that answers: the session's number, a space, and the reply
abbrev pub answer_line : Message → (reply : List ℕ) → List ℕ
answer_line m reply = decimal m.session ++ (32 ∷ (reply ++ 10 ∷ []))

abbrev pub answer_lines : List Turn → List ℕ
answer_lines [] = []
answer_lines (t ∷ ts) = answer_line t.message t.reply ++ answer_lines ts

-- the lines are read as the messages of the turns
abbrev pub AreNumbered : List (List ℕ) → List Turn → Type 0
AreNumbered [] [] = Unit {0}
AreNumbered (line ∷ lines) (t ∷ ts) = IsNumbered line t.message × AreNumbered lines ts
AreNumbered _ _ = ⊥

-- the turns of one session, with their texts and replies, in order
abbrev pub turns_of : ℕ → List Turn → List Turn
turns_of n ts = filter (λ t. t.message.session == n) ts

abbrev pub texts_of : ℕ → List Turn → List (List ℕ)
texts_of n ts = map (λ t. t.message.text) (turns_of n ts)

abbrev pub replies_of : ℕ → List Turn → List (List ℕ)
replies_of n ts = map (λ t. t.reply) (turns_of n ts)

-- each move of the play is legal, and each recurring guarantee is kept within k rounds
pub record IsKeptPlay (s : Specification) (k : ℕ) (h : Run) : Type 0 where
  pub legal : IsPlay (rules_of s) h
  pub kept : Kept (rules_of s) k h

-- A session is told what it would be told alone, and its play is kept.
pub record IsServed (s : Specification) (g : GameData) (l : LayerSets) (k n : ℕ) (ts : List Turn) : Type 0 where
  pub last : Session
  pub solo : IsSolo s g l (texts_of n ts) (replies_of n ts) last
  pub play : IsKeptPlay s k (play_of last)

-- The talk: the input gave some bytes; the first of their lines have sessions' numbers and were answered, one line for each; each
-- session is served as if it were alone; and it ended so.
pub record ManyTalk (s : Specification) (g : GameData) (l : LayerSets) (k limit : ℕ) (left_old left_new written_old written_new : Option (List ℕ)) (rose_in rose_out : Type 0) (end : ManyEnd) : Type 0 where
  pub given : List ℕ
  pub taken_from : Consumes left_old left_new given
  pub handed : List (List ℕ)
  pub turns : List Turn
  pub numbered : AreNumbered handed turns
  pub served : (n : ℕ) → IsServed s g l k n turns
  pub few : length handed ≤ limit
  pub wrote : Wrote (end_of end) written_old written_new (answer_lines turns)
  pub ends : ManyEnds limit given left_new handed rose_in rose_out end
