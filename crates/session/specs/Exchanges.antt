-- Talks, whoever speaks first: lines that are read and answered one after the other, and how that ends.
use Rattle.std.specs.Prelude.{◌≡◌, ℕ, Bool, ◌+◌, ◌≤◌, List, [], ◌∷◌, ◌++◌, length, Option, Some, None, Result, OnOk, OnErr}
use Rattle.std.specs.Io.KnownBytes.{Appends, Consumes}
use Rattle.sp_outside.specs.Written.{AppendsFront}
use Rattle.spec_model.specs.declared.game.Label.{Label}
use Rattle.spec_model.specs.Syntax.{VariableData}
use Rattle.session_lines.specs.Handed.{Hands}
use Rattle.session.specs.declared.protocol.Reply.{Reply}
use Rattle.session.specs.declared.protocol.Reply.TheVariants as replies
use Rattle.session.specs.declared.talking.End.{End}
use Rattle.session.specs.declared.talking.End.TheVariants as ends
pub use Rattle.session.specs.Ends.{IsRefused, Ends, Wrote}

-- What is told of an exchange and its states: the variables that lines are made for, wanted and shown; what a line reads as; the
-- first line of the specification that what was read breaks; what may be written before the first line is read, and what may
-- answer what was read, each with the state after it.
pub record Terms (State Read : Type 0) : Type 1 where
  pub names : List (List ℕ)
  pub wanted : List VariableData
  pub shown : List VariableData
  pub ReadsAs : List ℕ → Read → Type 0
  pub first_broken : State → Read → Option Label
  pub Opens : State → (text : List ℕ) → State → Type 0
  pub Answers : State → (read : Read) → (text : List ℕ) → State → Type 0

module _ {State Read : Type 0} (t : Terms State Read) where
  -- From a state: the opening is written; then each of these lines reads as something that breaks nothing, and is
  -- answered. This is what is written in all, and the state after it.
  pub data Exchanges (first : State) : (lines : List (List ℕ)) → (texts : List ℕ) → State → Type 0 where
    opened : (text : List ℕ) (st : State) → t.Opens first text st → Exchanges first [] text st
    answered : (lines : List (List ℕ)) (texts : List ℕ) (st : State) (line : List ℕ) (x : Read) (text : List ℕ) (next : State) → Exchanges first lines texts st →
        t.ReadsAs line x → t.first_broken st x ≡ None → t.Answers st x text next → Exchanges first (lines ++ line ∷ []) (texts ++ text) next

  -- The talk from a state: the input gave some bytes; the first of their lines were read and answered; and it ended so.
  pub record Talk (first : State) (limit : ℕ) (left_old left_new written_old written_new : Option (List ℕ)) (rose_in rose_out : Type 0) (end : End) : Type 0 where
    pub given : List ℕ
    pub taken_from : Consumes left_old left_new given
    pub handed : List (List ℕ)
    pub texts : List ℕ
    pub last : State
    pub exchanges : Exchanges first handed texts last
    pub few : length handed ≤ limit
    pub wrote : Wrote end written_old written_new texts
    pub ends : Ends t.ReadsAs (t.first_broken last) limit given left_new handed (length handed) rose_in rose_out end

  -- ---- on the way, of an object that stands for some states

  module _ (Stands : State → Type 0) where
    -- so many lines were answered; `ended` says whether the input gave its end
    pub record SoFar (first : State) (ended : Bool) (left_old left_new written_old written_new : Option (List ℕ)) (pending : List ℕ) (count : ℕ) : Type 0 where
      pub handed : List (List ℕ)
      pub hands : Hands ended left_old left_new handed pending
      pub texts : List ℕ
      pub last : State
      pub exchanges : Exchanges first handed texts last
      pub counted : length handed ≡ count
      pub wrote : Appends written_old written_new texts
      pub stands : Stands last

    -- the opening was written, or a front of it
    pub record HasOpened {T E : Type 0} (first : State) (written_old written_new : Option (List ℕ)) (result : Result T E) : Type 0 where
      pub text : List ℕ
      pub next : State
      pub opens : t.Opens first text next
      pub stands : Stands next
      pub whole : OnOk result (Appends written_old written_new text)
      pub part : OnErr result (AppendsFront written_old written_new text)

    -- an answer to what was read, which breaks nothing
    pub record Answer (st : State) (x : Read) : Type 0 where
      pub legal : t.first_broken st x ≡ None
      pub text : List ℕ
      pub next : State
      pub answers : t.Answers st x text next
      pub stands : Stands next

    module _ (st : State) (written_old written_new : Option (List ℕ)) (rose_out : Type 0) where
      -- what came of what was read: an answer was written, or a front of one, or nothing, as it breaks a line
      abbrev pub RepliesTo : Read → Reply → Type 0
      RepliesTo x replies.Answered = (a : Answer st x) × Appends written_old written_new a.text
      RepliesTo x replies.Failed = (a : Answer st x) × AppendsFront written_old written_new a.text × rose_out
      RepliesTo x (replies.Broken label) = (t.first_broken st x ≡ Some label) × Appends written_old written_new [] × Stands st
      RepliesTo x replies.Refused = ⊥

      -- likewise of a line, or nothing was read of it
      abbrev pub Replies : (line : List ℕ) → Reply → Type 0
      Replies line replies.Refused = IsRefused t.ReadsAs (Some line) × Appends written_old written_new [] × Stands st
      Replies line reply = (x : Read) × t.ReadsAs line x × RepliesTo x reply

      -- likewise of the line after so many others, where the talk ends unless it is answered
      abbrev pub IsMet : (count : ℕ) → (line : List ℕ) → Option End → Type 0
      IsMet count line None = Replies line replies.Answered
      IsMet count line (Some (ends.BadLine n)) = (n ≡ count + 1) × Replies line replies.Refused
      IsMet count line (Some (ends.Broken label)) = Replies line (replies.Broken label)
      IsMet count line (Some ends.WriteFault) = Replies line replies.Failed
      IsMet count line (Some ends.Finished) = ⊥
      IsMet count line (Some ends.StateLimit) = ⊥
      IsMet count line (Some ends.ReadFault) = ⊥

    -- the talk has ended
    pub record HasEnded (first : State) (limit : ℕ) (left_old left_new written_old written_new : Option (List ℕ)) (rose_in rose_out : Type 0) (end : End) : Type 0 where
      pub talk : Talk first limit left_old left_new written_old written_new rose_in rose_out end
      pub state : State
      pub stands : Stands state

    -- what came of a turn: one line more was answered, or the talk has ended
    abbrev pub GoesOn : (first : State) → (limit : ℕ) → (ended : Bool) → (left_old left_new written_old written_new : Option (List ℕ)) → (rose_in rose_out : Type 0) → (pending : List ℕ) → (count : ℕ) → Option End → Type 0
    GoesOn first limit ended left_old left_new written_old written_new rose_in rose_out pending count None = SoFar first ended left_old left_new written_old written_new pending (count + 1)
    GoesOn first limit ended left_old left_new written_old written_new rose_in rose_out pending count (Some end) = HasEnded first limit left_old left_new written_old written_new rose_in rose_out end
