-- What answers the lines of a talk: the states that it stands for, and what is asked of it.
use Rattle.spec_model.specs.Syntax.{Specification}
use Rattle.session_lines.specs.declared.lines.Lines.{Lines}
use Rattle.session_lines.specs.Views.{AreOver}
use Rattle.session.specs.Exchanges.{Terms}

-- the lines are read and shown as the exchange wants it
abbrev pub Suits : {State Read : Type 0} → Lines → Terms State Read → Type 0
Suits lines t = AreOver lines t.names t.wanted t.shown

-- it stands for a state of an exchange of a specification that the lines are for
module _ {State Read : Type 0} (terms : Specification → Terms State Read) (Stands : Specification → State → Type 0) where
  pub record Serves (lines : Lines) : Type 0 where
    pub spec : Specification
    pub state : State
    pub suits : Suits lines (terms spec)
    pub stands : Stands spec state
