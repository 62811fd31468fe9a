use Rattle.std.proofs.Common.{List, ℕ, sym, subst}
use Rattle.many_sessions.specs.Solo.{unplayed, IsSolo}
use Rattle.many_sessions.specs.Talks.{texts_of, replies_of}
use Rattle.many_sessions.proofs.Alone.{solo_one}
use Rattle.many_sessions.proofs.laws.no_session_is_told_of_another.Goals as goal

pub returns : goal.returns
returns c = λ s g l j k n turns others typed one other same.
    solo_one s g l typed unplayed (texts_of n turns) (replies_of n turns) (replies_of n others) one.last other.last one.solo
    (subst (λ (texts : List (List ℕ)). IsSolo s g l texts (replies_of n others) other.last) (sym same) other.solo)
