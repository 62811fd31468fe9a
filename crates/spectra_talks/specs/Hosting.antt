-- Many sessions that the program served.
use Rattle.std.specs.Prelude.{◌≡◌, ℕ, List, Option}
use Rattle.spec_model.specs.Syntax.{Specification}
use Rattle.spec_model.specs.Games.{GameData}
use Rattle.gr1_law.specs.Layers.{LayerSets, IsWinning}
use Rattle.spec_model.specs.Sets.{StateSet}
use Rattle.session.specs.declared.talking.End.{End}
use Rattle.many_sessions.specs.declared.talking.ManyEnd.{ManyEnd}
use Rattle.many_sessions.specs.Ends.{end_of}
use Rattle.many_sessions.specs.Talks.{ManyTalk}
use Rattle.spectra_talks.specs.declared.status.Status.{Status}
use Rattle.spectra_talks.specs.Endings.{realizable}
use Rattle.spectra_talks.specs.Streams.{Moment}
use Rattle.spectra_talks.specs.Sessions.{Talk, most_positions, HoldsSession, ending_after}

-- each session is told what it would be told alone, by the layers of the game; a line counts as a position does
pub record IsManyTalk (s : Specification) (g : GameData) (k : ℕ) (left_old left_new written_old written_new : Option (List ℕ)) (rose_in rose_out : Type 0) (end : End) : Type 0 where
  pub winning_states : StateSet
  pub layers : LayerSets
  pub winning : IsWinning g winning_states layers
  pub told : ManyEnd
  pub same : end_of told ≡ end
  pub talk : ManyTalk s g layers k most_positions left_old left_new written_old written_new rose_in rose_out told

abbrev pub ManyTalks : Specification → GameData → (k : ℕ) → Talk
ManyTalks s g k = IsManyTalk s g k

-- the sessions of one specification, by the layers of this game
abbrev pub Hosts : Specification → GameData → (k : ℕ) → (before after : Moment) → Status → Type 0
Hosts s g k = HoldsSession (realizable k) (ManyTalks s g k) ending_after
