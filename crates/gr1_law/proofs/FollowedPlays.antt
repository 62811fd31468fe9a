-- What is remembered along an answered play, and the numbers of the sets that its inputs lead into.
use Rattle.std.proofs.Common.{◌≡◌, ℕ, suc, List, Some, arith, IsTrue}
use Rattle.spec_model.specs.Values.{Assignment}
use Rattle.spec_model.specs.Games.{GameData, State}
use Rattle.spec_model.specs.GameRuns.{state_at}
use Rattle.gr1_law.specs.EnvLayers.{EnvLayerSets}
use Rattle.gr1_law.specs.Counter.{CounterMemory, IsGiven}
use Rattle.gr1_law.specs.CounterLaws.{IsLostWith}
use Rattle.gr1_law.specs.FollowedPlays.{NumberFollows, AnsweredPlaysAreFollowed}
use Rattle.gr1_law.proofs.Solutions.{least-one}
use Rattle.gr1_law.proofs.CounterSteps.{CounterReady, CounterStands, ready_after}
use Rattle.gr1_law.proofs.CounterTrails.{answered, given_lower, given_below}
use Rattle.gr1_law.proofs.Following.{RankedBy, rank_at, ranked_at, followed, some_at, most_at}
use Rattle.gr1_law.proofs.Givens.{given_iterate, given_some}

-- at a position
pub number_follows : (g : GameData) (e : EnvLayerSets) (n : ℕ) (counts : ℕ → ℕ → List ℕ) (lost : IsLostWith g e n counts) (s : State) (k : CounterMemory) (stands : CounterStands g e n s k) (rank : ℕ) → RankedBy g e lost.layers n s k rank →
    (r : ℕ) (x : Assignment) → IsGiven g e (Some s) k r x → NumberFollows g counts s k rank r x
number_follows g e n counts lost s k stands rank ranked r x given =
    let ready : CounterReady g e n (Some s) k = ready_after g e lost.layers n s k stands in
    let is : rank ≡ stands.rank = least-one (λ r. IsTrue (e.x k.layer k.goal k.before r s)) rank stands.rank ranked stands.ranked in
    record {
      below = given_below g e lost.layers n s k stands r x given;
      at_most = given_iterate g e n counts lost (Some s) k ready r x given;
      lower = λ denying fails. let less = given_lower g e lost.layers n s k stands r x given denying fails in omega (arith, is, less);
      some = given_some g e n counts lost (Some s) k ready r x given;
    }

pub plays_followed : (g : GameData) → AnsweredPlaysAreFollowed g
plays_followed g e n counts lost h notes b k play =
    let end = answered g e lost.layers n h notes b k lost.forced play in
    let ranks = rank_at g e lost.layers n h notes k end.trail in
    let ranked = ranked_at g e lost.layers n h notes k end.trail in
    record {
      memory = end.trail.memory;
      rank = ranks;
      trail = followed g e lost.layers n counts lost.delays h notes k end.trail end.counted;
      last = end.trail.last;
      rank_some = some_at g e lost.layers n counts lost.delays h notes k end.trail end.counted;
      rank_most = most_at g e lost.layers n counts lost.delays h notes k end.trail end.counted;
      given = λ t inner r x given. number_follows g e n counts lost (state_at g h t) (end.trail.memory t) (end.trail.stands t inner) (ranks t) (ranked t inner) r x given;
      reaches = λ t inner denying r x given. (end.trail.follows t inner).reaches denying r x given (ranks (suc t)) (ranked (suc t) inner);
    }
