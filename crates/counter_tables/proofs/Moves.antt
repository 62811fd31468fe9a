-- A move from a seat or from the start, step by step.
use Rattle.std.proofs.Common.{◌≡◌, ℕ, Bool, true, false, Vec, Result, Ok, Err, IfErr, IsErrAnd, List, [], ◌∷◌, ◌++◌, take, drop, length, Option, Some, None, is_some, is_none, refl, sym, ◌∙◌, ap, subst}
use Rattle.std.proofs.lemmas.Bool.{false≢true}
use Rattle.std.proofs.Math.Seq.{take-append_seam}
use Rattle.std.specs.declared.alloc.Global.{Global}
use Rattle.spec_model.specs.declared.value.Value.{Value}
use Rattle.spec_model.specs.Values.{Assignment}
use Rattle.spec_model.specs.Rules.{Run, after}
use Rattle.spec_model.specs.Unrealizable.{NoteData}
use Rattle.spec_model.specs.Games.{GameData, State, listed}
use Rattle.spec_model.specs.Steps.{Before, legal_output, reached}
use Rattle.regions.specs.Kept.{Kept}
use Rattle.gr1_law.specs.EnvLayers.{EnvLayerSets}
use Rattle.gr1_law.specs.Counter.{CounterMemory, first_counter, note_of, IsGiven, IsNoted, AnsweredPlay}
use Rattle.strategy_parts.proofs.Holdings.{stays_then, same_then, nothing_done, same_game}
use Rattle.counterstrategy.specs.declared.counterstrategy.Counterstrategy.{Counterstrategy}
use Rattle.counterstrategy.specs.declared.counterstrategy.Note.{Note}
use Rattle.counterstrategy.specs.declared.spot.EnvSpot.{EnvSpot}
use Rattle.counterstrategy.specs.Objects.{game_of, given_by, StandsFor, Gives, GoesOn, HoldsTheSame}
use Rattle.counterstrategy.specs.Spots.{spot_at, EndsAt, CanGo}
use Rattle.counter_tables.specs.Seats.{SeatData}
use Rattle.counter_tables.specs.Walks.{Ending, IsFrom, seat_at, MovesTo, Plays}
use Rattle.counter_tables.proofs.Meeting.{seat_by_parts}
use Rattle.counter_tables.proofs.Ends.{given_once}

-- what stays over two calls
pub holds_then : {G R M : Type 0} (kept : G → Kept R M) (a b c : Counterstrategy G R M) → HoldsTheSame kept a b → HoldsTheSame kept b c → HoldsTheSame kept a c
holds_then kept a b c first then =
    record {
      held = stays_then (kept a.g) (kept b.g) (kept c.g) first.held then.held;
      game = same_then (kept a.g) (kept b.g) (kept c.g) first.game then.game;
      layers = then.layers ∙ first.layers;
      kit = then.kit ∙ first.kit;
      judge = then.judge ∙ first.judge;
    }

-- what the exit of a `?` hands on
pub handed : {X E : Type 0} (P : E → Type 0) (r : Result X E) (e : E) → IsErrAnd r (λ y. y ≡ e) → P e → IfErr r P
handed P (Ok x) e is told = absurd is
handed P (Err y) e is told = subst P (sym is) told

-- as many values as there are take the place of all
pub written_over : {X : Type 0} (v : Vec X Global) (ws : List X) → length ws ≡ length v.items → take v.len (ws ++ drop (length ws) v.items) ≡ ws
written_over v ws same =
    let long : v.len ≡ length ws = v.ok.0 ∙ sym same in
    ap (λ n. take n (ws ++ drop (length ws) v.items)) long ∙ take-append_seam ws (drop (length ws) v.items)

pub holds_same : {G R M : Type 0} (kept : G → Kept R M) (c : Counterstrategy G R M) → HoldsTheSame kept c c
holds_same kept c = record { held = nothing_done (kept c.g); game = same_game (kept c.g); layers = refl; kit = refl; judge = refl }

pub none_if_not_some : {X : Type 0} (o : Option X) → is_some o ≡ false → is_none o ≡ true
none_if_not_some None is = refl
none_if_not_some (Some v) is = absurd (false≢true (sym is))

pub none_not_some : {X : Type 0} (o : Option X) → is_some o ≡ true → is_none o ≡ false
none_not_some None is = absurd (false≢true is)
none_not_some (Some v) is = refl

-- ---- at the start or at a seat

module _ {G R M : Type 0} (kept : G → Kept R M) (c : Counterstrategy G R M) (g : GameData) (game : game_of kept c ≡ g) (e : EnvLayerSets) where
  -- it gives the input that is given
  pub gives_given : (h : Run) (notes : List NoteData) (b : Before) (k : CounterMemory) (x x' : Assignment) (r' : ℕ) → Gives kept c e h notes b k x → IsGiven g e b k r' x' → Gives kept c e h notes b k x'
  gives_given h notes b k x x' r' gives given =
      let one = subst (λ (d : GameData). IsGiven d e b k gives.rank x) game gives.given in
      subst (λ (x : Assignment). Gives kept c e h notes b k x) (given_once g e b k gives.rank r' x x' one given).1 gives

  pub at_start : (p : Ending) → IsFrom g e None p → (x : Assignment) → Gives kept c e [] [] None first_counter x → Gives kept c e p.run p.notes p.before p.memory p.input
  at_start p is x gives =
      let start = is.1 in
      let given = subst (λ (k : CounterMemory). IsGiven g e None k p.rank p.input) start.memory (subst (λ (b : Before). IsGiven g e b p.memory p.rank p.input) start.before is.0.given) in
      let here = gives_given [] [] None first_counter x p.input p.rank gives given in
      subst (λ (h : Run). Gives kept c e h p.notes p.before p.memory p.input) (sym start.run)
      (subst (λ (notes : List NoteData). Gives kept c e [] notes p.before p.memory p.input) (sym start.notes)
      (subst (λ (b : Before). Gives kept c e [] [] b p.memory p.input) (sym start.before)
      (subst (λ (k : CounterMemory). Gives kept c e [] [] None k p.input) (sym start.memory) here)))

  pub at_seat : (p : Ending) (v : SeatData) (is : IsFrom g e (Some v) p) (x : Assignment) → Gives kept c e p.run p.notes (Some is.1.state) p.memory x → Gives kept c e p.run p.notes p.before p.memory p.input
  at_seat p v is x gives =
      let given = subst (λ (b : Before). IsGiven g e b p.memory p.rank p.input) is.1.before is.0.given in
      subst (λ (b : Before). Gives kept c e p.run p.notes b p.memory p.input) (sym is.1.before) (gives_given p.run p.notes (Some is.1.state) p.memory x p.input p.rank gives given)

  -- a play ends there as `go` asks for it
  pub ends_there : (p : Ending) (v : SeatData) (is : IsFrom g e (Some v) p) → EndsAt (game_of kept c) e p.run p.notes is.1.state p.memory v.values v.spot
  ends_there p v is =
      subst (λ (d : GameData). EndsAt d e p.run p.notes is.1.state p.memory v.values v.spot) (sym game)
      (record {
        play = subst (λ (b : Before). AnsweredPlay g e p.run p.notes b p.memory) is.1.before is.0.play;
        rank = p.rank;
        input = p.input;
        given = subst (λ (b : Before). IsGiven g e b p.memory p.rank p.input) is.1.before is.0.given;
        lists = ap (λ (q : SeatData). q.values) is.1.is;
        remembered = ap (λ (q : SeatData). q.spot) is.1.is;
      })

  pub can_go : (plays : Plays kept c g e) (p : Ending) (v : SeatData) → IsFrom g e (Some v) p → CanGo kept c v.values v.spot
  can_go plays p v is = (e, plays.run, plays.notes, plays.before, plays.memory, plays.stands, p.run, p.notes, is.1.state, p.memory, ends_there p v is)

  -- it stands for a play, as a play is walked
  pub plays_as : (h : Run) (notes : List NoteData) (b : Before) (k : CounterMemory) → StandsFor kept c e h notes b k → Plays kept c g e
  plays_as h notes b k stands = record { game = game; run = h; notes = notes; before = b; memory = k; stands = stands }

-- ---- the move

-- what the judge tells of an output, of the game
pub judged : (d g : GameData) → d ≡ g → (b : Before) (x' x : Assignment) → x' ≡ x → (y : Assignment) (t u : Bool) → t ≡ legal_output d b x' y → t ≡ u → legal_output g b x y ≡ u
judged d g game b x' x same y t u told is = ap (λ (d : GameData). legal_output d b x y) (sym game) ∙ (ap (λ (x : Assignment). legal_output d b x y) (sym same) ∙ (sym told ∙ is))

pub reached_same : (d g : GameData) → d ≡ g → (b : Before) (x' x : Assignment) → x' ≡ x → (y : Assignment) → reached d b x' y ≡ reached g b x y
reached_same d g game b x' x same y = ap (λ (d : GameData). reached d b x' y) game ∙ ap (λ (x : Assignment). reached g b x y) same

some_is : (s t : State) → Some s ≡ Some t → s ≡ t
some_is s t is = cc (is)

module _ {G R M : Type 0} (kept : G → Kept R M) (play moved : Counterstrategy G R M) (g : GameData) (was : game_of kept play ≡ g) (now : game_of kept moved ≡ g) (e : EnvLayerSets) (p : Ending) (gave : Gives kept play e p.run p.notes p.before p.memory p.input) (y : Assignment) where
  -- what was written is where the output leads
  pub moved_to : legal_output g p.before p.input y ≡ true → (note : Note) (next : CounterMemory) (x' : Assignment) → GoesOn kept play moved e p.run p.notes p.before p.memory y note next x' → (values : List Value) (spot : EnvSpot) →
      ((s : State) × (Some (reached (game_of kept play) p.before (given_by play) y) ≡ Some s) × EndsAt (game_of kept moved) e (after p.run (given_by play) y) (p.notes ++ note_of (game_of kept play) next ∷ []) s next values spot) →
      MovesTo g e p y (record { values = values; spot = spot; reply = x' })
  moved_to legal note next x' on values spot ends =
      let t : State = reached (game_of kept play) p.before (given_by play) y in
      let s : State = reached g p.before p.input y in
      let same : t ≡ s = reached_same (game_of kept play) g was p.before (given_by play) p.input gave.input y in
      let end : t ≡ ends.0 = some_is t ends.0 ends.1 in
      let given = subst (λ (d : GameData). IsGiven d e (Some t) next on.gives.rank x') now on.gives.given in
      let told = subst (λ (z : State). IsGiven g e (Some z) next ends.2.rank ends.2.input) (sym end) (subst (λ (d : GameData). IsGiven d e (Some ends.0) next ends.2.rank ends.2.input) now ends.2.given) in
      let ranks = (given_once g e (Some t) next on.gives.rank ends.2.rank x' ends.2.input given told).0 in
      record {
        legal = legal;
        next = next;
        noted = subst (λ (z : State). IsNoted g e p.memory z next) same (subst (λ (d : GameData). IsNoted d e p.memory t next) was on.noted);
        rank = on.gives.rank;
        reply = x';
        given = subst (λ (z : State). IsGiven g e (Some z) next on.gives.rank x') same given;
        is = seat_by_parts (seat_at s next on.gives.rank x') (record { values = values; spot = spot; reply = x' }) (ap listed (sym same ∙ end) ∙ ends.2.lists) (ap (spot_at next) ranks ∙ ends.2.remembered) refl;
      }
