-- The noted plays of the environment's strategy are plays of a specification that beat the system.
use Rattle.std.proofs.Common.{◌≡◌, ℕ, true, not, [], ◌∷◌, ◌++◌, length, List, Option, None, refl, sym, ap, subst, ◌∙◌, arith}
use Rattle.std.proofs.lemmas.List.{length-map}
use Rattle.std.specs.Prelude.{Vec}
use Rattle.std.specs.declared.alloc.Global.{Global}
use Rattle.spec_model.specs.declared.game.Label.{Label}
use Rattle.spec_model.specs.Values.{Assignment, DomainData, is_assignment}
use Rattle.spec_model.specs.Views.{variable_data}
use Rattle.spec_model.specs.Syntax.{VariableData, Specification}
use Rattle.spec_model.specs.Rules.{Run, after}
use Rattle.spec_model.specs.Unrealizable.{NoteData}
use Rattle.spec_model.specs.Moves.{is_env, domains_of, legal_input}
use Rattle.spec_model.specs.Games.{GameData}
use Rattle.spec_model.specs.Agreement.{Agrees}
use Rattle.spec_model.specs.Steps.{Before, is_output}
use Rattle.spec_model.specs.FirstBroken.{first_broken_output}
use Rattle.regions.specs.Kept.{Kept}
use Rattle.regions.specs.Rules.{input_count}
use Rattle.gr1_law.specs.EnvLayers.{EnvLayerSets, denial_count}
use Rattle.gr1_law.specs.Counter.{CounterMemory, IsGiven, note_of}
use Rattle.gr1_law.specs.Specifications.{AnsweredPlayBeatsSpecification}
use Rattle.gr1_law.proofs.CarryingBeats.{play_beats}
use Rattle.gr1_law.proofs.Labels.{labels_differ}
use Rattle.gr1_env.specs.declared.layers.EnvLayer.{EnvLayer}
use Rattle.gr1_env.specs.Solved.{counts_of}
use Rattle.counterstrategy.specs.declared.counterstrategy.Counterstrategy.{Counterstrategy}
use Rattle.counterstrategy.specs.declared.counterstrategy.Note.{Note}
use Rattle.counterstrategy.specs.Objects.{game_of as game_played, IsFresh, given_by, Stands, Gives, GoesOn, HoldsTheSame, note_data}
use Rattle.session_lines.specs.declared.lines.Lines.{Lines}
use Rattle.session_lines.specs.Room.{domains}
use Rattle.session_lines.specs.Shown.{inputs_of, outputs_of, show}
use Rattle.session_lines.specs.Views.{AreOver, names_of, shown_variables, shown_of}
use Rattle.session.specs.Exchanges.{Answer}
use Rattle.session.specs.CounterTalks.{first_broken_reply, shown_input, note_line}
use Rattle.session.specs.CounterTerms.{CounterState, counter_terms}
use Rattle.session.specs.Counters.{shifts_of, denials_of, IsCounterOf, HasPlayedNothing, StandsIn, WaitsIn, GivesIn}
use Rattle.session.proofs.RunTalks.{input_domains_are, output_domains_are}

no_notes : (notes : List NoteData) → length notes ≡ 0 → notes ≡ []
no_notes [] e = refl
no_notes (w ∷ notes) e = absurd (cc)

-- ---- moves of a specification are the game's

module _ (s : Specification) (g : GameData) (agrees : Agrees s g) where
  pub reply_fits_game : (y : Assignment) (vs : List VariableData) → vs ≡ outputs_of s → is_assignment (domains vs) y ≡ true → is_output g y ≡ true
  reply_fits_game y vs are fits =
      ap (λ ds. is_assignment ds y) (ap (λ (vs : List VariableData). domains_of (λ o. not (is_env o)) vs) agrees.variables ∙ sym (output_domains_are s) ∙ sym (ap domains are)) ∙ fits

  pub room_for_input : (lines : Lines) → shown_variables lines ≡ inputs_of s → length (shown_of lines) ≡ input_count g
  room_for_input lines are =
      let vars = length-map lines.shown.vars.items variable_data in
      let same = ap (λ (vs : List VariableData). length vs) are in
      let ds = ap (λ (ds : List DomainData). length ds) (input_domains_are s) in
      let of_domains = length-map (inputs_of s) (λ (v : VariableData). v.domain) in
      let game = ap (λ (vs : List VariableData). length (domains_of is_env vs)) agrees.variables in
      omega (arith, lines.shown.places, lines.shown.values.ok, lines.shown.vars.ok, vars, same, ds, of_domains, game)

-- ---- one play

module _ {G R M : Type 0} (kept : G → Kept R M) (c : Counterstrategy G R M) (s : Specification) (n m : ℕ) (h : Run) (notes : List NoteData) (p : StandsIn kept c s n m h notes) where
  pub counter_stands : Stands kept c
  counter_stands = (p.layers, h, notes, p.before, p.memory, p.stands)

  -- its play is one of given inputs, so each move is legal, and it beats the system
  pub tells_of : AnsweredPlayBeatsSpecification s (game_played kept c) p.layers n m h notes p.before p.memory
  tells_of =
      let g = game_played kept c in
      let sound = p.stands.sound in
      let agrees = p.is_of.agrees in
      let beats = play_beats s g agrees sound.made (labels_differ s g agrees p.is_of.rise) p.layers (shifts_of c) (counts_of c.layers.items) sound.lost h notes p.before p.memory p.stands.play in
      subst (λ (n : ℕ). AnsweredPlayBeatsSpecification s g p.layers n m h notes p.before p.memory) (sym p.shifts)
      (subst (λ (m : ℕ). AnsweredPlayBeatsSpecification s g p.layers (shifts_of c) m h notes p.before p.memory) (sym p.denials) beats)

  -- the line that is named is the first that is broken
  pub names_reply : (x y : Assignment) (label : Option Label) → label ≡ first_broken_output (game_played kept c) p.before x y → first_broken_reply s h x y ≡ label
  names_reply x y label is = sym (is ∙ ap (λ (b : Before). first_broken_output (game_played kept c) b x y) tells_of.state ∙ p.is_of.agrees.broken_output h x y)

  -- the given input is legal
  pub given_is_legal : (r : ℕ) (x : Assignment) → IsGiven (game_played kept c) p.layers p.before p.memory r x → legal_input s h x ≡ true
  given_is_legal r x given = tells_of.input r x given

-- a strategy that gave no input and played nothing stands for the empty play
pub waits : {G R M : Type 0} (kept : G → Kept R M) (c : Counterstrategy G R M) (s : Specification) → IsCounterOf kept c s → Stands kept c → IsFresh c → HasPlayedNothing kept c → WaitsIn kept c s (shifts_of c) (denials_of kept c) [] []
waits kept c s is_of stands fresh nothing =
    let e = stands.0 in
    let h = stands.1 in
    let notes = stands.2 in
    let here : StandsIn kept c s (shifts_of c) (denials_of kept c) h notes =
    record { is_of = is_of; shifts = refl; denials = refl; layers = e; before = stands.3; memory = stands.4; stands = stands.5 } in
    let empty : h ≡ [] = nothing e h notes stands.3 stands.4 stands.5 in
    let counted = (tells_of kept c s (shifts_of c) (denials_of kept c) h notes here).beaten.noted in
    let unnoted : notes ≡ [] = no_notes notes (counted ∙ ap (λ (h : Run). length h) empty) in
    record {
      place =
          subst (λ (h : Run). StandsIn kept c s (shifts_of c) (denials_of kept c) h []) empty
          (subst (λ (notes : List NoteData). StandsIn kept c s (shifts_of c) (denials_of kept c) h notes) unnoted here);
      fresh = fresh;
    }

-- ---- from one strategy to the next

module _ {G R M : Type 0} (kept : G → Kept R M) (old new : Counterstrategy G R M) (s : Specification) (same : HoldsTheSame kept old new) where
  same_spec : IsCounterOf kept old s → IsCounterOf kept new s
  same_spec is_of = record { agrees = subst (λ (g : GameData). Agrees s g) (sym same.game.game) is_of.agrees; rise = is_of.rise }

  same_shifts : shifts_of old ≡ shifts_of new
  same_shifts = ap (λ (ls : Vec (EnvLayer G R M) Global). length ls.items) (sym same.layers)

  same_denials : denials_of kept old ≡ denials_of kept new
  same_denials =
      ap (λ (g : GameData). denial_count g (shifts_of old) (counts_of old.layers.items)) (sym same.game.game)
      ∙ ap (λ (ls : Vec (EnvLayer G R M) Global). denial_count (game_played kept new) (length ls.items) (counts_of ls.items)) (sym same.layers)

  -- an input is given after the play for which it stood, or for which it stands since
  pub gives_in : (n m : ℕ) (h0 : Run) (notes0 : List NoteData) → StandsIn kept old s n m h0 notes0 → (e : EnvLayerSets) (h : Run) (notes : List NoteData) (b : Before) (k : CounterMemory) (x : Assignment) →
      Gives kept new e h notes b k x → GivesIn kept new s n m h notes x
  gives_in n m h0 notes0 p e h notes b k x gives =
      record {
        place = record {
          is_of = same_spec p.is_of;
          shifts = p.shifts ∙ same_shifts;
          denials = p.denials ∙ same_denials;
          layers = e;
          before = b;
          memory = k;
          stands = gives.stands;
        };
        has_given = gives.has_given;
        input = gives.input;
      }

-- the input that is given is legal
pub gives_legal : {G R M : Type 0} (kept : G → Kept R M) (c : Counterstrategy G R M) (s : Specification) (n m : ℕ) (h : Run) (notes : List NoteData) (x : Assignment) → GivesIn kept c s n m h notes x → legal_input s h x ≡ true
gives_legal kept c s n m h notes x p =
    let given = p.place.stands.given p.has_given in
    subst (λ (x : Assignment). legal_input s h x ≡ true) p.input (given_is_legal kept c s n m h notes p.place given.0 (given_by c) given.1)

-- the line that is named is the first that is broken by an output after the input that was given
pub names_given : {G R M : Type 0} (kept : G → Kept R M) (c : Counterstrategy G R M) (s : Specification) (n m : ℕ) (h : Run) (notes : List NoteData) (x : Assignment) (p : GivesIn kept c s n m h notes x) → (y : Assignment) (label : Option Label) →
    label ≡ first_broken_output (game_played kept c) p.place.before (given_by c) y → first_broken_reply s h x y ≡ label
names_given kept c s n m h notes x p y label is =
    subst (λ (x : Assignment). first_broken_reply s h x y ≡ label) p.input (names_reply kept c s n m h notes p.place (given_by c) y label is)

-- after a reply it gives the next input, after the play with the position and its note
pub gives_next : {G R M : Type 0} (kept : G → Kept R M) (old new : Counterstrategy G R M) (s : Specification) → HoldsTheSame kept old new → (n m : ℕ) (h : Run) (notes : List NoteData) (x : Assignment) (p : GivesIn kept old s n m h notes x) →
    (y : Assignment) (shown : Note) (next : CounterMemory) (x' : Assignment) → GoesOn kept old new p.place.layers h notes p.place.before p.place.memory y shown next x' → GivesIn kept new s n m (after h x y) (notes ++ note_data shown ∷ []) x'
gives_next kept old new s same n m h notes x p y shown next x' goes =
    let w = note_of (game_played kept old) next in
    let on = gives_in kept old new s same n m h notes p.place p.place.layers (after h (given_by old) y) (notes ++ w ∷ []) _ next x' goes.gives in
    subst (λ (x : Assignment). GivesIn kept new s n m (after h x y) (notes ++ note_data shown ∷ []) x') p.input
    (subst (λ (w : NoteData). GivesIn kept new s n m (after h (given_by old) y) (notes ++ w ∷ []) x') (sym goes.note) on)

-- the note and the given input answer what was read
abbrev pub answer_by : {G R M : Type 0} (kept : G → Kept R M) (old new : Counterstrategy G R M) (s : Specification) (st : CounterState) (y : Assignment) (w : NoteData) (x' : Assignment) → first_broken_reply s st.play st.input y ≡ None →
    GivesIn kept new s st.shifts st.denials (after st.play st.input y) (st.notes ++ w ∷ []) x' →
    Answer (counter_terms s) (λ st. GivesIn kept new s st.shifts st.denials st.play st.notes st.input) st y
answer_by kept old new s st y w x' unbroken on =
    record {
      legal = unbroken;
      text = note_line w ++ shown_input s x';
      next = record { shifts = st.shifts; denials = st.denials; play = after st.play st.input y; notes = st.notes ++ w ∷ []; input = x' };
      answers = record {
        note = w;
        input = x';
        legal = gives_legal kept new s st.shifts st.denials (after st.play st.input y) (st.notes ++ w ∷ []) x' on;
        shown = refl;
        goes_on = refl;
        beaten = (tells_of kept new s st.shifts st.denials (after st.play st.input y) (st.notes ++ w ∷ []) on.place).beaten;
      };
      stands = on;
    }

-- the line of an input
pub shown_as : (lines : Lines) (s : Specification) (x : Assignment) → AreOver lines s.names (outputs_of s) (inputs_of s) → show (names_of lines) (shown_variables lines) x ++ 10 ∷ [] ≡ shown_input s x
shown_as lines s x over =
    ap (λ (names : List (List ℕ)). show names (shown_variables lines) x ++ 10 ∷ []) over.names ∙ ap (λ (vs : List VariableData). show s.names vs x ++ 10 ∷ []) over.shown
