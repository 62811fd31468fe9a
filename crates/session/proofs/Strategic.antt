-- The plays of the system's strategy are plays of a specification.
use Rattle.std.proofs.Common.{◌≡◌, ℕ, true, false, not, [], ◌∷◌, ◌++◌, length, List, Option, None, Some, is_some, refl, sym, ap, subst, ◌∙◌, arith}
use Rattle.std.proofs.lemmas.Bool.{false≢true}
use Rattle.std.proofs.lemmas.List.{length-map}
use Rattle.spec_model.specs.declared.game.Label.{Label}
use Rattle.spec_model.specs.Values.{Assignment, DomainData, is_assignment}
use Rattle.spec_model.specs.Views.{variable_data}
use Rattle.spec_model.specs.Syntax.{VariableData, Specification}
use Rattle.spec_model.specs.Rules.{Run, after}
use Rattle.spec_model.specs.Moves.{is_env, domains_of, input_domains, legal_input, legal_output}
use Rattle.spec_model.specs.Games.{GameData}
use Rattle.spec_model.specs.GameRules.{last_state}
use Rattle.spec_model.specs.Agreement.{Agrees}
use Rattle.spec_model.specs.Steps.{Before, is_input}
use Rattle.spec_model.specs.FirstBroken.{first_broken}
use Rattle.regions.specs.Kept.{Kept}
use Rattle.regions.specs.Rules.{output_count}
use Rattle.gr1_law.specs.Choice.{Memory, IsChosen}
use Rattle.gr1_law.specs.Specifications.{ChosenPlayKeepsSpecification}
use Rattle.gr1_law.proofs.Carrying.{play_keeps}
use Rattle.gr1_law.proofs.OneChoice.{choice-one}
use Rattle.gr1_sys.specs.Held.{ranks_of}
use Rattle.controller.specs.declared.controller.Controller.{Controller}
use Rattle.controller.specs.Objects.{game_of as game_played, IsFresh, Stands, GoesOn, HoldsTheSame}
use Rattle.session_lines.specs.declared.lines.Lines.{Lines}
use Rattle.session_lines.specs.Room.{domains}
use Rattle.session_lines.specs.Shown.{inputs_of, outputs_of, show}
use Rattle.session_lines.specs.Views.{AreFor, names_of, shown_variables, shown_of}
use Rattle.session.specs.Exchanges.{Answer}
use Rattle.session.specs.Talks.{first_broken_after, shown_output}
use Rattle.session.specs.RunTerms.{RunState, run_terms}
use Rattle.session.specs.Strategies.{rounds_of, IsOf, PlaysFor}
use Rattle.session.proofs.RunTalks.{input_domains_are, output_domains_are, legal_from}

-- the state before the first position is none, and there is one after each
no_position : (g : GameData) (h : Run) → last_state g h ≡ None → h ≡ []
no_position g [] e = refl
no_position g (p ∷ h) e = cc

no_state : (b : Before) → false ≡ is_some b → b ≡ None
no_state None e = refl
no_state (Some st) e = absurd (false≢true e)

-- ---- moves of a specification are the game's

module _ (s : Specification) (g : GameData) (agrees : Agrees s g) where
  pub fits_game : (x : Assignment) (vs : List VariableData) → vs ≡ inputs_of s → is_assignment (domains vs) x ≡ true → is_input g x ≡ true
  fits_game x vs are fits =
      ap (λ ds. is_assignment ds x) (ap (λ (vs : List VariableData). domains_of is_env vs) agrees.variables ∙ sym (input_domains_are s) ∙ sym (ap domains are)) ∙ fits

  pub room_for_game : (lines : Lines) → shown_variables lines ≡ outputs_of s → length (shown_of lines) ≡ output_count g
  room_for_game lines are =
      let vars = length-map lines.shown.vars.items variable_data in
      let same = ap (λ (vs : List VariableData). length vs) are in
      let ds = ap (λ (ds : List DomainData). length ds) (output_domains_are s) in
      let of_domains = length-map (outputs_of s) (λ (v : VariableData). v.domain) in
      let game = ap (λ (vs : List VariableData). length (domains_of (λ o. not (is_env o)) vs)) agrees.variables in
      omega (arith, lines.shown.places, lines.shown.values.ok, lines.shown.vars.ok, vars, same, ds, of_domains, game)

-- ---- one play

module _ {G R M : Type 0} (kept : G → Kept R M) (c : Controller G R M) (s : Specification) (k : ℕ) (h : Run) (p : PlaysFor kept c s k h) where
  pub stands_somewhere : Stands kept c
  stands_somewhere = (p.z, p.layers, h, p.before, p.memory, p.stands)

  -- its play is one of chosen outputs, so each move is legal, and each recurring guarantee is kept
  pub tells : ChosenPlayKeepsSpecification s (game_played kept c) p.layers k h p.before p.memory
  tells =
      let sound = p.stands.sound in
      subst (λ (k : ℕ). ChosenPlayKeepsSpecification s (game_played kept c) p.layers k h p.before p.memory) (sym p.rounds)
      (play_keeps s (game_played kept c) p.is_of sound.made p.z p.layers (ranks_of c.layers.items) (record { winning = sound.won; greatest = sound.ranks; forced = sound.starts }) h p.before p.memory p.stands.play)

  -- the line that is named is the first that is broken
  pub names_broken : (x : Assignment) (label : Option Label) → label ≡ first_broken (game_played kept c) p.before x → first_broken_after s h x ≡ label
  names_broken x label is = sym (is ∙ ap (λ (b : Before). first_broken (game_played kept c) b x) tells.state ∙ p.is_of.broken h x)

  -- the chosen output is legal
  pub reply_is_legal : (x : Assignment) → legal_input s h x ≡ true → (y : Assignment) (next : Memory) → IsChosen (game_played kept c) p.layers p.before p.memory x y next → legal_output s h x y ≡ true
  reply_is_legal x legal y next chosen =
      let some = tells.goes_on x legal in
      let same = choice-one (game_played kept c) p.layers p.before p.memory x y some.0 next some.1 chosen some.2 in
      subst (λ (y : Assignment). legal_output s h x y ≡ true) (sym same.0) some.3

-- a strategy that made no move stands for the empty play
pub begins : {G R M : Type 0} (kept : G → Kept R M) (c : Controller G R M) (s : Specification) → IsOf kept c s → Stands kept c → IsFresh c → PlaysFor kept c s (rounds_of c) []
begins kept c s is_of stands fresh =
    let h = stands.2 in
    let b = stands.3 in
    let here : PlaysFor kept c s (rounds_of c) h = record { is_of = is_of; rounds = refl; z = stands.0; layers = stands.1; before = b; memory = stands.4; stands = stands.5 } in
    let none : b ≡ None = no_state b (sym fresh ∙ stands.5.place.position.started) in
    let empty : h ≡ [] = no_position (game_played kept c) h (sym (tells kept c s (rounds_of c) h here).state ∙ none) in
    subst (λ (h : Run). PlaysFor kept c s (rounds_of c) h) empty here

-- after the chosen output it stands for the play with both moves
pub plays_on : {G R M : Type 0} (kept : G → Kept R M) (old new : Controller G R M) (s : Specification) (k : ℕ) (h : Run) (p : PlaysFor kept old s k h) → HoldsTheSame kept old new → (x y : Assignment) (next : Memory) →
    GoesOn kept old new p.z p.layers h p.before p.memory x y next → PlaysFor kept new s k (after h x y)
plays_on kept old new s k h p same x y next goes =
    record {
      is_of = subst (λ (g : GameData). Agrees s g) (sym same.game.game) p.is_of;
      rounds = p.rounds ∙ ap (λ layers. rounds_of (record old { layers = layers })) (sym same.layers);
      z = p.z;
      layers = p.layers;
      before = _;
      memory = next;
      stands = goes.stands;
    }

-- the chosen output answers what was read
abbrev pub answer_of : {G R M : Type 0} (kept : G → Kept R M) (old new : Controller G R M) (s : Specification) (st : RunState) (p : PlaysFor kept old s st.rounds st.play) → HoldsTheSame kept old new →
    (x : Assignment) → is_assignment (input_domains s) x ≡ true → first_broken_after s st.play x ≡ None → (y : Assignment) (next : Memory) → GoesOn kept old new p.z p.layers st.play p.before p.memory x y next →
    Answer (run_terms s) (λ st. PlaysFor kept new s st.rounds st.play) st x
answer_of kept old new s st p same x fits unbroken y next goes =
    let legal = legal_from s st.play x fits unbroken in
    let on = plays_on kept old new s st.rounds st.play p same x y next goes in
    record {
      legal = unbroken;
      text = shown_output s y;
      next = record { rounds = st.rounds; play = after st.play x y };
      answers = record {
        output = y;
        legal = reply_is_legal kept old s st.rounds st.play p x legal y next goes.chosen;
        shown = refl;
        goes_on = refl;
        kept = (tells kept new s st.rounds (after st.play x y) on).kept;
      };
      stands = on;
    }

-- the line of an output
pub shown_for : (lines : Lines) (s : Specification) (y : Assignment) → AreFor lines s → show (names_of lines) (shown_variables lines) y ++ 10 ∷ [] ≡ shown_output s y
shown_for lines s y for_spec =
    ap (λ (names : List (List ℕ)). show names (shown_variables lines) y ++ 10 ∷ []) for_spec.names ∙ ap (λ (vs : List VariableData). show s.names vs y ++ 10 ∷ []) for_spec.shown
