-- Lines at numbered states are lines at the states, and are safe to compute there.
use Rattle.std.proofs.Common.{◌≡◌, ℕ, zero, suc, ◌<◌, Bool, true, false, ◌&&◌, List, [], ◌∷◌, length, map, Option, Some, None, is_some, option_map, unwrap_or, slice_get, get_or, refl, sym, ◌∙◌, ap, subst, arith}
use Rattle.std.specs.List.{list_all}
use Rattle.std.proofs.lemmas.Bool.{and_parts, and_from}
use Rattle.std.proofs.lemmas.List.{length-map}
use Rattle.std.proofs.lemmas.Option.{slice_get-map}
use Rattle.spec_model.specs.declared.expr.Expr.{Expr}
use Rattle.spec_model.specs.Syntax.{Formula}
use Rattle.spec_model.specs.Views.{formula}
use Rattle.spec_model.specs.Meaning.{holds_at}
use Rattle.spec_model.specs.Games.{GameData, State, step_reading}
use Rattle.spec_model.specs.Steps.{is_state, is_input, is_output, are_hidden_values, states_of, hidden_values, line_holds}
use Rattle.spec_model.specs.Games.{inputs_of, outputs_of, next_hidden, nothing_read}
use Rattle.spec_model.specs.WellMade.{WellMade}
use Rattle.spec_model.proofs.Closed.{nexts_fit}
use Rattle.spec_model.specs.WellMade.{scope_of, is_step_formula}
use Rattle.spec_model.proofs.AllStates.{Every}
use Rattle.spec_model.proofs.Listed.{every_mapped, every_flat, every_weaker, inputs_fit, outputs_fit}
use Rattle.game_values.specs.Safety.{IsSafe}
use Rattle.game_values.specs.Moments.{MomentData, reading_of, moment_of}
use Rattle.game_values.specs.Lines.{moment_in, IsThere, IsLineSafe, AreLinesSafe, line_at, lines_at}
use Rattle.game_values.specs.declared.read.Readout.{Readout}
use Rattle.game_values.specs.Moments.{moment_data}
use Rattle.game_states.specs.Seen.{SeenData, seen, seen_at}
use Rattle.game_states.specs.Tables.{before_of, judged}
use Rattle.game_values.proofs.Safe.{step_safe}
use Rattle.game_values.proofs.Typed.{typed_moments, get-values}
use Rattle.game_states.proofs.SeenSteps.{hidden_fit}

-- ---- the listed states

pub states_fit : (g : GameData) → Every (λ s. is_state g s ≡ true) (states_of g)
states_fit g =
    every_flat (λ s. is_state g s ≡ true) (λ h. _) (hidden_values g.hidden)
    (every_weaker (λ h. are_hidden_values g.hidden h ≡ true) _ (λ h eh.
    every_flat (λ s. is_state g s ≡ true) (λ x. _) (inputs_of g)
    (every_weaker (λ x. is_input g x ≡ true) _ (λ x ex.
    every_mapped (λ s. is_state g s ≡ true) (λ y. record { hidden = h; position = record { input = x; output = y } }) (outputs_of g)
    (every_weaker (λ y. is_output g y ≡ true) _ (λ y ey. and_from _ _ eh (and_from _ _ ex ey)) (outputs_of g) (outputs_fit g)))
    (inputs_of g) (inputs_fit g)))
    (hidden_values g.hidden) (hidden_fit g.hidden))

pub every_get : {X : Type 0} (P : X → Type 0) (xs : List X) (k : ℕ) (x : X) → slice_get xs k ≡ Some x → Every P xs → P x
every_get P [] k x e all = cc (e)
every_get P (y ∷ xs) zero x e all = let is : y ≡ x = cc (e) in subst P is all.0
every_get P (y ∷ xs) (suc k) x e all = every_get P xs k x e all.1

pub state_fits : (g : GameData) (k : ℕ) (s : State) → slice_get (states_of g) k ≡ Some s → is_state g s ≡ true
state_fits g k s e = every_get (λ s. is_state g s ≡ true) (states_of g) k s e (states_fit g)

pub there : {X : Type 0} (xs : List X) (k : ℕ) → k < length xs → (x : X) × (slice_get xs k ≡ Some x)
there [] k h = absurd (omega arith)
there (x ∷ xs) zero h = (x, refl)
there (x ∷ xs) (suc k) h = there xs k (omega arith)

pub get-some : {X : Type 0} (xs : List X) (k : ℕ) (a d : X) → slice_get xs k ≡ Some a → get_or xs k d ≡ a
get-some [] k a d e = cc (e)
get-some (x ∷ xs) zero a d e = cc (e)
get-some (x ∷ xs) (suc k) a d e = get-some xs k a d e

-- ---- readings

-- moments of two states read what a step reads
pub reading-step : (g : GameData) (s s' : State) → reading_of (moment_of g s) (moment_of g s') ≡ step_reading g s s'
reading-step g s s' = λ i. record { variable = λ k t. variable k t i; entry = λ h n t. entry h n t i }
  where
    variable : (k t : ℕ) → (reading_of (moment_of g s) (moment_of g s')).variable k t ≡ (step_reading g s s').variable k t
    variable k zero = get-values g.variables s.position k
    variable k (suc t) = get-values g.variables s'.position k

    entry : (h n t : ℕ) → (reading_of (moment_of g s) (moment_of g s')).entry h n t ≡ (step_reading g s s').entry h n t
    entry h n zero = refl
    entry h n (suc t) = refl

module _ (g : GameData) (ms : List MomentData) (listed : ms ≡ map (moment_of g) (states_of g)) where
  moment_here : (k : ℕ) (s : State) → slice_get (states_of g) k ≡ Some s → moment_in ms k ≡ moment_of g s
  moment_here k s e = ap (λ l. moment_in l k) listed ∙ get-some (map (moment_of g) (states_of g)) k (moment_of g s) (record { values = []; entries = [] }) (slice_get-map (moment_of g) (states_of g) k ∙ ap (option_map (moment_of g)) e)

  holds_here : (j k : ℕ) (r s : State) (e : Formula) → slice_get (states_of g) j ≡ Some r → slice_get (states_of g) k ≡ Some s →
      holds_at (reading_of (moment_in ms j) (moment_in ms k)) e 0 ≡ holds_at (step_reading g r s) e 0
  holds_here j k r s e er es =
      ap (λ m. holds_at (reading_of m (moment_in ms k)) e 0) (moment_here j r er)
      ∙ (ap (λ m. holds_at (reading_of (moment_of g r) m) e 0) (moment_here k s es)
      ∙ ap (λ q. holds_at q e 0) (reading-step g r s))

  -- a step formula may be asked for at two listed states
  safe_here : (j k : ℕ) (r s : State) (e : Formula) → slice_get (states_of g) j ≡ Some r → slice_get (states_of g) k ≡ Some s → is_step_formula (scope_of g) e ≡ true →
      IsSafe (reading_of (moment_in ms j) (moment_in ms k)) e 0
  safe_here j k r s e er es made =
      let here = moment_here j r er in
      let next = moment_here k s es in
      let fit = and_parts (are_hidden_values g.hidden r.hidden) _ (state_fits g j r er) in
      let fit' = and_parts (are_hidden_values g.hidden s.hidden) _ (state_fits g k s es) in
      let moves = and_parts (is_input g r.position.input) (is_output g r.position.output) fit.1 in
      let moves' = and_parts (is_input g s.position.input) (is_output g s.position.output) fit'.1 in
      step_safe (scope_of g) (reading_of (moment_in ms j) (moment_in ms k))
      (typed_moments g.variables r.position s.position (moment_in ms j) (moment_in ms k) (scope_of g).tables (ap (λ m. m.values) here) (ap (λ m. m.values) next) moves.0 moves.1 moves'.0 moves'.1) e made

  pub line_is : (before : Option ℕ) (at : ℕ) (late : Bool) (e : Formula) (s : State) → IsThere (length (states_of g)) before at → slice_get (states_of g) at ≡ Some s →
      line_at ms before at late e ≡ line_holds g late (before_of g before) s e
  line_is None at true e s h es = refl
  line_is None at false e s h es = holds_here at at s s e es es
  line_is (Some from) at true e s h es = let r = there (states_of g) from h.0 in holds_here from at r.0 s e r.1 es ∙ ap (λ b. line_holds g true b s e) (sym r.1)
  line_is (Some from) at false e s h es = let r = there (states_of g) from h.0 in holds_here at at s s e es es ∙ ap (λ b. line_holds g false b s e) (sym r.1)

  pub line_safe : (before : Option ℕ) (at : ℕ) (e : Formula) (s : State) → IsThere (length (states_of g)) before at → slice_get (states_of g) at ≡ Some s → is_step_formula (scope_of g) e ≡ true → IsLineSafe ms before at e
  line_safe None at e s h es made = safe_here at at s s e es es made
  line_safe (Some from) at e s h es made = let r = there (states_of g) from h.0 in (safe_here from at r.0 s e r.1 es made, safe_here at at s s e es es made)

  -- ---- lists of lines, as the program has them

  pub lines_safe : (before : Option ℕ) (at : ℕ) (s : State) → IsThere (length (states_of g)) before at → slice_get (states_of g) at ≡ Some s → (ls : List (ℕ × Expr)) →
      list_all (λ (l : ℕ × Formula). is_step_formula (scope_of g) l.1) (map (λ (l : ℕ × Expr). (l.0, formula l.1)) ls) ≡ true → AreLinesSafe ms before at (map (λ (l : ℕ × Expr). formula l.1) ls)
  lines_safe before at s h es [] made = tt
  lines_safe before at s h es (l ∷ ls) made =
      let parts = and_parts (is_step_formula (scope_of g) (formula l.1)) (list_all (λ (l : ℕ × Formula). is_step_formula (scope_of g) l.1) (map (λ (l : ℕ × Expr). (l.0, formula l.1)) ls)) made in
      (line_safe before at (formula l.1) s h es parts.0, lines_safe before at s h es ls parts.1)

  pub all_are : (before : Option ℕ) (at : ℕ) (s : State) → IsThere (length (states_of g)) before at → slice_get (states_of g) at ≡ Some s → (ls : List (ℕ × Expr)) →
      list_all (line_at ms before at false) (map (λ (l : ℕ × Expr). formula l.1) ls) ≡ list_all (λ (l : ℕ × Formula). line_holds g false (before_of g before) s l.1) (map (λ (l : ℕ × Expr). (l.0, formula l.1)) ls)
  all_are before at s h es [] = refl
  all_are before at s h es (l ∷ ls) = ap (λ b. b && list_all (line_at ms before at false) (map (λ (l : ℕ × Expr). formula l.1) ls)) (line_is before at false (formula l.1) s h es) ∙ ap (λ b. line_holds g false (before_of g before) s (formula l.1) && b) (all_are before at s h es ls)

  pub lines_are : (late : Formula → Bool) (before : Option ℕ) (at : ℕ) (s : State) → IsThere (length (states_of g)) before at → slice_get (states_of g) at ≡ Some s → (ls : List (ℕ × Expr)) →
      lines_at ms before at (map (λ (l : ℕ × Formula). late l.1) (map (λ (l : ℕ × Expr). (l.0, formula l.1)) ls)) (map (λ (l : ℕ × Expr). formula l.1) ls) ≡ list_all (λ (l : ℕ × Formula). line_holds g (late l.1) (before_of g before) s l.1) (map (λ (l : ℕ × Expr). (l.0, formula l.1)) ls)
  lines_are late before at s h es [] = refl
  lines_are late before at s h es (l ∷ ls) =
      ap (λ b. b && lines_at ms before at (map (λ (l : ℕ × Formula). late l.1) (map (λ (l : ℕ × Expr). (l.0, formula l.1)) ls)) (map (λ (l : ℕ × Expr). formula l.1) ls)) (line_is before at (late (formula l.1)) (formula l.1) s h es)
      ∙ ap (λ b. line_holds g (late (formula l.1)) (before_of g before) s (formula l.1) && b) (lines_are late before at s h es ls)

-- the state of a number that is there is a state that passes the test or not
pub judged_is : (g : GameData) (test : State → Bool) (at : ℕ) (s : State) → slice_get (states_of g) at ≡ Some s → judged g test at ≡ test s
judged_is g test at s e = ap (λ o. unwrap_or (option_map test o) false) e

-- the moments that are seen
pub moments_seen : (g : GameData) (rs : List Readout) → map seen rs ≡ map (seen_at g) (states_of g) → map (λ r. moment_data r.moment) rs ≡ map (moment_of g) (states_of g)
moments_seen g rs e = sym (first-seen rs) ∙ (ap (map (λ (d : SeenData). d.moment)) e ∙ first-at (states_of g))
  where
    first-seen : (rs : List Readout) → map (λ (d : SeenData). d.moment) (map seen rs) ≡ map (λ r. moment_data r.moment) rs
    first-seen [] = refl
    first-seen (r ∷ rs) = ap (λ l. moment_data r.moment ∷ l) (first-seen rs)

    first-at : (ss : List State) → map (λ (d : SeenData). d.moment) (map (seen_at g) ss) ≡ map (moment_of g) ss
    first-at [] = refl
    first-at (s ∷ ss) = ap (λ l. moment_of g s ∷ l) (first-at ss)

pub length-seen : (g : GameData) (rs : List Readout) → map seen rs ≡ map (seen_at g) (states_of g) → length rs ≡ length (states_of g)
length-seen g rs e = sym (length-map rs seen) ∙ (ap length e ∙ length-map (states_of g) (seen_at g))

-- the state at a number that is there, and whether there is one before
pub there_at : (ss : List State) (before : Option ℕ) (at : ℕ) → IsThere (length ss) before at → (s : State) × (slice_get ss at ≡ Some s)
there_at ss None at h = there ss at h
there_at ss (Some from) at h = there ss at h.1

pub same_some : (g : GameData) (before : Option ℕ) (at : ℕ) → IsThere (length (states_of g)) before at → is_some before ≡ is_some (before_of g before)
same_some g None at h = refl
same_some g (Some from) at h = let r = there (states_of g) from h.0 in ap is_some (sym r.1)

-- what is seen at a number is what is seen of its state
pub seen_here : (g : GameData) (rs : List Readout) → map seen rs ≡ map (seen_at g) (states_of g) → (k : ℕ) (r : Readout) → k < length rs → r ≡ get_or rs k r → (s : State) × (slice_get (states_of g) k ≡ Some s) × (seen r ≡ seen_at g s)
seen_here g rs e k r h is =
    let s = there (states_of g) k (omega (arith, h, length-seen g rs e)) in
    let at : Some (seen r) ≡ Some (seen_at g s.0) = sym (get-item rs k h is) ∙ (ap (λ l. slice_get l k) e ∙ (slice_get-map (seen_at g) (states_of g) k ∙ ap (option_map (seen_at g)) s.1)) in
    (s.0, s.1, cc)
  where
    get-item : (rs : List Readout) (k : ℕ) → k < length rs → r ≡ get_or rs k r → slice_get (map seen rs) k ≡ Some (seen r)
    get-item [] k h is = absurd (omega arith)
    get-item (q ∷ rs) zero h is = ap (λ z. Some (seen z)) (sym is)
    get-item (q ∷ rs) (suc k) h is = get-item rs k (omega arith) is

pub next_fit : (g : GameData) → WellMade g → (s : State) → is_state g s ≡ true → are_hidden_values g.hidden (next_hidden g s) ≡ true
next_fit g made s e =
    let fit = nexts_fit g.variables s.position nothing_read _ g.hidden s.hidden made.hidden (and_parts (are_hidden_values g.hidden s.hidden) _ e).0 in
    ap (are_hidden_values g.hidden) fit.1 ∙ fit.2

-- a step formula may be asked for at a state alone, and has its value there
pub state_safe : (g : GameData) (m : MomentData) (s : State) (e : Formula) → m ≡ moment_of g s → is_state g s ≡ true → is_step_formula (scope_of g) e ≡ true → IsSafe (reading_of m m) e 0
state_safe g m s e is here made =
    let fit = and_parts (are_hidden_values g.hidden s.hidden) _ here in
    let moves = and_parts (is_input g s.position.input) (is_output g s.position.output) fit.1 in
    step_safe (scope_of g) (reading_of m m) (typed_moments g.variables s.position s.position m m (scope_of g).tables (ap (λ m. m.values) is) (ap (λ m. m.values) is) moves.0 moves.1 moves.0 moves.1) e made

pub state_value : (g : GameData) (m : MomentData) (s : State) (e : Formula) → m ≡ moment_of g s → holds_at (reading_of m m) e 0 ≡ holds_at (step_reading g s s) e 0
state_value g m s e is = ap (λ n. holds_at (reading_of n n) e 0) is ∙ ap (λ q. holds_at q e 0) (reading-step g s s)
