-- The first outputs, and the first inputs, that bits show.
use Rattle.std.proofs.Common.{◌≡◌, ℕ, ◌+◌, pos, Bool, true, false, not, ◌||◌, List, [], ◌++◌, length, length-append, map, find, Option, Some, None, refl, sym, ◌∙◌, ap, subst, arith}
use Rattle.std.proofs.lemmas.Bool.{and_parts, and_from, false≢true}
use Rattle.std.proofs.lemmas.List.{length-map}
use Rattle.std.specs.List.{list_all}
use Rattle.spec_model.specs.declared.value.Value.{Value}
use Rattle.spec_model.specs.declared.value.Value.TheVariants as value
use Rattle.spec_model.specs.Values.{Assignment, DomainData, is_assignment, comes_before}
use Rattle.spec_model.specs.Diagrams.{Bits, Function}
use Rattle.spec_model.specs.Moves.{is_env, domains_of}
use Rattle.spec_model.specs.Games.{GameData, State, listed, inputs_of, outputs_of}
use Rattle.spec_model.specs.Steps.{Before, is_state, is_input, is_output, reached, legal_input, legal_output, assumptions_hold, guarantees_hold}
use Rattle.spec_model.specs.Sets.{StateSet}
use Rattle.regions.specs.declared.types.When.{When}
use Rattle.regions.specs.Rules.{is_time, outputs_into, inputs_into}
use Rattle.game_values.specs.declared.seen.At.TheVariants.{Now, Next}
use Rattle.bdd_ops.specs.Paths.{Agrees, IsFirst, HasNone, NotAfter}
use Rattle.bit_compile.specs.Domains.{table_domain, state_domains, level_count}
use Rattle.bit_compile.proofs.SlotLemmas.{length-assignment}
use Rattle.bit_compile.proofs.LawLemmas.{state_listed}
use Rattle.bdd_sets.specs.StateBits.{bits_for, HasState, TellsStates, set_at}
use Rattle.bdd_sets.specs.MoveBits.{AreNextOf, is_any_slot}
use Rattle.bdd_sets.specs.ToldMoves.{HasBefore, TellsMoves, follows, some_leads}
use Rattle.bdd_sets.specs.Members.{MoveFunctions}
use Rattle.bdd_sets.specs.Forcing.{FitMoves, HasMoves}
use Rattle.bdd_sets.proofs.BitLemmas.{has_bits}
use Rattle.bdd_sets.proofs.MoveLemmas.{before_kept, mixed, mixed_off, mixed_state, reached_is, follows-reached, hidden_is}
use Rattle.bdd_sets.proofs.ForceLemmas.{input_fits, output_fits, state_reached, not_any}
use Rattle.bdd_search.specs.Parts.{AreOf, HaveValues, SamePresent}
use Rattle.bdd_search.proofs.PartLemmas.{part_have, part_of, last_have, last_of, one_part, part_assignment, assignment_part}
use Rattle.bdd_search.proofs.OrderLemmas.{first_values, before-prefix, before_suffix}
use Rattle.bdd_search.proofs.FirstLemmas.{find-first, find-nothing}

module _ (g : GameData) where
  abbrev tables : List DomainData
  tables = map table_domain g.hidden

  abbrev ins : List DomainData
  ins = domains_of is_env g.variables

  abbrev outs : List DomainData
  outs = domains_of (λ o. not (is_env o)) g.variables

  abbrev hidden_of : State → List Value
  hidden_of s = map (λ v. value.Int (pos v)) s.hidden

  -- ---- the parts of a state

  pub slots_long : length (state_domains g) ≡ (length g.hidden + length ins) + length outs
  slots_long =
      let parts = length-append tables (ins ++ outs) in
      let more = length-append ins outs in
      let long = length-map g.hidden table_domain in
      omega (arith, parts, more, long)

  input_long : (s : State) → is_state g s ≡ true → length s.position.input ≡ length ins
  input_long s here = length-assignment ins s.position.input (input_fits g s here)

  output_long : (s : State) → is_state g s ≡ true → length s.position.output ≡ length outs
  output_long s here = length-assignment outs s.position.output (output_fits g s here)

  hidden_long : (s : State) → is_state g s ≡ true → length (hidden_of s) ≡ length g.hidden
  hidden_long s here =
      let all = length-assignment (state_domains g) (listed s) (state_listed g s here) in
      let parts = length-append (hidden_of s) (s.position.input ++ s.position.output) in
      let more = length-append s.position.input s.position.output in
      let slots = slots_long in
      let x = input_long s here in
      let y = output_long s here in
      omega (arith, all, parts, more, slots, x, y)

  state_input : (s : State) (b : Bits) → is_state g s ≡ true → HasState g Next s b → HaveValues (state_domains g) Next (length g.hidden) s.position.input b
  state_input s b here has =
      let slots = slots_long in
      let x = input_long s here in
      part_have (state_domains g) Next (hidden_of s) s.position.input s.position.output (length g.hidden) b (hidden_long s here) (omega (arith, slots, x)) has

  pub state_output : (s : State) (b : Bits) → is_state g s ≡ true → HasState g Next s b → HaveValues (state_domains g) Next (length g.hidden + length ins) s.position.output b
  state_output s b here has =
      let slots = slots_long in
      let y = output_long s here in
      last_have (state_domains g) Next (hidden_of s) s.position.input s.position.output (length g.hidden) (length ins) b (hidden_long s here) (input_long s here) (omega (arith, slots, y)) has

  input_of : (s : State) → is_state g s ≡ true → AreOf (state_domains g) (length g.hidden) s.position.input
  input_of s here = part_of (state_domains g) (hidden_of s) s.position.input s.position.output (length g.hidden) (hidden_long s here) (state_listed g s here)

  pub output_of : (s : State) → is_state g s ≡ true → AreOf (state_domains g) (length g.hidden + length ins) s.position.output
  output_of s here = last_of (state_domains g) (hidden_of s) s.position.input s.position.output (length g.hidden) (length ins) (hidden_long s here) (input_long s here) (state_listed g s here)

  hidden_fits : (s : State) → is_state g s ≡ true → is_assignment tables (hidden_of s) ≡ true
  hidden_fits s here =
      let none : 0 + length tables ≡ length tables = omega arith in
      let long = hidden_long s here in
      let many = length-map g.hidden table_domain in
      part_assignment [] tables (ins ++ outs) 0 (length tables) refl none (hidden_of s) (omega (arith, long, many), part_of (state_domains g) [] (hidden_of s) (s.position.input ++ s.position.output) 0 refl (state_listed g s here))

  pub tables_long : length tables ≡ length g.hidden
  tables_long = length-map g.hidden table_domain

  input_part : (x : Assignment) → is_input g x ≡ true → AreOf (state_domains g) (length g.hidden) x
  input_part x fits = (assignment_part tables ins outs (length g.hidden) (length g.hidden + length ins) tables_long refl x fits).1

  -- ---- the order of states that one is followed by

  reached_order : (b : Before) (x y x' y' : Assignment) → is_state g (reached g b x y) ≡ true → comes_before (state_domains g) (listed (reached g b x' y')) (listed (reached g b x y)) ≡ false → comes_before (ins ++ outs) (x' ++ y') (x ++ y) ≡ false
  reached_order b x y x' y' here first =
      let same : hidden_of (reached g b x' y') ≡ hidden_of (reached g b x y) = ap (λ (ns : List ℕ). map (λ v. value.Int (pos v)) ns) (hidden_is g b x' y' x y) in
      let first' : comes_before (state_domains g) (hidden_of (reached g b x y) ++ (x' ++ y')) (hidden_of (reached g b x y) ++ (x ++ y)) ≡ false = subst (λ (ws : List Value). comes_before (state_domains g) (ws ++ (x' ++ y')) (hidden_of (reached g b x y) ++ (x ++ y)) ≡ false) same first in
      sym (before-prefix tables (ins ++ outs) (hidden_of (reached g b x y)) (x' ++ y') (x ++ y) (hidden_fits (reached g b x y) here)) ∙ first'

  outputs_order : (b : Before) (x y z : Assignment) → is_input g x ≡ true → is_state g (reached g b x y) ≡ true → comes_before (state_domains g) (listed (reached g b x z)) (listed (reached g b x y)) ≡ false → comes_before outs z y ≡ false
  outputs_order b x y z fits here first = sym (before-prefix ins outs x z y fits) ∙ reached_order b x y x z here first

  inputs_order : (b : Before) (x y x' y' : Assignment) → is_state g (reached g b x y) ≡ true → comes_before (state_domains g) (listed (reached g b x' y')) (listed (reached g b x y)) ≡ false → comes_before ins x' x ≡ false
  inputs_order b x y x' y' here first = at (comes_before ins x' x) refl
    where
      at : (c : Bool) → comes_before ins x' x ≡ c → comes_before ins x' x ≡ false
      at false e = e
      at true e = absurd (false≢true (sym (reached_order b x y x' y' here first) ∙ before_suffix ins outs x' x y' y e))

  -- ---- what bits show that come first

  pub record FindsOutput (into : Assignment → Bool) (s : Bits) : Type 0 where
    pub output : Assignment
    pub long : length output ≡ length outs
    pub of_slots : AreOf (state_domains g) (length g.hidden + length ins) output
    pub bits : HaveValues (state_domains g) Next (length g.hidden + length ins) output s
    pub found : find into (outputs_of g) ≡ Some output

  pub record FindsInput (onto : Assignment → Bool) (s : Bits) : Type 0 where
    pub input : Assignment
    pub long : length input ≡ length ins
    pub of_slots : AreOf (state_domains g) (length g.hidden) input
    pub bits : HaveValues (state_domains g) Next (length g.hidden) input s
    pub found : find onto (inputs_of g) ≡ Some input

  -- there are bits of any state before
  bits_before : (b : Before) → (s : Bits) × HasBefore g b s
  bits_before None = (λ level. false, tt)
  bits_before (Some s) = (bits_for g Now s, has_bits g Now s)

  module _ (when : When) (m : MoveFunctions) (moves : HasMoves g) (fit : FitMoves g when m) (levels : List ℕ) (next : AreNextOf g is_any_slot levels) (b : Before) (time : is_time g when b ≡ true) where
    -- the bits of a state after the one before
    abbrev after : State → Bits → Bits
    after t s = mixed levels (bits_for g Next t) s

    after_before : (t : State) (s : Bits) → HasBefore g b s → HasBefore g b (after t s)
    after_before t s before = before_kept g levels is_any_slot s (after t s) next (mixed_off levels (bits_for g Next t) s) b before

    after_has : (t : State) (s : Bits) → HasState g Next t (after t s)
    after_has t s = mixed_state g levels s t next

    after_same : (t : State) (s : Bits) → SamePresent (state_domains g) s (after t s)
    after_same t s k n known low high = sym ((mixed_off levels (bits_for g Next t) s).same n (next.leaves_present k n known (low, high)))

    after_order : (t t' : State) (s : Bits) → is_state g t ≡ true → is_state g t' ≡ true → HasState g Next t s → NotAfter (level_count (state_domains g)) 0 s (after t' s) → comes_before (state_domains g) (listed t') (listed t) ≡ false
    after_order t t' s here here' has order = first_values (state_domains g) (listed t) (listed t') s (after t' s) (state_listed g t here) (state_listed g t' here') has (after_has t' s) (after_same t' s) order

    -- what legal inputs show
    record ShowsInput (s : Bits) : Type 0 where
      pub state : State
      pub here : is_state g state ≡ true
      pub has : HasState g Next state s
      pub legal : legal_input g b state.position.input ≡ true
      pub reached_there : reached g b state.position.input state.position.output ≡ state

    shows_input : (s : Bits) → HasBefore g b s → m.inputs s ≡ true → ShowsInput s
    shows_input s before is =
        let found = fit.inputs_next s is in
        let t = found.0 in
        let holds = and_parts (assumptions_hold g b t) (follows g b t) (sym (fit.inputs.at_moves b t s time found.1 before found.2) ∙ is) in
        let back = reached_is g b t holds.1 in
        record {
          state = t;
          here = found.1;
          has = found.2;
          legal = sym (moves.alike b t.position.input t.position.output (ap (is_state g) back ∙ found.1)) ∙ (ap (assumptions_hold g b) back ∙ holds.0);
          reached_there = back;
        }

    -- and what shows legal inputs
    after_inputs : (x y : Assignment) (s : Bits) → HasBefore g b s → is_state g (reached g b x y) ≡ true → legal_input g b x ≡ true → m.inputs (after (reached g b x y) s) ≡ true
    after_inputs x y s before here legal =
        let t = reached g b x y in
        fit.inputs.at_moves b t (after t s) time here (after_before t s before) (after_has t s) ∙ and_from _ _ (moves.alike b x y here ∙ legal) (follows-reached g b x y)

    -- ---- outputs

    module _ (x : Assignment) (fits : is_input g x ≡ true) (target : Function) (states : TellsStates g Next target) (all : Function)
        (all_is : (s : Bits) → all s ≡ true → (m.inputs s ≡ true) × (m.outputs s ≡ true) × (m.update s ≡ true) × (target s ≡ true))
        (is_all : (s : Bits) → m.inputs s ≡ true → m.outputs s ≡ true → m.update s ≡ true → target s ≡ true → all s ≡ true)
        (fixed : List (Option Bool)) (fixes : (s : Bits) → Agrees fixed 0 s → HasBefore g b s) (fixes_input : (s : Bits) → Agrees fixed 0 s → HaveValues (state_domains g) Next (length g.hidden) x s)
        (allows : (s : Bits) → HasBefore g b s → HaveValues (state_domains g) Next (length g.hidden) x s → Agrees fixed 0 s) where
      abbrev into : Assignment → Bool
      into = outputs_into g when (set_at g Next target) b x

      -- bits that agree show an output into the set
      record ShowsOutput (s : Bits) : Type 0 where
        pub state : State
        pub here : is_state g state ≡ true
        pub has : HasState g Next state s
        pub reached_there : reached g b x state.position.output ≡ state
        pub passes : into state.position.output ≡ true

      shows_output : (s : Bits) → Agrees fixed 0 s → all s ≡ true → ShowsOutput s
      shows_output s agrees is =
          let parts = all_is s is in
          let before = fixes s agrees in
          let shown = shows_input s before parts.0 in
          let t = shown.state in
          let long = input_long t shown.here in
          let count = length-assignment ins x fits in
          let same : t.position.input ≡ x = one_part (state_domains g) Next (length g.hidden) t.position.input x s (long ∙ sym count) (input_of t shown.here) (input_part x fits) (state_input t s shown.here shown.has) (fixes_input s agrees) in
          let back : reached g b x t.position.output ≡ t = ap (λ (u : Assignment). reached g b u t.position.output) (sym same) ∙ shown.reached_there in
          let legal : legal_input g b x ≡ true = ap (legal_input g b) (sym same) ∙ shown.legal in
          let holds : guarantees_hold g b t ≡ true = sym (fit.outputs.at_moves b t s time shown.here before shown.has) ∙ parts.1 in
          let inside : set_at g Next target t ≡ true = and_from _ _ shown.here (sym (states.settled t s shown.here shown.has) ∙ parts.3) in
          record {
            state = t;
            here = shown.here;
            has = shown.has;
            reached_there = back;
            passes = and_from _ _ time (and_from _ _ fits (and_from _ _ legal (and_from _ _ (output_fits g t shown.here) (and_from _ _ (ap (guarantees_hold g b) back ∙ holds) (ap (set_at g Next target) back ∙ inside)))));
          }

      -- an output into the set is shown by bits that agree
      record IsShown (z : Assignment) (s : Bits) : Type 0 where
        pub here : is_state g (reached g b x z) ≡ true
        pub agrees : Agrees fixed 0 (after (reached g b x z) s)
        pub is : all (after (reached g b x z) s) ≡ true

      output_shown : (z : Assignment) (s : Bits) → HasBefore g b s → is_output g z ≡ true → into z ≡ true → IsShown z s
      output_shown z s before fits_z passes =
          let t = reached g b x z in
          let past_time = and_parts (is_time g when b) _ passes in
          let past_input = and_parts (is_input g x) _ past_time.1 in
          let past_legal = and_parts (legal_input g b x) _ past_input.1 in
          let past_output = and_parts (is_output g z) _ past_legal.1 in
          let ends = and_parts (legal_output g b x z) (set_at g Next target t) past_output.1 in
          let here = state_reached g moves.closed when b time x z fits fits_z in
          let has = after_has t s in
          let before' = after_before t s before in
          let inside = (and_parts (is_state g t) (target (bits_for g Next t)) ends.1).1 in
          record {
            here = here;
            agrees = allows (after t s) before' (state_input t (after t s) here has);
            is = is_all (after t s) (after_inputs x z s before here past_legal.0)
                (fit.outputs.at_moves b t (after t s) time here before' has ∙ ends.0)
                (fit.update.at_moves b t (after t s) time here before' has ∙ follows-reached g b x z)
                (states.settled t (after t s) here has ∙ inside);
          }

      pub output_found : (s : Bits) → IsFirst fixed all 0 (level_count (state_domains g)) s → FindsOutput into s
      output_found s first =
          let shown = shows_output s first.agrees first.true_there in
          let t = shown.state in
          let y = t.position.output in
          let here : is_state g (reached g b x y) ≡ true = ap (is_state g) shown.reached_there ∙ shown.here in
          record {
            output = y;
            long = output_long t shown.here;
            of_slots = output_of t shown.here;
            bits = state_output t s shown.here shown.has;
            found = find-first outs into y (output_fits g t shown.here) shown.passes (λ z fits_z passes.
                let other = output_shown z s (fixes s first.agrees) fits_z passes in
                let order = first.first (after (reached g b x z) s) other.agrees other.is in
                let states_order = after_order t (reached g b x z) s shown.here other.here shown.has order in
                outputs_order b x y z fits here (subst (λ (u : State). comes_before (state_domains g) (listed (reached g b x z)) (listed u) ≡ false) (sym shown.reached_there) states_order));
          }

      pub no_output : HasNone fixed all 0 → find into (outputs_of g) ≡ None
      no_output none =
          let start = bits_before b in
          find-nothing outs into (λ z fits_z passes. let shown = output_shown z start.0 start.1 fits_z passes in none (after (reached g b x z) start.0) shown.agrees shown.is)

    -- after what is no input there is none
    pub no_output_after : (x : Assignment) (t : StateSet) → is_input g x ≡ false → find (outputs_into g when t b x) (outputs_of g) ≡ None
    no_output_after x t unfit = find-nothing outs (outputs_into g when t b x) (λ z fits_z passes.
        let past_time = and_parts (is_time g when b) _ passes in
        let past_input = and_parts (is_input g x) _ past_time.1 in
        absurd (false≢true (sym unfit ∙ past_input.0)))

    -- ---- inputs

    module _ (t : StateSet) (leads : Function) (told : TellsMoves g when leads (λ b s. not (some_leads g (λ u. not (t u)) b s.position.input))) (all : Function)
        (all_is : (s : Bits) → all s ≡ true → (m.inputs s ≡ true) × (leads s ≡ true)) (is_all : (s : Bits) → m.inputs s ≡ true → leads s ≡ true → all s ≡ true)
        (fixed : List (Option Bool)) (fixes : (s : Bits) → Agrees fixed 0 s → HasBefore g b s) (allows : (s : Bits) → HasBefore g b s → Agrees fixed 0 s) where
      abbrev onto : Assignment → Bool
      onto = inputs_into g when t b

      all_lead : (x : Assignment) → not (some_leads g (λ u. not (t u)) b x) ≡ list_all (λ y. not (legal_output g b x y) || t (reached g b x y)) (outputs_of g)
      all_lead x = not_any (legal_output g b x) (λ y. t (reached g b x y)) (outputs_of g)

      record IsShownInput (x : Assignment) (s : Bits) : Type 0 where
        pub here : is_state g (reached g b x moves.some_output.0) ≡ true
        pub agrees : Agrees fixed 0 (after (reached g b x moves.some_output.0) s)
        pub is : all (after (reached g b x moves.some_output.0) s) ≡ true

      input_shown : (x : Assignment) (s : Bits) → HasBefore g b s → is_input g x ≡ true → onto x ≡ true → IsShownInput x s
      input_shown x s before fits passes =
          let y = moves.some_output.0 in
          let u = reached g b x y in
          let past_time = and_parts (is_time g when b) _ passes in
          let past_input = and_parts (is_input g x) _ past_time.1 in
          let ends = and_parts (legal_input g b x) _ past_input.1 in
          let here = state_reached g moves.closed when b time x y fits moves.some_output.1 in
          record {
            here = here;
            agrees = allows (after u s) (after_before u s before);
            is = is_all (after u s) (after_inputs x y s before here ends.0) (told.at_moves b u (after u s) time here (after_before u s before) (after_has u s) ∙ (all_lead x ∙ ends.1));
          }

      pub input_found : (s : Bits) → IsFirst fixed all 0 (level_count (state_domains g)) s → FindsInput onto s
      input_found s first =
          let parts = all_is s first.true_there in
          let before = fixes s first.agrees in
          let shown = shows_input s before parts.0 in
          let u = shown.state in
          let x = u.position.input in
          let y = u.position.output in
          let here : is_state g (reached g b x y) ≡ true = ap (is_state g) shown.reached_there ∙ shown.here in
          let lead : not (some_leads g (λ v. not (t v)) b x) ≡ true = sym (told.at_moves b u s time shown.here before shown.has) ∙ parts.1 in
          let passes : onto x ≡ true = and_from _ _ time (and_from _ _ (input_fits g u shown.here) (and_from _ _ shown.legal (sym (all_lead x) ∙ lead))) in
          record {
            input = x;
            long = input_long u shown.here;
            of_slots = input_of u shown.here;
            bits = state_input u s shown.here shown.has;
            found = find-first ins onto x (input_fits g u shown.here) passes (λ z fits_z passes_z.
                let other = input_shown z s before fits_z passes_z in
                let v = reached g b z moves.some_output.0 in
                let order = first.first (after v s) other.agrees other.is in
                let states_order = after_order u v s shown.here other.here shown.has order in
                inputs_order b x y z moves.some_output.0 here (subst (λ (w : State). comes_before (state_domains g) (listed v) (listed w) ≡ false) (sym shown.reached_there) states_order));
          }

      pub no_input : HasNone fixed all 0 → find onto (inputs_of g) ≡ None
      no_input none =
          let start = bits_before b in
          find-nothing ins onto (λ x fits passes. let shown = input_shown x start.0 start.1 fits passes in none (after (reached g b x moves.some_output.0) start.0) shown.agrees shown.is)
