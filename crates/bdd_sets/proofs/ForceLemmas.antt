-- What replies and inputs lead to, by "some values" over next bits.
use Rattle.std.proofs.Common.{◌≡◌, Bool, true, false, not, ◌&&◌, ◌||◌, List, [], ◌∷◌, Some, None, refl, sym, ◌∙◌, ap, inl, inr, ℕ, cond}
use Rattle.std.proofs.lemmas.Bool.{and_parts, and_from, or_cases, false≢true}
use Rattle.std.specs.List.{list_all, list_any}
use Rattle.spec_model.specs.Values.{Assignment}
use Rattle.spec_model.specs.Diagrams.{Bits, Function, and_exists_over, ite}
use Rattle.spec_model.specs.Moves.{is_env, domains_of}
use Rattle.spec_model.specs.Games.{GameData, State, inputs_of, outputs_of}
use Rattle.spec_model.specs.Steps.{Before, is_state, is_input, is_output, are_hidden_values, reached, legal_input, legal_output, assumptions_hold, guarantees_hold, IsClosed}
use Rattle.spec_model.specs.Sets.{StateSet, all_states, system_forces, environment_forces, input_into, pre_sys, pre_env}
use Rattle.spec_model.proofs.AllStates.{Every, at_assignment}
use Rattle.spec_model.proofs.Listed.{inputs_fit, outputs_fit, every_weaker, from_right}
use Rattle.regions.specs.declared.types.When.{When}
use Rattle.regions.specs.declared.types.When.TheVariants.{First, Later}
use Rattle.regions.specs.Rules.{is_time}
use Rattle.game_values.specs.declared.seen.At.TheVariants.{Now, Next}
use Rattle.bdd_ops.specs.Functions.{joined, join_of}
use Rattle.bdd_ops.specs.Calls.{negated}
use Rattle.bdd_sets.specs.StateBits.{bits_for, HasState, Tells}
use Rattle.bdd_sets.specs.MoveBits.{AreNextOf, is_any_slot, is_reply_slot}
use Rattle.bdd_sets.specs.ToldMoves.{HasBefore, TellsMoves, TellsBefore, IsOfNext, follows, some_leads, some_keeps_out}
use Rattle.bdd_sets.specs.Members.{MoveFunctions, reply_of, avoiding}
use Rattle.bdd_sets.specs.Forcing.{FitMoves, AssumeNothingOfReplies, HasMoves}
use Rattle.bdd_sets.proofs.SetLemmas.{told_at, tells_by}
use Rattle.bdd_sets.proofs.QuantLemmas.{some_there, there_some}
use Rattle.bdd_sets.proofs.MoveLemmas.{before_kept, inputs_one, mixed, mixed_off, mixed_reply, mixed_state, reached_is, follows-reached}

-- ---- "some" over lists

-- tests that each follow from the other are one
pub same_truth : (p q : Bool) → (p ≡ true → q ≡ true) → (q ≡ true → p ≡ true) → p ≡ q
same_truth true q there back = sym (there refl)
same_truth false true there back = back refl
same_truth false false there back = refl

pub some_element : {X : Type 0} (Q : X → Type 0) (p : X → Bool) (xs : List X) → Every Q xs → list_any p xs ≡ true → (x : X) × (p x ≡ true) × Q x
some_element Q p [] all e = absurd (false≢true e)
some_element Q p (x ∷ xs) all e = elim (or_cases (p x) (list_any p xs) e) [ inl here ↦ (x, here, all.0) | inr later ↦ some_element Q p xs all.1 later ]

each_suffices : {X : Type 0} (p : X → Bool) (xs : List X) → Every (λ x. p x ≡ true → list_any p xs ≡ true) xs
each_suffices p [] = tt
each_suffices p (x ∷ xs) = (λ e. ap (λ c. c || list_any p xs) e, every_weaker _ _ (λ y rest e. from_right (p x) (rest e)) xs (each_suffices p xs))

module _ (g : GameData) where
  pub output_suffices : (p : Assignment → Bool) (y : Assignment) → is_output g y ≡ true → p y ≡ true → list_any p (outputs_of g) ≡ true
  output_suffices p y fits e = at_assignment (domains_of (λ o. not (is_env o)) g.variables) (λ y. p y ≡ true → list_any p (outputs_of g) ≡ true) (each_suffices p (outputs_of g)) y fits e

  pub input_suffices : (p : Assignment → Bool) (x : Assignment) → is_input g x ≡ true → p x ≡ true → list_any p (inputs_of g) ≡ true
  input_suffices p x fits e = at_assignment (domains_of is_env g.variables) (λ x. p x ≡ true → list_any p (inputs_of g) ≡ true) (each_suffices p (inputs_of g)) x fits e

  pub input_fits : (s : State) → is_state g s ≡ true → is_input g s.position.input ≡ true
  input_fits s e = (and_parts (is_input g s.position.input) _ (and_parts (are_hidden_values g.hidden s.hidden) _ e).1).0

  pub output_fits : (s : State) → is_state g s ≡ true → is_output g s.position.output ≡ true
  output_fits s e = (and_parts (is_input g s.position.input) (is_output g s.position.output) (and_parts (are_hidden_values g.hidden s.hidden) _ e).1).1

  -- a move leads to a state
  pub state_reached : IsClosed g → (when : When) (b : Before) → is_time g when b ≡ true → (x y : Assignment) → is_input g x ≡ true → is_output g y ≡ true → is_state g (reached g b x y) ≡ true
  state_reached closed First None time x y ex ey = closed.first x y ex ey
  state_reached closed Later None time x y ex ey = closed.first x y ex ey
  state_reached closed First (Some s) time x y ex ey = absurd (false≢true time)
  state_reached closed Later (Some s) time x y ex ey = closed.later s x y time ex ey

  -- ---- replies

  module _ (when : When) (closed : IsClosed g) (levels : List ℕ) (next : AreNextOf g (is_reply_slot g) levels)
      (n : StateSet) (target legal update : Function) (told : (s : State) (bits : Bits) → is_state g s ≡ true → HasState g Next s bits → target bits ≡ n s)
      (outputs : TellsMoves g when legal (guarantees_hold g)) (of_next : IsOfNext g legal) (updates : TellsMoves g when update (follows g)) where
    abbrev reply : Function
    reply = and_exists_over levels (joined (join_of true) target legal) update

    leads_there : (b : Before) (s : State) (bits : Bits) → is_time g when b ≡ true → is_state g s ≡ true → HasBefore g b bits → HasState g Next s bits → reply bits ≡ true → some_leads g n b s.position.input ≡ true
    leads_there b s bits time here before has e =
        let found = some_there levels (λ s. joined (join_of true) target legal s && update s) bits e in
        let bits' = found.0 in
        let parts = and_parts (target bits' && legal bits') (update bits') found.2 in
        let both = and_parts (target bits') (legal bits') parts.0 in
        let state = of_next bits' both.1 in
        let s' = state.0 in
        let before' = before_kept g levels (is_reply_slot g) bits bits' next found.1 b before in
        let in_set : n s' ≡ true = sym (told s' bits' state.1 state.2) ∙ both.0 in
        let is_legal : guarantees_hold g b s' ≡ true = sym (outputs.at_moves b s' bits' time state.1 before' state.2) ∙ both.1 in
        let follows_it : follows g b s' ≡ true = sym (updates.at_moves b s' bits' time state.1 before' state.2) ∙ parts.1 in
        let inputs = inputs_one g levels bits bits' s s' next found.1 here state.1 has state.2 in
        let is : reached g b s.position.input s'.position.output ≡ s' = ap (λ x. reached g b x s'.position.output) (sym inputs) ∙ reached_is g b s' follows_it in
        output_suffices (λ y. legal_output g b s.position.input y && n (reached g b s.position.input y)) s'.position.output (output_fits s' state.1)
        (and_from _ _ (ap (guarantees_hold g b) is ∙ is_legal) (ap n is ∙ in_set))

    there_leads : (b : Before) (s : State) (bits : Bits) → is_time g when b ≡ true → is_state g s ≡ true → HasBefore g b bits → HasState g Next s bits → some_leads g n b s.position.input ≡ true → reply bits ≡ true
    there_leads b s bits time here before has e =
        let found = some_element (λ y. is_output g y ≡ true) (λ y. legal_output g b s.position.input y && n (reached g b s.position.input y)) (outputs_of g) (outputs_fit g) e in
        let y = found.0 in
        let parts = and_parts (legal_output g b s.position.input y) (n (reached g b s.position.input y)) found.1 in
        let s' = reached g b s.position.input y in
        let here' = state_reached closed when b time s.position.input y (input_fits s here) found.2 in
        let bits' = mixed levels (bits_for g Next s') bits in
        let off = mixed_off levels (bits_for g Next s') bits in
        let has' = mixed_reply g levels bits s s' next here here' refl has in
        let before' = before_kept g levels (is_reply_slot g) bits bits' next off b before in
        let in_target : target bits' ≡ true = told s' bits' here' has' ∙ parts.1 in
        let is_legal : legal bits' ≡ true = outputs.at_moves b s' bits' time here' before' has' ∙ parts.0 in
        let follows_it : update bits' ≡ true = updates.at_moves b s' bits' time here' before' has' ∙ follows-reached g b s.position.input y in
        there_some levels (λ s. joined (join_of true) target legal s && update s) bits bits' off (and_from _ _ (and_from _ _ in_target is_legal) follows_it)

    -- some legal output leads into the target
    pub tells_leads : TellsMoves g when reply (λ b s. some_leads g n b s.position.input)
    tells_leads = record { at_moves = λ b s bits time here before has. same_truth _ _ (leads_there b s bits time here before has) (there_leads b s bits time here before has) }

  -- ---- inputs

  module _ (when : When) (closed : IsClosed g) (alike : AssumeNothingOfReplies g) (reply : (y : Assignment) × (is_output g y ≡ true)) (levels : List ℕ) (next : AreNextOf g is_any_slot levels)
      (q : Before → Assignment → Bool) (leads legal : Function) (told : TellsMoves g when leads (λ b s. q b s.position.input))
      (inputs : TellsMoves g when legal (λ b s. assumptions_hold g b s && follows g b s)) (of_next : IsOfNext g legal) where
    abbrev some_input : Function
    some_input = and_exists_over levels leads legal

    avoids_there : (b : Before) (bits : Bits) → is_time g when b ≡ true → HasBefore g b bits → some_input bits ≡ true → list_any (λ x. legal_input g b x && q b x) (inputs_of g) ≡ true
    avoids_there b bits time before e =
        let found = some_there levels (λ s. leads s && legal s) bits e in
        let bits' = found.0 in
        let both = and_parts (leads bits') (legal bits') found.2 in
        let state = of_next bits' both.1 in
        let s' = state.0 in
        let before' = before_kept g levels is_any_slot bits bits' next found.1 b before in
        let holds = and_parts (assumptions_hold g b s') (follows g b s') (sym (inputs.at_moves b s' bits' time state.1 before' state.2) ∙ both.1) in
        let q_holds : q b s'.position.input ≡ true = sym (told.at_moves b s' bits' time state.1 before' state.2) ∙ both.0 in
        let is = reached_is g b s' holds.1 in
        let is_legal : legal_input g b s'.position.input ≡ true = sym (alike b s'.position.input s'.position.output (ap (is_state g) is ∙ state.1)) ∙ (ap (assumptions_hold g b) is ∙ holds.0) in
        input_suffices (λ x. legal_input g b x && q b x) s'.position.input (input_fits s' state.1) (and_from _ _ is_legal q_holds)

    there_avoids : (b : Before) (bits : Bits) → is_time g when b ≡ true → HasBefore g b bits → list_any (λ x. legal_input g b x && q b x) (inputs_of g) ≡ true → some_input bits ≡ true
    there_avoids b bits time before e =
        let found = some_element (λ x. is_input g x ≡ true) (λ x. legal_input g b x && q b x) (inputs_of g) (inputs_fit g) e in
        let x = found.0 in
        let parts = and_parts (legal_input g b x) (q b x) found.1 in
        let s' = reached g b x reply.0 in
        let here' = state_reached closed when b time x reply.0 found.2 reply.1 in
        let bits' = mixed levels (bits_for g Next s') bits in
        let off = mixed_off levels (bits_for g Next s') bits in
        let has' = mixed_state g levels bits s' next in
        let before' = before_kept g levels is_any_slot bits bits' next off b before in
        let q_holds : leads bits' ≡ true = told.at_moves b s' bits' time here' before' has' ∙ parts.1 in
        let is_legal : legal bits' ≡ true = inputs.at_moves b s' bits' time here' before' has' ∙ and_from _ _ (alike b x reply.0 here' ∙ parts.0) (follows-reached g b x reply.0) in
        there_some levels (λ s. leads s && legal s) bits bits' off (and_from _ _ q_holds is_legal)

    -- some legal input has the property
    pub tells_some_input : TellsBefore g when some_input (λ b. list_any (λ x. legal_input g b x && q b x) (inputs_of g))
    tells_some_input = record { at_time = λ b bits time before. same_truth _ _ (avoids_there b bits time before) (there_avoids b bits time before) }

-- ---- what the players force

-- the negation of a function that tells moves
pub tells_negated : (g : GameData) (when : When) (f : Function) (r : Before → State → Bool) → TellsMoves g when f r → TellsMoves g when (negated f) (λ b s. not (r b s))
tells_negated g when f r told = record { at_moves = λ b s bits time here before has. ap not (told.at_moves b s bits time here before has) }

pub not_any : {X : Type 0} (l q : X → Bool) (xs : List X) → not (list_any (λ x. l x && not (q x)) xs) ≡ list_all (λ x. not (l x) || q x) xs
not_any l q [] = refl
not_any l q (x ∷ xs) = at (l x) (q x) (list_any (λ x. l x && not (q x)) xs) ∙ ap (λ c. (not (l x) || q x) && c) (not_any l q xs)
  where
    at : (a c r : Bool) → not ((a && not c) || r) ≡ ((not a || c) && not r)
    at true true r = refl
    at true false r = refl
    at false c r = refl

any_same : {X : Type 0} (p q : X → Bool) (xs : List X) → ((x : X) → p x ≡ q x) → list_any p xs ≡ list_any q xs
any_same p q [] same = refl
any_same p q (x ∷ xs) same = ap (λ c. c || list_any p xs) (same x) ∙ ap (λ c. q x || c) (any_same p q xs same)

-- some legal input keeps the system out of the target
pub tells_avoiding : (g : GameData) (when : When) (m : MoveFunctions) (reply next : List ℕ) → HasMoves g → FitMoves g when m → AreNextOf g (is_reply_slot g) reply → AreNextOf g is_any_slot next → (n : StateSet) (target : Function) → ((s : State) (bits : Bits) → is_state g s ≡ true → HasState g Next s bits → target bits ≡ n s) →
    TellsBefore g when (avoiding m reply next target) (some_keeps_out g n)
tells_avoiding g when m reply next moves fit reply_is next_is n target told =
    let leads = tells_leads g when moves.closed reply reply_is n target m.outputs m.update told fit.outputs fit.outputs_next fit.update in
    let avoids = tells_negated g when (reply_of m reply target) (λ b s. some_leads g n b s.position.input) leads in
    tells_some_input g when moves.closed moves.alike moves.some_output next next_is (λ b x. not (some_leads g n b x)) (negated (reply_of m reply target)) m.inputs avoids fit.inputs fit.inputs_next

-- where no legal input keeps the system out of a set, it forces it
pub forced-not : (g : GameData) (t : StateSet) (b : Before) → not (some_keeps_out g t b) ≡ system_forces g t b
forced-not g t b = not_any (legal_input g b) (some_leads g t b) (inputs_of g)

-- where some legal input has no legal output out of a set, the environment forces it
pub kept_out-rest : (g : GameData) (t : StateSet) (b : Before) → some_keeps_out g (λ s. not (t s)) b ≡ environment_forces g t b
kept_out-rest g t b =
    any_same (λ x. legal_input g b x && not (some_leads g (λ s. not (t s)) b x)) (input_into g t b) (inputs_of g)
    (λ x. ap (λ c. legal_input g b x && c) (not_any (legal_output g b x) (λ y. t (reached g b x y)) (outputs_of g)))

module _ (g : GameData) (t : StateSet) (c p : Function) (proper : Tells g Now p (all_states g)) where
  -- the states that no input keeps out
  pub tells_pre_sys : TellsBefore g Later c (some_keeps_out g t) → Tells g Now (ite c (λ b. false) p) (pre_sys g t)
  tells_pre_sys told =
      tells_by g Now (ite c (λ b. false) p) (pre_sys g t) (λ s e. (and_parts (is_state g s) _ e).0)
      (λ s b here has.
      ap (λ k. cond k false (p b)) (told.at_time (Some s) b here has)
      ∙ (ap (λ k. cond (some_keeps_out g t (Some s)) false k) (told_at g Now p (all_states g) proper s b here has)
      ∙ (turned (some_keeps_out g t (Some s)) (is_state g s) ∙ ap (λ k. is_state g s && k) (forced-not g t (Some s)))))
      (λ b e. proper.states.elsewhere b (second (c b) (p b) e))
    where
      turned : (x k : Bool) → cond x false k ≡ (k && not x)
      turned true true = refl
      turned true false = refl
      turned false true = refl
      turned false false = refl

      second : (x k : Bool) → cond x false k ≡ true → k ≡ true
      second true k e = absurd (false≢true e)
      second false k e = e

  -- the states that some input keeps in
  pub tells_pre_env : TellsBefore g Later c (some_keeps_out g (λ s. not (t s))) → Tells g Now (joined (join_of true) c p) (pre_env g t)
  tells_pre_env told =
      tells_by g Now (joined (join_of true) c p) (pre_env g t) (λ s e. (and_parts (is_state g s) _ e).0)
      (λ s b here has.
      ap (λ k. k && p b) (told.at_time (Some s) b here has ∙ kept_out-rest g t (Some s))
      ∙ (ap (λ k. environment_forces g t (Some s) && k) (told_at g Now p (all_states g) proper s b here has) ∙ swapped (environment_forces g t (Some s)) (is_state g s)))
      (λ b e. proper.states.elsewhere b (and_parts (c b) (p b) e).1)
    where
      swapped : (x k : Bool) → (x && k) ≡ (k && x)
      swapped true true = refl
      swapped true false = refl
      swapped false true = refl
      swapped false false = refl
