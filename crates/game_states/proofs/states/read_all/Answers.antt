use Rattle.std.proofs.Common.{◌≡◌, ◌++◌, [], ℕ, sym, ap, ◌∙◌, subst, true, List, map, flat_map, arith}
use Rattle.std.proofs.lemmas.List.{take_all}
use Rattle.spec_model.specs.GameViews.{game_data}
use Rattle.spec_model.specs.Games.{inputs_of, outputs_of}
use Rattle.spec_model.specs.Steps.{are_hidden_values}
use Rattle.spec_model.proofs.AllStates.{Every}
use Rattle.game_states.specs.Seen.{seen, seen_at, state_with}
use Rattle.game_states.proofs.SeenSteps.{every_at, flat_step, map-states, hidden_fit}
use Rattle.game_states.proofs.states.read_all.Goals as goal

pub add_inputs-requires-clause-numbers : goal.add_inputs-requires-clause-numbers
add_inputs-requires-clause-numbers c =
    let g = game_data c.args.game.now in
    let fits = subst (λ (ns : List (List ℕ)). Every (λ n. are_hidden_values g.hidden n ≡ true) ns) (sym c.requires.numbers) (hidden_fit g.hidden) in
    rw c.deref.ensures.value (every_at (λ n. are_hidden_values g.hidden n ≡ true) (λ n. n.items) c.args.numbers.now c.loop-k.k c.index-numbers-k.result c.loop-k-test.true c.index-numbers-k.is fits)

pub loop-k-preserved : goal.loop-k-preserved
loop-k-preserved c =
    let g = game_data c.args.game.now in
    let f = λ (n : List ℕ). flat_map (λ x. map (λ y. seen_at g (state_with n x y)) (outputs_of g)) (inputs_of g) in
    c.in_ok-add_inputs.ensures
    ∙ (ap (λ xs. map seen c.loop-k.all.items ++ flat_map (λ x. map (λ y. seen_at g (state_with c.deref.result.now x y)) (outputs_of g)) xs) c.requires.inputs
    ∙ (ap (λ n. map seen c.loop-k.all.items ++ f n) c.deref.ensures.value
    ∙ flat_step f (λ n. n.items) c.args.numbers.now c.loop-k.k c.index-numbers-k.result [] (map seen c.loop-k.all.items) c.loop-k-test.true c.index-numbers-k.is c.loop-k.invariant))

pub returns : goal.returns
returns c =
    let g = game_data c.args.game.now in
    let f = λ (n : List ℕ). flat_map (λ x. map (λ y. seen_at g (state_with n x y)) (outputs_of g)) (inputs_of g) in
    c.loop-k.invariant
    ∙ (ap (λ ns. flat_map f (map (λ n. n.items) ns)) (take_all c.loop-k.k c.args.numbers.now (omega arith))
    ∙ (ap (flat_map f) c.requires.numbers ∙ map-states (seen_at g) g))
