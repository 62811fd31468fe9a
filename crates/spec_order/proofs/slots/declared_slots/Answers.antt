use Rattle.std.proofs.Common.{◌++◌, ◌∷◌, [], ◌∙◌, ℕ, List, map, length, ap, sym, arith, append-nil, append_assoc}
use Rattle.std.specs.List.{range_with_len}
use Rattle.std.proofs.lemmas.List.{length-map}
use Rattle.std.proofs.lemmas.List.FromFn.{map-range_with_len_more}
use Rattle.spec_model.specs.Views.{variable_data}
use Rattle.spec_model.specs.GameViews.{game_data}
use Rattle.bit_compile.specs.Compiled.{place_of}
use Rattle.spec_order.proofs.slots.declared_slots.Goals as goal

pub loop-k-init : goal.loop-k-init
loop-k-init c = c.in_ok-slots.ensures ∙ sym (append-nil (range_with_len 0 (length (game_data c.args.game.now).hidden)))

pub slot_of-requires-clause-known : goal.slot_of-requires-clause-known
slot_of-requires-clause-known c =
    let long = length-map c.args.game.now.vars.items variable_data in
    omega (arith, long, c.len-k-end.ensures, c.loop-k-test.true)

pub loop-k-preserved : goal.loop-k-preserved
loop-k-preserved c =
    let g = game_data c.args.game.now in
    let k = c.loop-k.k in
    let tables = range_with_len 0 (length g.hidden) in
    let before = map (place_of g) (range_with_len 0 k) in
    c.in_ok-push.ensures.items
    ∙ (ap (λ (xs : List ℕ). xs ++ c.slot_of.result ∷ []) c.loop-k.invariant
    ∙ (append_assoc tables before (c.slot_of.result ∷ [])
    ∙ (ap (λ (slot : ℕ). tables ++ (before ++ slot ∷ [])) c.slot_of.ensures ∙ ap (λ (xs : List ℕ). tables ++ xs) (sym (map-range_with_len_more (place_of g) 0 k k (omega arith))))))

pub returns : goal.returns
returns c =
    let g = game_data c.args.game.now in
    let long = length-map c.args.game.now.vars.items variable_data in
    c.loop-k.invariant ∙ ap (λ (n : ℕ). range_with_len 0 (length g.hidden) ++ map (place_of g) (range_with_len 0 n)) (omega (arith, long, c.len-k-end.ensures, c.loop-k.auto, c.loop-k-test.false))
