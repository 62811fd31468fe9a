use Rattle.std.proofs.Common.{◌≡◌, ◌∙◌, [], ◌∷◌, Vec, Bool, ap, arith, map}
use Rattle.std.proofs.lemmas.List.{map-append}
use Rattle.std.specs.declared.alloc.Global.{Global}
use Rattle.spec_model.specs.GameViews.{game_data}
use Rattle.spec_model.specs.Steps.{below}
use Rattle.line_functions.specs.Names.{marks_of}
use Rattle.line_functions.proofs.NamingLemmas.{map_below-push}
use Rattle.line_functions.proofs.slots.tables.Goals as goal

pub loop-k-preserved : goal.loop-k-preserved
loop-k-preserved c =
    let rows = λ (t : Vec Bool Global). t.items in
    let so_far = c.loop-k.all.items in
    let row = c.in_ok-marks.marks in
    map_below-push (marks_of (game_data c.args.game.now)) c.loop-k.k (map rows so_far) _ row.items c.loop-k.invariant c.in_ok-marks.ensures
    (ap (map rows) c.in_ok-push.ensures.items ∙ map-append rows so_far (row ∷ []))

pub returns : goal.returns
returns c =
    let all : c.loop-k.k ≡ c.args.count = omega (arith, c.loop-k-test.false, c.loop-k.auto) in
    c.loop-k.invariant ∙ ap (λ n. map (marks_of (game_data c.args.game.now)) (below n)) all
