use Rattle.regions.specs.Kept.{Outputs}
use Rattle.regions.specs.declared.types.When.TheVariants.{Later}
use Rattle.regions.proofs.Holding.{choice_is}
use Rattle.controller.specs.Turns.{first_into}
use Rattle.strategy_parts.proofs.Holdings.{has_move}
use Rattle.controller.proofs.Holdings.{move_at, gives}
use Rattle.controller.proofs.Reaching.{found_only}
use Rattle.controller.proofs.turning.wait.Goals as goal

pub first_out-requires-clause-m : goal.first_out-requires-clause-m
first_out-requires-clause-m g c =
    let k = g.G.Regions.kept c.args.g.now in
    let sets = c.requires.parts.0 in
    has_move k c.index-parts-index.result (Outputs Later (sets c.args.index)) (move_at k Later c.args.parts.now sets c.requires.parts.1 c.args.index c.requires.index c.index-parts-index.result c.index-parts-index.is)

pub first_out-requires-clause-kind : goal.first_out-requires-clause-kind
first_out-requires-clause-kind g c =
    let k = g.G.Regions.kept c.args.g.now in
    let sets = c.requires.parts.0 in
    gives k c.index-parts-index.result Later (sets c.args.index) (g.met.G.Regions.exact _) (move_at k Later c.args.parts.now sets c.requires.parts.1 c.args.index c.requires.index c.index-parts-index.result c.index-parts-index.is)

pub returns-clause-first : goal.returns-clause-first
returns-clause-first g c = λ sets b reply lead before is.
    let k = g.G.Regions.kept c.args.g.now in
    let m = c.index-parts-index.result in
    found_only {o = first_into k.game Later (sets c.args.index) b c.args.input.now} c.first_out.result c.first_out.new.out reply
    (c.first_out.ensures.first Later (sets c.args.index) b (choice_is k m (Outputs Later (sets c.args.index)) (g.met.G.Regions.exact _) (move_at k Later c.args.parts.now sets lead c.args.index c.requires.index m c.index-parts-index.is)) before) is
