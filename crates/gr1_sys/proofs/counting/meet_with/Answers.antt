use Rattle.std.proofs.Common.{[], ◌∷◌}
use Rattle.regions.specs.Kept.{And, States}
use Rattle.gr1_sys.proofs.Told.{told, still_told}
use Rattle.gr1_sys.proofs.Counted.{first_of_two, second_of_two, second_left, second_without, meets, both_gone}
use Rattle.gr1_sys.proofs.counting.meet_with.Goals as goal

pub and_in-requires-clause-a : goal.and_in-requires-clause-a
and_in-requires-clause-a g c = first_of_two (g.G.Regions.kept c.args.g.now) c.args.met c.args.last c.requires.held

pub and_in-requires-clause-b : goal.and_in-requires-clause-b
and_in-requires-clause-b g c = second_of_two (g.G.Regions.kept c.args.g.now) c.args.met c.args.last c.requires.held

pub spend-requires : goal.spend-requires
spend-requires g c =
    let kept = g.G.Regions.kept in
    second_left (kept c.args.g.now) (kept c.and_in.new.g) c.args.met c.args.last c.in-Ok.common _ c.requires.held c.in-Ok.ensures.made

pub spend-requires-in-Err : goal.spend-requires-in-Err
spend-requires-in-Err g c =
    let kept = g.G.Regions.kept in
    second_without (kept c.args.g.now) (kept c.and_in.new.g) c.args.met c.args.last c.requires.held c.in-Err.ensures.halted

pub returns-in-Ok-clause-met : goal.returns-in-Ok-clause-met
returns-in-Ok-clause-met g c =
    let kept = g.G.Regions.kept in
    meets (kept c.args.g.now) (kept c.and_in.new.g) (kept c.spend.new.self) c.args.met c.args.last c.in-Ok.common (g.met.G.Regions.exact _) c.requires.held c.in-Ok.ensures.made c.spend.ensures.spends

pub returns-in-Err-clause-halted : goal.returns-in-Err-clause-halted
returns-in-Err-clause-halted g c =
    let kept = g.G.Regions.kept in
    both_gone (kept c.args.g.now) (kept c.and_in.new.g) (kept c.spend-in-Err.new.self) c.args.met c.args.last (g.met.G.Regions.exact _) c.requires.held c.in-Err.ensures.halted c.spend-in-Err.ensures.spends

pub returns-in-Err-clause-told : goal.returns-in-Err-clause-told
returns-in-Err-clause-told g c = λ z met_named last_named.
    let kept = g.G.Regions.kept in
    let k = kept c.args.g.now in
    still_told k (kept c.and_in.new.g) (kept c.spend-in-Err.new.self) z c.in-Err.halt c.spend-in-Err.ensures.spends.jam
    (told k (kept c.and_in.new.g) z And (States (k.set c.args.met) ∷ States (k.set c.args.last) ∷ []) c.in-Err.halt c.in-Err.ensures.told (met_named, (last_named, tt)) tt)
