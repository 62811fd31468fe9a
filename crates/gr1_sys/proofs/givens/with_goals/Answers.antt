use Rattle.std.proofs.Common.{arith, []}
use Rattle.gr1_sys.proofs.Lists.{together_as, made_and_spent_all}
use Rattle.gr1_sys.proofs.Givings.{one_before}
use Rattle.regions.specs.Kept.{NoStates}
use Rattle.gr1_sys.specs.Givens.{wanted}
use Rattle.gr1_sys.specs.declared.givens.SysSets.TheVariants.{Lapses}
use Rattle.gr1_sys.specs.Told.{TellsHalt}
use Rattle.gr1_sys.proofs.Told.{handed_on, told, past_many}
use Rattle.gr1_sys.proofs.Naming.{wanted_named}
use Rattle.gr1_sys.proofs.givens.with_goals.Goals as goal

pub spend_all-requires : goal.spend_all-requires
spend_all-requires g c =
    let made = c.in_ok-lapses.ensures.made in
    together_as (g.G.Regions.kept c.none.new.self) c.in_ok-lapses.lapses.items _ (g.met.G.Regions.exact _) made.counted (λ w. omega (arith, made.held w, c.in-Err.ensures.halted.held w))

pub returns-in-Ok-clause-made : goal.returns-in-Ok-clause-made
returns-in-Ok-clause-made g c =
    let kept = g.G.Regions.kept in
    one_before (kept c.args.g.now) (kept c.regions_of.new.g) (kept c.none.new.self) c.in_ok-lapses.lapses.items _ c.in-Ok.none _ c.in_ok-lapses.ensures.made c.in-Ok.ensures.made

pub returns-in-Err-clause-halted : goal.returns-in-Err-clause-halted
returns-in-Err-clause-halted g c =
    let kept = g.G.Regions.kept in
    made_and_spent_all (kept c.args.g.now) (kept c.regions_of.new.g) (kept c.none.new.self) (kept c.spend_all.new.g) c.in_ok-lapses.lapses.items _ (g.met.G.Regions.exact _) c.in_ok-lapses.ensures.made c.in-Err.ensures.halted.held c.spend_all.ensures.spends

pub returns-in_err-lapses-clause-told : goal.returns-in_err-lapses-clause-told
returns-in_err-lapses-clause-told g c = λ z.
    let kept = g.G.Regions.kept in
    handed_on c.from_residual.result c.in_err-lapses.field-0.0 (TellsHalt (kept c.args.g.now) (kept c.regions_of.new.g) z) c.from_residual.ensures.1 (c.in_err-lapses.ensures.told z)

pub returns-in-Err-clause-told : goal.returns-in-Err-clause-told
returns-in-Err-clause-told g c = λ z.
    let kept = g.G.Regions.kept in
    let k = kept c.args.g.now in
    let k1 = kept c.regions_of.new.g in
    past_many k k1 (kept c.none.new.self) (kept c.spend_all.new.g) z c.in_ok-lapses.lapses.items (wanted k.game Lapses) c.in-Err.halt c.regions_of.ensures.keeps.game c.in_ok-lapses.ensures.made (wanted_named k.game z Lapses) c.spend_all.ensures.spends.jam
    (told k1 (kept c.none.new.self) z NoStates [] c.in-Err.halt c.in-Err.ensures.halted.jam tt tt)
