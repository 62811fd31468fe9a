use Rattle.std.proofs.Common.{◌∷◌, subst, arith}
use Rattle.spec_model.specs.Sets.{no_states}
use Rattle.gr1_sys.specs.declared.givens.SysSets.TheVariants.{Goals, Lapses}
use Rattle.gr1_sys.specs.Held.{MakesRegions}
use Rattle.gr1_sys.specs.Givens.{wanted}
use Rattle.gr1_sys.proofs.Lists.{together_as, made_and_spent_all, makes_both}
use Rattle.gr1_sys.specs.Told.{TellsHalt}
use Rattle.gr1_sys.proofs.Told.{handed_on, past_many}
use Rattle.gr1_sys.proofs.Naming.{wanted_named}
use Rattle.gr1_sys.proofs.givens.give.Goals as goal

pub spend_all-requires : goal.spend_all-requires
spend_all-requires g c =
    let made = c.in_ok-goals.ensures.made in
    together_as (g.G.Regions.kept c.with_goals.new.g) c.in_ok-goals.goals.items _ (g.met.G.Regions.exact _) made.counted (λ w. omega (arith, made.held w, c.in-Err.ensures.halted w))

pub returns-in-Ok-clause-made : goal.returns-in-Ok-clause-made
returns-in-Ok-clause-made g c =
    let kept = g.G.Regions.kept in
    let k = kept c.args.g.now in
    let k1 = kept c.regions_of.new.g in
    let k2 = kept c.with_goals.new.g in
    makes_both k k1 k2 c.in_ok-goals.goals.items (c.in-Ok.none ∷ c.in-Ok.lapses.items) (wanted k.game Goals) (no_states ∷ wanted k.game Lapses) c.in_ok-goals.ensures.made
    (subst (λ h. MakesRegions k1 k2 (c.in-Ok.none ∷ c.in-Ok.lapses.items) (no_states ∷ wanted h Lapses)) c.regions_of.ensures.keeps.game c.in-Ok.ensures.made)

pub returns-in-Err-clause-halted : goal.returns-in-Err-clause-halted
returns-in-Err-clause-halted g c =
    let kept = g.G.Regions.kept in
    made_and_spent_all (kept c.args.g.now) (kept c.regions_of.new.g) (kept c.with_goals.new.g) (kept c.spend_all.new.g) c.in_ok-goals.goals.items _ (g.met.G.Regions.exact _) c.in_ok-goals.ensures.made c.in-Err.ensures.halted c.spend_all.ensures.spends

pub returns-in-Ok-clause-counted : goal.returns-in-Ok-clause-counted
returns-in-Ok-clause-counted g c = c.in_ok-goals.ensures.made.counted

pub returns-in_err-goals-clause-told : goal.returns-in_err-goals-clause-told
returns-in_err-goals-clause-told g c = λ z.
    let kept = g.G.Regions.kept in
    handed_on c.from_residual.result c.in_err-goals.field-0.0 (TellsHalt (kept c.args.g.now) (kept c.regions_of.new.g) z) c.from_residual.ensures.1 (c.in_err-goals.ensures.told z)

pub returns-in-Err-clause-told : goal.returns-in-Err-clause-told
returns-in-Err-clause-told g c = λ z.
    let kept = g.G.Regions.kept in
    let k = kept c.args.g.now in
    past_many k (kept c.regions_of.new.g) (kept c.with_goals.new.g) (kept c.spend_all.new.g) z c.in_ok-goals.goals.items (wanted k.game Goals) c.in-Err.halt c.regions_of.ensures.keeps.game c.in_ok-goals.ensures.made (wanted_named k.game z Goals) c.spend_all.ensures.spends.jam (c.in-Err.ensures.told z)
