use Rattle.std.proofs.Common.{◌∙◌, None, ap, subst, sym, arith, [], ◌∷◌}
use Rattle.spec_model.specs.Sets.{environment_forces}
use Rattle.regions.specs.Kept.{HasRegion}
use Rattle.gr1_sys.proofs.Lists.{together_each, together_stays, takes_all}
use Rattle.gr1_sys.proofs.Rounds.{without_later, spent_later}
use Rattle.gr1_sys.proofs.Walked.{together_still}
use Rattle.gr1_env.specs.Held.{all_regions, last_z}
use Rattle.gr1_env.proofs.Growing.{last_z_held}
use Rattle.regions.specs.Kept.{StartEnv, States}
use Rattle.gr1_env.specs.Moment.{iterated, layer}
use Rattle.gr1_env.specs.Told.{TellsHalt}
use Rattle.gr1_env.proofs.Told.{told, still_told}
use Rattle.gr1_env.proofs.solving.decide.Goals as goal

pub start_env-requires-clause-t : goal.start_env-requires-clause-t
start_env-requires-clause-t g c =
    let k = g.G.Regions.kept c.args.g.now in
    let last_is = c.last_layer.ensures ∙ ap (last_z c.args.given.now.none) c.deref.ensures.value in
    subst (HasRegion k) (sym last_is) (last_z_held k c.args.given.now.none c.args.layers.items c.requires.given.none (together_each k (all_regions c.args.layers.items) c.requires.held))

pub counted-requires : goal.counted-requires
counted-requires g c =
    let kept = g.G.Regions.kept in
    record { held = together_still (kept c.args.g.now) (kept c.start_env.new.self) (all_regions c.args.layers.items) (g.met.G.Regions.exact _) c.in-Ok-true.ensures.held c.requires.held }

pub spend_layers-requires : goal.spend_layers-requires
spend_layers-requires g c =
    let kept = g.G.Regions.kept in
    together_still (kept c.args.g.now) (kept c.start_env.new.self) (all_regions c.args.layers.items) (g.met.G.Regions.exact _) c.in-Ok-false.ensures.held c.requires.held

pub spend_layers-requires-in-Err : goal.spend_layers-requires-in-Err
spend_layers-requires-in-Err g c =
    let kept = g.G.Regions.kept in
    together_stays (kept c.args.g.now) (kept c.start_env.new.self) (all_regions c.args.layers.items) (g.met.G.Regions.exact _) (λ w. omega (arith, c.in-Err.ensures.halted.held w)) c.requires.held

pub returns-in-Err-counted-clause-halted : goal.returns-in-Err-counted-clause-halted
returns-in-Err-counted-clause-halted g c =
    let kept = g.G.Regions.kept in
    without_later (kept c.args.g.now) (kept c.start_env.new.self) (kept c.counted.new.g) (all_regions c.args.layers.items) (g.met.G.Regions.exact _) c.requires.held c.in-Ok-true.ensures.held.held c.in-Err-counted.ensures.halted

pub returns-in-Ok-false-clause-decided : goal.returns-in-Ok-false-clause-decided
returns-in-Ok-false-clause-decided g c =
    let kept = g.G.Regions.kept in
    let k = kept c.args.g.now in
    let last_is = c.last_layer.ensures ∙ ap (last_z c.args.given.now.none) c.deref.ensures.value in (
      spent_later k (kept c.start_env.new.self) (kept c.spend_layers.new.g) (all_regions c.args.layers.items) (g.met.G.Regions.exact _) c.requires.held c.in-Ok-false.ensures.held c.spend_layers.ensures.spends,
      ap (λ r. environment_forces k.game (k.set r) None) (sym last_is) ∙ (sym c.in-Ok-false.ensures.answer ∙ c.in-Ok-false.field-0-test),
    )

pub returns-in-Err-clause-halted : goal.returns-in-Err-clause-halted
returns-in-Err-clause-halted g c =
    let kept = g.G.Regions.kept in
    takes_all (kept c.args.g.now) (kept c.start_env.new.self) (kept c.spend_layers-in-Err.new.g) (all_regions c.args.layers.items) (g.met.G.Regions.exact _) c.requires.held c.in-Err.ensures.halted.held c.spend_layers-in-Err.ensures.spends

pub returns-in-Err-counted-clause-told : goal.returns-in-Err-counted-clause-told
returns-in-Err-counted-clause-told g c = λ game m n same last last_is.
    let kept = g.G.Regions.kept in
    let k = kept c.args.g.now in
    let refused = c.in-Err-counted.ensures.told in
    subst (TellsHalt game k (kept c.counted.new.g) m) (sym refused.0) (refused.1 ∙ (c.in-Ok-true.ensures.held.jam ∙ c.requires.free))

pub returns-in-Err-clause-told : goal.returns-in-Err-clause-told
returns-in-Err-clause-told g c = λ game m n same last last_is.
    let kept = g.G.Regions.kept in
    let k = kept c.args.g.now in
    let k1 = kept c.start_env.new.self in
    let asked = c.last_layer.result.now in
    let asked_is = ap k.set (c.last_layer.ensures ∙ ap (last_z c.args.given.now.none) c.deref.ensures.value) ∙ last_is in
    still_told game m k k1 (kept c.spend_layers-in-Err.new.g) c.in-Err.halt c.spend_layers-in-Err.ensures.spends.jam
    (told game m k k1 StartEnv (States (k.set asked) ∷ []) c.in-Err.halt c.in-Err.ensures.halted.jam (iterated (layer n asked_is), tt) (n, (last, ap (λ t. States t ∷ []) asked_is)))
