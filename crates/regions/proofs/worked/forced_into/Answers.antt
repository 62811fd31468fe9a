use Rattle.std.proofs.Common.{◌≡◌, ◌∙◌, rules, arith}
use Rattle.regions.specs.declared.types.Halt.TheVariants as Halt
use Rattle.spec_model.specs.Sets.{pre_sys}
use Rattle.regions.proofs.Holding.{held_as, set_is, spent}
use Rattle.regions.proofs.Forces.{told}
use Rattle.regions.proofs.worked.forced_into.Goals as goal

pub returns-in-Ok-clause-made : goal.returns-in-Ok-clause-made
returns-in-Ok-clause-made g c =
    let made = c.in-Ok.ensures.made in
    let z = (g.G.Regions.kept c.args.g.now).set c.args.z in
    let gone = spent _ _ _ z (g.met.G.Regions.exact _) c.spend.ensures.spends (λ w. omega (arith, made.held w, held_as _ _ c.requires.z w)) in
    record { held = λ w. omega (arith, gone w, made.held w); jam = search rules }

pub returns-in-Ok-clause-settled : goal.returns-in-Ok-clause-settled
returns-in-Ok-clause-settled g c =
    let made = c.in-Ok.ensures.made in
    let k = g.G.Regions.kept c.args.g.now in
    let exact = g.met.G.Regions.exact c.pre_sys.new.self in
    let z_is = set_is _ c.args.z (k.set c.args.z) exact (λ w. omega (arith, made.held w, held_as _ _ c.requires.z w)) in
    let next_is = set_is _ c.in-Ok.next (pre_sys k.game (k.set c.args.z)) exact (λ w. omega (arith, made.held w)) in
    rw (z_is, next_is) at c.same-settled.ensures

pub returns-in-Err-clause-halted : goal.returns-in-Err-clause-halted
returns-in-Err-clause-halted g c =
    let halted = c.in-Err.ensures.halted in
    let z = (g.G.Regions.kept c.args.g.now).set c.args.z in
    let gone = spent _ _ _ z (g.met.G.Regions.exact _) c.spend-in-Err.ensures.spends (λ w. omega (arith, halted.held w, held_as _ _ c.requires.z w)) in
    λ w. omega (arith, gone w, halted.held w)

pub returns-in-Err-clause-told : goal.returns-in-Err-clause-told
returns-in-Err-clause-told g c = λ is_budget.
    let is : c.in-Err.halt ≡ Halt.Budget = cc is_budget in
    let jam = told _ _ _ _ c.in-Err.halt c.in-Err.ensures.halted is in
    (jam.0, c.spend-in-Err.ensures.spends.jam ∙ jam.1)
