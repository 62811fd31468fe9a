use Rattle.std.proofs.Common.{refl}
use Rattle.solve.proofs.Found.{solved_env_layers, not_unforced}
use Rattle.solve.proofs.Layered.{environment_holds}
use Rattle.solve.proofs.Budgets.{env_halt}
use Rattle.solve.proofs.solving.environment_layers.Goals as goal

pub returns-in-Ok-Some-clause-solved : goal.returns-in-Ok-Some-clause-solved
returns-in-Ok-Some-clause-solved g c =
    let h = rw c.in-Ok-Some.field-0-is at c.in-Ok-Some.ensures in
    record { layers = (h.solved.0, solved_env_layers _ _ _ _ c.requires.made h.keeps h.solved.1); free = h.solved.1.jam; of_one_moment = environment_holds _ _ _ h.solved.0 h.solved.1 h.keeps }

pub unreachable-requires : goal.unreachable-requires
unreachable-requires g c =
    let h = rw c.in-Ok-None.field-0-is at c.in-Ok-None.ensures in
    not_unforced _ _ refl c.requires.forces h.solved.escapes

pub returns-in-Err-clause-cause : goal.returns-in-Err-clause-cause
returns-in-Err-clause-cause g c = env_halt g.G.Regions.kept (g.G.Regions.kept c.args.g.now) c.solve_env.new.g c.solve_env.ensures.keeps c.in-Err.halt c.in-Err.ensures.told
