use Rattle.gr1_env.proofs.Gathered.{last_found}
use Rattle.gr1_env.proofs.delays.last_or.Goals as goal

pub returns-in-Some : goal.returns-in-Some
returns-in-Some g c = last_found c.args.none.now c.args.rs.now c.in-Some.r.now c.in-Some.ensures.value
