use Rattle.gr1_law.proofs.Trails.{played, ranked}
use Rattle.gr1_law.proofs.laws.chosen_plays_are_ranked.Goals as goal

pub returns : goal.returns
returns c g z l ranks w greatest start h b m play =
    let end = played g z l w ranks greatest h b m start play in
    (end.trail.memory, ranked g z l w ranks greatest h m end.trail, end.trail.last)
