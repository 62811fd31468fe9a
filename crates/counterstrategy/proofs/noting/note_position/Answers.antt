use Rattle.std.proofs.Common.{◌≡◌, ◌∙◌, not, true, if◌then◌else◌, sym, ap, subst, arith}
use Rattle.spec_model.specs.Games.{GameData}
use Rattle.spec_model.specs.Steps.{is_state}
use Rattle.gr1_law.specs.Layers.{goal_set, assumption_set}
use Rattle.gr1_law.specs.Counter.{next_assumption}
use Rattle.strategy_parts.proofs.Holdings.{stays_then}
use Rattle.counterstrategy.specs.Settled.{settled_at}
use Rattle.counterstrategy.proofs.Sounding.{goals_stay}
use Rattle.counterstrategy.proofs.Replying.{remembered}
use Rattle.counterstrategy.proofs.noting.note_position.Goals as goal

pub settle-requires : goal.settle-requires
settle-requires g c =
    let kept = g.G.Regions.kept in
    let q = c.requires in
    let serves = q.4 in
    let told = c.aim-layer.ensures.aim c.args.kit.now q.0 q.1 q.2 q.3 serves in
    let goals_counted = serves.goals.goals_counted in
    let asms_counted = serves.goals.asms_counted in
    record {
      are = goals_stay (kept c.args.g.now) (kept c.aim-layer.new.g) c.aim-layer.ensures.held c.aim-layer.ensures.keeps c.args.kit.now serves.goals;
      goal_in = omega (arith, told.1, serves.reply.goal_in, goals_counted);
      asm_in = omega (arith, told.2, serves.reply.before_in, asms_counted);
    }

pub returns-clause-noted : goal.returns-clause-noted
returns-clause-noted g c = λ e m s next serves.
    let k = g.G.Regions.kept c.args.g.now in
    let same = c.aim-layer.ensures.keeps in
    let told = c.aim-layer.ensures.aim c.args.kit.now e m s next serves in
    let layer = c.aim-layer.result.0 in
    let aimed = c.aim-layer.result.1 in
    let before = c.aim-layer.result.2 in
    let index = ap (λ i. if assumption_set k.game i s then next_assumption k.game i else i) told.2 ∙ sym serves.reply.noted.index in
    let denying : not (goal_set k.game aimed s) ≡ next.denying = ap (λ j. not (goal_set k.game j s)) told.1 ∙ sym serves.reply.noted.denying in
    c.settle.ensures.settled s (subst (λ (h : GameData). is_state h s ≡ true) (sym same.game) serves.reply.state) serves.here.position.listed
    ∙ (ap (λ (h : GameData). settled_at h s layer aimed before) same.game
    ∙ remembered next (not (goal_set k.game aimed s)) layer aimed before (if assumption_set k.game before s then next_assumption k.game before else before) denying told.0 told.1 told.2 index)

pub returns-clause-held : goal.returns-clause-held
returns-clause-held g c =
    let kept = g.G.Regions.kept in
    stays_then (kept c.args.g.now) (kept c.aim-layer.new.g) (kept c.settle.new.g) c.aim-layer.ensures.held c.settle.ensures.held
