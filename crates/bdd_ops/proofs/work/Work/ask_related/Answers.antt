use Rattle.std.proofs.Common.{◌≡◌, ◌<◌, ◌++◌, ◌∷◌, [], ℕ, min, arith, rules, ap, ◌∙◌}
use Rattle.bdd_ops.specs.Contents.{Contents}
use Rattle.bdd_ops.specs.Steps.{level_at}
use Rattle.bdd_ops.proofs.RelatedLemmas.{both_live_later}
use Rattle.bdd_ops.proofs.work.Work.ask_related.Goals as goal

pub returns-clause-asks : goal.returns-clause-asks
returns-clause-asks c =
    let new : Contents = c.known_related.new.self in
    let inner : level_at new c.args.asked.a.0 < new.state.table.levels = search rules in
    let is_first : c.earlier-level.result ≡ min (level_at new c.args.asked.a.0) (level_at new c.args.asked.b.0) = c.earlier-level.ensures ∙ ap (λ (m : ℕ). min m (level_at new c.args.asked.b.0)) c.level.ensures.level in
    record {
      level = c.earlier-level.result;
      high = record { a = c.parts_at.result.1; b = c.parts_at-2.result.1 };
      pushed = c.in_ok-push.ensures.pushed ∙ ap (λ f. c.args.frames.now.items ++ f ∷ []) c.waiting.ensures;
      parts = record {
        below = omega (arith, is_first, inner);
        is_first = is_first;
        live = both_live_later c.args.self.now new c.args.self.now.state.stack c.args.asked c.known_related.ensures.works c.requires.held;
        splits = record { a_split = c.parts_at.ensures; b_split = c.parts_at-2.ensures };
      };
    }
