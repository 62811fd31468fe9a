use Rattle.std.proofs.Common.{◌≡◌, ℕ, ◌&&◌, ◌||◌, false, is_some, map, sym, ap, ◌∙◌, subst}
use Rattle.std.specs.List.{list_all}
use Rattle.std.proofs.lemmas.Bool.{and_parts}
use Rattle.spec_model.specs.Syntax.{Formula}
use Rattle.spec_model.specs.Views.{formula}
use Rattle.spec_model.specs.GameViews.{game_data}
use Rattle.spec_model.specs.Steps.{states_of, line_holds, waits_for_output, assumptions_hold}
use Rattle.spec_model.specs.WellMade.{scope_of, is_step_formula, is_state_formula, is_initial_assumption, is_safety_assumption}
use Rattle.game_values.specs.Moments.{moment_data}
use Rattle.game_values.specs.Lines.{IsThere, lines_at}
use Rattle.game_states.specs.Tables.{before_of}
use Rattle.game_values.proofs.Typed.{all_weaker}
use Rattle.game_states.proofs.LineLaws.{there_at, same_some, length-seen, moments_seen, lines_safe, all_are, lines_are, judged_is}
use Rattle.game_states.proofs.numbered.Numbered.assumptions.Goals as goal

pub all_hold-requires-clause-there : goal.all_hold-requires-clause-there
all_hold-requires-clause-there c = let self = c.args.self.now in rw c.deref-4.ensures.value (subst (λ n. IsThere n c.args.before c.args.at) (sym (length-seen (game_data self.game) self.seen.items self.states_seen)) c.requires)

pub all_hold-requires-clause-first : goal.all_hold-requires-clause-first
all_hold-requires-clause-first c =
    let self = c.args.self.now in
    let g = game_data self.game in
    let made = self.made in
    let s = there_at (states_of g) c.args.before c.args.at c.requires in
    let steps = all_weaker (λ (l : ℕ × Formula). is_initial_assumption g l.1) (λ l. is_step_formula (scope_of g) l.1) (λ l e. (and_parts (is_step_formula (scope_of g) l.1) _ (and_parts (is_state_formula (scope_of g) l.1) _ e).0).0) g.initial_asm made.initial_asm in
    rw (c.deref.ensures.value, c.deref-4.ensures.value) (lines_safe g (map (λ r. moment_data r.moment) self.seen.items) (moments_seen g self.seen.items self.states_seen) c.args.before c.args.at s.0 c.requires s.1 self.game.initial_asm.items steps)

pub all_hold-requires-clause-others : goal.all_hold-requires-clause-others
all_hold-requires-clause-others c =
    let self = c.args.self.now in
    let g = game_data self.game in
    let made = self.made in
    let s = there_at (states_of g) c.args.before c.args.at c.requires in
    let steps = all_weaker (λ (l : ℕ × Formula). is_safety_assumption g l.1) (λ l. is_step_formula (scope_of g) l.1) (λ l e. (and_parts (is_step_formula (scope_of g) l.1) _ e).0) g.safe_asm made.safe_asm in
    rw (c.deref-2.ensures.value, c.deref-4.ensures.value) (lines_safe g (map (λ r. moment_data r.moment) self.seen.items) (moments_seen g self.seen.items self.states_seen) c.args.before c.args.at s.0 c.requires s.1 self.game.safe_asm.items steps)

pub returns : goal.returns
returns c =
    let self = c.args.self.now in
    let g = game_data self.game in
    let ms = map (λ r. moment_data r.moment) self.seen.items in
    let listed = moments_seen g self.seen.items self.states_seen in
    let s = there_at (states_of g) c.args.before c.args.at c.requires in
    let first = all_are g ms listed c.args.before c.args.at s.0 c.requires s.1 self.game.initial_asm.items in
    let others = lines_are g ms listed (waits_for_output g) c.args.before c.args.at s.0 c.requires s.1 self.game.safe_asm.items in
    let some : is_some c.args.before ≡ is_some (before_of g c.args.before) = same_some g c.args.before c.args.at c.requires in
    (rw (c.deref.ensures.value, c.deref-2.ensures.value, c.deref-3.ensures.value, c.deref-4.ensures.value, self.waiting) at c.all_hold.ensures)
    ∙ (ap (λ b. (is_some c.args.before || b) && lines_at ms c.args.before c.args.at (map (λ (l : ℕ × Formula). waits_for_output g l.1) g.safe_asm) (map (λ l. formula l.1) self.game.safe_asm.items)) first
    ∙ (ap (λ b. (is_some c.args.before || list_all (λ l. line_holds g false (before_of g c.args.before) s.0 l.1) g.initial_asm) && b) others
    ∙ (ap (λ b. (b || list_all (λ l. line_holds g false (before_of g c.args.before) s.0 l.1) g.initial_asm) && list_all (λ l. line_holds g (waits_for_output g l.1) (before_of g c.args.before) s.0 l.1) g.safe_asm) some
    ∙ sym (judged_is g (assumptions_hold g (before_of g c.args.before)) c.args.at s.0 s.1))))
