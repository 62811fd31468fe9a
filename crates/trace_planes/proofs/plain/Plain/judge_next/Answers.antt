use Rattle.std.proofs.Common.{◌∙◌, ℕ, suc, not, Some, option_map, refl, sym, ap, subst}
use Rattle.spec_model.specs.declared.game.Label.{Label}
use Rattle.spec_model.specs.GameViews.{game_data}
use Rattle.spec_model.specs.GameRules.{last_state}
use Rattle.spec_model.specs.Games.{GameData}
use Rattle.spec_model.specs.Steps.{reached}
use Rattle.trace_planes.specs.Audits.{JudgesAfter, IsPosition}
use Rattle.trace_planes.specs.Findings.{found_after}
use Rattle.trace_planes.specs.GameFindings.{broken_after}
use Rattle.trace_planes.proofs.Found.{none_of, judged_of, judged_first, judged_before}
use Rattle.trace_planes.proofs.plain.Plain.judge_next.Goals as goal

pub returns-then-is_none-clause-judged : goal.returns-then-is_none-clause-judged
returns-then-is_none-clause-judged c = λ g h st p is.
    let a = c.args.self.now in
    let b = last_state g h in
    let same = st.game in
    let none = ap not (c.is_none.ensures ∙ ap not c.if-is_none.true) in
    let judges = subst (λ (k : GameData). JudgesAfter a.judge k b) (sym same) (st.judges (sym st.found ∙ none_of a.found none)) in
    let position = subst (λ (k : GameData). IsPosition k p c.args.state.now) (sym same) is in
    let broken = c.next-broken.ensures.broken b p judges position ∙ ap (λ (k : GameData). broken_after k b p) same in
    judged_first g h p a.judge c.next-broken.new.self a.found c.found_there-self.result (judged_of a g h st) (ap game_data c.next-broken.ensures.game) none
    (c.found_there-self.ensures
    ∙ (ap (λ (n : ℕ). option_map (λ (l : Label). record { label = l; position = suc n }) c.next-broken.result) st.counted
    ∙ ap (found_after h) broken))
    (subst (λ (k : GameData). JudgesAfter c.next-broken.new.self k (Some (reached k b p.input p.output))) same (c.next-broken.ensures.after b p judges position))

pub returns-else-is_none-clause-judged : goal.returns-else-is_none-clause-judged
returns-else-is_none-clause-judged c = λ g h st p is.
    let a = c.args.self.now in
    judged_before g h p a.judge a.judge a.found a.found (judged_of a g h st) refl (ap not (c.is_none.ensures ∙ ap not c.if-is_none.false)) refl
