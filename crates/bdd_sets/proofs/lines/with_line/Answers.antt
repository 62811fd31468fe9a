use Rattle.std.proofs.Common.{◌≡◌, ◌⊎◌, inl, inr, rules, ◌++◌, [], ◌∷◌, Bool, true, if◌then◌else◌, sym, ◌∙◌, subst}
use Rattle.std.specs.List.{Contains}
use Rattle.spec_model.specs.Views.{formula}
use Rattle.bdd_sets.specs.Lists.{MakesList}
use Rattle.bdd_sets.specs.Lines.{is_judged_at, line_function}
use Rattle.bdd_sets.specs.LineScenes.{game_seen}
use Rattle.spec_model.specs.Diagrams.{Function}
use Rattle.bit_compile.specs.Named.{IsNamedOf}
use Rattle.bit_compile.proofs.Causes.{cause_ok}
use Rattle.bdd_sets.proofs.CauseLemmas.{list_cause}
use Rattle.bdd_sets.proofs.lines.with_line.Goals as goal

pub returns-clause-made : goal.returns-clause-made
returns-clause-made c = λ base fs made.
    let f = line_function (game_seen c.args.scene.now) c.args.scene.now.to.now c.args.late (formula c.args.e.now) in
    let more = c.push_made.ensures.made base c.args.diagrams.now fs f made c.line_root-made.ensures.made in
    let here = c.if-not-is_judged.false in
    let judged : is_judged_at c.args.when c.args.late ≡ true = sym c.is_judged.ensures ∙ search rules in
    subst (λ (b : Bool). MakesList base c.push_made.new.diagrams c.push_made.result (fs ++ (if b then f ∷ [] else []))) (sym judged) more

pub returns-then-not-is_judged-clause-cause : goal.returns-then-not-is_judged-clause-cause
returns-then-not-is_judged-clause-cause c = λ base fs made. cause_ok base c.args.diagrams.now c.args.so_far (λ (f : Function). Contains fs f ⊎ IsNamedOf (game_seen c.args.scene.now) (formula c.args.e.now) f)

pub returns-clause-cause : goal.returns-clause-cause
returns-clause-cause c = λ base fs made.
    let of_line = IsNamedOf (game_seen c.args.scene.now) (formula c.args.e.now) in
    list_cause of_line (λ (f : Function). Contains fs f ⊎ of_line f) (λ f is. inr is) base c.args.diagrams.now c.args.so_far fs made (λ f there. inl there)
    c.line_root-made.new.diagrams c.push_made.new.diagrams c.line_root-made.result c.push_made.result c.push_made.ensures.handed c.line_root-made.ensures.cause
