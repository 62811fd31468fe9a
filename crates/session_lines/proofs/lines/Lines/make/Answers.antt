use Rattle.std.proofs.Common.{◌≡◌, ℕ, List, map, filter, string_bytes, Result, Ok, Err, ap, subst, ◌∙◌}
use Rattle.std.specs.Result.{IfOk}
use Rattle.spec_model.specs.declared.value.Owner.TheVariants.{Env, Sys}
use Rattle.spec_model.specs.declared.value.Var.{Var}
use Rattle.spec_model.specs.Syntax.{VariableData, Specification}
use Rattle.spec_model.specs.Moves.{is_of}
use Rattle.spec_model.specs.Views.{variable_data, spec_data}
use Rattle.session_lines.specs.declared.lines.Lines.{Lines}
use Rattle.session_lines.specs.Shown.{inputs_of, outputs_of}
use Rattle.session_lines.specs.Views.{AreOver, AreFor}
use Rattle.session_lines.proofs.lines.Lines.make.Goals as goal

are_for : {E : Type 0} (r : Result Lines E) (ns : List (List ℕ)) (vs us : List VariableData) (s : Specification) → ns ≡ s.names → vs ≡ inputs_of s → us ≡ outputs_of s → IfOk r (λ l. AreOver l ns vs us) → IfOk r (λ l. AreFor l s)
are_for (Err e) ns vs us s names wanted shown over = tt
are_for (Ok l) ns vs us s names wanted shown over =
    subst (λ (ms : List (List ℕ)). AreOver l ms (inputs_of s) (outputs_of s)) names
    (subst (λ (ws : List VariableData). AreOver l ns ws (outputs_of s)) wanted
    (subst (λ (ws : List VariableData). AreOver l ns vs ws) shown over))

pub returns-clause-for_spec : goal.returns-clause-for_spec
returns-clause-for_spec c =
    are_for c.over.result _ _ _ (spec_data c.args.spec.now) (ap (map string_bytes) c.deref-3.ensures.value)
    (c.in_ok-wanted.ensures ∙ ap (λ (vars : List Var). filter (λ v. is_of Env v.owner) (map variable_data vars)) c.deref.ensures.value)
    (c.in_ok-shown.ensures ∙ ap (λ (vars : List Var). filter (λ v. is_of Sys v.owner) (map variable_data vars)) c.deref-2.ensures.value)
    c.over.ensures.over
