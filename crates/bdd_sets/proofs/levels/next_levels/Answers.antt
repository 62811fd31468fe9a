use Rattle.std.proofs.Common.{◌≡◌, ◌+◌, List, count_by, length, map, ◌∙◌, ap, arith, subst}
use Rattle.std.proofs.lemmas.List.{length-map}
use Rattle.spec_model.specs.declared.value.Var.{Var}
use Rattle.spec_model.specs.Values.{DomainData}
use Rattle.spec_model.specs.Views.{variable_data}
use Rattle.spec_model.specs.GameViews.{game_data, hidden_data}
use Rattle.spec_model.specs.Moves.{is_env, domains_of}
use Rattle.bit_compile.proofs.Places.{length-owned}
use Rattle.bdd_sets.specs.Levels.{HasNextBits, LeadsOn, is_elsewhere}
use Rattle.bdd_sets.proofs.LevelLemmas.{are_all_next, are_replies, leads_to_next}
use Rattle.bdd_sets.proofs.levels.next_levels.Goals as goal

pub returns : goal.returns
returns c =
    let g = game_data c.args.game.now in
    let tables = length-map c.args.game.now.hidden.items hidden_data in
    let count = c.count_inputs.ensures ∙ ap (λ (vs : List Var). count_by (λ v. is_env v.owner) (map variable_data vs)) c.deref.ensures.value in
    let owned = length-owned is_env g.variables in
    let first = c.len-first.result in
    let past = first + c.count_inputs.result in
    let from_here : first ≡ length g.hidden = omega (arith, tables, c.len-first.ensures) in
    let to_here : past ≡ length g.hidden + length (domains_of is_env g.variables) = omega (arith, from_here, count, owned) in
    record {
      all = are_all_next g c.in_ok-all.all.items (subst (λ (ds : List DomainData). HasNextBits ds (is_elsewhere 0 0) (length ds) c.in_ok-all.all.items) c.requires.codes c.in_ok-all.ensures);
      reply = are_replies g first past c.in_ok-reply.reply.items from_here to_here (subst (λ (ds : List DomainData). HasNextBits ds (is_elsewhere first past) (length ds) c.in_ok-reply.reply.items) c.requires.codes c.in_ok-reply.ensures);
      to = leads_to_next g c.in_ok-to.to.items (subst (λ (ds : List DomainData). LeadsOn ds (length ds) c.in_ok-to.to.items) c.requires.codes c.in_ok-to.ensures);
    }
