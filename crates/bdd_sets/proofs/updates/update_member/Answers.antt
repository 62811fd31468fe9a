use Rattle.std.proofs.Common.{◌∙◌, List, ap, get_or, subst, sym}
use Rattle.spec_model.specs.GameViews.{game_data, hidden_data}
use Rattle.spec_model.specs.Values.{DomainData}
use Rattle.spec_model.specs.Diagrams.{Function}
use Rattle.regions.specs.declared.types.When.{When}
use Rattle.game_values.specs.declared.seen.At.TheVariants.{Next}
use Rattle.bit_compile.specs.Compiled.{is_code, never}
use Rattle.bit_compile.specs.Making.{Makes}
use Rattle.bit_compile.proofs.EntryLemmas.{get-mapped}
use Rattle.bdd_sets.specs.Updates.{update_functions}
use Rattle.bdd_sets.proofs.UpdateLemmas.{hidden_slot, start_there}
use Rattle.bit_compile.specs.Codes.{level_at, width_at}
use Rattle.bit_compile.specs.Named.{IsNamedUpdate}
use Rattle.bit_compile.specs.NamedCodes.{IsOfNumber}
use Rattle.bit_compile.proofs.Causes.{cause_wider}
use Rattle.bdd_sets.specs.NamedGame.{IsOfGame, becomes}
use Rattle.bdd_sets.proofs.NamedLemmas.{first_code}
use Rattle.bdd_sets.proofs.updates.update_member.Goals as goal

pub has_code-requires-clause-known : goal.has_code-requires-clause-known
has_code-requires-clause-known c = hidden_slot (game_data c.args.game.now) c.args.codes.now c.args.k c.requires.codes c.requires.known

pub returns-in-First-clause-made : goal.returns-in-First-clause-made
returns-in-First-clause-made c =
    let g = game_data c.args.game.now in
    let k = c.args.k in
    let x = c.index.result.now in
    let here = ap hidden_data c.index.ensures ∙ sym (get-mapped hidden_data c.args.game.now.hidden.items k x) in
    let is = ap (λ (ds : List DomainData). is_code ds Next k x.first) c.requires.codes ∙ sym (start_there g k (hidden_data x) c.requires.known here) in
    subst (λ (w : When). Makes c.args.diagrams.now c.has_code.new.diagrams c.has_code.result (get_or (update_functions g w) k never)) (sym c.in-First.is)
    (subst (λ (f : Function). Makes c.args.diagrams.now c.has_code.new.diagrams c.has_code.result f) is c.has_code.ensures.made)

pub returns-in-First-clause-cause : goal.returns-in-First-clause-cause
returns-in-First-clause-cause c =
    let g = game_data c.args.game.now in
    let k = c.args.k in
    let x = c.index.result.now in
    let old = c.args.diagrams.now in
    let ds = c.args.codes.now in
    let here = ap hidden_data c.index.ensures ∙ sym (get-mapped hidden_data c.args.game.now.hidden.items k x) in
    let code = λ (ds : List DomainData). IsOfNumber (level_at ds Next k) (width_at ds k) x.first in
    cause_wider (code ds) (IsOfGame g) (λ f is. first_code g c.requires.made k (hidden_data x) c.requires.known here f (subst (λ (ds : List DomainData). code ds f) c.requires.codes is)) old c.has_code.new.diagrams c.has_code.result c.has_code.ensures.cause

pub returns-in-Later-clause-cause : goal.returns-in-Later-clause-cause
returns-in-Later-clause-cause c =
    let g = game_data c.args.game.now in
    cause_wider (IsNamedUpdate g c.args.k) (IsOfGame g) (λ f is. becomes c.args.k c.requires.known is) c.args.diagrams.now c.update.new.diagrams c.update.result c.update.ensures.compiled.cause
