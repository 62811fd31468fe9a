use Rattle.std.proofs.Common.{◌≡◌, Ok, Err, sym, ◌∙◌, ap, rules}
use Rattle.bdd_store.proofs.Whole.{fault_of}
use Rattle.bdd_ops.proofs.SpentLemmas.{spent_more}
use Rattle.bdd_ops.proofs.RelatedLemmas.{conjunction_held, at_once_given, at_once_more, related_now}
use Rattle.bdd_ops.proofs.work.Work.known_related.Goals as goal

pub quantified_anew-requires-clause-held : goal.quantified_anew-requires-clause-held
quantified_anew-requires-clause-held c = conjunction_held c.args.self.now c.args.self.now.state.stack c.args.asked _ c.in-Some.ensures c.requires.held

pub returns-in_err-given-clause-full : goal.returns-in_err-given-clause-full
returns-in_err-given-clause-full c full =
    let same : c.from_residual.result ≡ Err c.in_err-given.field-0.0 = search rules in
    spent_more c.quantified_anew.new.self c.args.self.now.state.stack _ _ (at_once_more c.args.self.now c.args.list _ _ _ c.in-Some.ensures) (c.quantified_anew.ensures.full (c.in_err-given.was ∙ ap Err (fault_of _ _ (sym same ∙ full))))

pub returns-in-Some-clause-given : goal.returns-in-Some-clause-given
returns-in-Some-clause-given c =
    related_now c.args.self.now c.quantified_anew.new.self c.args.self.now.state.stack c.args.list c.args.asked _ c.quantified_anew.ensures.works c.requires.held
    (at_once_given c.args.self.now c.quantified_anew.new.self c.args.list _ _ _ (Ok c.in_ok-given.given) c.in-Some.ensures c.in_ok-given.ensures.given)

pub returns-in-Some-known_quantified-clause-given : goal.returns-in-Some-known_quantified-clause-given
returns-in-Some-known_quantified-clause-given c = at_once_given c.args.self.now c.args.self.now c.args.list _ _ _ (Ok c.in-Some-known_quantified.known) c.in-Some.ensures c.in-Some-known_quantified.ensures
