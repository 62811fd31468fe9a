use Rattle.bdd_ops.specs.Calls.{negated}
use Rattle.bit_compile.proofs.MakingLemmas.{is_root}
use Rattle.bdd_sets.specs.Members.{move_functions, reply_of, lists_at, IsThis}
use Rattle.bdd_sets.proofs.SpentLemmas.{refused_by}
use Rattle.bdd_sets.proofs.CauseLemmas.{cause_by}
use Rattle.bit_compile.proofs.Causes.{cause_wider}
use Rattle.bdd_sets.specs.NamedMoves.{IsOfAvoiding, replied}
use Rattle.bdd_sets.proofs.moves.kept_out.Goals as goal

pub returns-in_err-leads-clause-made : goal.returns-in_err-leads-clause-made
returns-in_err-leads-clause-made c = λ base f first are.
    let reply = reply_of (move_functions base c.args.members.now) c.args.levels.now.reply.items f in
    refused_by base c.replies.new.diagrams c.from_residual.result c.in_err-leads.field-0.0 reply (negated reply) c.from_residual.ensures.1 (c.in_err-leads.ensures.made base f first are)

pub not_spent-requires : goal.not_spent-requires
not_spent-requires c = let r = c.requires in is_root r.0 c.replies.new.diagrams c.in_ok-leads.leads _ (c.in_ok-leads.ensures.made r.0 r.1 r.2 r.3)

pub returns-clause-made : goal.returns-clause-made
returns-clause-made c = λ base f first are. c.not_spent.ensures.made base (reply_of (move_functions base c.args.members.now) c.args.levels.now.reply.items f) (c.in_ok-leads.ensures.made base f first are)

pub returns-in_err-leads-clause-cause : goal.returns-in_err-leads-clause-cause
returns-in_err-leads-clause-cause c = λ base f first are.
    let m = c.args.members.now in
    let reply = c.args.levels.now.reply.items in
    let old = c.args.diagrams.now in
    let named = IsOfAvoiding (lists_at base m) reply f in
    cause_by base c.replies.new.diagrams c.from_residual.result c.in_err-leads.field-0.0 named c.from_residual.ensures.1 (c.in_err-leads.ensures.cause base f first are)

pub returns-clause-cause : goal.returns-clause-cause
returns-clause-cause c = λ base f first are.
    let m = c.args.members.now in
    let reply = c.args.levels.now.reply.items in
    let old = c.args.diagrams.now in
    let named = IsOfAvoiding (lists_at base m) reply f in
    let leads = reply_of (move_functions base m) reply f in
    cause_wider (IsThis leads) named (λ g is. replied is) base c.not_spent.new.diagrams c.not_spent.result (c.not_spent.ensures.cause base leads (c.in_ok-leads.ensures.made base f first are))
