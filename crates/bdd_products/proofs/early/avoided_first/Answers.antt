use Rattle.std.proofs.Common.{Ok, Err, subst}
use Rattle.bdd_bits.specs.Contents.{function_at}
use Rattle.regions.specs.declared.types.Halt.{Halt}
use Rattle.regions.specs.declared.types.Halt.TheVariants as halt
use Rattle.bit_compile.specs.Making.{Makes}
use Rattle.bit_compile.proofs.MakingLemmas.{is_root}
use Rattle.bdd_sets.specs.Members.{move_functions, avoiding, lists_at}
use Rattle.bit_compile.proofs.Causes.{cause_ok}
use Rattle.bdd_sets.specs.NamedMoves.{IsOfAvoiding}
use Rattle.bdd_sets.proofs.CauseLemmas.{cause_memory}
use Rattle.bdd_sets.proofs.SpentLemmas.{still_root}
use Rattle.bdd_products.proofs.EarlyLemmas.{early_made, still_target}
use Rattle.bdd_products.proofs.early.avoided_first.Goals as goal

pub avoided_early-requires-clause-target : goal.avoided_early-requires-clause-target
avoided_early-requires-clause-target c = let r = c.requires.target in is_root r.0 c.args.diagrams.now c.args.target r.1 r.2

pub avoided_early-requires-clause-fits : goal.avoided_early-requires-clause-fits
avoided_early-requires-clause-fits c = (move_functions c.args.diagrams.now c.args.members.now, c.args.levels.now, c.requires.fits)

pub release-requires : goal.release-requires
release-requires c =
    let r = c.requires.target in
    let old = c.args.diagrams.now in
    still_root old c.avoided_early.new.diagrams (Ok c.in-Ok.made) _ (c.in-Ok.ensures (move_functions old c.args.members.now) c.args.levels.now c.requires.fits) c.args.target (is_root r.0 old c.args.target r.1 r.2)

pub returns-in-Ok-clause-made : goal.returns-in-Ok-clause-made
returns-in-Ok-clause-made c = λ base f first are.
    let old = c.args.diagrams.now in
    early_made base old c.avoided_early.new.diagrams c.release.new.self c.args.target f c.args.members.now c.args.levels.now (Ok c.in-Ok.made) first are (c.in-Ok.ensures (move_functions old c.args.members.now) c.args.levels.now c.requires.fits) c.release.ensures.released c.release.ensures.nodes

pub release-requires-in-Err-Memory : goal.release-requires-in-Err-Memory
release-requires-in-Err-Memory c =
    let r = c.requires.target in
    let old = c.args.diagrams.now in
    still_root old c.avoided_early.new.diagrams (Err halt.Memory) _ (subst (λ (h : Halt). Makes old c.avoided_early.new.diagrams (Err h) (avoiding (move_functions old c.args.members.now) c.args.levels.now.reply.items c.args.levels.now.all.items (function_at old c.args.target))) c.in-Err-Memory.field-0-is (c.in-Err-Memory.ensures (move_functions old c.args.members.now) c.args.levels.now c.requires.fits)) c.args.target (is_root r.0 old c.args.target r.1 r.2)

pub returns-in-Err-Memory-clause-made : goal.returns-in-Err-Memory-clause-made
returns-in-Err-Memory-clause-made c = λ base f first are.
    let old = c.args.diagrams.now in
    early_made base old c.avoided_early.new.diagrams c.release-in-Err-Memory.new.self c.args.target f c.args.members.now c.args.levels.now (Err halt.Memory) first are (subst (λ (h : Halt). Makes old c.avoided_early.new.diagrams (Err h) (avoiding (move_functions old c.args.members.now) c.args.levels.now.reply.items c.args.levels.now.all.items (function_at old c.args.target))) c.in-Err-Memory.field-0-is (c.in-Err-Memory.ensures (move_functions old c.args.members.now) c.args.levels.now c.requires.fits)) c.release-in-Err-Memory.ensures.released c.release-in-Err-Memory.ensures.nodes

pub avoided-requires : goal.avoided-requires
avoided-requires c =
    let r = c.requires.target in
    let old = c.args.diagrams.now in
    let refused = (subst (λ (h : Halt). Makes old c.avoided_early.new.diagrams (Err h) (avoiding (move_functions old c.args.members.now) c.args.levels.now.reply.items c.args.levels.now.all.items (function_at old c.args.target))) c.in-Err-Budget.field-0-is (c.in-Err-Budget.ensures (move_functions old c.args.members.now) c.args.levels.now c.requires.fits)) in
    (r.0, r.1, still_target r.0 old c.avoided_early.new.diagrams c.args.target r.1 _ r.2 refused, r.3)

pub returns-else-early-clause-made : goal.returns-else-early-clause-made
returns-else-early-clause-made c = λ base f first are.
    let old = c.args.diagrams.now in
    let refused = (subst (λ (h : Halt). Makes old c.avoided_early.new.diagrams (Err h) (avoiding (move_functions old c.args.members.now) c.args.levels.now.reply.items c.args.levels.now.all.items (function_at old c.args.target))) c.in-Err-Budget.field-0-is (c.in-Err-Budget.ensures (move_functions old c.args.members.now) c.args.levels.now c.requires.fits)) in
    c.avoided.ensures.made base f (still_target base old c.avoided_early.new.diagrams c.args.target f _ first refused) are

pub returns-in-Ok-clause-cause : goal.returns-in-Ok-clause-cause
returns-in-Ok-clause-cause c = λ plain base f first are. cause_ok base c.release.new.self c.in-Ok.made (IsOfAvoiding (lists_at base c.args.members.now) c.args.levels.now.reply.items f)

pub returns-in-Err-Memory-clause-cause : goal.returns-in-Err-Memory-clause-cause
returns-in-Err-Memory-clause-cause c = λ plain base f first are. cause_memory base c.release-in-Err-Memory.new.self (IsOfAvoiding (lists_at base c.args.members.now) c.args.levels.now.reply.items f)

pub returns-else-early-clause-cause : goal.returns-else-early-clause-cause
returns-else-early-clause-cause c = λ plain base f first are.
    let old = c.args.diagrams.now in
    let refused = (subst (λ (h : Halt). Makes old c.avoided_early.new.diagrams (Err h) (avoiding (move_functions old c.args.members.now) c.args.levels.now.reply.items c.args.levels.now.all.items (function_at old c.args.target))) c.in-Err-Budget.field-0-is (c.in-Err-Budget.ensures (move_functions old c.args.members.now) c.args.levels.now c.requires.fits)) in
    c.avoided.ensures.cause base f (still_target base old c.avoided_early.new.diagrams c.args.target f _ first refused) are

pub release-requires-then-early : goal.release-requires-then-early
release-requires-then-early c =
    let r = c.requires.target in
    let old = c.args.diagrams.now in
    still_root old c.avoided_early.new.diagrams (Err halt.Budget) _ (subst (λ (h : Halt). Makes old c.avoided_early.new.diagrams (Err h) (avoiding (move_functions old c.args.members.now) c.args.levels.now.reply.items c.args.levels.now.all.items (function_at old c.args.target))) c.in-Err-Budget.field-0-is (c.in-Err-Budget.ensures (move_functions old c.args.members.now) c.args.levels.now c.requires.fits)) c.args.target (is_root r.0 old c.args.target r.1 r.2)

pub returns-then-early-clause-made : goal.returns-then-early-clause-made
returns-then-early-clause-made c = λ base f first are.
    let old = c.args.diagrams.now in
    early_made base old c.avoided_early.new.diagrams c.release-then-early.new.self c.args.target f c.args.members.now c.args.levels.now (Err halt.Budget) first are (subst (λ (h : Halt). Makes old c.avoided_early.new.diagrams (Err h) (avoiding (move_functions old c.args.members.now) c.args.levels.now.reply.items c.args.levels.now.all.items (function_at old c.args.target))) c.in-Err-Budget.field-0-is (c.in-Err-Budget.ensures (move_functions old c.args.members.now) c.args.levels.now c.requires.fits)) c.release-then-early.ensures.released c.release-then-early.ensures.nodes
