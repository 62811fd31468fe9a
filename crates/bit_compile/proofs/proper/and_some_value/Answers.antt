use Rattle.std.proofs.Common.{◌&&◌, ap, subst}
use Rattle.spec_model.specs.Diagrams.{Bits, Function}
use Rattle.bit_compile.specs.Making.{Makes}
use Rattle.bit_compile.specs.Proper.{has_some_value}
use Rattle.bit_compile.specs.Named.{IsOfSlot}
use Rattle.bit_compile.proofs.MakingLemmas.{root_stays}
use Rattle.bit_compile.proofs.Between.{function_stays}
use Rattle.bit_compile.proofs.BlockLemmas.{after_refusal}
use Rattle.bit_compile.proofs.Causes.{cause_after, cause_ok}
use Rattle.bit_compile.proofs.proper.and_some_value.Goals as goal

pub and_each_code-requires-clause-kept : goal.and_each_code-requires-clause-kept
and_each_code-requires-clause-kept c = root_stays c.args.diagrams.now.state c.and_below.new.diagrams.state c.args.product.now c.in-Err.ensures.refused c.requires.kept

pub returns-in-Ok-clause-made : goal.returns-in-Ok-clause-made
returns-in-Ok-clause-made c = c.in-Ok.ensures

pub returns-in-Ok-clause-cause : goal.returns-in-Ok-clause-cause
returns-in-Ok-clause-cause c = cause_ok c.args.diagrams.now c.and_below.new.diagrams c.in-Ok.root _

pub returns-in-Err-clause-made : goal.returns-in-Err-clause-made
returns-in-Err-clause-made c =
    let old = c.args.diagrams.now in
    let mid = c.and_below.new.diagrams in
    let new = c.and_each_code.new.diagrams in
    let r = c.and_each_code.result in
    let some = has_some_value c.args.codes.now c.args.at c.args.k in
    let stays = ap (λ (f : Function). (λ (s : Bits). f s && some s)) (function_stays old mid c.args.product.now c.in-Err.ensures.keeps c.requires.kept) in
    after_refusal old mid new _ r _ _ c.in-Err.ensures (subst (λ (f : Function). Makes mid new r f) stays c.and_each_code.ensures.made)

pub returns-in-Err-clause-cause : goal.returns-in-Err-clause-cause
returns-in-Err-clause-cause c =
    cause_after c.args.diagrams.now c.and_below.new.diagrams c.and_each_code.new.diagrams c.and_each_code.result (IsOfSlot c.args.codes.now c.args.at c.args.k) c.in-Err.ensures.refused c.in-Err.ensures.keeps c.and_each_code.ensures.cause
