use Rattle.std.proofs.Common.{List, map, subst}
use Rattle.spec_model.specs.Diagrams.{Function}
use Rattle.bdd_bits.specs.Contents.{function_at}
use Rattle.bit_compile.specs.declared.cases.CaseRoot.{CaseRoot}
use Rattle.bit_compile.specs.Making.{Makes}
use Rattle.bit_compile.specs.CaseRoots.{folded}
use Rattle.bit_compile.specs.Crowding.{HasCause}
use Rattle.bit_compile.specs.Named.{IsFirstOf}
use Rattle.bit_compile.proofs.MakingLemmas.{root_stays}
use Rattle.bit_compile.proofs.Between.{functions_stay, still_kept}
use Rattle.bit_compile.proofs.BlockLemmas.{after_refusal}
use Rattle.bit_compile.proofs.Causes.{cause_after, cause_ok}
use Rattle.bit_compile.proofs.folds.folded.Goals as goal

pub joined_forth-requires : goal.joined_forth-requires
joined_forth-requires c =
    let old = c.args.diagrams.now in
    let mid = c.joined_back.new.diagrams in
    still_kept old.state mid.state c.args.cases.now (λ n root. root_stays old.state mid.state n c.in-Err.ensures.refused root) c.requires

pub returns-in-Ok-clause-made : goal.returns-in-Ok-clause-made
returns-in-Ok-clause-made c = c.in-Ok.ensures

pub returns-in-Ok-clause-cause : goal.returns-in-Ok-clause-cause
returns-in-Ok-clause-cause c = cause_ok c.args.diagrams.now c.joined_back.new.diagrams c.in-Ok.root _

pub returns-in-Err-clause-made : goal.returns-in-Err-clause-made
returns-in-Err-clause-made c =
    let old = c.args.diagrams.now in
    let mid = c.joined_back.new.diagrams in
    let new = c.joined_forth.new.diagrams in
    let r = c.joined_forth.result in
    let stay = functions_stay old mid c.args.cases.now c.in-Err.ensures.keeps c.requires in
    after_refusal old mid new _ r _ _ c.in-Err.ensures (subst (λ (fs : List Function). Makes mid new r (folded c.args.fold fs)) stay c.joined_forth.ensures.made)

pub returns-in-Err-clause-cause : goal.returns-in-Err-clause-cause
returns-in-Err-clause-cause c =
    let old = c.args.diagrams.now in
    let mid = c.joined_back.new.diagrams in
    let new = c.joined_forth.new.diagrams in
    let r = c.joined_forth.result in
    let stay = functions_stay old mid c.args.cases.now c.in-Err.ensures.keeps c.requires in
    cause_after old mid new r (IsFirstOf c.args.fold (map (λ (x : CaseRoot). function_at old x.root) c.args.cases.now)) c.in-Err.ensures.refused c.in-Err.ensures.keeps
    (subst (λ (fs : List Function). HasCause mid new r (IsFirstOf c.args.fold fs)) stay c.joined_forth.ensures.cause)
