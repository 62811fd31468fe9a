use Rattle.std.proofs.Common.{List, subst}
use Rattle.bit_compile.specs.Compiled.{Case, some_pair}
use Rattle.bit_compile.specs.CaseRoots.{cases_at, passes}
use Rattle.bit_compile.proofs.MakingLemmas.{root_stays}
use Rattle.bit_compile.proofs.Between.{cases_stay, still_kept}
use Rattle.bit_compile.proofs.BlockLemmas.{after_refusal}
use Rattle.bit_compile.proofs.Causes.{cause_after, cause_ok}
use Rattle.bit_compile.specs.Named.{IsOfPairs}
use Rattle.bit_compile.specs.Crowding.{MakesNamed}
use Rattle.bit_compile.proofs.blocks.pair_root.Goals as goal

pub pair_by_pair-requires-clause-xs_kept : goal.pair_by_pair-requires-clause-xs_kept
pair_by_pair-requires-clause-xs_kept c =
    let old = c.args.diagrams.now in
    let mid = c.block.new.diagrams in
    still_kept old.state mid.state c.args.xs.now (λ n root. root_stays old.state mid.state n c.in-Err.ensures.refused root) c.requires.xs_kept

pub pair_by_pair-requires-clause-ys_kept : goal.pair_by_pair-requires-clause-ys_kept
pair_by_pair-requires-clause-ys_kept c =
    let old = c.args.diagrams.now in
    let mid = c.block.new.diagrams in
    still_kept old.state mid.state c.args.ys.now (λ n root. root_stays old.state mid.state n c.in-Err.ensures.refused root) c.requires.ys_kept

pub returns-in-Ok : goal.returns-in-Ok
returns-in-Ok c =
    record {
      made = c.in-Ok.ensures;
      cause = cause_ok c.args.diagrams.now c.block.new.diagrams c.in-Ok.root _;
    }

pub returns-in-Err : goal.returns-in-Err
returns-in-Err c =
    let old = c.args.diagrams.now in
    let mid = c.block.new.diagrams in
    let new = c.pair_by_pair.new.diagrams in
    let r = c.pair_by_pair.result in
    let first = c.in-Err.ensures in
    let xs = c.args.xs.now in
    let ys = c.args.ys.now in
    let test = passes c.args.test.now in
    let made : List Case → List Case → Type 0 = λ as' bs. MakesNamed mid new r (some_pair test as' bs) (IsOfPairs test as' bs) in
    let then : made (cases_at mid xs) (cases_at mid ys) = record { made = c.pair_by_pair.ensures.made; cause = c.pair_by_pair.ensures.cause } in
    let one = subst (λ (as' : List Case). made as' (cases_at mid ys)) (cases_stay old mid xs first.keeps c.requires.xs_kept) then in
    let both = subst (made (cases_at old xs)) (cases_stay old mid ys first.keeps c.requires.ys_kept) one in
    record {
      made = after_refusal old mid new _ r _ _ first both.made;
      cause = cause_after old mid new r (IsOfPairs test (cases_at old xs) (cases_at old ys)) first.refused first.keeps both.cause;
    }
