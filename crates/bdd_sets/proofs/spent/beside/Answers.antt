use Rattle.std.proofs.Common.{Err, refl, inl, inr}
use Rattle.bit_compile.proofs.MakingLemmas.{given_back, fails}
use Rattle.bdd_sets.proofs.SpentLemmas.{still_root}
use Rattle.bit_compile.proofs.Causes.{cause_back, cause_handed, cause_ok}
use Rattle.bdd_sets.specs.NamedMoves.{IsFirstOfAll}
use Rattle.bdd_sets.specs.Members.{functions_at, IsBesideAll}
use Rattle.bdd_sets.proofs.spent.beside.Goals as goal

pub release-requires : goal.release-requires
release-requires c = still_root c.args.diagrams.now c.all_of.new.diagrams c.all_of.result _ c.all_of.ensures.made c.args.held c.requires.kept

pub returns-in-Err-clause-refused : goal.returns-in-Err-clause-refused
returns-in-Err-clause-refused c = λ base f first. given_back base c.args.diagrams.now c.all_of.new.diagrams _ c.args.held f f first c.release.ensures.released c.release.ensures.nodes (Err c.in-Err.halt) (fails _ _ c.in-Err.halt _ f c.in-Err.ensures.made)

pub returns-in-Ok-clause-cause : goal.returns-in-Ok-clause-cause
returns-in-Ok-clause-cause c = λ base f first. cause_ok base c.all_of.new.diagrams _ (IsBesideAll f (functions_at c.args.diagrams.now c.args.members.now))

pub returns-in-Err-clause-cause : goal.returns-in-Err-clause-cause
returns-in-Err-clause-cause c = λ base f first.
    let old = c.args.diagrams.now in
    let fs = functions_at old c.args.members.now in
    let named = IsBesideAll f fs in
    cause_handed base c.release.new.self _ _ c.in-Err.halt named refl refl
    (cause_back (IsFirstOfAll fs) named (λ g is. inr is) base old c.args.held f first (inl refl) c.all_of.new.diagrams c.release.new.self _ c.release.ensures.nodes c.in-Err.ensures.cause)
