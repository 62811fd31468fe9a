use Rattle.std.proofs.Common.{Err, refl}
use Rattle.bit_compile.proofs.MakingLemmas.{given_back}
use Rattle.bdd_sets.proofs.SpentLemmas.{still_root}
use Rattle.region_bdd.proofs.LeadingLaws.{two_kept, refused_two}
use Rattle.region_bdd.proofs.NeedLaws.{same_halt}
use Rattle.region_bdd.proofs.leading.beside_made.Goals as goal

pub returns-in-Ok-clause-made : goal.returns-in-Ok-clause-made
returns-in-Ok-clause-made c = λ base h first kept. two_kept base c.args.diagrams.now c.keep.new.diagrams c.args.t.now c.args.made c.in-Ok.root h first kept c.in-Ok.ensures.made

pub release-requires : goal.release-requires
release-requires c = still_root c.args.diagrams.now c.keep.new.diagrams c.keep.result _ c.keep.ensures.made c.args.made c.requires.made

pub returns-in-Err-clause-made : goal.returns-in-Err-clause-made
returns-in-Err-clause-made c = λ base h first kept. refused_two base c.release.new.self (Err c.in-Err.halt) c.in-Err.halt _ _ h refl (given_back base c.args.diagrams.now c.keep.new.diagrams c.release.new.self c.args.made h _ first c.release.ensures.released c.release.ensures.nodes (Err c.in-Err.halt) c.in-Err.ensures.made)

pub returns-in-Err-clause-never : goal.returns-in-Err-clause-never
returns-in-Err-clause-never c = λ e. c.in-Err.ensures.never (same_halt e)
