use Rattle.std.proofs.Common.{ℕ, List}
use Rattle.spectra_trees.specs.Data.{TreeData}
use Rattle.spectra_parser.specs.Shapes.{IsShaped}
use Rattle.spectra_parser.proofs.ShapedTexts.{shaped_text}
use Rattle.spectra_files.specs.Reading.{ReadsAs}
use Rattle.spectra_top.proofs.Meant.{typed_meaning}
use Rattle.spectra_top.proofs.laws.what_a_text_means_is_well_typed.Goals as goal

shaped_tree : (text : List ℕ) (t : TreeData) → ReadsAs text t → IsShaped t
shaped_tree text t reads = shaped_text text reads.tokens t reads.lexed reads.parsed

pub returns : goal.returns
returns c = typed_meaning shaped_tree c.faultless_files_are_well_typed.ensures
