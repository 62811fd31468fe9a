-- The lines of a game's moves as products.
use Rattle.std.specs.Prelude.{ℕ, ◌+◌, Bool, true, false, [], Option, Some, None}
use Rattle.bdd_ops.specs.Functions.{joined, join_of}
use Rattle.bdd_bits.specs.Contents.{Contents}
use Rattle.bdd_sets.specs.declared.moves.NextLevels.{NextLevels}
use Rattle.bdd_sets.specs.Members.{AreRoots, functions_at}
use Rattle.bdd_sets.specs.MoveFunctions.{MoveFunctions}
use Rattle.bdd_sets.specs.NamedMoves.{MoveLists}
use Rattle.bdd_sets.specs.Lists.{times_in}
use Rattle.bdd_products.specs.declared.early.Early.{Early}
use Rattle.bdd_products.specs.Products.{IsProduct, AreOfMembers}

-- the products are of the legal outputs with the update, and of the legal inputs
pub record IsEarly (m : MoveFunctions) (levels : NextLevels) (c : Contents) (e : Early) : Type 0 where
  pub replies : IsProduct (joined (join_of true) m.outputs m.update) levels.reply.items c e.replies
  pub inputs : IsProduct m.inputs levels.all.items c e.inputs

-- if there are any
abbrev pub FitsEarly : MoveFunctions → NextLevels → Contents → Option Early → Type 0
FitsEarly m levels c None = Unit {0}
FitsEarly m levels c (Some e) = IsEarly m levels c e

-- each of their lines is kept
pub record AreEarlyRoots (c : Contents) (e : Early) : Type 0 where
  pub replies : AreRoots c e.replies.lines.items
  pub inputs : AreRoots c e.inputs.lines.items

abbrev pub AreRootsOfEarly : Contents → Option Early → Type 0
AreRootsOfEarly c None = Unit {0}
AreRootsOfEarly c (Some e) = AreEarlyRoots c e

-- how often their lines have the root
abbrev pub roots_of_products : ℕ → Early → ℕ
roots_of_products n e = times_in n e.replies.lines.items + times_in n e.inputs.lines.items

abbrev pub roots_of_early : ℕ → Option Early → ℕ
roots_of_early n None = 0
roots_of_early n (Some e) = roots_of_products n e

-- whether there are products whose lines are grouped
abbrev pub is_grouped : Option Early → Bool
is_grouped None = false
is_grouped (Some e) = e.grouped

-- each line of the products is a member of its kind, or the first several together
abbrev pub AreLinesOf : MoveLists → Contents → Option Early → Type 0
AreLinesOf m c None = Unit {0}
AreLinesOf m c (Some e) = AreOfMembers m.outputs m.update (functions_at c e.replies.lines.items) × AreOfMembers m.inputs [] (functions_at c e.inputs.lines.items)
