-- What is asked for where a first move is to be found, and what is fixed of its bits.
use Rattle.std.specs.Prelude.{◌≡◌, ℕ, Bool, Option, Some, None, List, [], ◌∷◌, ◌++◌, length}
use Rattle.spec_model.specs.declared.value.Value.{Value}
use Rattle.spec_model.specs.Values.{DomainData}
use Rattle.spec_model.specs.Diagrams.{Bits}
use Rattle.regions.specs.declared.types.When.{When}
use Rattle.regions.specs.declared.types.When.TheVariants.{First, Later}
use Rattle.game_values.specs.declared.seen.At.TheVariants.{Now, Next}
use Rattle.bdd_ops.specs.Paths.{Agrees}
use Rattle.bdd_ops.specs.Together.{Together}
use Rattle.bdd_sets.specs.declared.moves.Members.{Members}
use Rattle.bdd_products.specs.declared.early.Early.{Early}
use Rattle.region_bdd.specs.declared.own.Own.{Own}
use Rattle.region_bdd.specs.Leading.{members_at}
use Rattle.bdd_search.specs.Parts.{ArePart, HaveValues, AreFixed}

-- the diagrams that are true together at legal moves into the target
abbrev pub outputs_asked : Members → ℕ → List ℕ
outputs_asked m target = ((m.inputs.items ++ m.outputs.items) ++ m.update.items) ++ target ∷ []

-- the same by products
abbrev pub products_asked : Early → ℕ → List ℕ
products_asked e target = (e.inputs.lines.items ++ e.replies.lines.items) ++ target ∷ []

-- the members, or of later moves the products, where there are any
abbrev pub sought : Members → When → Option Early → ℕ → List ℕ
sought m First early target = outputs_asked m target
sought m Later None target = outputs_asked m target
sought m Later (Some e) target = products_asked e target

-- the diagrams that are true together at an object's legal moves into the target
abbrev pub outputs_sought : Own → When → ℕ → List ℕ
outputs_sought own when target = sought (members_at own when) when own.early target

-- those that are true together at legal inputs all of whose legal outputs lead into a set
abbrev pub inputs_asked : Members → ℕ → List ℕ
inputs_asked m leads = m.inputs.items ++ leads ∷ []

-- these are asked for, and the room is the same
abbrev pub AsksFor : (old new : Together) → List ℕ → Type 0
AsksFor old new roots = new ≡ record { levels = old.levels; most = old.most; roots = roots }

-- before a later move the values are those of all slots
abbrev pub AreStateAt : List DomainData → When → List Value → Type 0
AreStateAt ds First values = Unit {0}
AreStateAt ds Later values = ArePart ds 0 (length ds) values

-- before a later move the present bits are those of the values
abbrev pub HaveState : List DomainData → When → List Value → Bits → Type 0
HaveState ds First values s = Unit {0}
HaveState ds Later values s = HaveValues ds Now 0 values s

-- and are fixed
abbrev pub AreStateFixed : List DomainData → When → List Value → List (Option Bool) → Type 0
AreStateFixed ds First values fixed = Unit {0}
AreStateFixed ds Later values fixed = AreFixed ds Now 0 values fixed

-- bits with this state before agree with what is fixed
abbrev pub AllowsState : List DomainData → When → List Value → List (Option Bool) → Type 0
AllowsState ds when state fixed = (s : Bits) → HaveState ds when state s → Agrees fixed 0 s

-- the bits that agree are those with this state before and these next values
pub record IsMoveFixed (ds : List DomainData) (when : When) (state : List Value) (from : ℕ) (values : List Value) (fixed : List (Option Bool)) : Type 0 where
  pub before : (s : Bits) → Agrees fixed 0 s → HaveState ds when state s
  pub next : (s : Bits) → Agrees fixed 0 s → HaveValues ds Next from values s
  pub allows : (s : Bits) → HaveState ds when state s → HaveValues ds Next from values s → Agrees fixed 0 s
