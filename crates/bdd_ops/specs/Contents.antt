-- What diagrams hold: the store, the lists of levels that answers are about, and what right answers say.
use Rattle.std.specs.Prelude.{◌≡◌, ◌+◌, ◌*◌, ◌<◌, ℕ, Bool, true, false, List, [], length, slice_index_or}
use Rattle.spec_model.specs.Diagrams.{Function, value, ite, shifted}
use Rattle.bdd_cache.specs.declared.answer.Answer.{Answer}
use Rattle.bdd_store.specs.State.{State, IsStore, HasAnswer, diagram_of}
use Rattle.bdd_ops.specs.Functions.{joined, joined_over, join_of}

pub record Contents : Type 0 where
  pub state : State
  pub lists : List (List ℕ)

-- the function of a node
abbrev pub function_at : Contents → ℕ → Function
function_at c n = value (diagram_of c.state n)

-- the list of levels that answers are about
abbrev pub list_at : Contents → ℕ → List ℕ
list_at c i = slice_index_or c.lists i []

-- the number of the operation "all" or "some" over a list
abbrev pub over_op : Bool → ℕ → ℕ
over_op true i = 9 + 4 * i
over_op false i = 8 + 4 * i

-- r is the operation's answer to f, g and h: operation 1 is a choice; over list i, 10 + 4 * i is "some make both
-- true", and 11 + 4 * i a shift
pub record IsAnswer (lists : List (List ℕ)) (op : ℕ) (f g h r : Function) : Type 0 where
  pub known : op < 8 + 4 * length lists
  pub choice : op ≡ 1 → r ≡ ite f g h
  pub over : (all : Bool) (i : ℕ) → op ≡ over_op all i → r ≡ joined_over (join_of all) (slice_index_or lists i []) f
  pub both : (i : ℕ) → op ≡ 10 + 4 * i → r ≡ joined_over (join_of false) (slice_index_or lists i []) (joined (join_of true) f g)
  pub moved : (i : ℕ) → op ≡ 11 + 4 * i → r ≡ shifted (slice_index_or lists i []) f

-- the answer is right of the functions of its nodes
abbrev pub IsRight : Contents → Answer → Type 0
IsRight c x = IsAnswer c.lists x.op (function_at c x.a) (function_at c x.b) (function_at c x.c) (function_at c x.r)

-- the store is one, and each answer that it has is right
pub record AreRight (c : Contents) : Type 0 where
  pub store : IsStore c.state
  pub right : (x : Answer) → HasAnswer c.state x → IsRight c x
