-- How large formulas are, found without making them. Every number is held at the greatest one of 64 bits.
use Rattle.std.specs.Prelude.{ℕ, ◌+◌, ◌*◌, min, max, Bool, true, false, if◌then◌else◌, get_or}
use Rattle.spec_model.specs.Syntax.{Formula}
use Rattle.spec_model.specs.FormulaSizes.{nodes_in, levels_in}
use Rattle.spectra_trees.specs.declared.tree.BinaryWord.{BinaryWord}
use Rattle.spectra_resolved.specs.Resolved.{ResolvedTree, tree, Form, ResolvedTrees}
use Rattle.spectra_copies.specs.Levels.{is_row_word}
use Rattle.spectra_judge.specs.Kinds.{Anything}
use Rattle.spectra_judge.specs.Known.{Known}
use Rattle.spectra_judge.specs.Judged.{kind_of}
use Rattle.spectra_cases.specs.Formulas.{Reading, One, Here, Outside, reading_of, is_comparing}

-- nodes and levels
pub record SizeOf : Type 0 where
  pub nodes : ℕ
  pub levels : ℕ

-- what cases around a comparison make of its size: so many times its nodes and some more, and its levels with some above, or those
-- of the cases where these are more
pub record WrapOf : Type 0 where
  pub times : ℕ
  pub more : ℕ
  pub above : ℕ
  pub least : ℕ

-- a part of a comparison: its own size, and what its indexes make of that of the comparison
pub record SideOf : Type 0 where
  pub own : SizeOf
  pub wrap : WrapOf

abbrev pub held : ℕ → ℕ
held n = min n 18_446_744_073_709_551_615

-- the size of a formula
abbrev pub size_of : Formula → SizeOf
size_of f = record { nodes = held (nodes_in f); levels = held (levels_in f) }

-- ---- sizes of operators

abbrev pub one : SizeOf
one = record { nodes = 1; levels = 1 }

abbrev pub above : SizeOf → SizeOf
above s = record { nodes = held (s.nodes + 1); levels = held (s.levels + 1) }

abbrev pub joined : SizeOf → SizeOf → SizeOf
joined a b = record { nodes = held (held (a.nodes + b.nodes) + 1); levels = held (max a.levels b.levels + 1) }

abbrev pub no_wrap : WrapOf
no_wrap = record { times = 1; more = 0; above = 0; least = 0 }

-- cases around other cases
abbrev pub around : (outer inner : WrapOf) → WrapOf
around o i =
    record {
      times = held (o.times * i.times);
      more = held (held (o.times * i.more) + o.more);
      above = held (o.above + i.above);
      least = max o.least (held (o.above + i.least));
    }

-- as many cases as there are elements, in each of which an equation of a size holds
abbrev pub choice_wrap : (count : ℕ) → (equation : SizeOf) → WrapOf
choice_wrap n e = record { times = n; more = held (held (n * held (e.nodes + 1)) + 1); above = 2; least = held (e.levels + 2) }

-- a comparison with the cases around it
abbrev pub closed : SideOf → SizeOf
closed s =
    record {
      nodes = held (held (s.own.nodes * s.wrap.times) + s.wrap.more);
      levels = max (held (s.own.levels + s.wrap.above)) s.wrap.least;
    }

-- what no index is left of
abbrev pub whole : SizeOf → SideOf
whole s = record { own = s; wrap = no_wrap }

-- the equation of a part with a number
abbrev pub equation_size : (under : Bool) → SideOf → SizeOf
equation_size under s = closed (record { own = joined (if under then above s.own else s.own) one; wrap = s.wrap })

-- what an operator makes of its operands
abbrev pub both_sides : SideOf → SideOf → SideOf
both_sides a b = record { own = joined a.own b.own; wrap = around a.wrap b.wrap }

abbrev pub link_side : BinaryWord → SideOf → SideOf → SideOf
link_side word a b =
    if is_row_word word then both_sides a b else (if is_comparing word then whole (closed (both_sides a b)) else whole (joined (closed a) (closed b)))

-- whether the operands of an operator are under the `next` that it is under itself
abbrev pub under_row : BinaryWord → Bool → Bool
under_row word under = if is_row_word word then under else false

-- an operator above a part
abbrev pub above_side : SideOf → SideOf
above_side s = record { own = above s.own; wrap = s.wrap }

-- one more of several
abbrev pub together : SizeOf → SizeOf → SizeOf
together a b = record { nodes = held (a.nodes + b.nodes); levels = max a.levels b.levels }

-- an element of so many, by how its array is read, and by the equations of its index
abbrev pub index_measured : Reading → (count : ℕ) → (here outside : SizeOf) → SideOf
index_measured (One v) n here outside = whole one
index_measured Here n here outside = whole (closed (record { own = one; wrap = choice_wrap n here }))
index_measured Outside n here outside = record { own = one; wrap = choice_wrap n outside }

-- ---- sizes of expressions

abbrev mutual
  -- a part of a comparison, under a `next` or not
  pub measured : Known → ResolvedTree → (under : Bool) → SideOf
  measured k (tree first at form) under = form_measured k form under

  pub form_measured : Known → Form → (under : Bool) → SideOf
  form_measured k (Form.LeafOf l) under = whole one
  form_measured k (Form.PredicateOf number ts) under = whole one
  form_measured k (Form.MisuseOf m ts) under = whole one
  form_measured k (Form.Next t) under = above_side (measured k t true)
  form_measured k (Form.Prefix word t) under = whole (above (closed (measured k t false)))
  form_measured k (Form.Binary word a b) under = link_side word (measured k a (under_row word under)) (measured k b (under_row word under))
  form_measured k (Form.Mod t number_at n) under = above_side (measured k t under)
  form_measured k (Form.And ts operators) under = whole (above (each_measured k ts))
  form_measured k (Form.Or ts operators) under = whole (above (each_measured k ts))
  form_measured k (Form.Index first n t) under =
      index_measured (reading_of (get_or k.variables first Anything) first n (kind_of k t)) n (equation_size false (measured k t false)) (equation_size under (measured k t under))
  form_measured k (Form.Quantified word variable extent low high ts) under = whole (above (each_measured k ts))

  -- several together
  pub each_measured : Known → ResolvedTrees → SizeOf
  each_measured k ResolvedTrees.none = record { nodes = 0; levels = 0 }
  each_measured k (ResolvedTrees.one_more t ts) = together (closed (measured k t false)) (each_measured k ts)
