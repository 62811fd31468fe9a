-- What is told of a budget that ends a copy, carried from a function's calls to the function.
use Rattle.std.proofs.Common.{◌≡◌, ℕ, ◌<◌, ◌≤◌, ◌⊎◌, inl, inr, sym, ◌∙◌, ap, subst, arith, List, [], ◌∷◌}
use Rattle.std.specs.List.{AllByRecursion}
use Rattle.std.proofs.lemmas.Bool.{cases_lt}
use Rattle.spec_model.specs.Diagrams.{Diagram, Function, value}
use Rattle.node_table.specs.Table.{Table, diagram_at}
use Rattle.bdd_store.specs.State.{IsRoot, diagram_of}
use Rattle.bdd_ops.specs.Contents.{Contents}
use Rattle.bdd_reorder.specs.Keeping.{KeepsBesides}
use Rattle.bdd_reorder.specs.Crowding.{IsHeldSince, StandsIn, IsCrowdedSince, arguments_of, IsUnfinishedOf}

pub all_wider : {X : Type 0} (H K : X → Type 0) → ((x : X) → H x → K x) → (xs : List X) → AllByRecursion H xs → AllByRecursion K xs
all_wider H K wider [] all = tt
all_wider H K wider (x ∷ xs) all = (wider x all.0, all_wider H K wider xs all.1)

module _ (old mid : Contents) (M N : Function → Type 0) (a : ℕ → ℕ) (wider : (f : Function) → M f → N f) (first : KeepsBesides old mid N a) where
  by_count : (d : Diagram) (r : ℕ) → IsRoot mid.state r → d ≡ diagram_of mid.state r → (0 < a r) ⊎ (a r ≤ 0) → IsHeldSince old.state N d
  by_count d r root is (inl some) = inr (subst N (sym (ap value is)) (first.named r some))
  by_count d r root is (inr none) =
      let more = first.added r in
      let before : IsRoot old.state r = omega (arith, more, root, none) in
      inl (r, before, is ∙ first.keeps.meaning r before)

  held_back : (d : Diagram) → IsHeldSince mid.state M d → IsHeldSince old.state N d
  held_back d (inl held) = by_count d held.0 held.1 held.2 (cases_lt 0 (a held.0))
  held_back d (inr named) = inr (wider (value d) named)

  stands_back : (t : Table) (n : ℕ) → StandsIn t (IsHeldSince mid.state M) n → StandsIn t (IsHeldSince old.state N) n
  stands_back t n s = record { root = s.root; live = s.live; held = held_back (diagram_at t s.root) s.held; part = s.part }

  needed_back : (t : Table) (Made : Type 0) (n : ℕ) → (n < 2) ⊎ (StandsIn t (IsHeldSince mid.state M) n ⊎ Made) → (n < 2) ⊎ (StandsIn t (IsHeldSince old.state N) n ⊎ Made)
  needed_back t Made n (inl constant) = inl constant
  needed_back t Made n (inr (inl stands)) = inr (inl (stands_back t n stands))
  needed_back t Made n (inr (inr made)) = inr (inr made)

  -- what fills the budget after some roots were made fills it from the start
  pub crowded_back : (t : Table) → IsCrowdedSince mid.state t M → IsCrowdedSince old.state t N
  crowded_back t c =
      record {
        filled = c.filled;
        rooted = λ n root. (let more = first.added n in c.rooted n (omega (arith, more, root)));
        running = c.running;
        on_held = all_wider (IsHeldSince mid.state M) (IsHeldSince old.state N) held_back (arguments_of c.running) c.on_held;
        reduced = c.reduced;
        needed = λ n live. needed_back t (StandsIn t (IsUnfinishedOf c.running) n) n (c.needed n live);
      }
