-- Single operations.
use Rattle.std.proofs.Common.{◌≡◌, ℕ, ◌<◌, Bool, true, false, Result, Ok, Err, is_ok, IfOk, IsErrAnd, refl, sym, ◌∙◌, ap, subst, arith, inl, inr, ◌⊎◌}
use Rattle.std.specs.List.{AllByRecursion}
use Rattle.std.proofs.lemmas.Bool.{false≢true}
use Rattle.spec_model.specs.Diagrams.{Diagram, Function, value, IsReduced}
use Rattle.node_table.specs.Table.{Table, diagram_at}
use Rattle.node_table.proofs.Meaning.{diagram_at-reduced}
use Rattle.bdd_store.specs.declared.fault.StoreFault.{StoreFault}
use Rattle.bdd_store.specs.declared.fault.StoreFault.TheVariants as fault
use Rattle.bdd_store.specs.State.{State, IsEdge, IsRoot, diagram_of, SameRoots, AddsRoot}
use Rattle.bdd_ops.specs.Contents.{Contents, function_at}
use Rattle.bdd_ops.specs.Calls.{GivesRoot, IsNeeded}
use Rattle.bdd_reorder.specs.Keeping.{made_at, KeepsBesides}
use Rattle.bdd_reorder.specs.Crowding.{Running, arguments_of, IsUnfinishedOf, IsHeldSince, StandsIn, IsCrowdedSince}
use Rattle.bdd_reorder.specs.Making.{MakesOne}
use Rattle.bdd_reorder.proofs.KeepingLemmas.{made_named, nothing_besides, besides_wider, keeps_then}
use Rattle.bdd_reorder.proofs.CrowdingLemmas.{all_wider, crowded_back}

pub not_full : {E : Type 0} {V : Type 0} (v : V) → Ok v ≡ Err fault.Full → E
not_full v e = absurd (false≢true (sym (ap is_ok e)))

abbrev is_memory : {V : Type 0} → Result V StoreFault → Bool
is_memory (Ok v) = false
is_memory (Err fault.Full) = false
is_memory (Err fault.Memory) = true

pub not_memory : {E : Type 0} {V : Type 0} (r : Result V StoreFault) → is_memory r ≡ true → r ≡ Err fault.Full → E
not_memory r is e = absurd (false≢true (sym (ap is_memory e) ∙ is))

root_kept : (old new : State) (n : ℕ) → SameRoots old new → IsRoot old n → IsRoot new n
root_kept old new n same root = subst (λ (k : ℕ). 0 < k) (sym (same n)) root

root_was : (old new : State) (n : ℕ) → SameRoots old new → IsRoot new n → IsRoot old n
root_was old new n same root = subst (λ (k : ℕ). 0 < k) (same n) root

-- the diagram is that of a kept root
abbrev pub IsKeptRoot : State → Diagram → Type 0
IsKeptRoot old d = (r : ℕ) × IsRoot old r × (d ≡ diagram_of old r)

-- one operation on kept roots
module _ (old new : Contents) (f : Function) (running : Running) (N : Function → Type 0) (kept : AllByRecursion (IsKeptRoot old.state) (arguments_of running)) where
  module _ (gives : GivesRoot old new (Err fault.Full) f (IsUnfinishedOf running)) where
    live_now : (n : ℕ) → IsRoot old.state n → IsEdge new.state n
    live_now n root = (gives.full refl).rooted n (root_kept old.state new.state n gives.refused root)

    needed : (n : ℕ) → IsNeeded new.state (IsUnfinishedOf running) n → (n < 2) ⊎ (StandsIn new.state.table (IsHeldSince old.state N) n ⊎ StandsIn new.state.table (IsUnfinishedOf running) n)
    needed n (inl constant) = inl constant
    needed n (inr (inl stands)) =
        let r = stands.0 in
        let before : IsRoot old.state r = root_was old.state new.state r gives.refused stands.1 in
        inr (inl (record { root = r; live = live_now r before; held = inl (r, before, gives.keeps.meaning r before); part = stands.2 }))
    needed n (inr (inr made)) = inr (inr (record { root = made.0; live = made.1; held = made.2; part = made.3 }))

    reduced_root : (d : Diagram) → IsKeptRoot old.state d → IsReduced d
    reduced_root d k = subst IsReduced (gives.keeps.meaning k.0 k.1 ∙ sym k.2) (diagram_at-reduced new.state.table (gives.full refl).full.sound k.0 (live_now k.0 k.1))

    crowded : IsCrowdedSince old.state new.state.table N
    crowded =
        record {
          filled = (gives.full refl).full;
          rooted = live_now;
          running = running;
          on_held = all_wider (IsKeptRoot old.state) (IsHeldSince old.state N) (λ d k. inl k) (arguments_of running) kept;
          reduced = all_wider (IsKeptRoot old.state) IsReduced reduced_root (arguments_of running) kept;
          needed = λ n live. needed n ((gives.full refl).needed n live);
        }

  pub makes_one : (r : Result ℕ StoreFault) → GivesRoot old new r f (IsUnfinishedOf running) → MakesOne old new r f N
  makes_one (Ok r) gives = record { meaning = gives.meaning; keeps = gives.keeps; added = gives.added; full = λ e. not_full r e }
  makes_one (Err fault.Full) gives = record { meaning = tt; keeps = gives.keeps; added = λ n. (let same = gives.refused n in omega (arith, same)); full = λ e. crowded gives }
  makes_one (Err fault.Memory) gives = record { meaning = tt; keeps = gives.keeps; added = λ n. (let same = gives.refused n in omega (arith, same)); full = λ e. not_memory (Err fault.Memory) refl e }

-- the one root that is made besides
pub made_besides : (old new : Contents) (r : Result ℕ StoreFault) (f : Function) (N : Function → Type 0) → MakesOne old new r f N → KeepsBesides old new (λ g. g ≡ f) (λ n. made_at n r)
made_besides old new r f N makes = record { keeps = makes.keeps; added = makes.added; named = λ n some. made_named new (λ (g : Function). g ≡ f) r makes.meaning n some }

-- a refusal is one of whatever was to be made
pub fails_wider : (old new : Contents) (h : StoreFault) (f g : Function) (M N : Function → Type 0) → ((k : Function) → M k → N k) → MakesOne old new (Err h) f M → MakesOne old new (Err h) g N
fails_wider old new h f g M N wider makes =
    record {
      meaning = tt;
      keeps = makes.keeps;
      added = makes.added;
      full = λ e. crowded_back old old M N (λ n. 0) wider (nothing_besides old N) new.state.table (makes.full e);
    }

pub ok_meaning : (old new : Contents) (r : Result ℕ StoreFault) (f g : Function) → new.state.table ≡ old.state.table → f ≡ g → IfOk r (λ k. function_at old k ≡ f) → IfOk r (λ k. function_at new k ≡ g)
ok_meaning old new (Ok k) f g table same is = ap (λ t. value (diagram_at t k)) table ∙ (is ∙ same)
ok_meaning old new (Err h) f g table same is = tt

-- a root that was made on the way is given back
pub given_back : (old mid whole new : Contents) (b : ℕ) (r : Result ℕ StoreFault) (k f g : Function) (M P N : Function → Type 0) → N k → ((h : Function) → P h → N h) → f ≡ g → AddsRoot new.state whole.state b → new.state.table ≡ whole.state.table →
    MakesOne old mid (Ok b) k M → MakesOne mid whole r f P → MakesOne old new r g N
given_back old mid whole new b r k f g M P N named wider same back table first second =
    let besides : KeepsBesides old mid N (λ n. made_at n (Ok b)) = besides_wider old mid (λ h. h ≡ k) N (λ n. made_at n (Ok b)) (λ n. made_at n (Ok b)) (λ h is. subst N (sym is) named) (λ n. refl) (made_besides old mid (Ok b) k M first) in
    let keeps = keeps_then old mid whole N (λ n. made_at n (Ok b)) (λ n. 0) besides second.keeps in
    record {
      meaning = ok_meaning whole new r f g table same second.meaning;
      keeps = record {
        levels = ap (λ t. t.levels) table ∙ keeps.levels;
        budget = ap (λ t. t.budget) table ∙ keeps.budget;
        meaning = λ n root. ap (λ t. diagram_at t n) table ∙ keeps.meaning n root;
      };
      added = λ n. (let one = first.added n in let two = second.added n in let three = back n in omega (arith, one, two, three));
      full = λ e. subst (λ (t : Table). IsCrowdedSince old.state t N) (sym table) (crowded_back old mid P N (λ n. made_at n (Ok b)) wider besides whole.state.table (second.full e));
    }

-- a refusal that is handed on
pub err_is : (r : Result ℕ StoreFault) (h : StoreFault) → IsErrAnd r (λ y. y ≡ h) → Err h ≡ r
err_is (Ok v) h is = absurd is
err_is (Err y) h is = ap (λ (k : StoreFault). Err k) (sym is)
