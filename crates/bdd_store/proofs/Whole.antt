-- What a store keeps true gives what callers see of it, and each change keeps it.
use Rattle.std.proofs.Common.{◌≡◌, ◌≢◌, ℕ, ◌<◌, ◌≤◌, ◌^◌, ◌==◌, ◌⊎◌, Bool, true, false, cond, List, [], ◌∷◌, ◌++◌, zero, suc, Some, None, Result, Ok, Err, IfOk, OnErr, length, get_or, refl, sym, ◌∙◌, ap, subst, inl, inr, arith}
use Rattle.std.specs.Prelude.{sum, count_by}
use Rattle.std.specs.List.{Contains}
use Rattle.std.proofs.lemmas.Bool.{cases_lt, cases_eq, ne_eqb, eq-eqb}
use Rattle.std.proofs.lemmas.List.Elements.{Contains-append_left, Contains-push_cases}
use Rattle.spec_model.specs.Diagrams.{Diagram, constant, branch, IsLater}
use mir.Val.{bool_byte}
use Rattle.spec_model.proofs.Diagrams.{same_function}
use Rattle.node_table.specs.Table.{Table, count_of, level_at, low_at, high_at, is_marked, IsLive, IsSound, IsFit, IsNodeAt, HasNode, IsNew, parts_of, diagram_at}
use Rattle.node_table.proofs.Meaning.{diagram_at-constant, diagram_at-inner, diagram_at-reduced, diagram_at-within, one_node, later_at}
use Rattle.node_table.proofs.Adding.{node_meaning}
use Rattle.node_table.proofs.Marking.{parts_of-inner, parts_of-level, parts_of-constant}
use Rattle.bdd_cache.specs.declared.answer.Answer.{Answer}
use Rattle.bdd_cache.specs.Kept.{IsKept}
use Rattle.bdd_store.specs.State.{State, IsStore, IsEdge, HasDiagram, diagram_of, HasParts, IsConstant, IsNewStore}
use Rattle.bdd_store.specs.State.{IsFull}
use Rattle.bdd_store.specs.Kept.{IsWhole, AddsOne, SameCounts}
use Rattle.node_table.specs.declared.fault.NodeFault.{NodeFault}
use Rattle.node_table.specs.declared.fault.NodeFault.TheVariants.{Full as NodesFull, Memory as NodesMemory}
use Rattle.bdd_store.specs.declared.edge.Edge.{Edge}
use Rattle.bdd_store.specs.declared.root.Root.{Root}
use Rattle.bdd_store.specs.declared.fault.StoreFault.{StoreFault}
use Rattle.bdd_store.specs.declared.fault.StoreFault.TheVariants.{Full, Memory}

pub store_of_whole : (s : State) (roots : ℕ) → IsWhole s roots → IsStore s
store_of_whole s roots whole = record {
  sound = whole.sound;
  roots_live = whole.roots_live;
  stack_live = whole.stack_live;
  answers_live = whole.answers_live;
  reduced = diagram_at-reduced s.table whole.sound;
  within = diagram_at-within s.table whole.sound;
  one = λ n m live live' e. one_node s.table whole.sound n m live live'
      (same_function (diagram_of s n) (diagram_of s m) (diagram_at-reduced s.table whole.sound n live) (diagram_at-reduced s.table whole.sound m live') e);
}

-- ---- answers

abbrev pub LiveAnswer : State → Answer → Type 0
LiveAnswer s a = IsEdge s a.a × IsEdge s a.b × IsEdge s a.c × IsEdge s a.r

pub whole_answers : (s : State) (roots : ℕ) (answers : List Answer) → IsWhole s roots → ((a : Answer) → IsKept answers a → LiveAnswer s a) → IsWhole (record s { answers = answers }) roots
whole_answers s roots answers whole live =
    record { sound = whole.sound; unmarked = whole.unmarked; roots_live = whole.roots_live; stack_live = whole.stack_live; answers_live = live; counted = whole.counted; small = whole.small }

-- ---- the stack

pub whole_stack : (s : State) (roots : ℕ) (stack : List ℕ) → IsWhole s roots → ((n : ℕ) → Contains stack n → IsEdge s n) → IsWhole (record s { stack = stack }) roots
whole_stack s roots stack whole live =
    record { sound = whole.sound; unmarked = whole.unmarked; roots_live = whole.roots_live; stack_live = live; answers_live = whole.answers_live; counted = whole.counted; small = whole.small }

-- one more live node
pub pushed_live : (s : State) (roots : ℕ) (e : ℕ) → IsWhole s roots → IsEdge s e → (n : ℕ) → Contains (s.stack ++ e ∷ []) n → IsEdge s n
pushed_live s roots e whole live n there = elim (Contains-push_cases s.stack e n there) [ inl before ↦ whole.stack_live n before | inr is ↦ subst (IsEdge s) is live ]

-- fewer nodes
pub fewer_live : (s : State) (roots : ℕ) (stack rest : List ℕ) → IsWhole s roots → s.stack ≡ stack ++ rest → (n : ℕ) → Contains stack n → IsEdge s n
fewer_live s roots stack rest whole is n there = whole.stack_live n (subst (λ (xs : List ℕ). Contains xs n) (sym is) (Contains-append_left stack rest n there))

-- ---- roots

pub whole_kept : (s : State) (roots roots' : ℕ) (kept : List ℕ) → IsWhole s roots → ((n : ℕ) → 0 < get_or kept n 0 → IsEdge s n) → roots' ≡ sum kept → length kept ≤ 2 ^ 32 → IsWhole (record s { kept = kept }) roots'
whole_kept s roots roots' kept whole live counted small =
    record { sound = whole.sound; unmarked = whole.unmarked; roots_live = live; stack_live = whole.stack_live; answers_live = whole.answers_live; counted = counted; small = small }

abbrev one_if : Bool → ℕ
one_if b = cond b 1 0

-- with one more root at a live node, each is at a live node
pub more_live : (s : State) (roots : ℕ) (kept : List ℕ) (e : ℕ) → IsWhole s roots → AddsOne s.kept kept e → IsEdge s e → (n : ℕ) → 0 < get_or kept n 0 → IsEdge s n
more_live s roots kept e whole adds live n some =
    elim (cases_eq n e) [
      | inl same ↦ subst (IsEdge s) (sym same) live
      | inr ne ↦
          let none : one_if (n == e) ≡ 0 = ap one_if (ne_eqb n e ne) in
          whole.roots_live n (omega (arith, adds n, none, some))
    ]

-- with one root less, or as many, too
pub less_live : (s : State) (roots : ℕ) (kept : List ℕ) (e : ℕ) → IsWhole s roots → AddsOne kept s.kept e → (n : ℕ) → 0 < get_or kept n 0 → IsEdge s n
less_live s roots kept e whole adds n some = whole.roots_live n (omega (arith, adds n, some))

pub same_live : (s : State) (roots : ℕ) (kept : List ℕ) → IsWhole s roots → SameCounts s.kept kept → (n : ℕ) → 0 < get_or kept n 0 → IsEdge s n
same_live s roots kept whole same n some = whole.roots_live n (omega (arith, same n, some))

-- ---- nodes

-- a live node of later levels, as its diagram says it
pub level_later : (t : Table) (level n : ℕ) → IsSound t → IsLive t n → level < t.levels → IsLater level (diagram_at t n) → level < level_at t n
level_later t level n sound live below later =
    elim (cases_lt n 2) [
      | inl less ↦ elim (cases_lt n 1) [
        | inl none ↦ let e : n ≡ 0 = omega arith in omega (arith, below, ap (level_at t) e ∙ sound.false_last)
        | inr some ↦ let e : n ≡ 1 = omega arith in omega (arith, below, ap (level_at t) e ∙ sound.true_last)
      ]
      | inr inner ↦ subst (IsLater level) (diagram_at-inner t sound n inner live) later
    ]

pub fit_of : (t : Table) (level low high : ℕ) → IsSound t → level < t.levels → low ≢ high → IsLive t low → IsLive t high → IsLater level (diagram_at t low) → IsLater level (diagram_at t high) →
    IsFit t (record { level = level; low = low; high = high })
fit_of t level low high sound below unlike live live' later later' = record {
  below = below;
  unlike = unlike;
  low_live = live;
  high_live = live';
  low_later = level_later t level low sound live below later;
  high_later = level_later t level high sound live' below later';
}

-- a live node that stands for a level and what two live nodes stand for has these parts
pub node_of_branch : (t : Table) (level low high n : ℕ) → IsSound t → IsLive t low → IsLive t high → IsLive t n → diagram_at t n ≡ branch level (diagram_at t low) (diagram_at t high) →
    IsNodeAt t (record { level = level; low = low; high = high }) n
node_of_branch t level low high n sound live live' here e =
    elim (cases_lt n 2) [
      | inl less ↦ absurd (no_branch _ _ _ _ (sym (diagram_at-constant t sound n less) ∙ e))
      | inr inner ↦
          let fit = sound.fit n inner here in
          let both : branch (level_at t n) (diagram_at t (low_at t n)) (diagram_at t (high_at t n)) ≡ branch level (diagram_at t low) (diagram_at t high) = sym (diagram_at-inner t sound n inner here) ∙ e in
          record {
            inner = inner;
            live = here;
            has = λ i. record {
              level = first _ _ _ _ _ _ both i;
              low = one_node t sound (low_at t n) low fit.low_live live (second _ _ _ _ _ _ both) i;
              high = one_node t sound (high_at t n) high fit.high_live live' (third _ _ _ _ _ _ both) i;
            };
          }
    ]
  where
    no_branch : (b : Bool) (l : ℕ) (x y : Diagram) → constant b ≡ branch l x y → ⊥
    no_branch b l x y h = cc

    first : (l l' : ℕ) (x x' y y' : Diagram) → branch l x y ≡ branch l' x' y' → l ≡ l'
    first l l' x x' y y' h = cc

    second : (l l' : ℕ) (x x' y y' : Diagram) → branch l x y ≡ branch l' x' y' → x ≡ x'
    second l l' x x' y y' h = cc

    third : (l l' : ℕ) (x x' y y' : Diagram) → branch l x y ≡ branch l' x' y' → y ≡ y'
    third l l' x x' y y' h = cc

-- there is such a node exactly where there is one that stands for the branch
pub no_node_of_branch : (t : Table) (level low high : ℕ) → IsSound t → IsLive t low → IsLive t high →
    (HasNode t (record { level = level; low = low; high = high }) → ⊥) → ((n : ℕ) × IsLive t n × (diagram_at t n ≡ branch level (diagram_at t low) (diagram_at t high))) → ⊥
no_node_of_branch t level low high sound live live' none has = none (has.0, node_of_branch t level low high has.0 sound live live' has.1 has.2)

pub no_branch_of_node : (t : Table) (level low high : ℕ) → IsSound t →
    (((n : ℕ) × IsLive t n × (diagram_at t n ≡ branch level (diagram_at t low) (diagram_at t high))) → ⊥) → HasNode t (record { level = level; low = low; high = high }) → ⊥
no_branch_of_node t level low high sound none has = none (has.0, has.1.live, node_meaning t (record { level = level; low = low; high = high }) has.0 sound has.1)

-- more nodes, which leave what was live with its meaning and mark nothing
pub whole_nodes : (s : State) (roots : ℕ) (t : Table) → IsWhole s roots → IsSound t → ((n : ℕ) → is_marked t n ≡ is_marked s.table n) → ((n : ℕ) → IsLive s.table n → IsLive t n) → IsWhole (record s { table = t }) roots
whole_nodes s roots t whole sound marks live = record {
  sound = sound;
  unmarked = λ n. marks n ∙ whole.unmarked n;
  roots_live = λ n some. live n (whole.roots_live n some);
  stack_live = λ n there. live n (whole.stack_live n there);
  answers_live = λ a kept. let was = whole.answers_live a kept in (live a.a was.0, live a.b was.1, live a.c was.2, live a.r was.3);
  counted = whole.counted;
  small = whole.small;
}

-- ---- parts

pub has_parts : (s : State) (roots : ℕ) → IsWhole s roots → (n level low high : ℕ) → IsEdge s n → parts_of s.table n ≡ Some (level, low, high) → HasParts s n level low high
has_parts s roots whole n level low high live e =
    let t : Table = s.table in
    let inner = parts_of-inner t n level low high e in
    let fit = whole.sound.fit n inner.0 live in
    let here : HasParts s n (level_at t n) (low_at t n) (high_at t n) = record {
      inner = inner.0;
      below = fit.below;
      low_live = fit.low_live;
      high_live = fit.high_live;
      unlike = fit.unlike;
      meaning = diagram_at-inner t whole.sound n inner.0 live;
      low_later = later_at t whole.sound (level_at t n) (low_at t n) fit.low_live fit.low_later;
      high_later = later_at t whole.sound (level_at t n) (high_at t n) fit.high_live fit.high_later;
    } in
    subst (λ k. HasParts s n k low high) (sym (parts_of-level t n level low high e))
    (subst (λ k. HasParts s n (level_at t n) k high) (sym inner.1)
    (subst (λ k. HasParts s n (level_at t n) (low_at t n) k) (sym inner.2) here))

pub is_constant : (s : State) (roots : ℕ) → IsWhole s roots → (n : ℕ) → parts_of s.table n ≡ None → IsConstant s n
is_constant s roots whole n e = let less = parts_of-constant s.table n e in record { outer = less; meaning = diagram_at-constant s.table whole.sound n less }

-- ---- constants

pub fixed_live : (t : Table) → IsSound t → (b : Bool) → IsLive t (bool_byte b)
fixed_live t sound true = sound.true_live
fixed_live t sound false = sound.false_live

pub fixed_meaning : (t : Table) → IsSound t → (b : Bool) → diagram_at t (bool_byte b) ≡ constant b
fixed_meaning t sound true = diagram_at-constant t sound 1 (omega arith)
fixed_meaning t sound false = diagram_at-constant t sound 0 (omega arith)

-- ---- a new store

none_marked : (n : ℕ) → get_or (false ∷ false ∷ []) n false ≡ false
none_marked zero = refl
none_marked (suc zero) = refl
none_marked (suc (suc n)) = refl

pub new_whole : (t : Table) (levels budget : ℕ) (answers : List Answer) → IsNew t levels budget → IsSound t → ((a : Answer) → IsKept answers a → ⊥) → IsWhole (record { table = t; kept = []; stack = []; answers = answers }) 0
new_whole t levels budget answers new sound none = record {
  sound = sound;
  unmarked = λ n. ap (λ marked. get_or marked n false) new.marked ∙ none_marked n;
  roots_live = λ n some. absurd (omega (arith, some));
  stack_live = λ n there. absurd (omega (arith, there.1));
  answers_live = λ a kept. absurd (none a kept);
  counted = refl;
  small = omega arith;
}

pub is_new : (t : Table) (levels budget : ℕ) (answers : List Answer) → IsNew t levels budget → IsSound t → ((a : Answer) → IsKept answers a → ⊥) → IsNewStore (record { table = t; kept = []; stack = []; answers = answers }) levels budget
is_new t levels budget answers new sound none = record {
  store = store_of_whole (record { table = t; kept = []; stack = []; answers = answers }) 0 (new_whole t levels budget answers new sound none);
  has_levels = new.has_levels;
  has_budget = new.has_budget;
  count = ap (count_by (λ b. b)) new.live;
  no_root = λ n. refl;
  no_entry = refl;
  no_answer = none;
}

-- what holds anyway holds where there is an error
pub on_err : {T E : Type 0} (r : Result T E) (P : Type 0) → P → OnErr r P
on_err (Ok x) P p = tt
on_err (Err e) P p = p

-- ---- the answer Full

abbrev pub FullExactly : State → ℕ → ℕ → ℕ → Result Edge StoreFault → Type 0
FullExactly s level low high r =
    (r ≡ Err Full → (low ≢ high) × (HasDiagram s (branch level (diagram_of s low) (diagram_of s high)) → ⊥) × IsFull s)
    × ((low ≢ high) × (HasDiagram s (branch level (diagram_of s low) (diagram_of s high)) → ⊥) × IsFull s → r ≡ Err Full)

pub full_exactly : (s : State) (level low high : ℕ) → IsSound s.table → IsEdge s low → IsEdge s high → low ≢ high → (q : Result ℕ NodeFault) (r : Result Edge StoreFault) →
    (q ≡ Err NodesFull → (HasNode s.table (record { level = level; low = low; high = high }) → ⊥) × (count_of s.table ≡ s.table.budget)) →
    ((HasNode s.table (record { level = level; low = low; high = high }) → ⊥) × (count_of s.table ≡ s.table.budget) → q ≡ Err NodesFull) →
    (q ≡ Err NodesFull → r ≡ Err Full) → (r ≡ Err Full → q ≡ Err NodesFull) →
    (r ≡ Err Full → (low ≢ high) × (HasDiagram s (branch level (diagram_of s low) (diagram_of s high)) → ⊥) × IsFull s)
    × ((low ≢ high) × (HasDiagram s (branch level (diagram_of s low) (diagram_of s high)) → ⊥) × IsFull s → r ≡ Err Full)
full_exactly s level low high sound live live' unlike q r there back to from = (
  (λ e. let was = there (from e) in (unlike, no_node_of_branch s.table level low high sound live live' was.0, record { sound = sound; count = was.1 })),
  (λ h. to (back (no_branch_of_node s.table level low high sound h.1, h.2.count))),
)

pub ok_or_err : {T E : Type 0} (x : T) (e : E) → Ok x ≡ Err e → ⊥
ok_or_err x e h = cc

pub nodes_memory : (h : ◌≡◌ {A = Result ℕ NodeFault} (Err NodesMemory) (Err NodesFull)) → ⊥
nodes_memory h = cc

pub store_memory : (h : ◌≡◌ {A = Result Edge StoreFault} (Err Memory) (Err Full)) → ⊥
store_memory h = cc

pub fault_of : {T E : Type 0} (e f : E) → ◌≡◌ {A = Result T E} (Err e) (Err f) → e ≡ f
fault_of e f h = cc

pub root_memory : (h : ◌≡◌ {A = Result Root StoreFault} (Err Memory) (Err Full)) → ⊥
root_memory h = cc

-- ---- roots that callers know

-- a root that was made is kept
pub is_root : (kept kept' : List ℕ) (e : ℕ) → AddsOne kept kept' e → 0 < get_or kept' e 0
is_root kept kept' e adds = let one : one_if (e == e) ≡ 1 = ap one_if (eq-eqb e e refl) in omega (arith, adds e, one)

-- a second root that is given back leaves the counts as they were
pub back_again : (old mid new : List ℕ) (e : ℕ) → AddsOne old mid e → AddsOne new mid e → SameCounts old new
back_again old mid new e adds takes n = omega (arith, adds n, takes n)
