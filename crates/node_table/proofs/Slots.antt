-- The search through the slots: it meets each of them, and so an empty one.
use Rattle.std.proofs.Common.{◌≡◌, ◌≢◌, ◌⊎◌, ℕ, suc, ◌+◌, ◌-◌, ◌<◌, ◌≤◌, ◌==◌, Bool, true, false, not, cond, List, [], ◌∷◌, length, get_or, set, take, get_or-set_same, get_or-set_other, length-set, refl, sym, ◌∙◌, ap, subst, inl, inr, arith}
use Rattle.std.specs.Prelude.{count_by}
use Rattle.std.proofs.lemmas.Bool.{cases_lt, cases_eq, cases_order, lt-ltb, le-ltb, ne_eqb, eq-eqb, false≢true}
use Rattle.std.proofs.lemmas.List.Sums.{sum_by-set, sum_by-cons, sum_by-take-le, count_by_more_yes}
use Rattle.node_table.specs.declared.node.Node.{Node}
use Rattle.node_table.specs.Index.{near_of, start_of, slot_after, slot_for, named_at, used, node_of, EndsAt, IsNamed, IsIndex, LiveBelow, IsFlagged, IsApart}

-- ---- steps

slot_after-near : (size start steps : ℕ) → start + steps < size → slot_after size start steps ≡ start + steps
slot_after-near size start steps less = ap (λ b. cond b (start + steps) (start + steps - size)) (lt-ltb (start + steps) size less)

slot_after-far : (size start steps : ℕ) → size ≤ start + steps → slot_after size start steps ≡ start + steps - size
slot_after-far size start steps more = ap (λ b. cond b (start + steps) (start + steps - size)) (le-ltb (start + steps) size more)

-- the first step is at the start
pub slot_after-zero : (size start : ℕ) → start < size → start ≡ slot_after size start 0
slot_after-zero size start less = sym (slot_after-near size start 0 (omega arith) ∙ omega arith)

-- one step more
pub slot_after-more : (size start steps at : ℕ) → start < size → steps < size → at ≡ slot_after size start steps → at + 1 ≢ size → at + 1 ≡ slot_after size start (steps + 1)
slot_after-more size start steps at within less e inside =
    elim (cases_lt (start + steps) size) [
      | inl near ↦ let h : at ≡ start + steps = e ∙ slot_after-near size start steps near in
          omega (arith, h, slot_after-near size start (steps + 1) (omega (arith, h, inside)))
      | inr far ↦ let h : at ≡ start + steps - size = e ∙ slot_after-far size start steps far in
          omega (arith, h, slot_after-far size start (steps + 1) (omega arith))
    ]

pub slot_after-wraps : (size start steps at : ℕ) → start < size → steps < size → at ≡ slot_after size start steps → at + 1 ≡ size → 0 ≡ slot_after size start (steps + 1)
slot_after-wraps size start steps at within less e last =
    elim (cases_lt (start + steps) size) [
      | inl near ↦ let h : at ≡ start + steps = e ∙ slot_after-near size start steps near in
          omega (arith, h, slot_after-far size start (steps + 1) (omega (arith, h, last)))
      | inr far ↦ let h : at ≡ start + steps - size = e ∙ slot_after-far size start steps far in
          absurd (omega (arith, h, last))
    ]

-- each slot is met
pub met : (size start at : ℕ) → start < size → at < size → (steps : ℕ) × (steps < size) × (slot_after size start steps ≡ at)
met size start at within less =
    elim (cases_lt at start) [
      | inl before ↦ (at + size - start, omega arith, slot_after-far size start (at + size - start) (omega arith) ∙ omega arith)
      | inr behind ↦ (at - start, omega arith, slot_after-near size start (at - start) (omega arith) ∙ omega arith)
    ]

-- behind the first slot
pub slot_for-more : (slots : List ℕ) (node : Node) (steps : ℕ) → slot_for slots node (steps + 1) ≡ slot_after (length slots) (start_of node (length slots)) steps
slot_for-more slots node steps =
    ap (λ b. cond b (near_of node (length slots)) (slot_after (length slots) (start_of node (length slots)) (steps + 1 - 1))) (ne_eqb (steps + 1) 0 (λ e. omega (arith, e))) ∙
    ap (slot_after (length slots) (start_of node (length slots))) (omega arith)

-- ---- counts

abbrev weight : Bool → ℕ
weight b = cond b 1 0

pub count_by-all : {X : Type 0} (p : X → Bool) (xs : List X) (d : X) → ((k : ℕ) → k < length xs → p (get_or xs k d) ≡ true) → count_by p xs ≡ length xs
count_by-all p [] d all = refl
count_by-all p (x ∷ xs) d all =
    let here : p x ≡ true = all 0 (omega arith) in
    let rest : count_by p xs ≡ length xs = count_by-all p xs d (λ k less. all (suc k) (omega arith)) in
    let one : weight (p x) ≡ 1 = ap weight here in
    let parts : count_by p (x ∷ xs) ≡ weight (p x) + count_by p xs = sum_by-cons (λ y. weight (p y)) x xs in
    omega (arith, one, rest, parts)

-- empty slots name nothing
pub used-empty : (slots : List ℕ) → ((k : ℕ) → get_or slots k 0 ≡ 0) → used slots ≡ 0
used-empty [] empty = refl
used-empty (n ∷ slots) empty =
    let none : weight (not (n == 0)) ≡ 0 = ap (λ b. weight (not b)) (eq-eqb n 0 (empty 0)) in
    let parts : used (n ∷ slots) ≡ weight (not (n == 0)) + used slots = sum_by-cons (λ m. weight (not (m == 0))) n slots in
    omega (arith, none, parts, used-empty slots (λ k. empty (suc k)))

-- a search that passed each slot means that all are used
pub all_used : (slots : List ℕ) (node : Node) → start_of node (length slots) < length slots → ((d : ℕ) → d < length slots → named_at slots node (d + 1) ≢ 0) → used slots ≡ length slots
all_used slots node start passed =
    count_by-all (λ n. not (n == 0)) slots 0 (λ k less.
    let at = met (length slots) (start_of node (length slots)) k start less in
    let other : get_or slots k 0 ≢ 0 = subst (λ i. get_or slots i 0 ≢ 0) (slot_for-more slots node at.0 ∙ at.2) (passed at.0 at.1) in
    ap not (ne_eqb (get_or slots k 0) 0 other))

-- ---- an empty slot

-- where the search for a node ends at an empty slot, no number of it is named
pub absent : (slots : List ℕ) (nodes : List Node) (node : Node) (at : ℕ) → EndsAt slots nodes node at → get_or slots at 0 ≡ 0 →
    (n : ℕ) → n ≢ 0 → IsNamed slots nodes n → node_of nodes n ≡ node → ⊥
absent slots nodes node at ends empty n some is_named same =
    let named : named_at slots node is_named.steps ≡ n = subst (λ x. named_at slots x is_named.steps ≡ n) same is_named.named in
    let nothing : named_at slots node ends.steps ≡ 0 = subst (λ k. get_or slots k 0 ≡ 0) ends.place empty in
    elim (cases_order ends.steps is_named.steps) [
      | inl e ↦ some (sym named ∙ (ap (λ d. named_at slots node d) (sym e) ∙ nothing))
      | inr (inl before) ↦ subst (λ x. (d : ℕ) → d < is_named.steps → named_at slots x d ≢ 0) same is_named.passed ends.steps before nothing
      | inr (inr after) ↦ (ends.passed is_named.steps after).1 (subst (λ k. node_of nodes k ≡ node) (sym named) same)
    ]

-- a slot that wasn't empty stays as it is
kept_slot : (slots : List ℕ) (at n k : ℕ) → get_or slots at 0 ≡ 0 → get_or slots k 0 ≢ 0 → get_or (set slots at n) k 0 ≡ get_or slots k 0
kept_slot slots at n k empty some = get_or-set_other slots at k n 0 (λ e. some (ap (λ i. get_or slots i 0) e ∙ empty))

named_at-set : (slots : List ℕ) (at n : ℕ) (node : Node) (steps : ℕ) → named_at (set slots at n) node steps ≡ get_or (set slots at n) (slot_for slots node steps) 0
named_at-set slots at n node steps = ap (λ size. get_or (set slots at n) (cond (steps == 0) (near_of node size) (slot_after size (start_of node size) (steps - 1))) 0) (length-set slots at n)

kept_name : (slots : List ℕ) (at n : ℕ) (node : Node) (steps : ℕ) → get_or slots at 0 ≡ 0 → named_at slots node steps ≢ 0 →
    named_at (set slots at n) node steps ≡ named_at slots node steps
kept_name slots at n node steps empty some = named_at-set slots at n node steps ∙ kept_slot slots at n (slot_for slots node steps) empty some

-- a name that is written to the empty slot where the search for it ended
module _ (slots : List ℕ) (nodes : List Node) (at n : ℕ) (ends : EndsAt slots nodes (node_of nodes n) at) (within : at < length slots) (empty : get_or slots at 0 ≡ 0) (some : n ≢ 0) where
  new_is_named : IsNamed (set slots at n) nodes n
  new_is_named = record {
    steps = ends.steps;
    within = subst (λ size. ends.steps ≤ size) (sym (length-set slots at n)) ends.within;
    named = named_at-set slots at n (node_of nodes n) ends.steps ∙ (ap (λ k. get_or (set slots at n) k 0) (sym ends.place) ∙ get_or-set_same slots at n 0 within);
    passed = λ d less e. (ends.passed d less).0 (sym (kept_name slots at n (node_of nodes n) d empty (ends.passed d less).0) ∙ e);
  }

  old_is_named : (k : ℕ) → k ≢ 0 → IsNamed slots nodes k → IsNamed (set slots at n) nodes k
  old_is_named k other is_named = record {
    steps = is_named.steps;
    within = subst (λ size. is_named.steps ≤ size) (sym (length-set slots at n)) is_named.within;
    named = kept_name slots at n (node_of nodes k) is_named.steps empty (λ e. other (sym is_named.named ∙ e)) ∙ is_named.named;
    passed = λ d less e. is_named.passed d less (sym (kept_name slots at n (node_of nodes k) d empty (is_named.passed d less)) ∙ e);
  }

  pub index_more : (listed listed' : ℕ → Type 0) → IsIndex slots nodes listed → ((k : ℕ) → listed k → k ≢ 0) → ((k : ℕ) → listed k → listed' k) → listed' n → ((k : ℕ) → listed' k → listed k ⊎ (k ≡ n)) →
      IsIndex (set slots at n) nodes listed'
  index_more listed listed' index nonzero more new only = record {
    named = λ k in_new. elim (only k in_new) [ inl old ↦ old_is_named k (nonzero k old) (index.named k old) | inr e ↦ subst (IsNamed (set slots at n) nodes) (sym e) new_is_named ];
    lists = λ k filled. elim (cases_eq k at) [
      | inl e ↦ let here : get_or (set slots at n) k 0 ≡ n = ap (λ i. get_or (set slots at n) i 0) e ∙ get_or-set_same slots at n 0 within in subst listed' (sym here) new
      | inr ne ↦ let same : get_or (set slots at n) k 0 ≡ get_or slots k 0 = get_or-set_other slots at k n 0 ne in
          subst listed' (sym same) (more (get_or slots k 0) (index.lists k (λ e. filled (same ∙ e))))
    ];
  }

  pub used-set : used (set slots at n) ≡ used slots + 1
  used-set =
      let counts : used (set slots at n) + weight (not (get_or slots at 0 == 0)) ≡ used slots + weight (not (n == 0)) = sum_by-set (λ m. weight (not (m == 0))) slots at n 0 within in
      let before : weight (not (get_or slots at 0 == 0)) ≡ 0 = ap (λ b. weight (not b)) (eq-eqb (get_or slots at 0) 0 empty) in
      let after : weight (not (n == 0)) ≡ 1 = ap (λ b. weight (not b)) (ne_eqb n 0 some) in
      omega (arith, counts, before, after)

-- ---- other columns, and other words for the same numbers

pub index_over : (slots : List ℕ) (nodes nodes' : List Node) (listed : ℕ → Type 0) → IsIndex slots nodes listed → ((n : ℕ) → listed n → node_of nodes' n ≡ node_of nodes n) → IsIndex slots nodes' listed
index_over slots nodes nodes' listed index same = record {
  named = λ n is_listed. let was = index.named n is_listed in let e = sym (same n is_listed) in record {
    steps = was.steps;
    within = was.within;
    named = subst (λ x. named_at slots x was.steps ≡ n) e was.named;
    passed = subst (λ x. (d : ℕ) → d < was.steps → named_at slots x d ≢ 0) e was.passed;
  };
  lists = index.lists;
}

pub index_of : (slots : List ℕ) (nodes : List Node) (listed listed' : ℕ → Type 0) → IsIndex slots nodes listed → ((n : ℕ) → listed n → listed' n) → ((n : ℕ) → listed' n → listed n) → IsIndex slots nodes listed'
index_of slots nodes listed listed' index there back = record { named = λ n h. index.named n (back n h); lists = λ k some. there _ (index.lists k some) }

-- empty slots name nothing
pub index_empty : (slots : List ℕ) (nodes : List Node) (listed : ℕ → Type 0) → ((k : ℕ) → get_or slots k 0 ≡ 0) → ((n : ℕ) → listed n → ⊥) → IsIndex slots nodes listed
index_empty slots nodes listed empty none = record { named = λ n h. absurd (none n h); lists = λ k some. absurd (some (empty k)) }

-- each slot is 0 or names a live node
pub names_below : (slots : List ℕ) (nodes : List Node) (live : List Bool) (end : ℕ) → IsIndex slots nodes (LiveBelow live end) → end ≤ length nodes → 0 < length nodes → (k : ℕ) → get_or slots k 0 < length nodes
names_below slots nodes live end index le some k =
    elim (cases_eq (get_or slots k 0) 0) [
      | inl e ↦ omega (arith, e)
      | inr ne ↦ omega (arith, (index.lists k ne).1)
    ]

-- ---- counts of flags

-- a part of a list has no more
pub count_by-take : {X : Type 0} (p : X → Bool) (n : ℕ) (xs : List X) → count_by p (take n xs) ≤ count_by p xs
count_by-take p n xs = sum_by-take-le (λ y. weight (p y)) xs n

-- the constants are two
pub constants_counted : (nodes : List Node) (live : List Bool) → IsFlagged nodes live → count_by (λ b. b) (take 2 live) ≡ 2
constants_counted nodes live flagged =
    let first : count_by (λ b. b) (take 1 live) ≡ count_by (λ b. b) (take 0 live) + 1 = count_by_more_yes (λ b. b) live 0 false (omega (arith, flagged.same_length, flagged.constants)) flagged.false_live in
    let second : count_by (λ b. b) (take 2 live) ≡ count_by (λ b. b) (take 1 live) + 1 = count_by_more_yes (λ b. b) live 1 false (omega (arith, flagged.same_length, flagged.constants)) flagged.true_live in
    let none : count_by (λ b. b) (take 0 live) ≡ 0 = refl in
    omega (arith, first, second, none)

-- ---- one more live node is named

module _ (slots : List ℕ) (nodes : List Node) (live : List Bool) (n at : ℕ) (apart : IsApart nodes live) (index : IsIndex slots nodes (LiveBelow live n))
    (inner : 2 ≤ n) (is_live : get_or live n false ≡ true) (ends : EndsAt slots nodes (node_of nodes n) at) (within : at < length slots) where
  -- no node below it is alike, so its search ends at an empty slot
  ends_empty : get_or slots at 0 ≡ 0
  ends_empty = elim ends.ends [
    | inl empty ↦ empty
    | inr other ↦ let listed = index.lists at other.0 in
        absurd (let same : get_or slots at 0 ≡ n = apart (get_or slots at 0) n listed.0 inner listed.2 is_live other.1 in omega (arith, same, listed.1))
  ]

  pub names_more : IsIndex (set slots at n) nodes (LiveBelow live (n + 1))
  names_more =
      index_more slots nodes at n ends within ends_empty (omega arith) (LiveBelow live n) (LiveBelow live (n + 1)) index
      (λ k listed. omega (arith, listed.0)) (λ k listed. (listed.0, omega (arith, listed.1), listed.2)) (inner, omega arith, is_live)
      (λ k listed. elim (cases_lt k n) [ inl less ↦ inl (listed.0, less, listed.2) | inr more ↦ inr (omega (arith, listed.1)) ])

  pub used_more : used (set slots at n) ≡ used slots + 1
  used_more = used-set slots nodes at n ends within ends_empty (omega arith)

-- a node that isn't live changes nothing
pub names_same : (slots : List ℕ) (nodes : List Node) (live : List Bool) (n : ℕ) → get_or live n false ≡ false → IsIndex slots nodes (LiveBelow live n) → IsIndex slots nodes (LiveBelow live (n + 1))
names_same slots nodes live n dead index =
    index_of slots nodes (LiveBelow live n) (LiveBelow live (n + 1)) index (λ k listed. (listed.0, omega (arith, listed.1), listed.2))
    (λ k listed. elim (cases_lt k n) [
      | inl less ↦ (listed.0, less, listed.2)
      | inr more ↦ let e : k ≡ n = omega (arith, listed.1) in absurd (false≢true (sym dead ∙ (ap (λ i. get_or live i false) (sym e) ∙ listed.2)))
    ])
