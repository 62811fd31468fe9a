-- Moves of one slot.
use Rattle.std.proofs.Common.{◌≡◌, ◌⊎◌, inl, inr, ℕ, ◌+◌, ◌<◌, ◌≤◌, Option, Some, None, Result, Ok, Err, IsErrAnd, List, map, ◌∷◌, length, get_or, sym, ◌∙◌, ap, subst, refl, arith}
use Rattle.std.specs.List.{remove}
use Rattle.std.proofs.lemmas.Bool.{cases_lt}
use Rattle.std.proofs.lemmas.List.Sorted.{IsPermutation-trans, IsPermutation-insert, IsPermutation-remove}
use Rattle.spec_model.specs.Diagrams.{Diagram, Function, value}
use Rattle.node_table.specs.Table.{Table}
use Rattle.bdd_store.specs.declared.fault.StoreFault.{StoreFault}
use Rattle.bdd_store.specs.declared.fault.StoreFault.TheVariants as fault
use Rattle.bdd_store.specs.State.{IsRoot}
use Rattle.bdd_ops.specs.Contents.{Contents}
use Rattle.bdd_reorder.specs.Keeping.{KeepsBesides, AreRoots}
use Rattle.bdd_reorder.specs.Crowding.{IsCrowdedByCopy}
use Rattle.bdd_reorder.specs.Rearranged.{IsOfCopy}
use Rattle.bdd_reorder.specs.Making.{functions_at, diagrams_at}
use Rattle.bdd_reorder.proofs.CrowdingLemmas.{all_wider, crowded_back}
use Rattle.bdd_reorder.proofs.ListCopyLemmas.{diagrams_stay}
use Rattle.bdd_reorder.proofs.ElementLemmas.{got}
use Rattle.variable_order.specs.Levels.{slots_of, levels_under, IsOrder}
use Rattle.variable_order.specs.Sizes.{HasNodes}
use Rattle.variable_order.specs.Stores.{FitsSlots, Stays}
use Rattle.variable_order.specs.Climbing.{moved, IsMove, IsBefore, HasAtLeast, IsBest, IsFirstWith, IsKnown, KnowsBest}
use Rattle.variable_order.specs.CrowdedClimbs.{IsCrowdedByMove}
use Rattle.variable_order.proofs.SizeLemmas.{values_at}

-- a moved slot is still in the order, once
pub moved_order : (widths order : List ℕ) (i j : ℕ) → i < length order → IsOrder widths order → IsOrder widths (moved order i j)
moved_order widths order i j below is =
    let slot = get_or order i 0 in
    IsPermutation-trans (slots_of widths) order (moved order i j) is
    (IsPermutation-trans order (slot ∷ remove order i) (moved order i j) (IsPermutation-remove order i slot below (got order i 0 slot below)) (IsPermutation-insert (remove order i) j slot))

-- what fills a budget while the roots at first stay fills it from the start
pub crowded_stays : (old mid : Contents) (t : Table) (levels : List ℕ) (ds : List Diagram) → Stays old mid → IsCrowdedByCopy mid.state t levels ds → IsCrowdedByCopy old.state t levels ds
crowded_stays old mid t levels ds stays c =
    let N = IsOfCopy levels ds c.whole c.level in
    let besides : KeepsBesides old mid N (λ n. 0) = record { keeps = stays.keeps; added = λ n. (let same = stays.roots n in omega (arith, same)); named = λ n some. absurd (omega (arith, some)) } in
    record { whole = c.whole; is_one = c.is_one; reduced = c.reduced; level = c.level; crowded = crowded_back old mid N N (λ n. 0) (λ f is. is) besides t c.crowded }

module _ (fixed : ℕ) (widths : List ℕ) (fs : List Function) (order : List ℕ) (n i j : ℕ) where
  -- what comes before the next move is before this one, or is this one
  before_next : (k l : ℕ) → IsBefore k l i (j + 1) → IsBefore k l i j ⊎ ((k ≡ i) × (l ≡ j))
  before_next k l (inl less) = inl (inl less)
  before_next k l (inr same) = elim (cases_lt l j) [ inl less ↦ inl (inr (same.0, less)) | inr more ↦ inr (same.0, (let below = same.1 in omega (arith, below, more))) ]

  known_most : (m : ℕ) (move : Option (ℕ × ℕ)) → IsKnown fixed widths fs order n m move → m ≤ n
  known_most m None is = omega (arith, is)
  known_most m (Some move) is = let less = is.fewer in omega (arith, less)

  module _ (m : ℕ) (move : Option (ℕ × ℕ)) (knows : KnowsBest fixed widths fs order n i j m move) where
    -- a slot isn't moved to where it is
    pub passed_over : i ≡ j → KnowsBest fixed widths fs order n i (j + 1) m move
    passed_over same = record {
      least = λ k l is before. elim (before_next k l before) [
        | inl earlier ↦ knows.least k l is earlier
        | inr here ↦ absurd (is.apart (here.0 ∙ (same ∙ sym here.1)))
      ];
      known = knows.known;
    }

    module _ (parts : ℕ) (size : HasNodes widths fs (moved order i j) parts) where
      at_here : (least k l : ℕ) → least ≤ parts → (k ≡ i) × (l ≡ j) → HasAtLeast fixed widths fs order least k l
      at_here least k l within here = (parts, subst (λ (x : ℕ). HasNodes widths fs (moved order x l) parts) (sym here.0) (subst (λ (x : ℕ). HasNodes widths fs (moved order i x) parts) (sym here.1) size), within)

      -- the move makes fewer parts
      pub improved : IsMove fixed order i j → parts < m → KnowsBest fixed widths fs order n i (j + 1) parts (Some (i, j))
      improved is less =
          let most = known_most m move knows.known in
          record {
            least = λ k l is_move before. elim (before_next k l before) [
              | inl earlier ↦ (let had = knows.least k l is_move earlier in (had.0, had.1, (let most_of = had.2 in omega (arith, less, most_of))))
              | inr here ↦ at_here parts k l (omega arith) here
            ];
            known = record {
              move = is;
              size = size;
              fewer = omega (arith, less, most);
              first = λ k l is_move earlier. (let had = knows.least k l is_move earlier in (had.0, had.1, (let most_of = had.2 in omega (arith, less, most_of))));
            };
          }

      -- it doesn't
      pub not_improved : m ≤ parts → KnowsBest fixed widths fs order n i (j + 1) m move
      not_improved within = record {
        least = λ k l is_move before. elim (before_next k l before) [
          | inl earlier ↦ knows.least k l is_move earlier
          | inr here ↦ at_here m k l within here
        ];
        known = knows.known;
      }

-- ---- what stays

pub stays_none : (c : Contents) → Stays c c
stays_none c = record { keeps = record { levels = refl; budget = refl; meaning = λ n root. refl }; roots = λ n. refl }

stay_root : (old mid : Contents) → Stays old mid → (n : ℕ) → IsRoot old.state n → IsRoot mid.state n
stay_root old mid stays n root = subst (λ (k : ℕ). 0 < k) (sym (stays.roots n)) root

pub stays_then : (old mid new : Contents) → Stays old mid → Stays mid new → Stays old new
stays_then old mid new first second = record {
  keeps = record {
    levels = second.keeps.levels ∙ first.keeps.levels;
    budget = second.keeps.budget ∙ first.keeps.budget;
    meaning = λ n root. second.keeps.meaning n (stay_root old mid first n root) ∙ first.keeps.meaning n root;
  };
  roots = λ n. second.roots n ∙ first.roots n;
}

pub stay_roots : (old mid : Contents) (roots : List ℕ) → Stays old mid → AreRoots old.state roots → AreRoots mid.state roots
stay_roots old mid roots stays kept = all_wider (IsRoot old.state) (IsRoot mid.state) (stay_root old mid stays) roots kept

pub stay_diagrams : (old mid : Contents) (roots : List ℕ) → Stays old mid → AreRoots old.state roots → diagrams_at mid roots ≡ diagrams_at old roots
stay_diagrams old mid roots stays kept = diagrams_stay old mid roots kept stays.keeps

pub stay_functions : (old mid : Contents) (roots : List ℕ) → Stays old mid → AreRoots old.state roots → functions_at mid roots ≡ functions_at old roots
stay_functions old mid roots stays kept = sym (values_at mid roots) ∙ (ap (map value) (stay_diagrams old mid roots stays kept) ∙ values_at old roots)

pub stay_fits : (from mid to new : Contents) (widths : List ℕ) → Stays from mid → Stays to new → FitsSlots from to widths → FitsSlots mid new widths
stay_fits from mid to new widths first second fits = record { from_levels = first.keeps.levels ∙ fits.from_levels; to_levels = second.keeps.levels ∙ fits.to_levels; few = fits.few }

-- ---- refusals that are handed on

abbrev fault_in : {V : Type 0} → StoreFault → Result V StoreFault → StoreFault
fault_in h (Ok v) = h
fault_in h (Err k) = k

pub handed_full : {V : Type 0} (r : Result V StoreFault) (h : StoreFault) → IsErrAnd r (λ y. y ≡ h) → r ≡ Err fault.Full → h ≡ fault.Full
handed_full (Ok v) h is e = absurd is
handed_full (Err y) h is e = sym is ∙ ap (fault_in y) e

pub crowded_move_stays : (old mid : Contents) (t : Table) (fixed : ℕ) (widths : List ℕ) (ds : List Diagram) (order : List ℕ) → Stays old mid → IsCrowdedByMove mid.state t fixed widths ds order → IsCrowdedByMove old.state t fixed widths ds order
crowded_move_stays old mid t fixed widths ds order stays c = record { i = c.i; j = c.j; move = c.move; crowded = crowded_stays old mid t (levels_under widths (moved order c.i c.j)) ds stays c.crowded }

-- ---- all moves

module _ (fixed : ℕ) (widths : List ℕ) (fs : List Function) (order : List ℕ) (n : ℕ) where
  -- nothing is known at first
  pub known_none : KnowsBest fixed widths fs order n fixed fixed n None
  known_none = record {
    least = λ k l is before. elim before [
      | inl less ↦ absurd (let low = is.from_low in omega (arith, less, low))
      | inr same ↦ absurd (let low = is.to_low in let less = same.1 in omega (arith, less, low))
    ];
    known = refl;
  }

  -- all places of one slot are tried
  pub known_row : (i j m : ℕ) (move : Option (ℕ × ℕ)) → length order ≤ j → KnowsBest fixed widths fs order n i j m move → KnowsBest fixed widths fs order n (i + 1) fixed m move
  known_row i j m move past knows = record {
    least = λ k l is before. elim before [
      | inl less ↦ elim (cases_lt k i) [
        | inl earlier ↦ knows.least k l is (inl earlier)
        | inr later ↦ knows.least k l is (inr (omega (arith, less, later), (let high = is.to_high in omega (arith, high, past))))
      ]
      | inr same ↦ absurd (let low = is.to_low in let less = same.1 in omega (arith, less, low))
    ];
    known = knows.known;
  }

  -- all slots are
  pub known_all : (i j m : ℕ) (move : Option (ℕ × ℕ)) → length order ≤ i → KnowsBest fixed widths fs order n i j m move → IsBest fixed widths fs order m
  known_all i j m move past knows = λ k l is. knows.least k l is (inl (let high = is.from_high in omega (arith, high, past)))

  -- where no move makes fewer, there are as many
  pub known_same : (m : ℕ) (move : Option (ℕ × ℕ)) → move ≡ None → IsKnown fixed widths fs order n m move → m ≡ n
  known_same m move none known = subst (λ (o : Option (ℕ × ℕ)). IsKnown fixed widths fs order n m o) none known

  -- the move that is known
  pub known_first : (m : ℕ) (move : Option (ℕ × ℕ)) (i j : ℕ) → move ≡ Some (i, j) → IsKnown fixed widths fs order n m move → IsFirstWith fixed widths fs order n m i j
  known_first m move i j some known = subst (λ (o : Option (ℕ × ℕ)). IsKnown fixed widths fs order n m o) some known
