-- Calls with a list of levels, said of the list itself.
use Rattle.std.proofs.Common.{◌≡◌, ℕ, sym, subst, refl, List, Bool, true, false, Result}
use Rattle.spec_model.specs.Diagrams.{Function, value, exists_over, and_exists_over, shifted}
use Rattle.spec_model.specs.DiagramReads.{forall_over}
use Rattle.node_table.specs.Table.{Table, diagram_at}
use Rattle.bdd_store.specs.declared.fault.StoreFault.{StoreFault}
use Rattle.bdd_store.specs.State.{diagram_of}
use Rattle.bdd_ops.specs.Functions.{joined, joined_over, join_of}
use Rattle.bdd_ops.specs.Contents.{Contents, function_at, list_at}
use Rattle.bdd_ops.specs.Steps.{IsUnfinished, IsQuantifiedPart, IsRelatedPart, IsShiftedPart}
use Rattle.bdd_ops.specs.Calls.{GivesRoot, RisesOver}
use Rattle.bdd_ops.proofs.CallLemmas.{same_start}
use Rattle.bdd_ops.proofs.FunctionLemmas.{exists_over-joined, forall_over-joined}

over_start : (all : Bool) (old mid new : Contents) (result : Result ℕ StoreFault) (list a : ℕ) (levels : List ℕ) → mid.state.table ≡ old.state.table → mid.state.kept ≡ old.state.kept → list_at mid list ≡ levels →
    GivesRoot mid new result (joined_over (join_of all) (list_at mid list) (function_at mid a)) (IsUnfinished (join_of all) (IsQuantifiedPart (join_of all) (list_at mid list) (diagram_of mid.state a))) →
    GivesRoot old new result (joined_over (join_of all) levels (function_at old a)) (IsUnfinished (join_of all) (IsQuantifiedPart (join_of all) levels (diagram_of old.state a)))
over_start all old mid new result list a levels table kept is_list gives =
    let of_list : GivesRoot mid new result (joined_over (join_of all) levels (function_at mid a)) (IsUnfinished (join_of all) (IsQuantifiedPart (join_of all) levels (diagram_of mid.state a))) =
    subst (λ (l : List ℕ). GivesRoot mid new result (joined_over (join_of all) l (function_at mid a)) (IsUnfinished (join_of all) (IsQuantifiedPart (join_of all) l (diagram_of mid.state a)))) is_list gives in
    let of_table : GivesRoot mid new result (joined_over (join_of all) levels (function_at old a)) (IsUnfinished (join_of all) (IsQuantifiedPart (join_of all) levels (diagram_of old.state a))) =
    subst (λ (t : Table). GivesRoot mid new result (joined_over (join_of all) levels (value (diagram_at t a))) (IsUnfinished (join_of all) (IsQuantifiedPart (join_of all) levels (diagram_at t a)))) table of_list in
    same_start old mid new result _ _ _ _ table kept refl (λ d made. made) of_table

pub exists_start : (old mid new : Contents) (result : Result ℕ StoreFault) (list a : ℕ) (levels : List ℕ) → mid.state.table ≡ old.state.table → mid.state.kept ≡ old.state.kept → list_at mid list ≡ levels →
    GivesRoot mid new result (joined_over (join_of false) (list_at mid list) (function_at mid a)) (IsUnfinished (join_of false) (IsQuantifiedPart (join_of false) (list_at mid list) (diagram_of mid.state a))) →
    GivesRoot old new result (exists_over levels (function_at old a)) (IsUnfinished (join_of false) (IsQuantifiedPart (join_of false) levels (diagram_of old.state a)))
exists_start old mid new result list a levels table kept is_list gives =
    subst (λ (f : Function). GivesRoot old new result f (IsUnfinished (join_of false) (IsQuantifiedPart (join_of false) levels (diagram_of old.state a)))) (sym (exists_over-joined levels (function_at old a)))
    (over_start false old mid new result list a levels table kept is_list gives)

pub forall_start : (old mid new : Contents) (result : Result ℕ StoreFault) (list a : ℕ) (levels : List ℕ) → mid.state.table ≡ old.state.table → mid.state.kept ≡ old.state.kept → list_at mid list ≡ levels →
    GivesRoot mid new result (joined_over (join_of true) (list_at mid list) (function_at mid a)) (IsUnfinished (join_of true) (IsQuantifiedPart (join_of true) (list_at mid list) (diagram_of mid.state a))) →
    GivesRoot old new result (forall_over levels (function_at old a)) (IsUnfinished (join_of true) (IsQuantifiedPart (join_of true) levels (diagram_of old.state a)))
forall_start old mid new result list a levels table kept is_list gives =
    subst (λ (f : Function). GivesRoot old new result f (IsUnfinished (join_of true) (IsQuantifiedPart (join_of true) levels (diagram_of old.state a)))) (sym (forall_over-joined levels (function_at old a)))
    (over_start true old mid new result list a levels table kept is_list gives)

pub and_exists_start : (old mid new : Contents) (result : Result ℕ StoreFault) (list a b : ℕ) (levels : List ℕ) → mid.state.table ≡ old.state.table → mid.state.kept ≡ old.state.kept → list_at mid list ≡ levels →
    GivesRoot mid new result (joined_over (join_of false) (list_at mid list) (joined (join_of true) (function_at mid a) (function_at mid b))) (IsUnfinished (join_of false) (IsRelatedPart (list_at mid list) (diagram_of mid.state a) (diagram_of mid.state b))) →
    GivesRoot old new result (and_exists_over levels (function_at old a) (function_at old b)) (IsUnfinished (join_of false) (IsRelatedPart levels (diagram_of old.state a) (diagram_of old.state b)))
and_exists_start old mid new result list a b levels table kept is_list gives =
    let of_list : GivesRoot mid new result (joined_over (join_of false) levels (joined (join_of true) (function_at mid a) (function_at mid b))) (IsUnfinished (join_of false) (IsRelatedPart levels (diagram_of mid.state a) (diagram_of mid.state b))) =
    subst (λ (l : List ℕ). GivesRoot mid new result (joined_over (join_of false) l (joined (join_of true) (function_at mid a) (function_at mid b))) (IsUnfinished (join_of false) (IsRelatedPart l (diagram_of mid.state a) (diagram_of mid.state b)))) is_list gives in
    let of_table : GivesRoot mid new result (joined_over (join_of false) levels (joined (join_of true) (function_at old a) (function_at old b))) (IsUnfinished (join_of false) (IsRelatedPart levels (diagram_of old.state a) (diagram_of old.state b))) =
    subst (λ (t : Table). GivesRoot mid new result (joined_over (join_of false) levels (joined (join_of true) (value (diagram_at t a)) (value (diagram_at t b)))) (IsUnfinished (join_of false) (IsRelatedPart levels (diagram_at t a) (diagram_at t b)))) table of_list in
    let joined_is : GivesRoot old new result (joined_over (join_of false) levels (joined (join_of true) (function_at old a) (function_at old b))) (IsUnfinished (join_of false) (IsRelatedPart levels (diagram_of old.state a) (diagram_of old.state b))) =
    same_start old mid new result _ _ _ _ table kept refl (λ d made. made) of_table in
    subst (λ (f : Function). GivesRoot old new result f (IsUnfinished (join_of false) (IsRelatedPart levels (diagram_of old.state a) (diagram_of old.state b)))) (sym (exists_over-joined levels (joined (join_of true) (function_at old a) (function_at old b)))) joined_is

-- a list that rises over what a root reads still does when it is looked up
pub rising_listed : (old mid : Contents) (list a : ℕ) (to : List ℕ) → mid.state.table ≡ old.state.table → list_at mid list ≡ to → RisesOver old.state.table.levels to (function_at old a) → RisesOver mid.state.table.levels (list_at mid list) (function_at mid a)
rising_listed old mid list a to table is_list rises =
    let of_table : RisesOver mid.state.table.levels to (function_at mid a) = subst (λ (t : Table). RisesOver t.levels to (value (diagram_at t a))) (sym table) rises in
    subst (λ (l : List ℕ). RisesOver mid.state.table.levels l (function_at mid a)) (sym is_list) of_table

pub shift_start : (old mid new : Contents) (result : Result ℕ StoreFault) (list a : ℕ) (to : List ℕ) → mid.state.table ≡ old.state.table → mid.state.kept ≡ old.state.kept → list_at mid list ≡ to →
    GivesRoot mid new result (shifted (list_at mid list) (function_at mid a)) (IsShiftedPart (list_at mid list) (diagram_of mid.state a)) → GivesRoot old new result (shifted to (function_at old a)) (IsShiftedPart to (diagram_of old.state a))
shift_start old mid new result list a to table kept is_list gives =
    let of_list : GivesRoot mid new result (shifted to (function_at mid a)) (IsShiftedPart to (diagram_of mid.state a)) =
    subst (λ (l : List ℕ). GivesRoot mid new result (shifted l (function_at mid a)) (IsShiftedPart l (diagram_of mid.state a))) is_list gives in
    let of_table : GivesRoot mid new result (shifted to (function_at old a)) (IsShiftedPart to (diagram_of old.state a)) =
    subst (λ (t : Table). GivesRoot mid new result (shifted to (value (diagram_at t a))) (IsShiftedPart to (diagram_at t a))) table of_list in
    same_start old mid new result _ _ _ _ table kept refl (λ d made. made) of_table
