-- Operators that stand in frames, one by one, and what stands before them.
use Rattle.std.proofs.Common.{◌≡◌, ℕ, zero, suc, ◌+◌, ◌<◌, ◌≤◌, Bool, true, false, not, ◌&&◌, if◌then◌else◌, List, [], ◌∷◌, ◌++◌, length, map, drop, reverse, get_or, refl, sym, ap, subst, ◌∙◌, append_assoc, append-nil, add-one, Result, Ok, Err, MatchResult, IsErrAnd, arith}
use Rattle.std.proofs.lemmas.List.{length-append, length-drop, length-map, length-reverse, reverse-append, drop_all}
use Rattle.std.proofs.lemmas.Bool.{false≢true}
use Rattle.spectra_resolved.specs.declared.tree.Link.{Link}
use Rattle.spectra_resolved.specs.declared.spot.Spot.{Spot}
use Rattle.spectra_resolved.specs.declared.spot.Mark.{Mark}
use Rattle.spectra_resolved.specs.Resolved.{ResolvedTree, tree, Form}
use Rattle.spectra_resolved.specs.Chained.{LinkData, chained}
use Rattle.spectra_resolved.specs.Views.{resolved_data, link_data, form_data}
use Rattle.spectra_judge.proofs.Lists.{mapped_left}
use Rattle.spectra_copies.specs.Nodes.{tree_nodes, form_nodes}
use Rattle.spectra_copies.specs.Levels.{is_row_word, is_row}
use Rattle.spectra_copies.specs.Links.{placed_link, link_nodes, ends_row, ends_at, link_levels}
use Rattle.spectra_elaboration.specs.declared.frames.Frame.{Frame}
use Rattle.spectra_elaboration.specs.declared.following.Front.{Front}
use Rattle.spectra_elaboration.specs.declared.following.Front.TheVariants as fronts
use Rattle.spectra_copies.specs.declared.refusal.Refusal.{Refusal}
use Rattle.spectra_copies.specs.declared.refusal.Refusal.TheVariants.{Large}
use Rattle.spectra_elaboration.specs.declared.rows.Piece.{Piece}
use Rattle.spectra_elaboration.specs.declared.rows.Rows.{Rows}
use Rattle.spectra_elaboration.specs.Putting.{Bodies}
use Rattle.spectra_elaboration.specs.Frames.{Around, filled_in, around_at, put_around, filled_at, form_at, link_at, AreFrames, Grows}
use Rattle.spectra_elaboration.specs.Following.{is_operator, front_data, IsFront, Goes}
use Rattle.spectra_elaboration.specs.Rows.{piece_link, piece_at, pieces_at, AreWithin, behind, Gathers, Ends}
use Rattle.spectra_copies.proofs.Chained.{tree_nodes-chained}
use Rattle.spectra_elaboration.proofs.Chained.{chained-append, chained_filled}
use Rattle.spectra_elaboration.proofs.Framed.{kept, grows_not, grows_on, grown_count}

map-append : {X Y : Type 0} (f : X → Y) (xs ys : List X) → map f (xs ++ ys) ≡ map f xs ++ map f ys
map-append f [] ys = refl
map-append f (x ∷ xs) ys = ap (λ zs. f x ∷ zs) (map-append f xs ys)

map-reverse : {X Y : Type 0} (f : X → Y) (xs : List X) → map f (reverse xs) ≡ reverse (map f xs)
map-reverse f [] = refl
map-reverse f (x ∷ xs) = ap (map f) (reverse-append (x ∷ []) xs) ∙ map-append f (reverse xs) (x ∷ []) ∙ ap (λ ys. ys ++ f x ∷ []) (map-reverse f xs) ∙ sym (reverse-append (f x ∷ []) (map f xs))

-- ---- the frames of operators

pub within_more : (count more : ℕ) (ps : List Piece) → count ≤ more → AreWithin count ps → AreWithin more ps
within_more count more [] le all = tt
within_more count more (p ∷ ps) le all = ((let here = all.0 in omega (arith, here, le)), within_more count more ps le all.1)

pub within_append : (count : ℕ) (ps qs : List Piece) → AreWithin count ps → AreWithin count qs → AreWithin count (ps ++ qs)
within_append count [] qs all rest = rest
within_append count (p ∷ ps) qs all rest = (all.0, within_append count ps qs all.1 rest)

pub within_pushed : (count : ℕ) (ps qs : List Piece) (p : Piece) → qs ≡ ps ++ p ∷ [] → p.frame < count → AreWithin count ps → AreWithin count qs
within_pushed count ps qs p is here all = subst (AreWithin count) (sym is) (within_append count ps (p ∷ []) all (here, tt))

pub within_reversed : (count : ℕ) (ps : List Piece) → AreWithin count ps → AreWithin count (reverse ps)
within_reversed count [] all = tt
within_reversed count (p ∷ ps) all = subst (AreWithin count) (sym (reverse-append (p ∷ []) ps)) (within_append count (reverse ps) (p ∷ []) (within_reversed count ps all.1) (all.0, tt))

pub within_at : (count : ℕ) (ps : List Piece) (k : ℕ) (p : Piece) → k < length ps → p ≡ get_or ps k p → AreWithin count ps → p.frame < count
within_at count [] k p below is all = absurd (omega arith)
within_at count (q ∷ ps) zero p below is all = subst (λ (x : Piece). x.frame < count) (sym is) all.0
within_at count (q ∷ ps) (suc k) p below is all = within_at count ps k p (omega (arith, below)) is all.1

-- ---- what operators stand for

-- with more frames they stand for the same
pub pieces_kept : (b : Bodies) (fs gs : List Frame) (ps : List Piece) → Grows fs gs → AreWithin (length fs) ps → pieces_at b gs ps ≡ pieces_at b fs ps
pieces_kept b fs gs [] grows all = refl
pieces_kept b fs gs (p ∷ ps) grows all =
    let one : around_at b gs p.frame ≡ around_at b fs p.frame = ap (λ xs. around_at b xs p.frame) grows.1 ∙ kept b fs grows.0 p.frame all.0 in
    λ i. at (one i) ∷ pieces_kept b fs gs ps grows all.1 i
  where
    at : Around → LinkData
    at w = placed_link w.brought (link_data p.link.now) (filled_in b w (link_data p.link.now).second)

pub pushed_some : (ps qs : List Piece) (p : Piece) → qs ≡ ps ++ p ∷ [] → 0 < length qs
pushed_some ps qs p is = let size = ap length is ∙ length-append ps (p ∷ []) in omega (arith, size)

-- one more is the first one when they are turned round
pub piece_pushed : (b : Bodies) (fs : List Frame) (ps qs : List Piece) (p : Piece) → qs ≡ ps ++ p ∷ [] → reverse (pieces_at b fs qs) ≡ piece_at b fs p ∷ reverse (pieces_at b fs ps)
piece_pushed b fs ps qs p is = ap (λ xs. reverse (pieces_at b fs xs)) is ∙ ap reverse (map-append (piece_at b fs) ps (p ∷ [])) ∙ reverse-append (pieces_at b fs ps) (piece_at b fs p ∷ [])

-- one more of those of a frame
pub links_pushed : (b : Bodies) (fs : List Frame) (frame : ℕ) (links : List Link) (k n : ℕ) (l : Link) → k < length links → l ≡ get_or links k l → n ≡ k + 1 → (ps qs : List Piece) (p : Piece)
    → qs ≡ ps ++ p ∷ [] → p.frame ≡ frame → p.link.now ≡ l → (rest : List LinkData)
    → reverse (pieces_at b fs ps) ≡ map (link_at b fs frame) (map link_data (drop n links)) ++ rest
    → reverse (pieces_at b fs qs) ≡ map (link_at b fs frame) (map link_data (drop k links)) ++ rest
links_pushed b fs frame links k n l below is next ps qs p more stands link rest so_far =
    piece_pushed b fs ps qs p more
    ∙ (λ i. link_at b fs (stands i) (link_data (link i)) ∷ so_far i)
    ∙ ap (λ m. link_at b fs frame (link_data l) ∷ (map (link_at b fs frame) (map link_data (drop m links)) ++ rest)) next
    ∙ ap (λ xs. map (link_at b fs frame) xs ++ rest) (sym (mapped_left link_data links k l below is))

pub none_pushed : (b : Bodies) (fs : List Frame) (frame : ℕ) (links : List Link) (n : ℕ) (ps : List Piece) → length links ≤ n
    → reverse (pieces_at b fs ps) ≡ map (link_at b fs frame) (map link_data (drop n links)) ++ reverse (pieces_at b fs ps)
none_pushed b fs frame links n ps end = ap (λ xs. map (link_at b fs frame) (map link_data xs) ++ reverse (pieces_at b fs ps)) (sym (drop_all n links end))

-- ---- steps

pub gathers_not : (b : Bodies) (fs : List Frame) (ps : List Piece) (t : ResolvedTree) → AreFrames fs → AreWithin (length fs) ps → Gathers b fs fs ps ps t t
gathers_not b fs ps t framed within = record { grows = grows_not fs; framed = framed; same = refl; within = within; some = λ some. some }

pub gathers_on : (b : Bodies) (fs gs hs : List Frame) (ps qs rs : List Piece) (x y z : ResolvedTree) → Gathers b fs gs ps qs x y → Gathers b gs hs qs rs y z → Gathers b fs hs ps rs x z
gathers_on b fs gs hs ps qs rs x y z first next =
    record { grows = grows_on fs gs hs first.grows next.grows; framed = next.framed; same = first.same ∙ next.same; within = next.within; some = λ some. next.some (first.some some) }

module _ (b : Bodies) (fs gs : List Frame) (ps : List Piece) (within : AreWithin (length fs) ps) where
  -- an expression comes to what has no operators
  pub gathers_none : (x y : ResolvedTree) → Goes fs gs x y → Gathers b fs gs ps ps x y
  gathers_none x y goes =
      record {
        grows = goes.grows;
        framed = goes.framed;
        same = (λ i. chained (goes.same i) (reverse (sym (pieces_kept b fs gs ps goes.grows within) i)));
        within = within_more (length fs) (length gs) ps (grown_count fs gs goes.grows) within;
        some = λ some. some;
      }

  module _ (x head : ResolvedTree) (links : List LinkData) (next : ℕ) (goes : Goes fs gs x (filled_at b gs next (chained head links))) (qs : List Piece)
      (added : reverse (pieces_at b gs qs) ≡ map (link_at b gs next) links ++ reverse (pieces_at b gs ps)) where
    all_behind : behind b fs ps x ≡ behind b gs qs (filled_at b gs next head)
    all_behind =
        let w = around_at b gs next in
        (λ i. chained (goes.same i) (reverse (sym (pieces_kept b fs gs ps goes.grows within) i)))
        ∙ ap (λ t. chained t (reverse (pieces_at b gs ps))) (chained_filled (put_around b w) w.brought w.arguments head links)
        ∙ sym (chained-append (filled_at b gs next head) (map (link_at b gs next) links) (reverse (pieces_at b gs ps)))
        ∙ ap (chained (filled_at b gs next head)) (sym added)

    -- an expression comes to what has operators, which are added
    pub gathers_more : AreWithin (length gs) qs → (0 < length qs) → Gathers b fs gs ps qs x (filled_at b gs next head)
    gathers_more inside some = record { grows = goes.grows; framed = goes.framed; same = all_behind; within = inside; some = λ _. some }

    -- where there are so many, there are more nodes
    pub gathers_large : (room : ℕ) → room ≤ length qs → room < tree_nodes (behind b fs ps x)
    gathers_large room many =
        let all = ap tree_nodes all_behind ∙ tree_nodes-chained (filled_at b gs next head) (reverse (pieces_at b gs qs)) in
        let size = length-reverse (pieces_at b gs qs) ∙ length-map qs (piece_at b gs) in
        let low = count_nodes (reverse (pieces_at b gs qs)) in
        let one = some_nodes (filled_at b gs next head) in
        omega (arith, many, all, size, low, one)
      where
        count_nodes : (ls : List LinkData) → length ls ≤ link_nodes ls
        count_nodes [] = omega arith
        count_nodes (l ∷ ls) = let rest = count_nodes ls in omega (arith, rest)

        form_some : (form : Form) → 1 ≤ form_nodes form
        form_some (Form.LeafOf l) = omega arith
        form_some (Form.PredicateOf k ts) = omega arith
        form_some (Form.MisuseOf m ts) = omega arith
        form_some (Form.Next t) = omega arith
        form_some (Form.Prefix word t) = omega arith
        form_some (Form.Binary word a b) = omega arith
        form_some (Form.Mod t number_at n) = omega arith
        form_some (Form.And ts operators) = omega arith
        form_some (Form.Or ts operators) = omega arith
        form_some (Form.Index first n t) = omega arith
        form_some (Form.Quantified word variable extent low high ts) = omega arith

        some_nodes : (t : ResolvedTree) → 1 ≤ tree_nodes t
        some_nodes (tree first at form) = form_some form

-- operators that are all added are those behind the expression
pub whole_behind : (b : Bodies) (fs : List Frame) (frame : ℕ) (head : ResolvedTree) (links : List LinkData) (ps qs : List Piece) → ps ≡ []
    → reverse (pieces_at b fs qs) ≡ map (link_at b fs frame) links ++ reverse (pieces_at b fs ps) → filled_at b fs frame (chained head links) ≡ behind b fs qs (filled_at b fs frame head)
whole_behind b fs frame head links ps qs none added =
    let w = around_at b fs frame in
    chained_filled (put_around b w) w.brought w.arguments head links
    ∙ ap (chained (filled_at b fs frame head)) (sym (added ∙ ap (λ xs. map (link_at b fs frame) links ++ reverse (pieces_at b fs xs)) none ∙ append-nil (map (link_at b fs frame) links)))

-- they are turned round
pub turned_round : (b : Bodies) (fs : List Frame) (t : ResolvedTree) (ps qs : List Piece) → qs ≡ reverse ps → behind b fs ps t ≡ chained t (pieces_at b fs qs)
turned_round b fs t ps qs is = ap (chained t) (sym (ap (pieces_at b fs) is ∙ map-reverse (piece_at b fs) ps))

pub stops : (P : Rows → Type 0) {N : Type 0} (r : Result Rows Refusal) (halt : Refusal) → IsErrAnd r (λ y. y ≡ halt) → (halt ≡ Large → N) → MatchResult r P (λ h. h ≡ Large → N)
stops P (Ok rows) halt is few = absurd is
stops P (Err h) halt is few = λ e. few (sym is ∙ e)

-- what stands before operators is no row itself
pub end_apart : (b : Bodies) (fs : List Frame) (front : Front) → Ends fs front → is_row (front_data b fs front) ≡ false
end_apart b fs (fronts.Leaf first at l) ends = refl
end_apart b fs (fronts.Row i head links) ends = absurd ends.1
end_apart b fs (fronts.Node i first at shape) ends = operator_apart (form_data shape.now) ends.0.1
  where
    operator_apart : (form : Form) → is_operator form ≡ true → is_row (form_at b fs i first at form) ≡ false
    operator_apart (Form.LeafOf l) is = absurd (false≢true is)
    operator_apart (Form.PredicateOf k ts) is = absurd (false≢true is)
    operator_apart (Form.MisuseOf m ts) is = absurd (false≢true is)
    operator_apart (Form.Next t) is = refl
    operator_apart (Form.Prefix word t) is = refl
    operator_apart (Form.Binary word x y) is = absurd (false≢true is)
    operator_apart (Form.Mod t number_at n) is = refl
    operator_apart (Form.And ts operators) is = refl
    operator_apart (Form.Or ts operators) is = refl
    operator_apart (Form.Index array n t) is = refl
    operator_apart (Form.Quantified word variable extent low high ts) is = refl

-- ---- the levels of operators are those of what stands for them

pub ends_same : (b : Bodies) (fs : List Frame) (p : Piece) (ps : List Piece) → ends_row (piece_at b fs p) (pieces_at b fs ps) ≡ ends_row (piece_link p) (map piece_link ps)
ends_same b fs p [] = refl
ends_same b fs p (q ∷ ps) = refl

pub levels_same : (b : Bodies) (fs : List Frame) (ps : List Piece) → link_levels (pieces_at b fs ps) ≡ link_levels (map piece_link ps)
levels_same b fs [] = refl
levels_same b fs (p ∷ ps) = λ i. (if ends_same b fs p ps i then 1 else 0) + levels_same b fs ps i

pub some_rows : (ls : List LinkData) → 0 < length ls → 0 < link_levels ls
some_rows [] some = absurd (omega (arith, some))
some_rows (l ∷ []) some = omega arith
some_rows (l ∷ m ∷ ls) some = let rest = some_rows (m ∷ ls) (omega arith) in omega (arith, rest)

-- ---- the levels of those that are left

pub last_row : (ps : List Piece) (k : ℕ) → k < length ps → k + 1 ≡ length ps → true ≡ ends_at (map piece_link (drop k ps))
last_row [] k below is = absurd (omega (arith, below))
last_row (p ∷ []) zero below is = refl
last_row (p ∷ q ∷ ps) zero below is = absurd (omega (arith, is))
last_row (p ∷ ps) (suc k) below is = last_row ps k (omega (arith, below)) (omega (arith, is))

pub two_rows : (ps : List Piece) (k : ℕ) (p q : Piece) → k + 1 < length ps → p ≡ get_or ps k p → q ≡ get_or ps (k + 1) q
    → not (is_row_word p.link.now.word && is_row_word q.link.now.word) ≡ ends_at (map piece_link (drop k ps))
two_rows ps k p q below first second =
    sym
    (ap ends_at
    (mapped_left piece_link ps k p (omega (arith, below)) first ∙ ap (λ ls. piece_link p ∷ ls) (mapped_left piece_link ps (k + 1) q below second)))

at_most : (b : Bool) → (if b then 1 else 0) ≤ 1
at_most true = omega arith
at_most false = omega arith

-- an operator is a level at most
pub one_at_most : (ps : List Piece) (k : ℕ) → (if ends_at (map piece_link (drop k ps)) then 1 else 0) ≤ 1
one_at_most ps k = at_most (ends_at (map piece_link (drop k ps)))

pub rows_left : (ps : List Piece) (k : ℕ) → k < length ps → link_levels (map piece_link (drop k ps)) ≡ (if ends_at (map piece_link (drop k ps)) then 1 else 0) + link_levels (map piece_link (drop (k + 1) ps))
rows_left ps k below = step ps k below ∙ ap (λ n. (if ends_at (map piece_link (drop k ps)) then 1 else 0) + link_levels (map piece_link (drop n ps))) (sym (add-one k))
  where
    step : (ps : List Piece) (k : ℕ) → k < length ps → link_levels (map piece_link (drop k ps)) ≡ (if ends_at (map piece_link (drop k ps)) then 1 else 0) + link_levels (map piece_link (drop (suc k) ps))
    step [] k below = absurd (omega (arith, below))
    step (p ∷ ps) zero below = refl
    step (p ∷ ps) (suc k) below = step ps k (omega (arith, below))

pub some_left : (ps : List Piece) (k : ℕ) → k < length ps → 0 < link_levels (map piece_link (drop k ps))
some_left ps k below = some_rows (map piece_link (drop k ps)) (let all = length-map (drop k ps) piece_link in let size = length-drop k ps in omega (arith, below, all, size))
