-- Operators that stand in frames, one by one, in a loop.
use Rattle.std.proofs.Common.{◌≡◌, ℕ, ◌+◌, ◌<◌, ◌≤◌, List, [], ◌∷◌, ◌++◌, length, drop, get_or, sym, ap, ◌∙◌, append_assoc, append-nil}
use Rattle.std.proofs.lemmas.List.{drop_all}
use Rattle.spectra_resolved.specs.Chained.{LinkData}
use Rattle.spectra_resolved.specs.Views.{resolved_data}
use Rattle.spectra_judge.proofs.Lists.{mapped_left}
use Rattle.spectra_copies.specs.Nodes.{tree_nodes}
use Rattle.spectra_copies.specs.Links.{link_nodes}
use Rattle.spectra_elaboration.specs.declared.frames.Frame.{Frame}
use Rattle.spectra_elaboration.specs.declared.rows.Piece.{Piece}
use Rattle.spectra_elaboration.specs.Putting.{Bodies}
use Rattle.spectra_elaboration.specs.Frames.{filled_at}
use Rattle.spectra_elaboration.specs.Rows.{piece_at, pieces_at}

module _ (b : Bodies) (fs : List Frame) (ps : List Piece) where
  -- those that are left
  abbrev pub PiecesFrom : ℕ → List LinkData
  PiecesFrom k = pieces_at b fs (drop k ps)

  module _ (k : ℕ) (p : Piece) (below : k < length ps) (is : p ≡ get_or ps k p) where
    pub piece_left : PiecesFrom k ≡ piece_at b fs p ∷ PiecesFrom (k + 1)
    piece_left = mapped_left (piece_at b fs) ps k p below is

    pub piece_nodes_left : link_nodes (PiecesFrom k) ≡ (1 + tree_nodes (filled_at b fs p.frame (resolved_data p.link.now.second))) + link_nodes (PiecesFrom (k + 1))
    piece_nodes_left = ap link_nodes piece_left

    -- what is made so far, with one more
    pub piece_made : (done new all : List LinkData) (y : LinkData) → y ≡ piece_at b fs p → new ≡ done ++ y ∷ [] → done ++ PiecesFrom k ≡ all → new ++ PiecesFrom (k + 1) ≡ all
    piece_made done new all y own added so_far =
        ap (λ ys. ys ++ PiecesFrom (k + 1)) added
        ∙ append_assoc done (y ∷ []) (PiecesFrom (k + 1))
        ∙ ap (λ ys. done ++ ys) (ap (λ x. x ∷ PiecesFrom (k + 1)) own ∙ sym piece_left)
        ∙ so_far

  module _ (k : ℕ) (end : length ps ≤ k) where
    pub no_pieces : PiecesFrom k ≡ []
    no_pieces = ap (pieces_at b fs) (drop_all k ps end)

    pub all_pieces : (done all : List LinkData) → done ++ PiecesFrom k ≡ all → done ≡ all
    all_pieces done all so_far = sym (append-nil done) ∙ ap (λ xs. done ++ xs) (sym no_pieces) ∙ so_far

    pub no_piece_nodes : link_nodes (PiecesFrom k) ≡ 0
    no_piece_nodes = ap link_nodes no_pieces
