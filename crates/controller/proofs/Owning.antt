-- The moves of aims, one after the other.
use Rattle.std.proofs.Common.{◌≡◌, List, [], ◌∷◌, ◌++◌, Vec, ap, sym, ◌∙◌}
use Rattle.std.proofs.lemmas.List.{append_assoc, append-nil}
use Rattle.std.specs.declared.alloc.Global.{Global}
use Rattle.controller.specs.declared.aims.Aim.{Aim}
use Rattle.controller.specs.Owned.{aim_items, aims_items, all_aims_items}

module _ {G R M : Type 0} where
  pub aims_items-push : (aims : List (Aim G R M)) (a : Aim G R M) → aims_items (aims ++ a ∷ []) ≡ aims_items aims ++ aim_items a
  aims_items-push [] a = append-nil (aim_items a)
  aims_items-push (first ∷ aims) a = ap (λ is. aim_items first ++ is) (aims_items-push aims a) ∙ sym (append_assoc (aim_items first) (aims_items aims) (aim_items a))

  pub all_aims_items-push : (vs : List (Vec (Aim G R M) Global)) (v : Vec (Aim G R M) Global) → all_aims_items (vs ++ v ∷ []) ≡ all_aims_items vs ++ aims_items v.items
  all_aims_items-push [] v = append-nil (aims_items v.items)
  all_aims_items-push (first ∷ vs) v = ap (λ is. aims_items first.items ++ is) (all_aims_items-push vs v) ∙ sym (append_assoc (aims_items first.items) (all_aims_items vs) (aims_items v.items))
