-- A position is completed: where the play is then.
use Rattle.std.proofs.Common.{◌≡◌, Bool, true, false, not, List, ◌++◌, Vec, take, drop, length, Some, None, is_some, refl, sym, ap, ◌∙◌, subst}
use Rattle.std.proofs.lemmas.Bool.{false≢true}
use Rattle.std.proofs.Math.Seq.{take-append_seam}
use Rattle.std.specs.declared.alloc.Global.{Global}
use Rattle.spec_model.specs.Values.{Assignment}
use Rattle.spec_model.specs.Games.{GameData, State}
use Rattle.spec_model.specs.Steps.{Before, reached}
use Rattle.strategy_parts.specs.declared.position.Position.{Position}
use Rattle.strategy_parts.specs.Positions.{IsAfter, IsClosedAt}

pub no_state : (b : Before) → is_some b ≡ false → b ≡ None
no_state None e = refl
no_state (Some s) e = absurd (false≢true (sym e))

-- a state is there
pub past : (b : Before) → is_some b ≡ true → (s : State) × (b ≡ Some s)
past None e = absurd (false≢true e)
past (Some s) e = (s, refl)

pub was_false : (d : Bool) → not d ≡ true → d ≡ false
was_false false e = refl
was_false true e = absurd (false≢true e)

-- as many values as there are take the place of all
pub written_over : {X : Type 0} (v : Vec X Global) (ws : List X) → length ws ≡ length v.items → take v.len (ws ++ drop (length ws) v.items) ≡ ws
written_over v ws same =
    let long : v.len ≡ length ws = v.ok.0 ∙ sym same in
    ap (λ n. take n (ws ++ drop (length ws) v.items)) long ∙ take-append_seam ws (drop (length ws) v.items)

module _ (g gd : GameData) (e : gd ≡ g) (b : Before) (x y x' : Assignment) (same : x' ≡ x) where
  pub there : (p : Position) → IsAfter g p b → IsAfter gd p b
  there p here = subst (λ (h : GameData). IsAfter h p b) (sym e) here

  pub closed_there : IsClosedAt g b x y → IsClosedAt gd b x' y
  closed_there closed = subst (λ (h : GameData). IsClosedAt h b x' y) (sym e) (subst (λ (v : Assignment). IsClosedAt g b v y) (sym same) closed)

  pub back : (p : Position) → IsAfter gd p (Some (reached gd b x' y)) → IsAfter g p (Some (reached g b x y))
  back p here = subst (λ (h : GameData). IsAfter h p (Some (reached h b x y))) e (subst (λ (v : Assignment). IsAfter gd p (Some (reached gd b v y))) same here)
