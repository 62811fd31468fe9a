-- The replies to one session's texts are one list.
use Rattle.std.proofs.Common.{◌≡◌, ◌⊎◌, inl, inr, ℕ, List, [], ◌∷◌, Option, Some, None, refl, sym, ap, subst, ◌∙◌}
use Rattle.spec_model.specs.declared.game.Label.{Label}
use Rattle.spec_model.specs.Values.{Assignment}
use Rattle.spec_model.specs.Syntax.{Specification}
use Rattle.spec_model.specs.WellTyped.{WellTyped}
use Rattle.spec_model.specs.Moves.{is_env}
use Rattle.spec_model.specs.Rules.{Run, after}
use Rattle.spec_model.specs.Games.{GameData}
use Rattle.spec_model.specs.Steps.{Before, reached}
use Rattle.gr1_law.specs.Layers.{LayerSets}
use Rattle.gr1_law.specs.Choice.{Memory, IsChosen}
use Rattle.gr1_law.proofs.OneChoice.{choice-one}
use Rattle.session_lines.specs.Shown.{outputs_of, show}
use Rattle.session_lines.proofs.TypedNames.{typed_once}
use Rattle.session.specs.Talks.{ReadsInput, first_broken_after}
use Rattle.many_sessions.specs.Solo.{Session, alive, over, broken_text, IsPlayed, IsTurnedDown, Breaks, IsReply, IsSoloFrom}

-- the same reply, and the same session after it
record AreOne (reply reply' : List ℕ) (next next' : Session) : Type 0 where
  replies : reply ≡ reply'
  nexts : next ≡ next'

module _ (s : Specification) (g : GameData) (l : LayerSets) (typed : WellTyped s) where
  reads_once : (text : List ℕ) (x x' : Assignment) → ReadsInput s text x → ReadsInput s text x' → x ≡ x'
  reads_once text x x' a b = typed_once s typed (λ v. is_env v.owner) text x x' a b

  module _ (h : Run) (b : Before) (m : Memory) (text reply reply' : List ℕ) (next next' : Session) where
    played_one : IsPlayed s g l h b m text reply next → IsPlayed s g l h b m text reply' next' → AreOne reply reply' next next'
    played_one p q =
        let same_input : p.input ≡ q.input = reads_once text p.input q.input p.reads q.reads in
        let again = subst (λ (x : Assignment). IsChosen g l b m x p.output p.memory) same_input p.chosen in
        let same = choice-one g l b m q.input p.output q.output p.memory q.memory again q.chosen in
        record {
          replies = p.told ∙ (ap (λ (y : Assignment). show s.names (outputs_of s) y) same.0 ∙ sym q.told);
          nexts =
              p.goes_on
              ∙ (ap (λ (x : Assignment). alive (after h x p.output) (Some (reached g b x p.output)) p.memory) same_input
              ∙ (ap (λ (y : Assignment). alive (after h q.input y) (Some (reached g b q.input y)) p.memory) same.0
              ∙ (ap (λ (k : Memory). alive (after h q.input q.output) (Some (reached g b q.input q.output)) k) same.1 ∙ sym q.goes_on)));
        }

    broken_one : Breaks s g l h text reply next → Breaks s g l h text reply' next' → AreOne reply reply' next next'
    broken_one p q =
        let same_input : p.input ≡ q.input = reads_once text p.input q.input p.reads q.reads in
        let labels : Some p.label ≡ Some q.label = sym p.broken ∙ (ap (λ (x : Assignment). first_broken_after s h x) same_input ∙ q.broken) in
        let label : p.label ≡ q.label = cc in
        record { replies = p.told ∙ (ap broken_text label ∙ sym q.told); nexts = p.ends ∙ sym q.ends }

    not_both : IsPlayed s g l h b m text reply next → Breaks s g l h text reply' next' → ⊥
    not_both p q =
        let same_input : p.input ≡ q.input = reads_once text p.input q.input p.reads q.reads in
        let never : None ≡ Some q.label = sym p.unbroken ∙ (ap (λ (x : Assignment). first_broken_after s h x) same_input ∙ q.broken) in
        cc

  reply_one : (t : Session) (text reply reply' : List ℕ) (next next' : Session) → IsReply s g l t text reply next → IsReply s g l t text reply' next' → AreOne reply reply' next next'
  reply_one (over h) text reply reply' next next' p q = record { replies = p.0 ∙ sym q.0; nexts = p.1 ∙ sym q.1 }
  reply_one (alive h b m) text reply reply' next next' (inl p) (inl q) = played_one h b m text reply reply' next next' p q
  reply_one (alive h b m) text reply reply' next next' (inl p) (inr (inl q)) = absurd (q.refused p.input p.reads)
  reply_one (alive h b m) text reply reply' next next' (inl p) (inr (inr q)) = absurd (not_both h b m text reply reply' next next' p q)
  reply_one (alive h b m) text reply reply' next next' (inr (inl p)) (inl q) = absurd (p.refused q.input q.reads)
  reply_one (alive h b m) text reply reply' next next' (inr (inl p)) (inr (inl q)) = record { replies = p.told ∙ sym q.told; nexts = p.ends ∙ sym q.ends }
  reply_one (alive h b m) text reply reply' next next' (inr (inl p)) (inr (inr q)) = absurd (p.refused q.input q.reads)
  reply_one (alive h b m) text reply reply' next next' (inr (inr p)) (inl q) = absurd (not_both h b m text reply' reply next' next q p)
  reply_one (alive h b m) text reply reply' next next' (inr (inr p)) (inr (inl q)) = absurd (q.refused p.input p.reads)
  reply_one (alive h b m) text reply reply' next next' (inr (inr p)) (inr (inr q)) = broken_one h b m text reply reply' next next' p q

  pub solo_one : (t : Session) (texts replies replies' : List (List ℕ)) (last last' : Session) → IsSoloFrom s g l t texts replies last → IsSoloFrom s g l t texts replies' last' → replies ≡ replies'
  solo_one t [] [] [] last last' p q = refl
  solo_one t [] [] (r' ∷ replies') last last' p q = absurd q
  solo_one t [] (r ∷ replies) replies' last last' p q = absurd p
  solo_one t (x ∷ texts) [] replies' last last' p q = absurd p
  solo_one t (x ∷ texts) (r ∷ replies) [] last last' p q = absurd q
  solo_one t (x ∷ texts) (r ∷ replies) (r' ∷ replies') last last' p q =
      let one = reply_one t x r r' p.0 q.0 p.1 q.1 in
      let rest = solo_one q.0 texts replies replies' last last' (subst (λ (t : Session). IsSoloFrom s g l t texts replies last) one.nexts p.2) q.2 in
      ap (λ (r : List ℕ). r ∷ replies) one.replies ∙ ap (λ (rs : List (List ℕ)). r' ∷ rs) rest
