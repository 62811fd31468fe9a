-- A store that is spent: full, and all of it needed.
use Rattle.std.proofs.Common.{◌≡◌, ◌⊎◌, ℕ, ◌<◌, sym, ◌∙◌, subst, inl, inr, arith, Bool, List, [], ◌∷◌, ◌++◌}
use Rattle.std.specs.List.{Contains}
use Rattle.std.proofs.lemmas.List.Elements.{Contains-append_right, Contains-append_cases, Contains-push_cases}
use Rattle.spec_model.specs.Diagrams.{Diagram, constant, IsPartOf}
use Rattle.bdd_store.proofs.Held.{low_held, high_held, without_constants}
use Rattle.bdd_store.specs.State.{IsEdge, IsUnder, IsHeldBy, IsFullOf, diagram_of}
use Rattle.bdd_ops.specs.Contents.{Contents}
use Rattle.bdd_ops.specs.Steps.{SameNodes, Works, IsSpent, StandsInMade}
use Rattle.bdd_ops.proofs.StayLemmas.{held_part, held_same, same_there, answer_there}

pub full_spent : (c : Contents) (starts : List ℕ) (MayMake : Diagram → Type 0) → IsFullOf c.state starts → IsSpent c starts MayMake
full_spent c starts MayMake is = record { full = is.full; needed = λ n live. inl (is.held n live) }

-- where more may be made
pub spent_more : (c : Contents) (starts : List ℕ) (First MayMake : Diagram → Type 0) → ((d : Diagram) → First d → MayMake d) → IsSpent c starts First → IsSpent c starts MayMake
spent_more c starts First MayMake more is = record {
  full = is.full;
  needed = λ n live. elim (is.needed n live) [ inl held ↦ inl held | inr made ↦ inr (made.0, made.1, more (diagram_of c.state made.0) made.2, made.3) ];
}

-- without starts that are held or may be made
pub spent_less : (c : Contents) (starts more : List ℕ) (MayMake : Diagram → Type 0) → ((r : ℕ) → Contains more r → IsEdge c.state r → IsHeldBy c.state starts r ⊎ MayMake (diagram_of c.state r)) → IsSpent c (starts ++ more) MayMake → IsSpent c starts MayMake
spent_less c starts more MayMake each is = record {
  full = is.full;
  needed = λ n live. elim (is.needed n live) [
    | inl held ↦ elim held.needed [
      | inl fixed ↦ inl (record { live = live; needed = inl fixed })
      | inr under ↦ of_start n live under
    ]
    | inr made ↦ inr made
  ];
} where
  behind : (n : ℕ) → IsEdge c.state n → (r : ℕ) → Contains more r → IsEdge c.state r → IsPartOf (diagram_of c.state n) (diagram_of c.state r) → IsHeldBy c.state starts n ⊎ StandsInMade c.state MayMake n
  behind n live r there live_start part = elim (each r there live_start) [
    | inl held ↦ inl (held_part c.state starts r n held live part)
    | inr may ↦ inr (r, live_start, may, part)
  ]

  of_start : (n : ℕ) → IsEdge c.state n → IsUnder c.state (starts ++ more) n → IsHeldBy c.state starts n ⊎ StandsInMade c.state MayMake n
  of_start n live under = elim under.1 [
    | inl root ↦ inl (record { live = live; needed = inr (under.0, inl root, under.2, under.3) })
    | inr there ↦ elim (Contains-append_cases starts more under.0 there) [
      | inl before ↦ inl (record { live = live; needed = inr (under.0, inr before, under.2, under.3) })
      | inr after ↦ behind n live under.0 after under.2 under.3
    ]
  ]

-- where the nodes stay
pub spent_same : (old new : Contents) (starts : List ℕ) (MayMake : Diagram → Type 0) → SameNodes old new → IsSpent old starts MayMake → IsSpent new starts MayMake
spent_same old new starts MayMake same is = record {
  full = rw same.table is.full;
  needed = λ n live. elim (is.needed n (rw (← same.table) live)) [
    | inl held ↦ inl (held_same old new starts n same held)
    | inr made ↦
        let of_start = same_there old new made.0 same made.1 in
        let of_node = same_there old new n same (rw (← same.table) live) in
        inr (made.0, of_start.0, subst MayMake (sym of_start.1) made.2, rw (of_node.1, of_start.1) made.3)
  ];
}

one_of_two : (low high r : ℕ) → Contains (low ∷ high ∷ []) r → (low ≡ r) ⊎ (high ≡ r)
one_of_two low high r there = elim (Contains-append_cases (low ∷ []) (high ∷ []) r there) [ inl first ↦ inl (only low r first) | inr second ↦ inr (only high r second) ]
  where
    only : (x r : ℕ) → Contains (x ∷ []) r → x ≡ r
    only x r in_one = elim (Contains-push_cases [] x r in_one) [ inl none ↦ absurd (omega (arith, none.1)) | inr same ↦ same ]

-- without two starts that are results themselves
pub spent_results : (old new : Contents) (stack : List ℕ) (low high : ℕ) (MayMake : Diagram → Type 0) → IsEdge old.state low → IsEdge old.state high → Works old new (stack ++ low ∷ high ∷ []) → MayMake (diagram_of old.state low) → MayMake (diagram_of old.state high) →
    IsSpent new (stack ++ low ∷ high ∷ []) MayMake → IsSpent new stack MayMake
spent_results old new stack low high MayMake low_live high_live works of_low of_high is = spent_less new stack (low ∷ high ∷ []) MayMake each is
  where
    stays : (n : ℕ) → Contains (low ∷ high ∷ []) n → IsEdge old.state n → diagram_of new.state n ≡ diagram_of old.state n
    stays n there live = (answer_there old new (stack ++ low ∷ high ∷ []) n works (Contains-append_right stack (low ∷ high ∷ []) n there) live).1

    each : (r : ℕ) → Contains (low ∷ high ∷ []) r → IsEdge new.state r → IsHeldBy new.state stack r ⊎ MayMake (diagram_of new.state r)
    each r there live = elim (one_of_two low high r there) [
      | inl same ↦ let there' = subst (Contains (low ∷ high ∷ [])) (sym same) there in inr (subst (λ (k : ℕ). MayMake (diagram_of new.state k)) same (subst MayMake (sym (stays low there' low_live)) of_low))
      | inr same ↦ let there' = subst (Contains (low ∷ high ∷ [])) (sym same) there in inr (subst (λ (k : ℕ). MayMake (diagram_of new.state k)) same (subst MayMake (sym (stays high there' high_live)) of_high))
    ]

-- without two starts that stand for constants
pub spent_fixed : (old new : Contents) (stack : List ℕ) (low high : ℕ) (b d : Bool) (MayMake : Diagram → Type 0) → Works old new (stack ++ low ∷ high ∷ []) → IsEdge old.state low → IsEdge old.state high → diagram_of old.state low ≡ constant b → diagram_of old.state high ≡ constant d →
    IsFullOf new.state (stack ++ low ∷ high ∷ []) → IsSpent new stack MayMake
spent_fixed old new stack low high b d MayMake works low_live high_live is_low is_high is =
    let of_low : diagram_of new.state low ≡ constant b = (works.keeps.held low (low_held old.state stack low high low_live)).1 ∙ is_low in
    let of_high : diagram_of new.state high ≡ constant d = (works.keeps.held high (high_held old.state stack low high high_live)).1 ∙ is_high in
    record { full = is.full; needed = λ n live. inl (without_constants new.state stack low high n b d of_low of_high (is.held n live)) }
