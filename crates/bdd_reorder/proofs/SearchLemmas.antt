-- Parts that are found one after the other, each once.
use Rattle.std.proofs.Common.{◌≡◌, ◌⊎◌, inl, inr, ℕ, ◌+◌, ◌*◌, List, [], ◌∷◌, ◌++◌, sym, ◌∙◌, ap, subst, refl, arith}
use Rattle.std.specs.List.{Contains}
use Rattle.std.proofs.lemmas.List.Elements.{Contains-append_left, Contains-append_cases, Contains-push}
use Rattle.spec_model.specs.Diagrams.{Diagram, constant, branch, IsPartOf, IsReduced}
use Rattle.node_table.specs.Table.{Table, IsLive, diagram_at}
use Rattle.bdd_ops.proofs.DiagramLemmas.{part_of_itself, part_of_part}
use Rattle.bdd_reorder.specs.Copying.{size_of}
use Rattle.bdd_reorder.specs.Counting.{IsPartOfOne}
use Rattle.bdd_reorder.specs.Searching.{IsSeen, HasParts, IsFound, AreApart, IsSearched, turns_over}
use Rattle.bdd_reorder.proofs.ElementLemmas.{contains_first, contains_later, first_or_later, none_in}

-- what a list with one more contains
in_pushed : {X : Type 0} (xs : List X) (x y : X) → Contains (xs ++ x ∷ []) y → Contains xs y ⊎ (x ≡ y)
in_pushed xs x y there = elim (Contains-append_cases xs (x ∷ []) y there) [
  | inl before ↦ inl before
  | inr last ↦ elim (first_or_later x y [] last) [ inl is ↦ inr is | inr none ↦ none_in y none ]
]

pub turns_over-push : (t : Table) (ns : List ℕ) (n : ℕ) → turns_over t (ns ++ n ∷ []) ≡ turns_over t ns + (1 + 2 * size_of (diagram_at t n))
turns_over-push t [] n = omega arith
turns_over-push t (m ∷ ns) n = let more = turns_over-push t ns n in omega (arith, more)

has_parts_wider : (P Q : Diagram → Type 0) → ((d : Diagram) → P d → Q d) → (d : Diagram) → HasParts P d → HasParts Q d
has_parts_wider P Q wider (constant b) parts = parts
has_parts_wider P Q wider (branch level low high) parts = (wider low parts.0, wider high parts.1)

module _ (t : Table) where
  apart_push : (ns : List ℕ) (n : ℕ) → AreApart t ns → ((m : ℕ) → Contains ns m → diagram_at t m ≡ diagram_at t n → ⊥) → AreApart t (ns ++ n ∷ [])
  apart_push [] n apart other = (λ m there. none_in m there, tt)
  apart_push (x ∷ ns) n apart other = (
    λ m there same. elim (in_pushed ns n m there) [
      | inl before ↦ apart.0 m before same
      | inr is ↦ other x (contains_first x ns) (sym same ∙ ap (diagram_at t) (sym is))
    ],
    apart_push ns n apart.1 (λ m there. other m (contains_later x m ns there)),
  )

  found_wider : (found waiting found' waiting' : List ℕ) → ((d : Diagram) → IsSeen t found waiting d → IsSeen t found' waiting' d) → (n : ℕ) → IsFound t found waiting n → IsFound t found' waiting' n
  found_wider found waiting found' waiting' wider n is = record {
    live = is.live;
    reduced = is.reduced;
    parts = has_parts_wider (IsSeen t found waiting) (IsSeen t found' waiting') wider (diagram_at t n) is.parts;
  }

  -- nothing is found at first
  pub nothing_searched : IsSearched t [] [] []
  nothing_searched = record {
    each = λ n there. none_in n there;
    apart = tt;
    seen = λ d there. none_in d there;
    only = λ n there. none_in n there;
    waits = λ n there. none_in n there;
  }

  -- ---- one diagram more

  module _ (ds : List Diagram) (found waiting : List ℕ) (a : ℕ) (s : IsSearched t ds found waiting) where
    seen_more : (d : Diagram) → IsSeen t found waiting d → IsSeen t found (waiting ++ a ∷ []) d
    seen_more d (inl is) = inl is
    seen_more d (inr (inl there)) = inr (inl there)
    seen_more d (inr (inr there)) = inr (inr (there.0, Contains-append_left waiting (a ∷ []) there.0 there.1, there.2))

    part_more : (x : Diagram) → IsPartOfOne ds x → IsPartOfOne (ds ++ diagram_at t a ∷ []) x
    part_more x part = (part.0, Contains-append_left ds (diagram_at t a ∷ []) part.0 part.1, part.2)

    its_part : (x : Diagram) → diagram_at t a ≡ x → IsPartOfOne (ds ++ diagram_at t a ∷ []) x
    its_part x is = (diagram_at t a, Contains-push ds (diagram_at t a), subst (λ (e : Diagram). IsPartOf e (diagram_at t a)) is (part_of_itself (diagram_at t a)))

    -- it waits
    pub one_waits : IsSearched t (ds ++ diagram_at t a ∷ []) found (waiting ++ a ∷ [])
    one_waits = record {
      each = λ n there. found_wider found waiting found (waiting ++ a ∷ []) seen_more n (s.each n there);
      apart = s.apart;
      seen = λ d there. elim (in_pushed ds (diagram_at t a) d there) [
        | inl before ↦ seen_more d (s.seen d before)
        | inr is ↦ inr (inr (a, Contains-push waiting a, is))
      ];
      only = λ n there. part_more (diagram_at t n) (s.only n there);
      waits = λ n there. elim (in_pushed waiting a n there) [
        | inl before ↦ part_more (diagram_at t n) (s.waits n before)
        | inr is ↦ its_part (diagram_at t n) (ap (diagram_at t) is)
      ];
    }

  -- ---- the last that waits is looked at

  module _ (ds : List Diagram) (found waiting : List ℕ) (a : ℕ) (s : IsSearched t ds found (waiting ++ a ∷ [])) where
    module _ (known : (d : Diagram) → diagram_at t a ≡ d → IsSeen t found waiting d) where
      seen_less : (d : Diagram) → IsSeen t found (waiting ++ a ∷ []) d → IsSeen t found waiting d
      seen_less d (inl is) = inl is
      seen_less d (inr (inl there)) = inr (inl there)
      seen_less d (inr (inr there)) = elim (in_pushed waiting a there.0 there.1) [
        | inl before ↦ inr (inr (there.0, before, there.2))
        | inr is ↦ known d (ap (diagram_at t) is ∙ there.2)
      ]

      -- it needn't wait
      one_known : IsSearched t ds found waiting
      one_known = record {
        each = λ n there. found_wider found (waiting ++ a ∷ []) found waiting seen_less n (s.each n there);
        apart = s.apart;
        seen = λ d there. seen_less d (s.seen d there);
        only = s.only;
        waits = λ n there. s.waits n (Contains-append_left waiting (a ∷ []) n there);
      }

    -- it was found before
    pub looked_before : Contains found a → IsSearched t ds found waiting
    looked_before there = one_known (λ d is. inr (inl (a, there, is)))

    -- it is a constant
    pub looked_constant : (b : _) → diagram_at t a ≡ constant b → IsSearched t ds found waiting
    looked_constant b constant_is = one_known (λ d is. inl (b, sym is ∙ constant_is))

    -- it is a new branch
    module _ (level low high : ℕ) (is_branch : diagram_at t a ≡ branch level (diagram_at t low) (diagram_at t high)) (live : IsLive t a) (reduced : IsReduced (diagram_at t a)) (new_one : Contains found a → ⊥)
        (one : (m : ℕ) → IsLive t m → diagram_at t m ≡ diagram_at t a → m ≡ a) where
      abbrev now : List ℕ
      now = found ++ a ∷ []

      abbrev later : List ℕ
      later = (waiting ++ high ∷ []) ++ low ∷ []

      stays : (n : ℕ) → Contains waiting n → Contains later n
      stays n there = Contains-append_left (waiting ++ high ∷ []) (low ∷ []) n (Contains-append_left waiting (high ∷ []) n there)

      high_waits : Contains later high
      high_waits = Contains-append_left (waiting ++ high ∷ []) (low ∷ []) high (Contains-push waiting high)

      low_waits : Contains later low
      low_waits = Contains-push (waiting ++ high ∷ []) low

      seen_now : (d : Diagram) → IsSeen t found (waiting ++ a ∷ []) d → IsSeen t now later d
      seen_now d (inl is) = inl is
      seen_now d (inr (inl there)) = inr (inl (there.0, Contains-append_left found (a ∷ []) there.0 there.1, there.2))
      seen_now d (inr (inr there)) = elim (in_pushed waiting a there.0 there.1) [
        | inl before ↦ inr (inr (there.0, stays there.0 before, there.2))
        | inr is ↦ inr (inl (a, Contains-push found a, ap (diagram_at t) is ∙ there.2))
      ]

      is_found : IsFound t now later a
      is_found = record {
        live = live;
        reduced = reduced;
        parts = subst (HasParts (IsSeen t now later)) (sym is_branch) (inr (inr (low, low_waits, refl)), inr (inr (high, high_waits, refl)));
      }

      in_one : IsPartOfOne ds (diagram_at t a)
      in_one = s.waits a (Contains-push waiting a)

      part_in_one : (x : Diagram) → IsPartOf x (branch level (diagram_at t low) (diagram_at t high)) → IsPartOfOne ds x
      part_in_one x part = (in_one.0, in_one.1, part_of_part x (diagram_at t a) in_one.0 (subst (λ (d : Diagram). IsPartOf x d) (sym is_branch) part) in_one.2)

      waits_now : (n : ℕ) → Contains later n → IsPartOfOne ds (diagram_at t n)
      waits_now n there = elim (in_pushed (waiting ++ high ∷ []) low n there) [
        | inr is ↦ part_in_one (diagram_at t n) (inr (inl (subst (λ (d : Diagram). IsPartOf d (diagram_at t low)) (ap (diagram_at t) is) (part_of_itself (diagram_at t low)))))
        | inl front ↦ elim (in_pushed waiting high n front) [
          | inl before ↦ s.waits n (Contains-append_left waiting (a ∷ []) n before)
          | inr is ↦ part_in_one (diagram_at t n) (inr (inr (subst (λ (d : Diagram). IsPartOf d (diagram_at t high)) (ap (diagram_at t) is) (part_of_itself (diagram_at t high)))))
        ]
      ]

      pub looked_new : IsSearched t ds (found ++ a ∷ []) ((waiting ++ high ∷ []) ++ low ∷ [])
      looked_new = record {
        each = λ n there. elim (in_pushed found a n there) [
          | inl before ↦ found_wider found (waiting ++ a ∷ []) now later seen_now n (s.each n before)
          | inr is ↦ subst (IsFound t now later) is is_found
        ];
        apart = apart_push found a s.apart (λ m there same. new_one (subst (Contains found) (one m (s.each m there).live same) there));
        seen = λ d there. seen_now d (s.seen d there);
        only = λ n there. elim (in_pushed found a n there) [
          | inl before ↦ s.only n before
          | inr is ↦ subst (λ (k : ℕ). IsPartOfOne ds (diagram_at t k)) is in_one
        ];
        waits = waits_now;
      }
