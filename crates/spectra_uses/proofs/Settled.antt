-- Two walks from a definition, one back and one through those that the first came to, find those that use each other with it.
use Rattle.std.proofs.Common.{◌≡◌, ℕ, zero, suc, ◌<◌, Bool, true, false, List, length, Some, slice_get, slice_set, replicate, refl, sym, ap, subst, ◌∙◌, inl, inr, ◌⊎◌, arith}
use Rattle.std.proofs.lemmas.Bool.{false≢true}
use Rattle.std.proofs.lemmas.Option.{slice_get_within}
use Rattle.spectra_uses.specs.Cycles.{reaches, AreOnCycle}
use Rattle.spectra_uses.specs.Searching.{next_of, IsOpen, IsKnown}
use Rattle.spectra_uses.specs.Walking.{IsAmong, Leads, Walks, Marks}
use Rattle.spectra_uses.specs.Users.{AreUsers}
use Rattle.spectra_uses.specs.Settling.{Settling, AreSettled, IsSettling, SettlesOn}
use Rattle.spectra_uses.proofs.Reaching.{FirstUse, first_use, first_step, leads_both, leads_on, user_within}
use Rattle.spectra_uses.proofs.Marked.{same_or_not, set-other, length-one_set, set-open, length-none, none_open}
use Rattle.spectra_uses.proofs.FewSteps.{in_few_steps}
use Rattle.spectra_uses.proofs.Walked.{among_or_not}

-- ---- back along the users

pub leads_back : (uses users : List (List ℕ)) → AreUsers uses users (length uses) → (steps a b : ℕ) → reaches users steps a b ≡ true → Leads uses b a
leads_back uses users all zero a b there = absurd (false≢true there)
leads_back uses users all (suc steps) a b there = by (first_use users steps a b there) (λ k there. leads_back uses users all steps k b there)
  where
    by : FirstUse users steps a b → ((k : ℕ) → reaches users steps k b ≡ true → Leads uses b k) → Leads uses b a
    by link rest = elim link.on [
      | inl same ↦ (1, first_step uses b a back.0 (ap (λ k. slice_get (next_of uses k) back.0) (sym same) ∙ back.1))
      | inr later ↦ leads_on uses b link.k a back.0 (rest link.k later) back.1
    ]
      where
        back : IsAmong (next_of uses link.k) a
        back = all.each a link.k (link.at, link.there)

module _ (uses users : List (List ℕ)) (number : ℕ) (settled after apart mid opened table : List Bool) (behind around : List ℕ) (all : AreUsers uses users (length uses))
    (old : AreSettled uses settled table) (new : IsOpen settled number) (back : Walks users number settled after behind)
    (room : length apart ≡ length uses) (none : (v : ℕ) → IsKnown apart v) (begun : Marks apart opened behind false) (fore : Walks uses number opened mid around) where
  within : (v : ℕ) → IsOpen settled v → v < length uses
  within v free = let inside = slice_get_within settled v false free in let size = old.size in omega arith

  -- those behind lead to it
  behind_lead : (v : ℕ) → IsAmong behind v → Leads uses v number
  behind_lead v among = let found = (back.found v among).0 in leads_back uses users all found.0 number v found.1

  are_behind : (steps v : ℕ) → IsOpen settled v → reaches uses steps v number ≡ true → Leads uses number v → IsAmong behind v
  are_behind zero v free there leads = absurd (false≢true there)
  are_behind (suc steps) v free there leads = by (first_use uses steps v number there) (λ k. are_behind steps k)
    where
      by : FirstUse uses steps v number → ((k : ℕ) → IsOpen settled k → reaches uses steps k number ≡ true → Leads uses number k → IsAmong behind k) → IsAmong behind v
      by link rest = elim link.on [
        | inl same ↦ elim (back.listed v free) [
          | inl still ↦ (let place = subst (λ k. IsAmong (next_of users k) v) same user in absurd (back.first place.0 v place.1 still))
          | inr there ↦ there
        ]
        | inr later ↦ elim (back.listed v free) [
          | inl still ↦ absurd (back.followed link.k (on later) user.0 v user.1 still)
          | inr there ↦ there
        ]
      ]
        where
          from_here : Leads uses number link.k
          from_here = leads_on uses number v link.k link.at leads link.there

          ends_there : Leads uses link.k number
          ends_there = elim link.on [
            | inl same ↦ subst (λ k. Leads uses k number) (sym same) (leads_both uses number v number leads (suc steps, there))
            | inr later ↦ (steps, later)
          ]

          open_there : IsOpen settled link.k
          open_there = old.together number link.k from_here ends_there new

          user : IsAmong (next_of users link.k) v
          user = all.all link.k v (within v free) (link.at, link.there) (within link.k open_there)

          on : reaches uses steps link.k number ≡ true → IsAmong behind link.k
          on later = rest link.k open_there later from_here

  -- exactly those behind have no mark for the second walk
  opened_behind : (v : ℕ) → IsOpen opened v → IsAmong behind v
  opened_behind v free = elim (among_or_not behind v) [
    | inl there ↦ there
    | inr not_there ↦ absurd (none v (sym (begun.outside v not_there) ∙ free))
  ]

  behind_opened : (v : ℕ) → IsAmong behind v → IsOpen opened v
  behind_opened v among = begun.inside v among (let inside = within v (back.found v among).1 in omega arith)

  -- those around lead to it, and it to them
  around_from : (v : ℕ) → IsAmong around v → Leads uses number v
  around_from v among = (fore.found v among).0

  around_to : (v : ℕ) → IsAmong around v → Leads uses v number
  around_to v among = behind_lead v (opened_behind v (fore.found v among).1)

  around_open : (v : ℕ) → IsAmong around v → IsOpen settled v
  around_open v among = (back.found v (opened_behind v (fore.found v among).1)).1

  -- the first on the way from it, or from one around, to one that leads back is around
  next_around : (a k i : ℕ) → (a ≡ number) ⊎ IsAmong around a → slice_get (next_of uses a) i ≡ Some k → Leads uses k number → IsAmong around k
  next_around a k i here at leads = elim (fore.listed k (behind_opened k (are_behind leads.0 k open_there leads.1 from_here))) [
    | inl still ↦ absurd (not_open here still)
    | inr there ↦ there
  ]
    where
      from_here : Leads uses number k
      from_here = elim here [
        | inl same ↦ (1, first_step uses number k i (ap (λ j. slice_get (next_of uses j) i) (sym same) ∙ at))
        | inr among ↦ leads_on uses number a k i (around_from a among) at
      ]

      open_there : IsOpen settled k
      open_there = old.together number k from_here leads new

      not_open : (a ≡ number) ⊎ IsAmong around a → IsOpen mid k → ⊥
      not_open (inl same) still = fore.first i k (ap (λ j. slice_get (next_of uses j) i) (sym same) ∙ at) still
      not_open (inr among) still = fore.followed a among i k at still

  are_around : (steps a v : ℕ) → (a ≡ number) ⊎ IsAmong around a → reaches uses steps a v ≡ true → Leads uses v number → IsAmong around v
  are_around zero a v here there leads = absurd (false≢true there)
  are_around (suc steps) a v here there leads = by (first_use uses steps a v there) (λ k. are_around steps k v)
    where
      by : FirstUse uses steps a v → ((k : ℕ) → (k ≡ number) ⊎ IsAmong around k → reaches uses steps k v ≡ true → Leads uses v number → IsAmong around v) → IsAmong around v
      by link rest = elim link.on [
        | inl same ↦ subst (IsAmong around) same (next_around a link.k link.at here link.there (subst (λ k. Leads uses k number) (sym same) leads))
        | inr later ↦ rest link.k (inr (next_around a link.k link.at here link.there (leads_both uses link.k v number (steps, later) leads))) later leads
      ]

  pub all_around : (v : ℕ) → Leads uses number v → Leads uses v number → IsAmong around v
  all_around v to from = are_around to.0 number v (inl refl) to.1 from

  -- ---- what is settled then

  module _ (closed ended last settled_new table_new : List Bool) (shut : Marks mid closed behind true) (freed : Marks after ended behind false) (ringed : Marks ended last around true)
      (one : settled_new ≡ slice_set last number true) (told : Marks table table_new around true) where
    pub none_walked : (v : ℕ) → IsKnown closed v
    none_walked v free = elim (among_or_not behind v) [
      | inl there ↦ (let inside = within v (back.found v there).1 in let n = fore.size in let m = begun.size in
          let is : Some true ≡ Some false = sym (shut.inside v there (omega arith)) ∙ free in false≢true (let e = sym is in cc))
      | inr not_there ↦ not_there (opened_behind v (fore.was v (sym (shut.outside v not_there) ∙ free)))
    ]

    ended_open : (v : ℕ) → IsOpen ended v → IsOpen settled v
    ended_open v free = elim (among_or_not behind v) [
      | inl there ↦ (back.found v there).1
      | inr not_there ↦ back.was v (sym (freed.outside v not_there) ∙ free)
    ]

    open_ended : (v : ℕ) → IsOpen settled v → IsOpen ended v
    open_ended v free = elim (among_or_not behind v) [
      | inl there ↦ freed.inside v there (let inside = within v free in let n = back.size in let m = old.size in omega arith)
      | inr not_there ↦ elim (back.listed v free) [
        | inl still ↦ freed.outside v not_there ∙ still
        | inr there ↦ absurd (not_there there)
      ]
    ]

    last_size : length last ≡ length uses
    last_size = ringed.size ∙ freed.size ∙ back.size ∙ old.size

    -- one that isn't settled wasn't, and is neither this one nor around it
    pub still_open : (v : ℕ) → IsOpen settled_new v → IsOpen settled v × (v ≡ number → ⊥) × (IsAmong around v → ⊥)
    still_open v free = (ended_open v (sym (ringed.outside v outside) ∙ parts.1), parts.0, outside)
      where
        parts : (v ≡ number → ⊥) × IsOpen last v
        parts = set-open last number v (ap (λ ms. slice_get ms v) (sym one) ∙ free)

        outside : IsAmong around v → ⊥
        outside among =
            let inside = within v (around_open v among) in
            let n = ringed.size in
            let m = last_size in
            let is : Some true ≡ Some false = sym (ringed.inside v among (omega arith)) ∙ parts.1 in
            false≢true (let e = sym is in cc)

    open_still : (v : ℕ) → IsOpen settled v → (v ≡ number → ⊥) → (IsAmong around v → ⊥) → IsOpen settled_new v
    open_still v free other outside =
        ap (λ ms. slice_get ms v) one ∙ set-other last number v true other ∙ ringed.outside v outside ∙ open_ended v free

    together : (v w : ℕ) → Leads uses v w → Leads uses w v → IsOpen settled_new v → IsOpen settled_new w
    together v w to from free =
        open_still w (old.together v w to from parts.0)
        (λ same. parts.2 (all_around v (subst (λ k. Leads uses k v) same from) (subst (λ k. Leads uses v k) same to)))
        (λ among. parts.2 (all_around v (leads_both uses number w v (around_from w among) from) (leads_both uses v w number to (around_to w among))))
      where
        parts : IsOpen settled v × (v ≡ number → ⊥) × (IsAmong around v → ⊥)
        parts = still_open v free

    -- one around is used in its own body
    ring_told : (v : ℕ) → IsAmong around v → slice_get table_new v ≡ Some (reaches uses (length uses) v v)
    ring_told v among =
        let inside = within v (around_open v among) in
        let round = leads_both uses v number v (around_to v among) (around_from v among) in
        told.inside v among (let n = old.room in omega arith) ∙ ap Some (sym (in_few_steps uses round.0 v v inside round.1))

    -- this one isn't, where it isn't around itself
    alone_told : (IsAmong around number → ⊥) → slice_get table_new number ≡ Some (reaches uses (length uses) number number)
    alone_told outside = told.outside number outside ∙ old.none number new ∙ ap Some (by (reaches uses (length uses) number number) refl)
      where
        by : (b : Bool) → reaches uses (length uses) number number ≡ b → false ≡ reaches uses (length uses) number number
        by true is = absurd (outside (all_around number (length uses, is) (length uses, is)))
        by false is = sym is

    right : (v : ℕ) → v < length uses → IsKnown settled_new v → slice_get table_new v ≡ Some (reaches uses (length uses) v v)
    right v inside known = elim (among_or_not around v) [
      | inl among ↦ ring_told v among
      | inr outside ↦ elim (same_or_not v number) [
        | inl same ↦ subst (λ k. slice_get table_new k ≡ Some (reaches uses (length uses) k k)) (sym same) (alone_told (λ among. outside (subst (IsAmong around) (sym same) among)))
        | inr other ↦ told.outside v outside ∙ old.right v inside (λ free. known (open_still v free other outside))
      ]
    ]

    pub settles : AreSettled uses settled_new table_new
    settles =
        record {
          size = ap length one ∙ length-one_set last number true ∙ last_size;
          room = told.size ∙ old.room;
          together = together;
          right = right;
          none = λ v free. (let parts = still_open v free in told.outside v parts.2 ∙ old.none v parts.0);
        }

    pub settles_on : SettlesOn (record { uses = uses; users = users; settled = settled; apart = apart; table = table }) (record { uses = uses; users = users; settled = settled_new; apart = closed; table = table_new })
    settles_on =
        record {
          settling = record { users = all; settled = settles; room = shut.size ∙ fore.size ∙ begun.size ∙ room; apart = none_walked };
          uses = refl;
          known = λ v known free. known (still_open v free).0;
        }

    pub is_settled : IsKnown settled_new number
    is_settled free = (still_open number free).1 refl

-- ---- the beginning and the end

pub nothing_settled : (uses : List (List ℕ)) (settled table : List Bool) → settled ≡ replicate (length uses) false → table ≡ replicate (length uses) false → AreSettled uses settled table
nothing_settled uses settled table fresh empty =
    record {
      size = ap length fresh ∙ length-none (length uses);
      room = ap length empty ∙ length-none (length uses);
      together = λ v w to from free. is_open w (leader from.0 w v from.1);
      right = λ v inside known. absurd (known (is_open v inside));
      none = λ v free. ap (λ ms. slice_get ms v) (empty ∙ sym fresh) ∙ free;
    }
  where
    is_open : (v : ℕ) → v < length uses → IsOpen settled v
    is_open v inside = ap (λ ms. slice_get ms v) fresh ∙ none_open (length uses) v inside

    leader : (steps w v : ℕ) → reaches uses steps w v ≡ true → w < length uses
    leader zero w v there = absurd (false≢true there)
    leader (suc steps) w v there = let link = first_use uses steps w v there in user_within uses w link.k link.at link.there

pub all_settled : (uses : List (List ℕ)) (settled table : List Bool) → AreSettled uses settled table → ((v : ℕ) → v < length uses → IsKnown settled v) → AreOnCycle uses (length uses) table
all_settled uses settled table done known = record { size = done.room; each = λ k inside. done.right k inside (known k inside) }

pub still_settling : (s : Settling) → IsSettling s → SettlesOn s s
still_settling s settling = record { settling = settling; uses = refl; known = λ v known. known }

pub settles_further : (a b c : Settling) → SettlesOn a b → SettlesOn b c → SettlesOn a c
settles_further a b c first next = record { settling = next.settling; uses = next.uses ∙ first.uses; known = λ v known. next.known v (first.known v known) }
