-- Lines that are written, and how a session is closed.
use Rattle.std.proofs.Common.{◌≡◌, ℕ, ◌≤◌, List, Option, Result, Ok, Err, inl, refl, sym, ap, subst, arith, ◌∙◌}
use Rattle.std.proofs.KnownBytes.{Appends-nil}
use Rattle.std.specs.Result.{OnOk, OnErr}
use Rattle.std.specs.Io.KnownBytes.{Appends}
use Rattle.sp_outside.specs.Causes.{Rose}
use Rattle.sp_outside.specs.Written.{AppendsFront}
use Rattle.spec_model.specs.Syntax.{Specification}
use Rattle.session_lines.specs.HowOften.{ReadsForLines}
use Rattle.session.specs.declared.talking.End.{End}
use Rattle.spec_model.specs.Games.{GameData}
use Rattle.session.proofs.RunTalks.{weaker}
use Rattle.session.proofs.CounterTalks.{counter_weaker as counter_talk_weaker}
use Rattle.spectra_talks.specs.declared.status.Status.{Status}
use Rattle.spectra_talks.specs.declared.status.Status.TheVariants.{OutputFault, Memory}
use Rattle.spectra_talks.specs.Endings.{Ending, line_of, status_of, unrealizable}
use Rattle.spectra_talks.specs.Streams.{Moment, moment, Writes, WantsMemory}
use Rattle.spectra_talks.specs.Offered.{OverOutput, IsSaid}
use Rattle.many_sessions.proofs.ManyTalks.{many_weaker}
use Rattle.spectra_talks.specs.Hosting.{ManyTalks, Hosts}
use Rattle.spectra_talks.specs.Sessions.{most_positions, Talk, Closes, whole, cut, HoldsSession, session, RunTalks, CounterTalks, Counters}

-- nothing was done: no memory was given
pub nothing_done : (m : Moment) → WantsMemory m m Memory
nothing_done m = record { is = refl; nothing_written = Appends-nil m.written; unread = record { left = refl; reads = refl; faults = refl } }

-- a line that is written is said, where it is the one that is due
pub is_said : {O : Type 0} (written : O → Option (List ℕ)) (faults : O → ℕ) (e : Ending) (given : List ℕ) (status : Status) (old new : O) → given ≡ line_of e →
    OverOutput written faults old new (λ before after. Writes given (status_of e) before after status) → IsSaid written faults e old new status
is_said written faults e given status old new same writes = λ left r n.
    inl (subst (λ (l : List ℕ). Writes l (status_of e) (moment left (written old) r n (faults old)) (moment left (written new) r n (faults new)) status) same (writes left r n))

-- what was told of the last line closes the session
pub closes_by : {X T E : Type 0} (ending_of : X → Ending) (end is : X) → end ≡ is → (before after : Option (List ℕ)) (rose : Type 0) (result : Result T E) (status : Status) →
    OnOk result (Appends before after (line_of (ending_of is))) → OnErr result (AppendsFront before after (line_of (ending_of is))) → OnErr result rose →
    OnOk result (status ≡ status_of (ending_of is)) → OnErr result (status ≡ OutputFault) → Closes (ending_of end) before after rose status
closes_by {X} ending_of end is same before after rose (Ok x) status written part cause told cut_short =
    subst (λ (s : Status). Closes (ending_of end) before after rose s) (sym told) (subst (λ (e : X). Closes (ending_of e) before after rose (status_of (ending_of is))) (sym same) (whole written))
closes_by {X} ending_of end is same before after rose (Err x) status written part cause told cut_short =
    subst (λ (s : Status). Closes (ending_of end) before after rose s) (sym cut_short) (cut (subst (λ (e : X). AppendsFront before after (line_of (ending_of e))) (sym same) part) cause)

-- ---- sessions

-- a count that rose in between rose
rose_between : (first before now last : ℕ) → first ≤ before → now ≤ last → Rose before now → Rose first last
rose_between first before now last earlier later rose = omega (arith, earlier, later, rose)

pub closes_later : (last : Ending) (before after : Option (List ℕ)) (rose rose' : Type 0) (status : Status) → (rose → rose') → Closes last before after rose status → Closes last before after rose' status
closes_later last before after rose rose' _ from (whole is) = whole is
closes_later last before after rose rose' _ from (cut part is) = cut part (from is)

-- The verdict line, a talk and its last line are a session. Where the output's count rose in the talk, it rose in the session.
pub session_held : (verdict : Ending) (Talks : Talk) (ending_of : End → Ending) (left left' written greeted talked written' : Option (List ℕ)) (reads reads' failed failed' writes writes1 writes2 writes' : ℕ) (end : End) (status : Status) →
    ((rose rose' : Type 0) → (rose → rose') → Talks left left' greeted talked (Rose failed failed') rose end → Talks left left' greeted talked (Rose failed failed') rose' end) → Appends written greeted (line_of verdict) →
    Talks left left' greeted talked (Rose failed failed') (Rose writes1 writes2) end → ReadsForLines most_positions left left' reads reads' → Closes (ending_of end) talked written' (Rose writes2 writes') status → writes ≤ writes1 → writes1 ≤ writes2 → writes2 ≤ writes' →
    HoldsSession verdict Talks ending_of (moment left written reads failed writes) (moment left' written' reads' failed' writes') status
session_held verdict Talks ending_of left left' written greeted talked written' reads reads' failed failed' writes writes1 writes2 writes' end status weaker told talk for_lines closes first second third =
    session
    (record {
      end = end;
      greeted = greeted;
      talked = talked;
      verdict_line = told;
      talk = weaker (Rose writes1 writes2) (Rose writes writes') (rose_between writes writes1 writes2 writes' first third) talk;
      reads = for_lines;
      closes = closes_later (ending_of end) talked written' (Rose writes2 writes') (Rose writes writes') status (rose_between writes writes2 writes' writes' (omega (arith, first, second)) (omega arith)) closes;
    })

-- the talk of the system's side does not depend on more than that
pub run_weaker : (s : Specification) (k : ℕ) (left left' written written' : Option (List ℕ)) (rose_in rose rose' : Type 0) (end : End) → (rose → rose') → RunTalks s k left left' written written' rose_in rose end → RunTalks s k left left' written written' rose_in rose' end
run_weaker s k left left' written written' rose_in rose rose' end from talk = weaker s k most_positions left left' written written' rose_in rose rose_in rose' end (λ is. is) from talk

pub counter_weaker : (s : Specification) (n m : ℕ) (left left' written written' : Option (List ℕ)) (rose_in rose rose' : Type 0) (end : End) → (rose → rose') → CounterTalks s n m left left' written written' rose_in rose end →
    CounterTalks s n m left left' written written' rose_in rose' end
counter_weaker s n m left left' written written' rose_in rose rose' end from talk = counter_talk_weaker s n m most_positions left left' written written' rose_in rose rose_in rose' end (λ is. is) from talk

-- the numbers of a session of the environment's side may be named otherwise
pub countered_as : (s : Specification) (n n' m m' : ℕ) (before after : Moment) (status : Status) → n ≡ n' → m ≡ m' → Counters s n' m' before after status → Counters s n m before after status
countered_as s n n' m m' before after status shifts denials holds =
    subst (λ (n : ℕ). Counters s n m before after status) (sym shifts) (subst (λ (m : ℕ). Counters s n' m before after status) (sym denials) holds)

pub unrealizable_as : (n n' m m' : ℕ) → n ≡ n' → m ≡ m' → line_of (unrealizable n m) ≡ line_of (unrealizable n' m')
unrealizable_as n n' m m' shifts denials = ap (λ (n : ℕ). line_of (unrealizable n m)) shifts ∙ ap (λ (m : ℕ). line_of (unrealizable n' m)) denials

-- the talk of many sessions does not depend on more than that
pub hosted_weaker : (s : Specification) (g : GameData) (k : ℕ) (left left' written written' : Option (List ℕ)) (rose_in rose rose' : Type 0) (end : End) → (rose → rose') → ManyTalks s g k left left' written written' rose_in rose end →
    ManyTalks s g k left left' written written' rose_in rose' end
hosted_weaker s g k left left' written written' rose_in rose rose' end from talk =
    record {
      winning_states = talk.winning_states;
      layers = talk.layers;
      winning = talk.winning;
      told = talk.told;
      same = talk.same;
      talk = many_weaker s g talk.layers k most_positions left left' written written' rose_in rose rose_in rose' talk.told (λ is. is) from talk.talk;
    }

-- the game and the number of rounds may be named otherwise
pub hosted_as : (s : Specification) (g h : GameData) (k k' : ℕ) (before after : Moment) (status : Status) → g ≡ h → k ≡ k' → Hosts s g k' before after status → Hosts s h k before after status
hosted_as s g h k k' before after status game rounds hosts =
    subst (λ (g : GameData). Hosts s g k before after status) game (subst (λ (k : ℕ). Hosts s g k before after status) (sym rounds) hosts)
