-- The play that serves the sessions, from one to the next, and what a session's text makes of it.
use Rattle.std.proofs.Common.{◌≡◌, inl, inr, ℕ, Bool, true, false, ◌==◌, cond, List, Option, Some, None, refl, sym, ap, subst, ◌∙◌}
use Rattle.spec_model.specs.Values.{Assignment}
use Rattle.spec_model.specs.Syntax.{Specification}
use Rattle.spec_model.specs.Rules.{Run, after}
use Rattle.spec_model.specs.Games.{GameData}
use Rattle.spec_model.specs.Agreement.{Agrees}
use Rattle.spec_model.specs.Steps.{Before, reached}
use Rattle.regions.specs.Kept.{Kept}
use Rattle.gr1_law.specs.Choice.{Memory}
use Rattle.controller.specs.declared.controller.Controller.{Controller}
use Rattle.controller.specs.Objects.{game_of, StandsFor, GoesOn, HoldsTheSame}
use Rattle.session_lines.specs.Shown.{outputs_of}
use Rattle.session.specs.Ends.{IsRefused}
use Rattle.session.specs.Talks.{ReadsInput}
use Rattle.session.specs.Strategies.{rounds_of, PlaysFor}
use Rattle.session.proofs.Strategic.{tells}
use Rattle.many_sessions.specs.declared.many.Many.{Many}
use Rattle.many_sessions.specs.declared.seat.Seat.{Seat}
use Rattle.many_sessions.specs.declared.turning.Outcome.{Outcome}
use Rattle.many_sessions.specs.declared.turning.Outcome.TheVariants as outcomes
use Rattle.many_sessions.specs.Solo.{Session, alive, over, play_of, IsReply, broken_text, ended_text, refused_text}
use Rattle.many_sessions.specs.Talks.{IsKeptPlay}
use Rattle.many_sessions.specs.Terms.{ManyState, with_session}
use Rattle.many_sessions.specs.Seats.{AreSeatsOf, PlaysAt, Serves}
use Rattle.many_sessions.specs.Turns.{reply_of, MovesOn, TakesTurn}

-- ---- one play

module _ {G R M : Type 0} (kept : G → Kept R M) (c : Controller G R M) (s : Specification) (st : ManyState) (h : Run) (b : Before) (m : Memory) (at : PlaysAt kept c s st h b m) where
  abbrev pub plays_for_it : PlaysFor kept c s st.rounds h
  plays_for_it = record { is_of = at.is_of; rounds = at.rounds; z = at.z; layers = st.layers; before = b; memory = m; stands = at.stands }

  -- elsewhere, by the same layers
  abbrev pub plays_there : (new : Controller G R M) → HoldsTheSame kept c new → (to : Run) (before : Before) (memory : Memory) → StandsFor kept new at.z st.layers to before memory → PlaysAt kept new s st to before memory
  plays_there new same to before memory stands =
      record {
        is_of = subst (λ (g : GameData). Agrees s g) (sym same.game.game) at.is_of;
        rounds = at.rounds ∙ ap (λ layers. rounds_of (record c { layers = layers })) (sym same.layers);
        game = at.game ∙ sym same.game.game;
        z = at.z;
        stands = stands;
      }

  -- after the chosen output
  abbrev pub moved_to : (new : Controller G R M) → HoldsTheSame kept c new → (x y : Assignment) (next : Memory) → GoesOn kept c new at.z st.layers h b m x y next → PlaysAt kept new s st (after h x y) (Some (reached st.game b x y)) next
  moved_to new same x y next goes =
      plays_there new same (after h x y) (Some (reached st.game b x y)) next
      (subst (λ (g : GameData). StandsFor kept new at.z st.layers (after h x y) (Some (reached g b x y)) next) (sym at.game) goes.stands)

  pub seats_by_play : (seats others : List Seat) (sessions : ℕ → Session) → others ≡ seats → AreSeatsOf st.game st.layers seats sessions → AreSeatsOf (game_of kept c) st.layers others sessions
  seats_by_play seats others sessions same are =
      subst (λ (g : GameData). AreSeatsOf g st.layers others sessions) at.game (subst (λ (seats : List Seat). AreSeatsOf st.game st.layers seats sessions) (sym same) are)

  pub seats_by_state : (seats : List Seat) (sessions : ℕ → Session) → AreSeatsOf (game_of kept c) st.layers seats sessions → AreSeatsOf st.game st.layers seats sessions
  seats_by_state seats sessions are = subst (λ (g : GameData). AreSeatsOf g st.layers seats sessions) (sym at.game) are

  pub is_kept : IsKeptPlay s st.rounds h
  is_kept =
      let t = tells kept c s st.rounds h plays_for_it in
      record { legal = t.legal; kept = t.kept }

-- ---- what a text comes to

module _ {G R M : Type 0} (kept : G → Kept R M) (s : Specification) (st : ManyState) (n : ℕ) (text : List ℕ) (many : Many) (c : Controller G R M) where
  -- the session was over
  pub was_over : (h : Run) → st.sessions n ≡ over h → Serves kept many c s (with_session st n (over h)) → TakesTurn kept s st n text many c outcomes.Ended
  was_over h is serves =
      record {
        session = over h;
        replies = subst (λ (t : Session). IsReply s st.game st.layers t text ended_text (over h)) (sym is) (refl, refl);
        kept_on = λ k. subst (λ (t : Session). IsKeptPlay s st.rounds (play_of t)) is k;
        can_tell = tt;
        serves = serves;
      }

  module _ (h : Run) (b : Before) (m : Memory) (is : st.sessions n ≡ alive h b m) where
    goes_over : IsKeptPlay s st.rounds (play_of (st.sessions n)) → IsKeptPlay s st.rounds h
    goes_over k = subst (λ (t : Session). IsKeptPlay s st.rounds (play_of t)) is k

    -- no input reads
    pub turned_down : IsRefused (ReadsInput s) (Some text) → Serves kept many c s (with_session st n (over h)) → TakesTurn kept s st n text many c outcomes.Refused
    turned_down refused serves =
        record {
          session = over h;
          replies = subst (λ (t : Session). IsReply s st.game st.layers t text refused_text (over h)) (sym is) (inr (inl (record { refused = refused; told = refl; ends = refl })));
          kept_on = goes_over;
          can_tell = tt;
          serves = serves;
        }

    -- an input reads
    pub moved_on : (x : Assignment) → ReadsInput s text x → (outcome : Outcome) → MovesOn kept s st n h b m x many.output.items many c outcome → TakesTurn kept s st n text many c outcome
    moved_on x reads outcomes.Moved moves =
        let next = alive (after h x many.output.items) (Some (reached st.game b x many.output.items)) moves.next in
        record {
          session = next;
          replies =
              subst (λ (t : Session). IsReply s st.game st.layers t text (reply_of s.names (outputs_of s) outcomes.Moved many.output.items) next) (sym is)
              (inl (record { input = x; output = many.output.items; reads = reads; unbroken = moves.unbroken; memory = moves.next; chosen = moves.chosen; told = refl; goes_on = refl }));
          kept_on = λ _. moves.play;
          can_tell = moves.fits;
          serves = moves.serves;
        }
    moved_on x reads (outcomes.Broken label) moves =
        record {
          session = over h;
          replies =
              subst (λ (t : Session). IsReply s st.game st.layers t text (broken_text label) (over h)) (sym is)
              (inr (inr (record { input = x; label = label; reads = reads; broken = moves.broken; told = refl; ends = refl })));
          kept_on = goes_over;
          can_tell = tt;
          serves = moves.serves;
        }
    moved_on x reads outcomes.Refused moves = absurd moves
    moved_on x reads outcomes.Ended moves = absurd moves
