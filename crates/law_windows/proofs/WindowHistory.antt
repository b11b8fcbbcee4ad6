-- What happened in each window is on the air, in its frame and on its channel.
use Rattle.std.proofs.Common.{◌≡◌, ℕ, zero, suc, ◌/◌, ◌<◌, ◌≤◌, inl, inr, List, [], ◌∷◌, ◌++◌, Some, None, Option, Contains, AllPairs, length, get_or, refl}
use Rattle.std.proofs.Common.{sym, ◌∙◌, ap, subst, arith}
use Rattle.std.specs.Option.{IfSome}
use Rattle.std.proofs.lemmas.List.Elements.{Contains-push_cases}
use Rattle.std.proofs.lemmas.List.Quantifiers.{all_pairs_push}
use Rattle.node_core.specs.declared.stage.Stage.{Stage}
use Rattle.node_core.specs.declared.stage.Stage.TheVariants.{InWindow}
use Rattle.node_core.specs.Windows.{Window}
use Rattle.node_core.specs.Nodes.{Node}
use Rattle.scenario_text.specs.ScenarioParts.{ScenarioParts}
use Rattle.radio_model.specs.declared.sending.Sending.{Sending}
use Rattle.radio_model.specs.Hearing.{frame_of_sending}
use Rattle.air_log.specs.declared.entry.Entry.{Entry}
use Rattle.air_log.specs.Entries.{sendings_of}
use Rattle.air_log.specs.Devices.{Device, PowerOn}
use Rattle.air_log.specs.Lawful.{heard_by}
use Rattle.scenario_text.specs.Setups.{setup_of}
use Rattle.air_log.specs.WindowLogs.{WindowLog, Happening, HeardAt, SentAt, Closing}
use Rattle.lwb_base.proofs.Elements.{not_in_none}
use Rattle.air_log.proofs.KeptByEvents.{in_hearings}
use Rattle.air_log.proofs.OwnSendings.{IsOwn, SendsOwn, own_heard}
use Rattle.air_log.proofs.TrailSendings.{kept_sent}
use Rattle.law_trails.specs.Phases.{Hearings, End, device_at}
use Rattle.law_trails.specs.TrailLinks.{device_in}
use Rattle.law_trails.proofs.SentInTrails.{sent_below}
use Rattle.law_safety.specs.CountedFrames.{IsResting}
use Rattle.law_safety.specs.OrderedSendings.{HasSending}
use Rattle.law_safety.specs.NodesInOrder.{IsOn, InOpenWindow, WindowAt}
use Rattle.law_safety.specs.FloodSendings.{IsOfFlood}
use Rattle.law_safety.specs.Rows.{IsFine, AtTick}
use Rattle.law_safety.proofs.RunFacts.{frame_is}
use Rattle.law_safety.proofs.FloodTimes.{after_frame_start, before_frame_end}
use Rattle.law_safety.proofs.HeardPlaces.{frame_now}
use Rattle.law_windows.specs.OpenWindows.{IsOpenWindow}
use Rattle.law_windows.specs.WindowHistory.{tick_of_happening, SentThen, WasThen, HasHappened}
use Rattle.law_windows.specs.WindowSteps.{KeepsWindows, joined_log}
use Rattle.law_windows.specs.WindowTimes.{IsOfSlot}
use Rattle.law_windows.proofs.OwnSchedules.{own_channel}
use Rattle.law_windows.proofs.TimedWindows.{frame, rank}
use Rattle.law_windows.proofs.WindowWalk.{on_in}

-- by their ticks
abbrev InTurn : List Happening → Type 0
InTurn es = AllPairs (λ (d e : Happening). tick_of_happening d ≤ tick_of_happening e) es

at_place : (es : List Happening) (k : ℕ) (d e : Happening) → k < length es → get_or es k e ≡ get_or es k d
at_place [] k d e less = absurd (omega arith)
at_place (x ∷ es) zero d e less = refl
at_place (x ∷ es) (suc k) d e less = at_place es k d e (omega arith)

turn_pushed : (es : List Happening) (e : Happening) → InTurn es → ((d : Happening) → Contains es d → tick_of_happening d ≤ tick_of_happening e)
    → InTurn (es ++ e ∷ [])
turn_pushed es e turn last = all_pairs_push (λ (d e : Happening). tick_of_happening d ≤ tick_of_happening e) es e turn
    (λ k d less. last (get_or es k d) (k, less, at_place es k d (get_or es k d) less))

no_turn : InTurn []
no_turn i j d before within = absurd (omega (arith, within))

module _ (s : ScenarioParts) (clocks : ℕ → ℕ → ℕ) (air : List Entry) (v : ℕ) where
  -- all of it lies before the present tick, or is of it
  pub record IsHistory (now : ℕ) (w : WindowLog) : Type 0 where
    pub happened : HasHappened s air v w
    pub past : (e : Happening) → Contains w.happenings e → tick_of_happening e ≤ now
    pub opened : w.opened ≤ now

  module _ (w : WindowLog) (happenings : List Happening) (last : Window) (closed : Option Closing) where
    abbrev later : WindowLog
    later = record w { happenings = happenings; last = last; closed = closed }

    was_still : (e : Happening) → WasThen s air v w e → WasThen s air v later e
    was_still (HeardAt t p) is = record { heard = is.heard; there = is.there; channel = is.channel; frame = is.frame; end = is.end; packet_is = is.packet_is }
    was_still (SentAt t p) is = record {
      sent = is.sent;
      there = is.there;
      node = is.node;
      of_slot = record { channel = is.of_slot.channel; frame = is.of_slot.frame; slot = is.of_slot.slot };
      end = is.end;
      packet_is = is.packet_is;
    }

  -- something more happens now
  happens : (now : ℕ) (w : WindowLog) (e : Happening) (last : Window) → w.closed ≡ None → IsHistory now w → tick_of_happening e ≡ now → WasThen s air v w e
      → IsHistory now (record w { happenings = w.happenings ++ e ∷ []; last = last })
  happens now w e last open_ known at was = record {
    happened = record {
      then_ = λ d there. was_still w (w.happenings ++ e ∷ []) last w.closed d (elim (Contains-push_cases w.happenings e d there) [
        | inl old ↦ known.happened.then_ d old
        | inr same ↦ subst (WasThen s air v w) same was
      ]);
      since = λ d there. elim (Contains-push_cases w.happenings e d there) [
        | inl old ↦ known.happened.since d old
        | inr same ↦ (let begun = known.opened in omega (arith, begun, at, ap tick_of_happening same))
      ];
      until =
          subst (λ (c : Option Closing). IfSome c (λ c. (d : Happening) → Contains (w.happenings ++ e ∷ []) d → tick_of_happening d ≤ c.tick)) (sym open_) tt;
      in_turn = turn_pushed w.happenings e known.happened.in_turn (λ d old. (let before = known.past d old in omega (arith, before, at)));
    };
    past = λ d there. elim (Contains-push_cases w.happenings e d there) [
      | inl old ↦ known.past d old
      | inr same ↦ omega (arith, at, ap tick_of_happening same)
    ];
    opened = known.opened;
  }

  module _ (t : ℕ) (at : AtTick s clocks air v t) where
    -- a window in which nothing happened yet
    nothing : (w : WindowLog) → w.happenings ≡ [] → w.opened ≡ t → w.closed ≡ None → IsHistory t w
    nothing w none opened open_ =
        let never : (e : Happening) → Contains w.happenings e → ⊥ = λ e there. not_in_none e (subst (λ (es : List Happening). Contains es e) none there) in
        record {
          happened = record {
            then_ = λ e there. absurd (never e there);
            since = λ e there. absurd (never e there);
            until = subst (λ (c : Option Closing). IfSome c (λ c. (d : Happening) → Contains w.happenings d → tick_of_happening d ≤ c.tick)) (sym open_) tt;
            in_turn = subst InTurn (sym none) no_turn;
          };
          past = λ e there. absurd (never e there);
          opened = omega (arith, opened);
        }

    -- what has been sent at the end of receptions was sent before the tick
    sent_at_end : (d : Device) → d ≡ device_at s v (clocks v) (heard_by air v) t End → d.made.sent ≡ (device_in s clocks air v t).made.sent
    sent_at_end d enters =
        let before = device_in s clocks air v t in
        ap (λ (e : Device). e.made.sent) enters
        ∙ in_hearings (λ (e : Device). e.made.sent ≡ before.made.sent) s v (clocks v) (heard_by air v) t before
        (kept_sent (λ (xs : List Sending). xs ≡ before.made.sent) (clocks v) (setup_of s v) t) refl

    -- the transmission that ends is of the window
    module _ (d : Device) (y : Sending) (n : Node) (j : ℕ) (w : Window) (x : WindowLog) (fine : IsFine s clocks air v t End d)
        (enters : d ≡ device_at s v (clocks v) (heard_by air v) t End) (own : d.sending ≡ Some y) (ends : y.end ≡ t)
        (on : d.power ≡ PowerOn n) (stage : n.stage ≡ InWindow j w) (is : IsOpenWindow n j w x) where
      pub made : Contains d.made.sent y
      made =
          let owns : SendsOwn d = subst SendsOwn (sym enters) (own_heard s v (clocks v) (heard_by air v) t) in
          subst (λ (o : Option Sending). IsOwn o d.made.sent) own owns

      pub in_air : Contains (sendings_of air) y × (y.node ≡ v)
      in_air =
          let in_run = at.in_run in
          let below = (sent_below s clocks air at.run.heedful.trails v at.known t (omega (arith, in_run)) y).1
          (subst (λ (xs : List Sending). Contains xs y) (sent_at_end d enters) made) in
          (below.there, below.node)

      node_on : IsOn s clocks air v t (suc t) d n
      node_on = on_in s clocks air v t End d n fine on

      window : InOpenWindow s clocks air v (suc t) n d j w
      window = subst (λ (st : Stage). WindowAt s clocks air v (suc t) n d st) stage node_on.window

      running : HasSending s clocks air v n j y
      running = subst (λ (o : Option Sending). IfSome o (HasSending s clocks air v n j)) own window.sending

      in_frame : frame_of_sending s.profile y ≡ x.frame
      in_frame =
          let flood : IsOfFlood s clocks air y = fine.sent y made in
          let early = fine.before y made in
          let from = after_frame_start s clocks air at.run y flood in_air.0 in
          let until = before_frame_end s clocks air at.run y flood in_air.0 in
          let true_frame : t / s.profile.frame ≡ frame_of_sending s.profile y =
          frame_is s (frame_of_sending s.profile y) t (omega (arith, from, early)) (omega (arith, until, ends)) in
          let counted : n.frame ≡ t / s.profile.frame = elim node_on.frame.at [
            | inl now ↦ now
            | inr over ↦ absurd (subst IsResting stage over.rests)
          ] in
          sym true_frame ∙ sym counted ∙ sym is.frame

      pub own_of_slot : IsOfSlot s x y
      own_of_slot = record { channel = running.rank ∙ sym is.rank; frame = in_frame; slot = running.slot ∙ sym is.slot }

      was_sent : SentThen s air v x t y.packet
      was_sent = record {
        sent = y;
        there = in_air.0;
        node = in_air.1;
        of_slot = own_of_slot;
        end = ends;
        packet_is = refl;
      }

    pub history_steps : KeepsWindows s clocks air v (λ now taken w. IsHistory now w) t
    history_steps = record {
      begun = λ d n j fine due on stage. nothing _ refl refl refl;
      joined = λ d h n y fine next now on stage says of_rank.
          (let first : WindowLog = record (joined_log (setup_of s v) t (clocks v t) n h.packet y) { happenings = [] } in
          happens t first (HeardAt t h.packet) first.last refl (nothing first refl refl refl) refl (record {
            heard = now.sending;
            there = now.there;
            channel = rank s clocks air v t at d h n y fine next now on stage says;
            frame = now.frame ∙ sym (frame s clocks air v t at d h n y fine next now on stage says);
            end = now.end;
            packet_is = sym now.packet;
          }));
      heard = λ d h n j w x here next now on stage is in_it known.
          (let node = on_in s clocks air v t Hearings d n here.holds on in
          happens t x (HeardAt t h.packet) _ is.open_ known refl (record {
            heard = now.sending;
            there = now.there;
            channel = own_channel s clocks air v t h d now n j w node stage ∙ sym is.rank;
            frame = now.frame ∙ sym (frame_now s clocks air v t h d now n node) ∙ sym is.frame;
            end = now.end;
            packet_is = sym now.packet;
          }));
      taken = λ d fine is before now x there. now.each x there;
      sent = λ d y n j w x fine enters own ends on stage waiting is in_it known.
          happens t x (SentAt t y.packet) _ is.open_ known refl (was_sent d y n j w x fine enters own ends on stage is);
      closed = λ d n j w x fine due on stage is known. record {
        happened = record {
          then_ = λ e there. was_still x x.happenings x.last _ e (known.happened.then_ e there);
          since = known.happened.since;
          until = known.past;
          in_turn = known.happened.in_turn;
        };
        past = known.past;
        opened = known.opened;
      };
      passed = λ x known. record {
        happened = known.happened;
        past = λ e there. (let before = known.past e there in omega (arith, before));
        opened = (let begun = known.opened in omega (arith, begun));
      };
    }
