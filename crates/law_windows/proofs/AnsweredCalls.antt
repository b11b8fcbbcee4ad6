-- What one step makes of the calls of a node's windows, over plain lists.
use Rattle.std.proofs.Common.{◌≡◌, ℕ, ◌+◌, ◌⊎◌, inl, inr, List, [], ◌∷◌, ◌++◌, true, Some, None, Option, is_some, Contains, fold, refl, sym, ◌∙◌, ap, subst}
use Rattle.std.specs.Option.{IfSome}
use Rattle.std.proofs.lemmas.List.{append-nil}
use Rattle.std.proofs.lemmas.List.Elements.{Contains-append_left, Contains-append_right, Contains-push_cases}
use Rattle.tick_clock.specs.Clocks.{due}
use Rattle.glossy_relay.specs.FloodState.{FloodState}
use Rattle.glossy_relay.specs.Relaying.{reply_to}
use Rattle.glossy_relay.specs.declared.flood.Reply.{Reply}
use Rattle.glossy_relay.specs.declared.flood.Reply.TheVariants.{Relay}
use Rattle.node_core.specs.Windows.{Window}
use Rattle.scenario_text.specs.ScenarioParts.{ScenarioParts}
use Rattle.radio_model.specs.declared.sending.Sending.{Sending}
use Rattle.air_log.specs.Devices.{OrderedPacket}
use Rattle.scenario_text.specs.Setups.{setup_of}
use Rattle.air_log.specs.WindowLogs.{WindowLog, Happening, HeardAt, SentAt, Closing}
use Rattle.lwb_base.proofs.Elements.{contains_head, contains_tail, contains_cases}
use Rattle.lwb_base.proofs.Options.{none_not_some}
use Rattle.law_windows.specs.OpenWindows.{AreClosed}
use Rattle.law_windows.specs.WindowFloods.{flood_at_first, after_happening}
use Rattle.law_windows.specs.WindowTimes.{IsOfSlot}
use Rattle.law_windows.specs.WindowCalls.{CallsFor, IsCalled, HasEnded, IsOrderedIn, IsSent, IsStillOrdered, SendsAsCalled}
use Rattle.law_windows.proofs.WindowFloods.{first_same}
use Rattle.law_windows.proofs.KeptCalls.{NewRelay, slot_still, sent_still, called_on, ended_on, ordered_on, calls_before, new_calls}

pub none_some : {A : Type 0} (o : Option A) (a : A) → o ≡ None → o ≡ Some a → ⊥
none_some o a none some = cc

-- what an order says
abbrev order_tick : Option OrderedPacket → ℕ
order_tick None = 0
order_tick (Some o) = o.tick

abbrev order_packet : Option OrderedPacket → List ℕ
order_packet None = []
order_packet (Some o) = o.packet

module _ (s : ScenarioParts) (clocks : ℕ → ℕ → ℕ) (v : ℕ) where
  abbrev R : List WindowLog → Option OrderedPacket → Option Sending → List Sending → Type 0
  R logs o x sent = SendsAsCalled s clocks v logs o x sent

  abbrev Calls : WindowLog → ℕ → List ℕ → Type 0
  Calls w tick packet = CallsFor s clocks v w tick packet

  abbrev Answered : List Sending → Option OrderedPacket → WindowLog → ℕ → List ℕ → Type 0
  Answered sent o w tick packet = IsSent s clocks v sent w tick packet ⊎ IsStillOrdered s clocks v o w tick packet

  -- a window that has closed has what it called for
  sent_by_closed : (logs : List WindowLog) (o : Option OrderedPacket) (x : Option Sending) (sent : List Sending) → R logs o x sent
      → (w : WindowLog) (tick : ℕ) (packet : List ℕ)
      → Contains logs w → is_some w.closed ≡ true → Calls w tick packet → IsSent s clocks v sent w tick packet
  sent_by_closed logs o x sent has w tick packet there closed call = elim (has.answered w tick packet there call) [
    | inl is ↦ is
    | inr still ↦ absurd (none_not_some w.closed still.open_ closed)
  ]

  -- ---- a window more

  module _ (logs : List WindowLog) (x : WindowLog) where
    called_more : (y : Sending) → IsCalled s clocks v logs y → IsCalled s clocks v (x ∷ logs) y
    called_more y c = record { window = c.window; there = contains_tail x logs c.window c.there; of_slot = c.of_slot; call = c.call }

    ended_more : (y : Sending) → HasEnded s clocks v logs y → HasEnded s clocks v (x ∷ logs) y
    ended_more y e = record { window = e.window; there = contains_tail x logs e.window e.there; of_slot = e.of_slot; event = e.event }

    -- which may call for what is ordered now
    pub opens_with : (o : Option OrderedPacket) (running : Option Sending) (sent : List Sending) → R logs None running sent → AreClosed logs
        → IfSome o (λ p. (x.closed ≡ None) × Calls x p.tick p.packet)
        → ((tick : ℕ) (packet : List ℕ) → Calls x tick packet → IsStillOrdered s clocks v o x tick packet)
        → R (x ∷ logs) o running sent
    opens_with o running sent has closed orders calls = record {
      called = λ y there. called_more y (has.called y there);
      answered = λ w tick packet there call. elim (contains_cases x logs w there) [
        | inl same ↦ inr (subst (λ (z : WindowLog). IsStillOrdered s clocks v o z tick packet) same
            (calls tick packet (subst (λ (z : WindowLog). Calls z tick packet) (sym same) call)))
        | inr old ↦ inl (sent_by_closed logs None running sent has w tick packet old (closed w old) call)
      ];
      ordered_for = by_order o orders;
      ended = λ y there. elim (has.ended y there) [ inl runs ↦ inl runs | inr e ↦ inr (ended_more y e) ];
    }
      where
        by_order : (o : Option OrderedPacket) → IfSome o (λ p. (x.closed ≡ None) × Calls x p.tick p.packet) → IfSome o (IsOrderedIn s clocks v (x ∷ logs))
        by_order None is = tt
        by_order (Some p) is = record { window = x; there = contains_head x logs; open_ = is.0; call = is.1 }

  -- ---- the open window goes on

  module _ (x : WindowLog) (earlier : List WindowLog) (o : Option OrderedPacket) (running : Option Sending) (sent : List Sending)
      (has : R (x ∷ earlier) o running sent) (open_ : x.closed ≡ None) (closed : AreClosed earlier) where
    old_answered : (w : WindowLog) (tick : ℕ) (packet : List ℕ) → Contains earlier w → Calls w tick packet → IsSent s clocks v sent w tick packet
    old_answered w tick packet old call = sent_by_closed (x ∷ earlier) o running sent has w tick packet (contains_tail x earlier w old) (closed w old) call

    -- something is received in it
    module _ (t : ℕ) (p : List ℕ) (last : Window) where
      abbrev hears : WindowLog
      hears = record x { happenings = x.happenings ++ HeardAt t p ∷ []; last = last }

      abbrev flood : FloodState
      flood = fold after_happening (flood_at_first (setup_of s v) x.by_alarm x) x.happenings

      heard_with : (o' : Option OrderedPacket) → IfSome o' (IsOrderedIn s clocks v (hears ∷ earlier))
          → ((tick : ℕ) (packet : List ℕ) → Calls x tick packet → Answered sent o' hears tick packet)
          → ((tick : ℕ) (packet : List ℕ) → NewRelay s clocks v x (HeardAt t p) tick packet → Answered sent o' hears tick packet)
          → R (hears ∷ earlier) o' running sent
      heard_with o' orders old new = record {
        called = λ y there. called_on s clocks v x hears.happenings last x.closed (HeardAt t p ∷ []) refl earlier y (has.called y there);
        answered = λ w tick packet there call. elim (contains_cases hears earlier w there) [
          | inl same ↦ subst (λ (z : WindowLog). Answered sent o' z tick packet) same
              (elim (new_calls s clocks v x hears.happenings last x.closed (HeardAt t p) refl tick packet
              (subst (λ (z : WindowLog). Calls z tick packet) (sym same) call)) [
                | inl before ↦ old tick packet before
                | inr relay ↦ new tick packet relay
              ])
          | inr before ↦ inl (old_answered w tick packet before call)
        ];
        ordered_for = orders;
        ended = λ y there. elim (has.ended y there) [
          | inl runs ↦ inl runs
          | inr e ↦ inr (ended_on s clocks v x hears.happenings last x.closed (HeardAt t p ∷ []) refl earlier y e)
        ];
      }

      -- and is not relayed
      pub heard_only : (reply : Reply) → reply_to flood p ≡ reply → ((q : List ℕ) → reply ≡ Relay q → ⊥) → R (hears ∷ earlier) o running sent
      heard_only reply is none = heard_with o
          (ordered_on s clocks v x hears.happenings last x.closed (HeardAt t p ∷ []) refl earlier open_ o has.ordered_for)
          (λ tick packet call. elim (has.answered x tick packet (contains_head x earlier) call) [
            | inl before ↦ inl (sent_still s clocks v x hears.happenings last x.closed sent tick packet before)
            | inr still ↦ inr (record { open_ = still.open_; is = still.is })
          ])
          (λ tick packet relay. absurd (none packet (sym is ∙ ap (reply_to flood) (packet_same relay.until relay.heard relay.is) ∙ relay.answer)))
        where
          packet_same : (until : ℕ) (heard : List ℕ) → HeardAt t p ≡ HeardAt until heard → p ≡ heard
          packet_same until heard same = cc

      -- or is
      pub heard_relayed : (q : List ℕ) → reply_to flood p ≡ Relay q → o ≡ None → (tick : ℕ) → tick ≡ due (clocks v) (clocks v t + s.profile.turn)
          → R (hears ∷ earlier) (Some (record { tick = tick; packet = q })) running sent
      heard_relayed q is none tick at = heard_with (Some (record { tick = tick; packet = q }))
          (record {
            window = hears;
            there = contains_head hears earlier;
            open_ = open_;
            call = inr (record {
              earlier = x.happenings;
              until = t;
              heard = p;
              later = [];
              is = refl;
              answer = ap (λ (f : FloodState). reply_to f p) (flood_same x.happenings) ∙ is;
              at = at;
            });
          })
          (λ old packet call. elim (has.answered x old packet (contains_head x earlier) call) [
            | inl before ↦ inl (sent_still s clocks v x hears.happenings last x.closed sent old packet before)
            | inr still ↦ absurd (none_some o (record { tick = old; packet = packet }) none still.is)
          ])
          (λ other packet relay. inr (record { open_ = open_; is = same_order other packet relay }))
        where
          flood_same : (es : List Happening) → fold after_happening (flood_at_first (setup_of s v) x.by_alarm hears) es ≡ fold after_happening
              (flood_at_first (setup_of s v) x.by_alarm x) es
          flood_same es = ap (λ (f : FloodState). fold after_happening f es) (first_same (setup_of s v) x.by_alarm x hears.happenings last x.closed)

          same_order : (other : ℕ) (packet : List ℕ) → NewRelay s clocks v x (HeardAt t p) other packet
              → ◌≡◌ {A = Option OrderedPacket} (Some (record { tick = tick; packet = q })) (Some (record { tick = other; packet = packet }))
          same_order other packet relay =
              let same : HeardAt t p ≡ HeardAt relay.until relay.heard = relay.is in
              let until : t ≡ relay.until = cc in
              let heard : p ≡ relay.heard = cc in
              let answer : Relay q ≡ Relay packet = sym is ∙ ap (reply_to flood) heard ∙ relay.answer in
              let packets : q ≡ packet = cc in
              ap (λ (k : ℕ). Some (record { tick = k; packet = q })) (at ∙ ap (λ (e : ℕ). due (clocks v) (clocks v e + s.profile.turn)) until ∙ sym relay.at)
              ∙ ap (λ (r : List ℕ). Some (record { tick = other; packet = r })) packets

    -- an own transmission has ended in it
    pub sending_ends : (t : ℕ) (y : Sending) (last : Window) → running ≡ Some y → y.end ≡ t → IsOfSlot s x y
        → R (record x { happenings = x.happenings ++ SentAt t y.packet ∷ []; last = last } ∷ earlier) o None sent
    sending_ends t y last runs ends of_slot = record {
      called = λ z there. called_on s clocks v x sends.happenings last x.closed (SentAt t y.packet ∷ []) refl earlier z (has.called z there);
      answered = λ w tick packet there call. elim (contains_cases sends earlier w there) [
        | inl same ↦ subst (λ (z : WindowLog). Answered sent o z tick packet) same
            (elim (new_calls s clocks v x sends.happenings last x.closed (SentAt t y.packet) refl tick packet
            (subst (λ (z : WindowLog). Calls z tick packet) (sym same) call)) [
              | inl before ↦ elim (has.answered x tick packet (contains_head x earlier) before) [
                | inl is ↦ inl (sent_still s clocks v x sends.happenings last x.closed sent tick packet is)
                | inr still ↦ inr (record { open_ = still.open_; is = still.is })
              ]
              | inr relay ↦ absurd (not_heard relay.until relay.heard relay.is)
            ])
        | inr before ↦ inl (old_answered w tick packet before call)
      ];
      ordered_for = ordered_on s clocks v x sends.happenings last x.closed (SentAt t y.packet ∷ []) refl earlier open_ o has.ordered_for;
      ended = λ z there. elim (has.ended z there) [
        | inl is ↦ inr (subst (HasEnded s clocks v (sends ∷ earlier)) (own z is) (record {
          window = sends;
          there = contains_head sends earlier;
          of_slot = slot_still s clocks v x sends.happenings last x.closed y of_slot;
          event = subst (λ (k : ℕ). Contains (x.happenings ++ SentAt t y.packet ∷ []) (SentAt k y.packet)) (sym ends)
              (Contains-append_right x.happenings (SentAt t y.packet ∷ []) (SentAt t y.packet) (contains_head (SentAt t y.packet) []));
        }))
        | inr e ↦ inr (ended_on s clocks v x sends.happenings last x.closed (SentAt t y.packet ∷ []) refl earlier z e)
      ];
    }
      where
        sends : WindowLog
        sends = record x { happenings = x.happenings ++ SentAt t y.packet ∷ []; last = last }

        not_heard : (until : ℕ) (heard : List ℕ) → SentAt t y.packet ≡ HeardAt until heard → ⊥
        not_heard until heard is = cc

        own : (z : Sending) → running ≡ Some z → y ≡ z
        own z is = let same : Some y ≡ Some z = sym runs ∙ is in cc

    -- it closes, nothing being ordered any more
    pub closes : (c : Closing) → o ≡ None → R (record x { closed = Some c } ∷ earlier) o running sent
    closes c none = record {
      called = λ z there. called_on s clocks v x x.happenings x.last (Some c) [] (sym (append-nil x.happenings)) earlier z (has.called z there);
      answered = λ w tick packet there call. elim (contains_cases shut earlier w there) [
        | inl same ↦ subst (λ (z : WindowLog). Answered sent o z tick packet) same
            (elim (has.answered x tick packet (contains_head x earlier)
            (calls_before s clocks v x x.happenings x.last (Some c) refl tick packet (subst (λ (z : WindowLog). Calls z tick packet) (sym same) call))) [
              | inl is ↦ inl (sent_still s clocks v x x.happenings x.last (Some c) sent tick packet is)
              | inr still ↦ absurd (none_some o (record { tick = tick; packet = packet }) none still.is)
            ])
        | inr before ↦ inl (old_answered w tick packet before call)
      ];
      ordered_for = subst (λ (p : Option OrderedPacket). IfSome p (IsOrderedIn s clocks v (shut ∷ earlier))) (sym none) tt;
      ended = λ z there. elim (has.ended z there) [
        | inl is ↦ inl is
        | inr e ↦ inr (ended_on s clocks v x x.happenings x.last (Some c) [] (sym (append-nil x.happenings)) earlier z e)
      ];
    }
      where
        shut : WindowLog
        shut = record x { closed = Some c }

    -- what is ordered starts
    pub starts : (y : Sending) → o ≡ Some (record { tick = y.start; packet = y.packet }) → running ≡ None → IsOfSlot s x y
        → R (x ∷ earlier) None (Some y) (sent ++ y ∷ [])
    starts y ordered free of_slot = record {
      called = λ z there. elim (Contains-push_cases sent y z there) [
        | inl before ↦ has.called z before
        | inr same ↦ subst (IsCalled s clocks v (x ∷ earlier)) same (by_order o ordered has.ordered_for)
      ];
      answered = λ w tick packet there call. elim (has.answered w tick packet there call) [
        | inl is ↦ inl (record {
          sending = is.sending;
          there = Contains-append_left sent (y ∷ []) is.sending is.there;
          of_slot = is.of_slot;
          start = is.start;
          packet_is = is.packet_is;
        })
        | inr still ↦ inl (now_sent w tick packet there still)
      ];
      ordered_for = tt;
      ended = λ z there. elim (Contains-push_cases sent y z there) [
        | inl before ↦ elim (has.ended z before) [
          | inl is ↦ absurd (none_some running z free is)
          | inr e ↦ inr e
        ]
        | inr same ↦ inl (ap (λ (u : Sending). Some u) same)
      ];
    }
      where
        -- the window that is open is this one
        is_this : (w : WindowLog) → Contains (x ∷ earlier) w → w.closed ≡ None → x ≡ w
        is_this w there not_closed = elim (contains_cases x earlier w there) [
          | inl same ↦ same
          | inr old ↦ absurd (none_not_some w.closed not_closed (closed w old))
        ]

        by_order : (p : Option OrderedPacket) → p ≡ Some (record { tick = y.start; packet = y.packet }) → IfSome p (IsOrderedIn s clocks v (x ∷ earlier))
            → IsCalled s clocks v (x ∷ earlier) y
        by_order None is for_none = absurd cc
        by_order (Some p) is for_this =
            let tick : p.tick ≡ y.start = ap order_tick is in
            let packet : p.packet ≡ y.packet = ap order_packet is in
            record {
              window = for_this.window;
              there = for_this.there;
              of_slot = subst (λ (w : WindowLog). IsOfSlot s w y) (is_this for_this.window for_this.there for_this.open_) of_slot;
              call = subst (λ (k : ℕ). Calls for_this.window k y.packet) tick (subst (λ (q : List ℕ). Calls for_this.window p.tick q) packet for_this.call);
            }

        now_sent : (w : WindowLog) (tick : ℕ) (packet : List ℕ) → Contains (x ∷ earlier) w → IsStillOrdered s clocks v o w tick packet
            → IsSent s clocks v (sent ++ y ∷ []) w tick packet
        now_sent w tick packet there still =
            let same : Some (record { tick = y.start; packet = y.packet }) ≡ Some (record { tick = tick; packet = packet }) = sym ordered ∙ still.is in
            record {
              sending = y;
              there = Contains-append_right sent (y ∷ []) y (contains_head y []);
              of_slot = subst (λ (u : WindowLog). IsOfSlot s u y) (is_this w there still.open_) of_slot;
              start = ap order_tick same;
              packet_is = ap order_packet same;
            }
