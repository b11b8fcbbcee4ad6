-- What a window has called for it has called for, whatever happens in it since.
use Rattle.std.proofs.Common.{◌≡◌, ℕ, ◌+◌, ◌⊎◌, inl, inr, List, [], ◌∷◌, ◌++◌, Some, None, Option, Contains, fold, sym, ◌∙◌, ap, subst}
use Rattle.std.specs.Option.{IfSome}
use Rattle.std.proofs.lemmas.List.{append_assoc}
use Rattle.std.proofs.lemmas.List.Elements.{Contains-append_left}
use Rattle.tick_clock.specs.Clocks.{due}
use Rattle.glossy_relay.specs.FloodState.{FloodState}
use Rattle.glossy_relay.specs.Relaying.{reply_to}
use Rattle.glossy_relay.specs.declared.flood.Reply.TheVariants.{Relay}
use Rattle.node_core.specs.Windows.{Window}
use Rattle.scenario_text.specs.ScenarioParts.{ScenarioParts}
use Rattle.radio_model.specs.declared.sending.Sending.{Sending}
use Rattle.air_log.specs.Devices.{OrderedPacket}
use Rattle.scenario_text.specs.Setups.{setup_of}
use Rattle.air_log.specs.WindowLogs.{WindowLog, Happening, HeardAt, SentAt, Closing}
use Rattle.lwb_base.proofs.Elements.{contains_head, contains_tail, contains_cases}
use Rattle.law_windows.specs.WindowFloods.{flood_at_first, after_happening}
use Rattle.law_windows.specs.WindowTimes.{IsOfSlot}
use Rattle.law_windows.specs.WindowCalls.{BeginsIn, CallsFor, IsCalled, HasEnded, IsOrderedIn, IsSent}
use Rattle.law_windows.proofs.ListEnds.{where_in}
use Rattle.law_windows.proofs.WindowFloods.{first_same}

module _ (s : ScenarioParts) (clocks : ℕ → ℕ → ℕ) (v : ℕ) where
  abbrev Calls : WindowLog → ℕ → List ℕ → Type 0
  Calls w tick packet = CallsFor s clocks v w tick packet

  -- a relay of what is received now
  pub record NewRelay (w : WindowLog) (e : Happening) (tick : ℕ) (packet : List ℕ) : Type 0 where
    pub until : ℕ
    pub heard : List ℕ
    pub is : e ≡ HeardAt until heard
    pub answer : reply_to (fold after_happening (flood_at_first (setup_of s v) w.by_alarm w) w.happenings) heard ≡ Relay packet
    pub at : tick ≡ due (clocks v) (clocks v until + s.profile.turn)

  module _ (x : WindowLog) (happenings : List Happening) (last : Window) (closed : Option Closing) where
    abbrev pub later : WindowLog
    later = record x { happenings = happenings; last = last; closed = closed }

    pub slot_still : (y : Sending) → IsOfSlot s x y → IsOfSlot s later y
    slot_still y is = record { channel = is.channel; frame = is.frame; slot = is.slot }

    pub sent_still : (sent : List Sending) (tick : ℕ) (packet : List ℕ) → IsSent s clocks v sent x tick packet → IsSent s clocks v sent later tick packet
    sent_still sent tick packet is = record {
      sending = is.sending;
      there = is.there;
      of_slot = slot_still is.sending is.of_slot;
      start = is.start;
      packet_is = is.packet_is;
    }

    begins_still : (tick : ℕ) (packet : List ℕ) → BeginsIn s clocks v x tick packet → BeginsIn s clocks v later tick packet
    begins_still tick packet is = record { by_alarm = is.by_alarm; message = is.message; said = is.said; packet_is = is.packet_is; at = is.at }

    begins_before : (tick : ℕ) (packet : List ℕ) → BeginsIn s clocks v later tick packet → BeginsIn s clocks v x tick packet
    begins_before tick packet is = record { by_alarm = is.by_alarm; message = is.message; said = is.said; packet_is = is.packet_is; at = is.at }

    flood_still : (es : List Happening) → fold after_happening (flood_at_first (setup_of s v) x.by_alarm later) es ≡ fold after_happening
        (flood_at_first (setup_of s v) x.by_alarm x) es
    flood_still es = ap (λ (f : FloodState). fold after_happening f es) (first_same (setup_of s v) x.by_alarm x happenings last closed)

    -- and it calls for nothing new but where something was received
    module _ (more : List Happening) (is : happenings ≡ x.happenings ++ more) where
      pub calls_still : (tick : ℕ) (packet : List ℕ) → Calls x tick packet → Calls later tick packet
      calls_still tick packet (inl begins) = inl (begins_still tick packet begins)
      calls_still tick packet (inr relays) = inr (record {
        earlier = relays.earlier;
        until = relays.until;
        heard = relays.heard;
        later = relays.later ++ more;
        is = is ∙ ap (λ (l : List Happening). l ++ more) relays.is ∙ append_assoc relays.earlier (HeardAt relays.until relays.heard ∷ relays.later) more;
        answer = ap (λ (f : FloodState). reply_to f relays.heard) (flood_still relays.earlier) ∙ relays.answer;
        at = relays.at;
      })

      module _ (earlier : List WindowLog) where
        pub called_on : (y : Sending) → IsCalled s clocks v (x ∷ earlier) y → IsCalled s clocks v (later ∷ earlier) y
        called_on y c = elim (contains_cases x earlier c.window c.there) [
          | inl same ↦ record {
            window = later;
            there = contains_head later earlier;
            of_slot = slot_still y (subst (λ (w : WindowLog). IsOfSlot s w y) (sym same) c.of_slot);
            call = calls_still y.start y.packet (subst (λ (w : WindowLog). Calls w y.start y.packet) (sym same) c.call);
          }
          | inr old ↦ record { window = c.window; there = contains_tail later earlier c.window old; of_slot = c.of_slot; call = c.call }
        ]

        pub ended_on : (y : Sending) → HasEnded s clocks v (x ∷ earlier) y → HasEnded s clocks v (later ∷ earlier) y
        ended_on y e = elim (contains_cases x earlier e.window e.there) [
          | inl same ↦ record {
            window = later;
            there = contains_head later earlier;
            of_slot = slot_still y (subst (λ (w : WindowLog). IsOfSlot s w y) (sym same) e.of_slot);
            event = subst (λ (l : List Happening). Contains l (SentAt y.end y.packet)) (sym is)
                (Contains-append_left x.happenings more (SentAt y.end y.packet)
                (subst (λ (w : WindowLog). Contains w.happenings (SentAt y.end y.packet)) (sym same) e.event));
          }
          | inr old ↦ record { window = e.window; there = contains_tail later earlier e.window old; of_slot = e.of_slot; event = e.event }
        ]

        -- while it stays open
        pub ordered_on : closed ≡ None → (o : Option OrderedPacket) → IfSome o (IsOrderedIn s clocks v (x ∷ earlier))
            → IfSome o (IsOrderedIn s clocks v (later ∷ earlier))
        ordered_on none None is_for = tt
        ordered_on none (Some o) is_for = elim (contains_cases x earlier is_for.window is_for.there) [
          | inl same ↦ record {
            window = later;
            there = contains_head later earlier;
            open_ = none;
            call = calls_still o.tick o.packet (subst (λ (w : WindowLog). Calls w o.tick o.packet) (sym same) is_for.call);
          }
          | inr old ↦ record { window = is_for.window; there = contains_tail later earlier is_for.window old; open_ = is_for.open_; call = is_for.call }
        ]

    pub calls_before : happenings ≡ x.happenings → (tick : ℕ) (packet : List ℕ) → Calls later tick packet → Calls x tick packet
    calls_before same tick packet (inl begins) = inl (begins_before tick packet begins)
    calls_before same tick packet (inr relays) = inr (record {
      earlier = relays.earlier;
      until = relays.until;
      heard = relays.heard;
      later = relays.later;
      is = sym same ∙ relays.is;
      answer = ap (λ (f : FloodState). reply_to f relays.heard) (sym (flood_still relays.earlier)) ∙ relays.answer;
      at = relays.at;
    })

    pub new_calls : (e : Happening) → happenings ≡ x.happenings ++ e ∷ [] → (tick : ℕ) (packet : List ℕ) → Calls later tick packet
        → Calls x tick packet ⊎ NewRelay x e tick packet
    new_calls e more tick packet (inl begins) = inl (inl (begins_before tick packet begins))
    new_calls e more tick packet (inr relays) =
        let answer = ap (λ (f : FloodState). reply_to f relays.heard) (sym (flood_still relays.earlier)) ∙ relays.answer in
        elim (where_in x.happenings e (HeardAt relays.until relays.heard) relays.earlier relays.later (sym more ∙ relays.is)) [
          | inl within ↦ inl (inr (record {
            earlier = relays.earlier;
            until = relays.until;
            heard = relays.heard;
            later = within.rest;
            is = within.is;
            answer = answer;
            at = relays.at;
          }))
          | inr end ↦ inr (record {
            until = relays.until;
            heard = relays.heard;
            is = sym end.same;
            answer = ap (λ (es : List Happening). reply_to (fold after_happening (flood_at_first (setup_of s v) x.by_alarm x) es) relays.heard)
                (sym end.before_is) ∙ answer;
            at = relays.at;
          })
        ]
