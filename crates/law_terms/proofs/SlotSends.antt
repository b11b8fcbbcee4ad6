-- Of a run of a slot: who sends in a step of the bus's flood, and who accepts, is who does so on the air.
use Rattle.std.proofs.Common.{◌≡◌, ℕ, ◌≤◌, ◌↔◌, true, Some, refl, ap, sym, ◌∙◌, subst, slice_index, slice_set, List, [], ◌∷◌, Option, None, false, Bool}
use Rattle.std.proofs.Common.{is_some}
use Rattle.lwb_base.specs.Messages.{Plan}
use Rattle.scenario_text.specs.ScenarioParts.{ScenarioParts}
use Rattle.bus_rules.specs.Slots.{Message, ScheduleOf, DataOf, RequestOf}
use Rattle.std.proofs.lemmas.Bool.{cond_both}
use Rattle.glossy_relay.specs.FloodState.{FloodState}
use Rattle.glossy_relay.specs.Relaying.{accepted_of, after_heard, after_sent, fits}
use Rattle.air_log.specs.NodeEvents.{Event, Heard, Ended, flood_after_events}
use Rattle.bus_terms.specs.Flooding.{Setting, Sends, Accepts, has}
use Rattle.lwb_member.specs.Said.{bytes_of}
use Rattle.air_log.specs.declared.entry.Entry.{Entry}
use Rattle.lwb_flood.specs.FloodRun.{Run, initiates, packet, flood_at_beginning}
use Rattle.lwb_flood.specs.FloodBySteps.{IsFloodBySteps, SendsOnAir, flood_at_end}
use Rattle.bus_terms.specs.HostedRounds.{slot_in}
use Rattle.law_terms.specs.SlotLaws.{Says, IsSending, IsAcceptance}
use Rattle.law_terms.specs.SlotRuns.{IsRunOf}

-- the slot byte of a message's packet
slot_said : (m : Message) (j k : ℕ) → slice_index (slice_set (bytes_of m j) 2 k) 1 ≡ j
slot_said (ScheduleOf x) j k = refl
slot_said (DataOf d) j k = refl
slot_said (RequestOf a) j k = refl

-- events leave an initiator one
kept : (t : FloodState) (es : List Event) → (flood_after_events t es).initiated ≡ t.initiated
kept t [] = refl
kept t (Heard x ∷ es) = kept (after_heard t x.packet) es
    ∙ cond_both (fits t x.packet) _ _ (λ (u : FloodState). u.initiated ≡ t.initiated) (λ p. refl) (λ p. refl)
kept t (Ended x ∷ es) = kept (after_sent t) es

none_accepted : (t : FloodState) → t.initiated ≡ true → accepted_of t ≡ None
none_accepted t is = rw is refl

-- who has accepted is no initiator
pub listener : (r : Run) (v : ℕ) (a : List ℕ × ℕ) → accepted_of (flood_at_end r v) ≡ Some a → has r.setting.initiators v ≡ false
listener r v a is = by_start (has r.setting.initiators v) refl
  where
    by_start : (b : Bool) → has r.setting.initiators v ≡ b → b ≡ false
    by_start false e = refl
    by_start true e =
        let apart : ◌≡◌ {A = Option (List ℕ × ℕ)} None (Some a) =
        sym (none_accepted (flood_at_end r v) (kept (flood_at_beginning r v) (r.events v) ∙ e)) ∙ is in
        cc

module _ (s : ScenarioParts) (clocks : ℕ → ℕ → ℕ) (air : List Entry) (rank f : ℕ) (p : Plan) (j : ℕ) (r : Run)
    (run : IsRunOf s clocks air rank f p j r) (steps : IsFloodBySteps r) (v k o : ℕ) (m : Message) (says : Says s rank f p j o m) (few : k ≤ 11) where
  starts : initiates r o
  starts = subst (λ (x : Setting). has x.initiators o ≡ true) (sym run.setting) says.0

  on_air : SendsOnAir r v k o → IsSending s air rank f j v k m
  on_air a =
      let here = (run.sendings a.sending).0 a.sent in
      record {
        sending = a.sending;
        there = here.0;
        node = a.node;
        channel = here.1;
        frame = here.2;
        packet = a.packet ∙ ap (λ q. slice_set q 2 k) (run.message o m says);
      }

  in_run : IsSending s air rank f j v k m → SendsOnAir r v k o
  in_run x = record {
    sending = x.sending;
    sent = (run.sendings x.sending).1 (x.there, x.channel, x.frame, ap (λ q. slice_index q 1) x.packet ∙ slot_said m j k);
    node = x.node;
    packet = x.packet ∙ ap (λ q. slice_set q 2 k) (sym (run.message o m says));
  }

  pub sends_same : Sends (slot_in s rank f p j).flood v k o ↔ IsSending s air rank f j v k m
  sends_same =
      subst
      (λ (x : Setting). Sends x v k o ↔ IsSending s air rank f j v k m)
      run.setting
      ((λ h. on_air ((steps.sends v k o starts few).1 h)), (λ x. (steps.sends v k o starts few).0 (in_run x)))

  abbrev with_counter : List ℕ → Option (List ℕ × ℕ)
  with_counter q = Some (slice_set q 2 k, k)

  accepted_on_air : Accepts r.setting v o k → IsAcceptance s clocks air rank f j v k m
  accepted_on_air h =
      let is = (steps.accepts v k o h.here h.listens starts).1 h in
      let c = run.closes v h.here (ap is_some is) in
      record {
        window = c.window;
        here = c.here;
        closed = c.closed;
        accepted = ap accepted_of (sym (run.flood v c.window c.here c.closed)) ∙ is ∙ ap with_counter (run.message o m says);
      }

  accepted_in_run : IsAcceptance s clocks air rank f j v k m → Accepts r.setting v o k
  accepted_in_run a =
      let is : accepted_of (flood_at_end r v) ≡ Some (packet r o k, k) = ap accepted_of (run.flood v a.window a.here a.closed) ∙ a.accepted
      ∙ ap with_counter (sym (run.message o m says)) in
      (steps.accepts v k o (run.part v a.window a.here) (listener r v (packet r o k, k) is) starts).0 is

  pub accepts_same : Accepts (slot_in s rank f p j).flood v o k ↔ IsAcceptance s clocks air rank f j v k m
  accepts_same =
      subst (λ (x : Setting). Accepts x v o k ↔ IsAcceptance s clocks air rank f j v k m) run.setting (accepted_on_air, accepted_in_run)
