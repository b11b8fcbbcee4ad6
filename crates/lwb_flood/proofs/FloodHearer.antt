-- The node that receives a transmission stays one of the flood so far.
use Rattle.std.proofs.Common.{◌≡◌, ◌≢◌, ℕ, ◌+◌, ◌*◌, ◌<◌, ◌≤◌, List, [], ◌∷◌, ◌++◌, true, false, not, nat_lt, inl, inr, refl, sym, ◌∙◌, ap, subst, arith}
use Rattle.std.proofs.Common.{length}
use Rattle.std.specs.Prelude.{Contains}
use Rattle.std.proofs.lemmas.Bool.{cases_Bool, ltb-true}
use Rattle.std.proofs.lemmas.List.{append-nil}
use Rattle.std.proofs.lemmas.List.Elements.{Contains-push, Contains-push_cases}
use Rattle.tick_clock.specs.Clocks.{Near, due}
use Rattle.tick_clock.proofs.DueTicks.{turn}
use Rattle.glossy_relay.specs.FloodState.{FloodState}
use Rattle.glossy_relay.specs.Relaying.{fits, counter_of, relay_of, after_heard, reply_to}
use Rattle.glossy_relay.specs.declared.flood.Reply.{Reply}
use Rattle.glossy_relay.specs.declared.flood.Reply.TheVariants.{Relay, Keep, Ignore}
use Rattle.scenario_text.specs.FloodParts.{FloodParts}
use Rattle.radio_model.specs.declared.sending.Sending.{Sending}
use Rattle.radio_model.specs.OnAir.{Hearing}
use Rattle.air_log.specs.Entries.{HasHeardEntry}
use Rattle.air_log.specs.NodeEvents.{Event, Heard, sending_of_event, EventsInOrder, flood_after_events, EventOccasion, event_occasions}
use Rattle.air_log.specs.FloodLaw.{first_flood}
use Rattle.lwb_flood.specs.declared.member.Act.{Act}
use Rattle.lwb_flood.specs.declared.member.Act.TheVariants.{Listens, Waits}
use Rattle.lwb_flood.specs.declared.member.Member.{Member}
use Rattle.lwb_flood.specs.FloodWorlds.{World, act_by, hearing_by, world_after_reception}
use Rattle.lwb_flood.proofs.EventOrder.{after_all_append}
use Rattle.lwb_flood.proofs.EventsInLog.{heard_event}
use Rattle.lwb_flood.proofs.FloodReplies.{fitting, ignored, left_as, taken_as, relays, keeps}
use Rattle.lwb_flood.proofs.FloodSoFar.{events_in, running, tuned_by, sending_by, InStep, HasCause, Stands, IsAnswered, IsMember}
use Rattle.lwb_flood.proofs.HearingKept.{heard_in_range, stands_on}
use Rattle.lwb_flood.proofs.HearingLogged.{Receives, ends_more, listens, unmoved, just, sent_on, idle}
use Rattle.lwb_flood.proofs.WorldLists.{events_heard_own, occasion_more, occasion_kept, occasion_cases, in_order_push}
use Rattle.lwb_flood.specs.TwoNodes.{packet_of}

module _ {f : FloodParts} {clocks : ℕ → ℕ → ℕ} {v : ℕ} {x : Sending} {todo : List Hearing} {leaving : List ℕ} {w : World}
    (g : Receives f clocks v x todo leaving w) where
  abbrev next : World
  next = world_after_reception (clocks v) x v w

  -- the node that receives
  module _ (m : Member) (there : Contains w.members m) (at : m.node ≡ v) where
    old : IsMember f clocks leaving w m
    old = g.so.each m there

    abbrev first : FloodState
    first = first_flood f m.node

    abbrev more : List Event
    more = old.past ++ Heard x ∷ []

    past_is : events_in w.air m.node ≡ old.past
    past_is = old.happened ∙ ap (λ (l : List Event). old.past ++ l) (idle g m there at) ∙ append-nil old.past

    more_is : events_in next.air m.node ≡ more
    more_is = events_heard_own w.air v x m.node (sym at) ∙ ap (λ (l : List Event). l ++ Heard x ∷ []) past_is

    past_ordered : EventsInOrder old.past
    past_ordered = subst (λ (l : List Event). EventsInOrder l) (ap (λ (l : List Event). old.past ++ l) (idle g m there at) ∙ append-nil old.past) old.in_order

    not_twice : (d : Event) → Contains old.past d → d ≢ Heard x
    not_twice d in_past same =
        (just g).new (subst (λ (u : ℕ). HasHeardEntry w.air u x) at
        (heard_event w.air m.node x
        (subst (λ (l : List Event). Contains l (Heard x)) (sym past_is) (subst (λ (e : Event). Contains old.past e) same in_past))))

    more_ordered : EventsInOrder more
    more_ordered = in_order_push old.past (Heard x) past_ordered
        (λ d in_past. (let by = old.over d in_past in let now : x.end ≡ w.medium.now = (just g).now in omega arith, not_twice d in_past))

    more_over : (e : Event) → Contains more e → (sending_of_event e).end ≤ w.medium.now
    more_over e in_more =
        elim (Contains-push_cases old.past (Heard x) e in_more) [
          | inl earlier ↦ old.over e earlier
          | inr is ↦ subst (λ (d : Event). (sending_of_event d).end ≤ w.medium.now) is (let now : x.end ≡ w.medium.now = (just g).now in omega arith)
        ]

    more_kept : (o : EventOccasion) → Contains (event_occasions first old.past) o → Contains (event_occasions first more) o
    more_kept o known = occasion_kept first old.past (Heard x ∷ []) o known

    flood_more : after_heard m.flood x.packet ≡ flood_after_events first more
    flood_more = ap (λ (s : FloodState). after_heard s x.packet) old.flood ∙ sym (after_all_append first old.past (Heard x ∷ []))

    -- what the flood answered to what was received now
    answer_now : (h : Sending) (s : FloodState) → ◌≡◌ {A = EventOccasion} (record { before = flood_after_events first old.past; event = Heard x })
        (record { before = s; event = Heard h }) → (m.flood ≡ s) × (x ≡ h)
    answer_now h s same = (old.flood ∙ ap (λ (o : EventOccasion). o.before) same, heard_same x h (ap (λ (o : EventOccasion). o.event) same))
      where
        heard_same : (y z : Sending) → Heard y ≡ Heard z → y ≡ z
        heard_same y z is = cc

    reply_now : (h : Sending) (s : FloodState) (r : Reply)
        → ◌≡◌ {A = EventOccasion} (record { before = flood_after_events first old.past; event = Heard x }) (record { before = s; event = Heard h })
        → reply_to s h.packet ≡ r → reply_to m.flood x.packet ≡ r
    reply_now h s r same answer =
        let now = answer_now h s same in ap (λ (t : FloodState). reply_to t x.packet) now.0 ∙ ap (λ (y : Sending). reply_to s y.packet) now.1 ∙ answer

    -- it has nothing to answer
    stays : fits m.flood x.packet ≡ false → IsMember f clocks leaving next m
    stays not = record {
      known = old.known;
      station = old.station;
      found = old.found;
      tuned = old.tuned;
      sends = old.sends;
      past = more;
      happened = more_is ∙ sym (ap (λ (l : List Event). more ++ l) (idle g m there at) ∙ append-nil more);
      in_order = subst (λ (l : List Event). EventsInOrder l) (sym (ap (λ (l : List Event). more ++ l) (idle g m there at) ∙ append-nil more)) more_ordered;
      over = more_over;
      flood = sym (left_as m.flood x.packet not) ∙ flood_more;
      stands = stands_on g m old.past more more_kept
          (ends_more g old.past) m.act old.stands;
      answered = λ h s p occasion answer. elim (occasion_cases first old.past (Heard x) (record { before = s; event = Heard h }) occasion) [
        | inl earlier ↦ elim (old.answered h s p earlier answer) [ inl sent ↦ inl (sent_on g _ sent) | inr waits ↦ inr waits ]
        | inr now ↦ absurd (no_relay p (sym (ignored m.flood x.packet not) ∙ reply_now h s (Relay p) now answer))
      ];
    }
      where
        no_relay : (p : List ℕ) → Ignore ≡ Relay p → ⊥
        no_relay p same = cc

    abbrev after_it : Member
    after_it = hearing_by (clocks v) x m

    -- what a listener does next
    module _ (act : m.act ≡ Listens) (next_act : Act) (is_next : after_it.act ≡ next_act) (no_run : running next_act ≡ [])
        (tuned : tuned_by next_act ≡ tuned_by Listens) (none : sending_by next_act ≡ sending_by Listens)
        (stands : Stands f clocks next leaving more after_it next_act)
        (answers : (p : List ℕ) → reply_to m.flood x.packet ≡ Relay p → next_act ≡ Waits (due (clocks m.node) (clocks m.node x.end + 12288)) p) where
      no_more : more ++ running after_it.act ≡ more
      no_more = ap (λ (a : Act). more ++ running a) is_next ∙ ap (λ (l : List Event). more ++ l) no_run ∙ append-nil more

      answered : IsAnswered f (clocks m.node) next more after_it
      answered h s p occasion answer =
          elim (occasion_cases first old.past (Heard x) (record { before = s; event = Heard h }) occasion) [
            | inl earlier ↦ elim (old.answered h s p earlier answer) [
              | inl sent ↦ inl (sent_on g _ sent)
              | inr waits ↦ absurd (not_waiting _ p (sym act ∙ waits))
            ]
            | inr now ↦ inr (is_next ∙ answers p (reply_now h s (Relay p) now answer)
                ∙ ap (λ (y : Sending). Waits (due (clocks m.node) (clocks m.node y.end + 12288)) p) (answer_now h s now).1)
          ]
        where
          not_waiting : (t : ℕ) (q : List ℕ) → Listens ≡ Waits t q → ⊥
          not_waiting t q same = cc

      turns_to : IsMember f clocks leaving next after_it
      turns_to = record {
        known = old.known;
        station = old.station;
        found = old.found;
        tuned = old.tuned ∙ ap tuned_by act ∙ sym tuned ∙ sym (ap tuned_by is_next);
        sends = old.sends ∙ ap sending_by act ∙ sym none ∙ sym (ap sending_by is_next);
        past = more;
        happened = more_is ∙ sym no_more;
        in_order = subst (λ (l : List Event). EventsInOrder l) (sym no_more) more_ordered;
        over = more_over;
        flood = flood_more;
        stands = subst (λ (a : Act). Stands f clocks next leaving more after_it a) (sym is_next) stands;
        answered = answered;
      }

    -- the flood takes it
    module _ (fit : fits m.flood x.packet ≡ true) where
      act : m.act ≡ Listens
      act = listens g m there fit

      ready : (m.flood.sent < m.flood.limit) × (m.flood.waiting ≡ false)
      ready = fitting m.flood x.packet fit

      still_left : after_it.flood.sent < after_it.flood.limit
      still_left = subst (λ (s : FloodState). s.sent < s.limit) (sym (taken_as m.flood x.packet fit)) ready.0

      waiting_is : after_it.flood.waiting ≡ nat_lt (counter_of x.packet) 11
      waiting_is = ap (λ (s : FloodState). s.waiting) (taken_as m.flood x.packet fit)

      -- it was the last step
      keeping : nat_lt (counter_of x.packet) 11 ≡ false → IsMember f clocks leaving next after_it
      keeping last =
          turns_to act Listens (ap (λ (r : Reply). act_by (clocks v) x.end r m.act) (keeps m.flood x.packet fit last) ∙ act) refl refl refl
          (record { waits = waiting_is ∙ last; left = inl still_left })
          (λ p answer. absurd (no_relay p (sym (keeps m.flood x.packet fit last) ∙ answer)))
        where
          no_relay : (p : List ℕ) → Keep ≡ Relay p → ⊥
          no_relay p same = cc

      -- it relays
      abbrev packet : List ℕ
      packet = relay_of x.packet

      abbrev tick : ℕ
      tick = due (clocks m.node) (clocks m.node x.end + 12288)

      turned : Near tick (x.end + 12288) 1
      turned = turn (clocks m.node) 12288 x.end (g.has.drift m.node old.known) (omega arith) (omega arith)
          (heard_in_range g)

      step_now : InStep f x.start x.packet
      step_now = (g.so.sent x (just g).sent).step

      counter_now : counter_of x.packet ≡ step_now.step
      counter_now = ap counter_of step_now.is

      packet_is : packet ≡ packet_of f.start (step_now.step + 1)
      packet_is = ap relay_of step_now.is

      lasted : x.end ≡ x.start + 32768
      lasted =
          let last : x.end ≡ x.start + (length x.packet + 8) * 2048 = ap (λ (z : Sending). z.end) (g.so.sent x (just g).sent).lasts in
          let size : length x.packet ≡ 8 = ap (λ (p : List ℕ). length p) step_now.is in
          omega (arith, last, size)

      next_step : nat_lt (counter_of x.packet) 11 ≡ true → InStep f tick packet
      next_step less =
          let few : counter_of x.packet < 11 = ltb-true (counter_of x.packet) 11 less in
          let near : Near x.start (1344064000 + step_now.step * 45056) step_now.step = step_now.near in
          record {
            step = step_now.step + 1;
            small = omega (arith, few, counter_now);
            is = packet_is;
            near = omega (arith, turned, near, lasted);
          }

      answers_now : nat_lt (counter_of x.packet) 11 ≡ true → HasCause f (clocks m.node) m.node more tick packet
      answers_now less = inr (record {
        heard = x;
        flood = m.flood;
        occasion =
            subst (λ (l : List EventOccasion). Contains l (record { before = m.flood; event = Heard x })) (sym (occasion_more first old.past (Heard x)))
            (subst (λ (s : FloodState). Contains (event_occasions first old.past ++ record { before = flood_after_events first old.past; event = Heard x } ∷ [])
            (record { before = s; event = Heard x })) (sym old.flood)
            (Contains-push (event_occasions first old.past) (record { before = flood_after_events first old.past; event = Heard x })));
        answer = relays m.flood x.packet fit less;
        start = refl;
        later = (let raised : counter_of packet ≡ step_now.step + 1 = ap counter_of packet_is in omega (arith, raised));
      })

      relaying : nat_lt (counter_of x.packet) 11 ≡ true → IsMember f clocks leaving next after_it
      relaying less =
          turns_to act (Waits tick packet)
          (ap (λ (r : Reply). act_by (clocks v) x.end r m.act) (relays m.flood x.packet fit less)
          ∙ ap (λ (u : ℕ). Waits (due (clocks u) (clocks u x.end + 12288)) packet) (sym at))
          refl refl refl
          (record {
            waits = waiting_is ∙ less;
            left = still_left;
            later = (let by = turned in let now : x.end ≡ w.medium.now = (just g).now in omega arith);
            step = next_step less;
            cause = answers_now less;
          })
          (λ p answer. ap (λ (q : List ℕ). Waits tick q) (same_packet packet p (sym (relays m.flood x.packet fit less) ∙ answer)))
        where
          same_packet : (p q : List ℕ) → Relay p ≡ Relay q → p ≡ q
          same_packet p q same = cc

      taking : IsMember f clocks leaving next after_it
      taking = elim (cases_Bool (nat_lt (counter_of x.packet) 11)) [ inl less ↦ relaying less | inr last ↦ keeping last ]

    pub here : IsMember f clocks leaving next after_it
    here =
        elim (cases_Bool (fits m.flood x.packet)) [
          | inl fit ↦ taking fit
          | inr not ↦ subst (λ (n : Member). IsMember f clocks leaving next n) (sym (unmoved g m not)) (stays not)
        ]
