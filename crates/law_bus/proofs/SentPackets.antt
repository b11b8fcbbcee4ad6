-- The packets that were sent in a window are, by step and length, what its node sends in the slot on the bus; so it counts
-- as much.
use Rattle.std.proofs.Common.{◌≡◌, ◌≢◌, ℕ, ◌<◌, ◌≤◌, ◌==◌, List, [], ◌∷◌, Bool, true, false, if◌then◌else◌, Some, None, Option}
use Rattle.std.proofs.Common.{Contains, AllPairs, filter_map, map, option_map, is_some, length, refl, sym, ◌∙◌, ap, subst, arith}
use Rattle.std.specs.List.{last_or}
use Rattle.std.proofs.lemmas.List.{length-map}
use Rattle.std.proofs.lemmas.List.Elements.{Contains-get_or}
use Rattle.lwb_base.specs.Messages.{Plan}
use Rattle.glossy_relay.specs.Relaying.{counter_of}
use Rattle.bus_rules.specs.Charges.{charge as charge_of, last_if_all_sent}
use Rattle.bus_rules.specs.Slots.{Opened}
use Rattle.scenario_text.specs.ScenarioParts.{ScenarioParts}
use Rattle.scenario_text.specs.FloodDrafts.{Climbs}
use Rattle.radio_model.specs.declared.sending.Sending.{Sending}
use Rattle.lwb_base.proofs.Elements.{filter_from, in_filter}
use Rattle.air_log.specs.declared.entry.Entry.{Entry}
use Rattle.air_log.specs.Charges.{charge_of_window, charge_by_last, sent_in, sent_packets, step_and_length}
use Rattle.air_log.specs.NodeEvents.{Event, Heard, Ended, sending_of_event}
use Rattle.air_log.specs.WindowLogs.{WindowLog, Happening}
use Rattle.law_windows.specs.WindowEvents.{WindowHasEvents, happening_of}
use Rattle.law_windows.specs.WindowTimes.{IsOfSlot}
use Rattle.bus_terms.specs.Costs.{length_at, steps_sent_by, slot_window}
use Rattle.bus_terms.specs.Flooding.{moment, steps}
use Rattle.bus_terms.specs.Rounds.{Slot}
use Rattle.bus_terms.proofs.ListsInTurn.{given_in_turn, pairs_in_turn, range_in_turn}
use Rattle.lwb_flood.specs.FloodRun.{Run}
use Rattle.lwb_flood.specs.FloodBySteps.{IsFloodBySteps}
use Rattle.law_terms.specs.LawfulRuns.{IsLawfulRun}
use Rattle.bus_terms.specs.HostedRounds.{slot_in}
use Rattle.law_terms.specs.SlotLaws.{IsWindowOf}
use Rattle.law_terms.specs.SlotRuns.{IsRunOf}
use Rattle.law_bus.proofs.RunsOfLogs.{whole}
use Rattle.law_bus.proofs.AscendingLists.{same_ascending}
use Rattle.law_bus.proofs.SentBySteps.{IsSentHere, on_bus, sent_as, sent_once, step_of, all_steps, not_given}
use Rattle.law_bus.proofs.StepsInTurn.{lower_first}
use Rattle.lwb_base.proofs.NumbersOfRanges.{from_range, in_range}

-- of an own transmission that has ended
abbrev own_step : Event → Option (ℕ × ℕ)
own_step (Heard x) = None
own_step (Ended x) = Some (step_and_length x.packet)

packets_of : (es : List Event) → map step_and_length (filter_map sent_in (map happening_of es)) ≡ filter_map own_step es
packets_of [] = refl
packets_of (Heard x ∷ es) = packets_of es
packets_of (Ended x ∷ es) = ap (λ (l : List (ℕ × ℕ)). step_and_length x.packet ∷ l) (packets_of es)

-- the last of what a map gives
last_mapped : {X Y : Type 0} (g : X → Y) (o : Option X) (xs : List X) → option_map g (last_or o xs) ≡ last_or (option_map g o) (map g xs)
last_mapped g o [] = refl
last_mapped g o (x ∷ xs) = last_mapped g (Some x) xs

last_of_mapped : {X Y : Type 0} (g : X → Y) (n : ℕ) (xs : List X) → option_map g (last_if_all_sent n xs) ≡ last_if_all_sent n (map g xs)
last_of_mapped {X} {Y} g n xs =
    by_test (length xs == n) ∙ ap (λ (k : ℕ). if k == n then last_or None (map g xs) else None) (sym (length-map xs g))
  where
    by_test : (b : Bool) → option_map g (if b then last_or None xs else None) ≡ (if b then last_or None (map g xs) else None)
    by_test true = last_mapped g None xs
    by_test false = refl

is_given : (a b : ℕ × ℕ) → ◌≡◌ {A = Option (ℕ × ℕ)} (Some a) (Some b) → a ≡ b
is_given a b is = cc

module _ (s : ScenarioParts) (clocks : ℕ → ℕ → ℕ) (air : List Entry) (lawful : IsLawfulRun s clocks air) (rank f : ℕ) (p : Plan) (j : ℕ)
    (r : Run) (is : IsRunOf s clocks air rank f p j r) (by_steps : IsFloodBySteps r) (v : ℕ) where
  abbrev x : Slot
  x = slot_in s rank f p j

  abbrev given : ℕ → Option (ℕ × ℕ)
  given = on_bus s clocks air lawful rank f p j v

  abbrev SentHere : Sending → Type 0
  SentHere y = IsSentHere s clocks air lawful rank f p j v y

  abbrev Lower : ℕ × ℕ → ℕ × ℕ → Type 0
  Lower a b = a.0 < b.0

  -- on the bus, one step after another
  of_step : (k : ℕ) (a : ℕ × ℕ) → given k ≡ Some a → a.0 ≡ k
  of_step k a at = by_origin ((moment x.flood k).sends v) at
    where
      by_origin : (c : Option ℕ) → ◌≡◌ {A = Option (ℕ × ℕ)} (option_map (λ origin. (k, length_at x origin)) c) (Some a) → a.0 ≡ k
      by_origin None eq = absurd (not_given a eq)
      by_origin (Some o) eq = sym (ap (λ (b : ℕ × ℕ). b.0) (is_given (k, length_at x o) a eq))

  bus_ascends : Climbs Lower (steps_sent_by x v)
  bus_ascends =
      given_in_turn (λ k l. k < l) Lower given
      (λ k l less a b first second. let one = of_step k a first in let two = of_step l b second in omega (arith, less, one, two))
      steps (subst (Climbs (λ k l. k < l)) (sym all_steps) (range_in_turn 0 12))

  module _ (w : WindowLog) (here : IsWindowOf s clocks air rank f j v w) (has : WindowHasEvents s air v w) where
    of_slot : (y : Sending) → IsOfSlot s w y → Contains has.events (Ended y) → SentHere y
    of_slot y of_ there =
        let sent = (has.ended y).0 there in
        record {
          there = sent.0;
          node = sent.1;
          channel = sent.2.channel ∙ here.channel;
          frame = sent.2.frame ∙ here.frame;
          slot = sent.2.slot ∙ here.slot;
        }

    sent_here : (y : Sending) → Contains has.events (Ended y) → SentHere y
    sent_here y there = of_slot y ((has.ended y).0 there).2 there

    -- in the window, one step after another
    abbrev Follows : Event → Event → Type 0
    Follows d e = Contains has.events d × Contains has.events e × ((sending_of_event d).end ≤ (sending_of_event e).end) × (d ≢ e)

    in_turn : AllPairs Follows has.events
    in_turn k l d before within =
        let order = has.in_order k l d before within in
        (Contains-get_or has.events k d (omega (arith, before, within)), Contains-get_or has.events l d within, order.0, order.1)

    lower : (y z : Sending) → Follows (Ended y) (Ended z) → counter_of y.packet < counter_of z.packet
    lower y z (first, second, before, other) =
        let one = sent_here y first in
        let two = sent_here z second in
        lower_first s clocks air (whole s clocks air lawful) y z one.there two.there
        (record { channel = one.channel ∙ sym two.channel; frame = one.frame ∙ sym two.frame; slot = one.slot ∙ sym two.slot })
        (λ same. other (ap Ended (sent_once s clocks air lawful rank f p j r is by_steps v y z one two same))) before

    across : (d e : Event) → Follows d e → (a b : ℕ × ℕ) → own_step d ≡ Some a → own_step e ≡ Some b → a.0 < b.0
    across (Heard y) e follows a b first second = absurd (not_given a first)
    across (Ended y) (Heard z) follows a b first second = absurd (not_given b second)
    across (Ended y) (Ended z) follows a b first second =
        let less = lower y z follows in
        let one = ap (λ (c : ℕ × ℕ). c.0) (is_given (step_and_length y.packet) a first) in
        let two = ap (λ (c : ℕ × ℕ). c.0) (is_given (step_and_length z.packet) b second) in
        omega (arith, less, one, two)

    window_ascends : Climbs Lower (filter_map own_step has.events)
    window_ascends = given_in_turn Follows Lower own_step across has.events (pairs_in_turn Follows has.events in_turn)

    -- the same on both sides
    on_the_bus : (a : ℕ × ℕ) → Contains (filter_map own_step has.events) a → Contains (steps_sent_by x v) a
    on_the_bus a within =
        let found = filter_from own_step has.events a within in
        by_event found.0 found.1 found.2
      where
        by_event : (e : Event) → Contains has.events e → own_step e ≡ Some a → Contains (steps_sent_by x v) a
        by_event (Heard y) there at = absurd (not_given a at)
        by_event (Ended y) there at =
            let step = step_of s clocks air lawful rank f p j r is by_steps v y (sent_here y there) in
            let few = step.few in
            in_filter given steps (counter_of y.packet) a
            (subst (λ (l : List ℕ). Contains l (counter_of y.packet)) (sym all_steps)
            (in_range 0 12 (counter_of y.packet) (omega arith) (omega (arith, few))))
            (step.on_the_bus ∙ at)

    in_the_window : (a : ℕ × ℕ) → Contains (steps_sent_by x v) a → Contains (filter_map own_step has.events) a
    in_the_window a within =
        let found = filter_from given steps a within in
        let k = found.0 in
        let range = from_range 0 12 k (subst (λ (l : List ℕ). Contains l k) all_steps found.1) in
        let sent = sent_as s clocks air lawful rank f p j r is by_steps v k a (omega (arith, range)) found.2 in
        let y = sent.sending in
        in_filter own_step has.events (Ended y) a
        ((has.ended y).1 (
          sent.here.there,
          sent.here.node,
          record {
            channel = sent.here.channel ∙ sym here.channel;
            frame = sent.here.frame ∙ sym here.frame;
            slot = sent.here.slot ∙ sym here.slot;
          },
        ))
        (ap (λ (b : ℕ × ℕ). Some b) sent.same)

    pub packets_same : map step_and_length (sent_packets w) ≡ steps_sent_by x v
    packets_same =
        ap (λ (hs : List Happening). map step_and_length (filter_map sent_in hs)) (sym has.happened)
        ∙ packets_of has.events
        ∙ same_ascending (λ (a : ℕ × ℕ). a.0) (filter_map own_step has.events) (steps_sent_by x v) window_ascends bus_ascends on_the_bus in_the_window

    -- where it has opened by its alarm, and is one of the bus
    pub charge_same : w.by_alarm ≡ true → (o : Opened) → x.window v ≡ Some o → charge_of_window s w ≡ slot_window s.profile x v
    charge_same alarm o window =
        ap (λ (b : Bool). if b then charge_by_last s.profile (last_if_all_sent s.sends (sent_packets w)) else 0) alarm
        ∙ ap (λ (c : Option (ℕ × ℕ)). charge_of s.profile c) (last_of_mapped step_and_length s.sends (sent_packets w))
        ∙ ap (λ (l : List (ℕ × ℕ)). charge_of s.profile (last_if_all_sent s.sends l)) packets_same
        ∙ sym (ap (λ (c : Option Opened). if is_some c then charge_of s.profile (last_if_all_sent x.flood.limit (steps_sent_by x v)) else 0) window)
