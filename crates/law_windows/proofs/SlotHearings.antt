-- Whatever a node receives in the slot of a window ends after the opening, or is the schedule by which the window opens.
use Rattle.std.proofs.Common.{◌≡◌, ℕ, ◌<◌, ◌≤◌, ◌⊎◌, inl, inr, List, Bool, true, false, Some, Contains, refl, sym, ◌∙◌, ap, subst, arith}
use Rattle.std.specs.Prelude.{slice_index, slice_set}
use Rattle.std.proofs.lemmas.Bool.{cases_lt}
use Rattle.std.proofs.lemmas.List.{set-set}
use Rattle.lwb_base.specs.Messages.{Schedule, Ask}
use Rattle.lwb_packets.specs.Body.{body}
use Rattle.glossy_relay.proofs.CountedPackets.{set_same}
use Rattle.bus_rules.specs.Slots.{ScheduleOf, RequestOf}
use Rattle.lwb_member.specs.Said.{message_of}
use Rattle.scenario_text.specs.ScenarioParts.{ScenarioParts}
use Rattle.scenario_text.specs.FloodParts.{knows}
use Rattle.radio_model.specs.declared.sending.Sending.{Sending}
use Rattle.radio_model.specs.Hearing.{Meets, counter_of_sending}
use Rattle.air_log.specs.declared.entry.Entry.{Entry}
use Rattle.air_log.specs.Entries.{sendings_of, HasHeardEntry}
use Rattle.air_log.specs.Safe.{SameSlot, SameStep}
use Rattle.air_log.specs.Trails.{run_end}
use Rattle.air_log.specs.WindowLogs.{WindowLog, Happening, HeardAt}
use Rattle.law_trails.specs.TrailLinks.{device_in}
use Rattle.law_trails.proofs.SentInTrails.{takes_time}
use Rattle.law_safety.specs.Invariant.{IsObedientRun}
use Rattle.law_safety.proofs.InvariantHolds.{ends_in_order}
use Rattle.law_safety.specs.Endings.{EndsInOrder}
use Rattle.law_safety.proofs.FloodPackets.{one_flood_says, says_as_origin}
use Rattle.law_safety.proofs.RunSendings.{of_flood}
use Rattle.law_safety.proofs.SafeSteps.{no_overlap}
use Rattle.law_windows.specs.WindowHistory.{HeardThen}
use Rattle.law_windows.specs.WindowRows.{OpensBy, OpensByHearing}
use Rattle.law_windows.specs.WindowTimes.{IsOfSlot}
use Rattle.law_windows.proofs.ScannerWalk.{scanners_join_first}
use Rattle.law_windows.proofs.WindowFacts.{open_by_rows, history_on_air, slot_covered}

no_request : (y : Schedule) (a : Ask) → Some (ScheduleOf y) ≡ Some (RequestOf a) → ⊥
no_request y a same = absurd cc

module _ (s : ScenarioParts) (clocks : ℕ → ℕ → ℕ) (air : List Entry) (run : IsObedientRun s clocks air) (v : ℕ) (known : knows s.nodes v ≡ true)
    (w : WindowLog) (there : Contains (device_in s clocks air v (run_end s)).made.windows w) where
  within : run_end s ≤ run_end s
  within = omega arith

  whole : EndsInOrder s clocks air
  whole = ends_in_order s clocks air run

  module _ (scans : w.by_alarm ≡ false) where
    opens : OpensByHearing s clocks v w
    opens = subst (λ (b : Bool). OpensBy s clocks v b w) scans (open_by_rows s clocks air run v known (run_end s) within w there).by

    -- the schedule by which the window of a scanning node opens
    was : HeardThen s air v w w.opened opens.packet
    was = (history_on_air s clocks air run v known (run_end s) within w there).then_ (HeardAt w.opened opens.packet) opens.happened

    sent : Contains (sendings_of air) was.heard
    sent = (run.heedful.heard v was.heard was.there).sent

    says : message_of was.heard.packet ≡ Some (ScheduleOf opens.schedule)
    says = ap (λ (p : List ℕ). message_of p) was.packet_is ∙ opens.says

    same_slot : (x : Sending) → IsOfSlot s w x → SameSlot s.profile x was.heard
    same_slot x is = record {
      channel = is.channel ∙ sym was.channel;
      frame = is.frame ∙ sym was.frame;
      slot = is.slot ∙ sym opens.in_slot ∙ sym (ap (λ (p : List ℕ). slice_index p 1) was.packet_is);
    }

    -- all that is sent in its slot is of one flood with it
    one_origin : (x : Sending) (mine : Contains (sendings_of air) x) → IsOfSlot s w x
        → (of_flood s clocks air whole x mine).origin ≡ (of_flood s clocks air whole was.heard sent).origin
    one_origin x mine of_slot =
        elim (one_flood_says s clocks air whole x was.heard (of_flood s clocks air whole x mine) (of_flood s clocks air whole was.heard sent)
        (same_slot x of_slot)) [
          | inl one ↦ one
          | inr both ↦ absurd (no_request opens.schedule both.1.0 (sym says ∙ both.1.1))
        ]

    says_same : (x : Sending) → Contains (sendings_of air) x → IsOfSlot s w x → message_of x.packet ≡ Some (ScheduleOf opens.schedule)
    says_same x mine of_slot =
        says_as_origin s clocks air x (of_flood s clocks air whole x mine)
        ∙ ap (λ (o : Sending). message_of o.packet) (one_origin x mine of_slot)
        ∙ sym (says_as_origin s clocks air was.heard (of_flood s clocks air whole was.heard sent)) ∙ says

    same_body : (x : Sending) → Contains (sendings_of air) x → IsOfSlot s w x → body x.packet ≡ body was.heard.packet
    same_body x mine of_slot =
        (of_flood s clocks air whole x mine).same
        ∙ ap (λ (o : Sending). body o.packet) (one_origin x mine of_slot)
        ∙ sym (of_flood s clocks air whole was.heard sent).same

    -- the scanning node received nothing of it before
    none_before : (x : Sending) → HasHeardEntry air v x → IsOfSlot s w x → w.opened ≤ x.end
    none_before x is of_slot = elim (cases_lt x.end w.opened) [
      | inl before ↦ absurd (scanners_join_first s clocks air run v known (run_end s) within w there scans x opens.schedule is of_slot.frame before
          (says_same x (run.heedful.heard v x is).sent of_slot) opens.of_rank)
      | inr since ↦ since
    ]

    -- and as the window opens it receives this one alone
    as_it_opens : (x : Sending) → HasHeardEntry air v x → IsOfSlot s w x → x.end ≡ w.opened → Contains w.happenings (HeardAt x.end x.packet)
    as_it_opens x is of_slot now =
        let mine = (run.heedful.heard v x is).sent in
        let meets : Meets x was.heard = (
        let ends = was.end in let one = takes_time s clocks air run.heedful.trails run.driven.sound x mine in
        let other = takes_time s clocks air run.heedful.trails run.driven.sound was.heard sent in
        record { before = omega (arith, ends, now, one); after = omega (arith, ends, now, other) }
        ) in
        let step : SameStep s.profile x was.heard = no_overlap s clocks air whole x was.heard mine sent (of_slot.channel ∙ sym was.channel) meets in
        let packet : x.packet ≡ was.heard.packet =
        sym (set_same x.packet (counter_of_sending x) refl)
        ∙ sym (set_set x.packet (counter_of_sending x))
        ∙ ap (λ (p : List ℕ). slice_set p 2 (counter_of_sending x)) (same_body x mine of_slot)
        ∙ set_set was.heard.packet (counter_of_sending x)
        ∙ set_same was.heard.packet (counter_of_sending x) (sym step.counter) in
        subst (λ (e : Happening). Contains w.happenings e)
        (sym (ap (λ (k : ℕ). HeardAt k x.packet) now ∙ ap (λ (p : List ℕ). HeardAt w.opened p) (packet ∙ was.packet_is))) opens.happened
      where
        set_set : (p : List ℕ) (k : ℕ) → slice_set (body p) 2 k ≡ slice_set p 2 k
        set_set p k = set-set p 2 0 k

  pub since_or_happened : (x : Sending) → HasHeardEntry air v x → IsOfSlot s w x → (w.opened < x.end) ⊎ Contains w.happenings (HeardAt x.end x.packet)
  since_or_happened x is of_slot = by_test w.by_alarm refl
    where
      by_test : (b : Bool) → w.by_alarm ≡ b → (w.opened < x.end) ⊎ Contains w.happenings (HeardAt x.end x.packet)
      by_test true alarm =
          let mine = (run.heedful.heard v x is).sent in
          let starts = (slot_covered s clocks air run v known (run_end s) within w there x mine of_slot).1 alarm in
          let long = takes_time s clocks air run.heedful.trails run.driven.sound x mine in
          inl (omega (arith, starts, long))
      by_test false scans =
          let since = none_before scans x is of_slot in
          elim (cases_lt w.opened x.end) [
            | inl later ↦ inl later
            | inr by ↦ inr (as_it_opens scans x is of_slot (omega (arith, since, by)))
          ]
