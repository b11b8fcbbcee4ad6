-- What the windows of a node count is what they count on the bus.
use Rattle.std.proofs.Common.{◌≡◌, ℕ, ◌<◌, ◌≤◌, List, Bool, true, false, if◌then◌else◌, Some, None}
use Rattle.std.proofs.Common.{Option, inl, inr, Contains, is_some, sum_by, refl, sym, ◌∙◌, ap}
use Rattle.lwb_base.specs.Messages.{Plan}
use Rattle.bus_rules.specs.Charges.{charge as charge_of, last_if_all_sent}
use Rattle.bus_rules.specs.Plans.{last_slot}
use Rattle.bus_rules.specs.Slots.{Opened, opened_slot, part_of}
use Rattle.scenario_text.specs.ScenarioParts.{ScenarioParts}
use Rattle.scenario_text.specs.FloodParts.{knows}
use Rattle.air_log.specs.declared.entry.Entry.{Entry}
use Rattle.air_log.specs.Charges.{charge_of_window, charge_by_last, sent_packets, windows_charge}
use Rattle.air_log.specs.Lawful.{trail_in}
use Rattle.air_log.specs.WindowLogs.{WindowLog}
use Rattle.law_windows.proofs.WindowParts.{nodes_take_part}
use Rattle.bus_terms.specs.Bus.{bus_cost, state_at}
use Rattle.bus_terms.specs.Costs.{steps_sent_by, slot_window}
use Rattle.bus_terms.specs.Rounds.{Slot, before_slot}
use Rattle.scenario_text.specs.Setups.{setup_of}
use Rattle.law_terms.specs.LawfulRuns.{IsLawfulRun}
use Rattle.bus_terms.specs.HostedRounds.{slot_in}
use Rattle.law_terms.specs.SlotLaws.{IsRound, IsWindowOf}
use Rattle.law_terms.specs.SlotRuns.{RunsLaw}
use Rattle.law_terms.specs.SlotSteps.{IsSlotHeard, IsSlotStart, SlotHeardLaw}
use Rattle.law_bus.proofs.CoresOfWindows.{all_slots}
use Rattle.law_bus.proofs.RunsOfLogs.{course_of}
use Rattle.law_bus.proofs.SlotsAtNodes.{look_up, no_window, not_member, window_is}
use Rattle.law_bus.proofs.HeardSlots.{slots_heard}
use Rattle.law_bus.proofs.KeyedSums.{no_sum, one_counts, under, under_its, under_none}
use Rattle.law_bus.proofs.PlacedWindows.{rank_same, round_here, window_placed, windows_distinct, windows_of}
use Rattle.law_bus.proofs.SentPackets.{charge_same}
use Rattle.law_bus.proofs.SumsOverRounds.{over_rounds, plan_at, rank_at, slot_of_own_rank}

abbrev frame_in : WindowLog → ℕ
frame_in w = w.frame

abbrev slot_of_it : WindowLog → ℕ
slot_of_it w = w.slot

module _ (runs : RunsLaw) (s : ScenarioParts) (clocks : ℕ → ℕ → ℕ) (air : List Entry) (lawful : IsLawfulRun s clocks air)
    (v : ℕ) (known : knows s.nodes v ≡ true) where
  abbrev heards : SlotHeardLaw
  heards = slots_heard runs

  abbrev ws : List WindowLog
  ws = windows_of s clocks air v

  module _ (f j : ℕ) (p : Plan) (in_run : f < s.frames) (plan : plan_at s v f ≡ Some p) (within : j ≤ last_slot p) where
    abbrev rank : ℕ
    rank = rank_at s v f

    abbrev x : Slot
    x = slot_in s rank f p j

    round : IsRound s rank f p
    round = round_here heards s clocks air lawful v known f p in_run plan

    start : IsSlotStart s clocks air rank f p j
    start = (all_slots heards s clocks air lawful rank f j p round within).0

    heard : IsSlotHeard s clocks air rank f p j
    heard = (all_slots heards s clocks air lawful rank f j p round within).1

    -- what a window counts in this slot
    abbrev of_frame : WindowLog → ℕ
    of_frame = under frame_in (charge_of_window s) f

    abbrev counts : WindowLog → ℕ
    counts = under slot_of_it of_frame j

    counts_none : (w : WindowLog) → (w.frame ≡ f → w.slot ≡ j → ⊥) → counts w ≡ 0
    counts_none w other = under_none slot_of_it of_frame j w (λ slot. under_none frame_in (charge_of_window s) f w (λ frame. absurd (other frame slot)))

    none_counted : x.window v ≡ None → slot_window s.profile x v ≡ 0
    none_counted none = ap (λ (o : Option Opened). if is_some o then charge_of s.profile (last_if_all_sent x.flood.limit (steps_sent_by x v)) else 0) none

    module _ (w : WindowLog) (here : IsWindowOf s clocks air rank f j v w) where
      -- the window of the slot counts what it does on the bus
      charge_by : (b : Bool) → w.by_alarm ≡ b → charge_of_window s w ≡ slot_window s.profile x v
      charge_by true alarm =
          let found = runs s clocks air lawful rank f j p round within start in
          let part = nodes_take_part s clocks air (record { sound = lawful.sound; drift = lawful.drift }) lawful.lawful v known w here.there in
          charge_same s clocks air lawful rank f p j found.0 found.1 found.2 v w here part.has alarm
          (opened_slot (setup_of s v) f (part_of p j) w.before.core)
          (window_is s clocks air lawful rank f in_run j p start heard v w here alarm)
      charge_by false joined =
          ap (λ (b : Bool). if b then charge_by_last s.profile (last_if_all_sent s.sends (sent_packets w)) else 0) joined
          ∙ sym (none_counted (no_window s clocks air lawful rank f in_run j p start heard v w here joined))

      -- and no other window is of the slot
      another : (y : WindowLog) → Contains ws y → (y ≡ w → ⊥) → y.frame ≡ f → y.slot ≡ j → ⊥
      another y there other frame slot =
          let goes = course_of s clocks air lawful v f w in_run (record { there = here.there; frame = here.frame }) in
          other (goes.course.once y w (record { there = there; frame = frame }) (record { there = here.there; frame = here.frame }) (slot ∙ sym here.slot))

      with_window : sum_by counts ws ≡ slot_window s.profile x v
      with_window =
          one_counts counts w ws (windows_distinct heards s clocks air lawful v known) here.there
          (λ y there other. counts_none y (another y there other))
          ∙ under_its slot_of_it of_frame j w here.slot
          ∙ under_its frame_in (charge_of_window s) f w here.frame
          ∙ charge_by w.by_alarm refl

    without_window : ((w : WindowLog) → IsWindowOf s clocks air rank f j v w → ⊥)
        → sum_by counts ws ≡ slot_window s.profile x v
    without_window none =
        no_sum counts ws (λ y there. counts_none y (λ frame slot. none y (record {
          there = there;
          frame = frame;
          channel = rank_same heards s clocks air lawful v known y there (window_placed heards s clocks air lawful v known y there).in_run
              ∙ ap (rank_at s v) frame;
          slot = slot;
        })))
        ∙ sym (none_counted (not_member s clocks air lawful rank f in_run j p start heard v known none (before_slot s rank f p (state_at s f) j v) refl))

    of_slot : sum_by counts ws ≡ slot_window s.profile (slot_of_own_rank s v f p j) v
    of_slot =
        elim (look_up rank f j ws) [
          | inl w ↦ with_window w.window (record { there = w.there; frame = w.frame; channel = w.channel; slot = w.slot })
          | inr none ↦ without_window (λ w here. none w here.there here.frame here.channel here.slot)
        ]

  pub windows_same : (bus_cost s v).windows ≡ windows_charge s (trail_in s clocks air v)
  windows_same =
      sym (over_rounds s v frame_in slot_of_it (charge_of_window s) ws (λ x. slot_window s.profile x v)
      (window_placed heards s clocks air lawful v known) of_slot)
