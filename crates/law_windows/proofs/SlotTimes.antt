-- A window is open while its slot is on the air, and while no other is.
use Rattle.std.proofs.Common.{◌≡◌, ℕ, suc, ◌+◌, ◌<◌, ◌≤◌, inl, inr, List, Bool, true, false, length, Contains, sym, ap, subst, arith}
use Rattle.std.specs.Prelude.{slice_index}
use Rattle.std.proofs.lemmas.Bool.{cases_order, true≢false}
use Rattle.lwb_base.specs.Profile.{Numbers, airtime}
use Rattle.tick_clock.specs.Clocks.{IsClock}
use Rattle.time_reference.specs.Budgets.{Budget, Fits, budget_of, span}
use Rattle.time_reference.specs.Zeros.{Good, opening_offset, starting_offset, closing_offset, tick_at_offset}
use Rattle.time_reference.proofs.BudgetRoom.{packets_last}
use Rattle.time_reference.proofs.Points.{good_later, opens_before_starts, closes_before_next_starts, relays_before_next_opens}
use Rattle.time_reference.proofs.Steps.{flood_end}
use Rattle.scenario_text.specs.ScenarioParts.{ScenarioParts}
use Rattle.scenario_text.specs.FloodParts.{knows}
use Rattle.radio_model.specs.declared.sending.Sending.{Sending}
use Rattle.radio_model.specs.Hearing.{frame_of_sending, slot_of_sending, counter_of_sending}
use Rattle.air_log.specs.declared.entry.Entry.{Entry}
use Rattle.air_log.specs.Entries.{sendings_of}
use Rattle.air_log.specs.WindowLogs.{WindowLog}
use Rattle.law_trails.proofs.HeardReferences.{good_now}
use Rattle.law_trails.proofs.SentInTrails.{sent_lasts}
use Rattle.law_trails.proofs.SlotBounds.{ends_in_slot, slots_apart}
use Rattle.law_safety.specs.RoundZeros.{GoodFor}
use Rattle.law_safety.specs.SetAlarms.{OpensLate, rank_at}
use Rattle.law_safety.specs.FloodSendings.{IsOfFlood}
use Rattle.law_safety.specs.Invariant.{IsObedientRun}
use Rattle.law_safety.specs.Rows.{AllRows}
use Rattle.law_safety.proofs.Induction.{rows_suffice}
use Rattle.law_safety.proofs.RunFacts.{run_fits, host_clock}
use Rattle.law_safety.proofs.FloodTimes.{origin_drifts, zero_good, slot_in_round, in_flood, packet_short}
use Rattle.law_windows.specs.WindowRows.{IsOpened}
use Rattle.law_windows.specs.WindowTimes.{OpensInTime, IsInTime, closing_of}
use Rattle.law_windows.specs.SlotTimes.{EndsInSlot, LiesInWindow}

module _ (rows : AllRows) (s : ScenarioParts) (clocks : ℕ → ℕ → ℕ) (air : List Entry) (run : IsObedientRun s clocks air) where
  abbrev p : Numbers
  p = s.profile

  abbrev b : Budget
  b = budget_of s.profile

  fits : Fits s.profile (budget_of s.profile)
  fits = run_fits s run.driven.sound

  -- each transmission of a run is of its flood
  pub of_flood : (x : Sending) → Contains (sendings_of air) x → IsOfFlood s clocks air x
  of_flood x there =
      let in_run = (sent_lasts s clocks air run.heedful.trails x there).0 in
      (rows_suffice rows s clocks air run (suc x.start) (omega (arith, in_run))).sendings x there (omega arith)

  module _ (v : ℕ) (known : knows s.nodes v ≡ true) (w : WindowLog) (by_row : IsOpened s clocks v w) (is : IsInTime s clocks air v w) where
    abbrev host : ℕ → ℕ
    host = clocks (slice_index s.hosts w.rank)

    own_drifts : IsClock (clocks v)
    own_drifts = run.driven.drift v known

    host_is_clock : IsClock host
    host_is_clock = host_clock s clocks run.driven w.rank is.hosted

    closes_by : (by : Bool) → OpensInTime s clocks air v by w → GoodFor s clocks w.rank v w.after.zero w.frame (closing_offset s.profile w.slot)
    closes_by true opens = good_later p b fits host (clocks v) w.after.zero w.frame (opening_offset p w.slot) (closing_offset p w.slot) (omega arith) opens.good
    closes_by false opens = good_now p b fits host (clocks v) w.after.zero w.frame w.slot opens.ref

    pub closes_good : Good s.profile (budget_of s.profile) host (clocks v) w.after.zero w.frame (closing_offset s.profile w.slot)
    closes_good = closes_by w.by_alarm is.by

    -- the zero of a window before that closed late
    pub before_good : (late : OpensLate s clocks v w.before w.slot w.opened)
        → Good s.profile (budget_of s.profile) host (clocks v) late.zero w.frame (closing_offset s.profile late.before)
    before_good late =
        subst (λ (r : ℕ). GoodFor s clocks r v late.zero w.frame (closing_offset s.profile late.before)) by_row.rank_before
        (subst (λ (f : ℕ). GoodFor s clocks (rank_at w.before) v late.zero f (closing_offset s.profile late.before)) by_row.frame_before late.good)

    -- a transmission of the channel and frame, by the names of the window
    module _ (x : Sending) (there : Contains (sendings_of air) x) (channel : x.rank ≡ w.rank) (frame : frame_of_sending s.profile x ≡ w.frame) where
      flood : IsOfFlood s clocks air x
      flood = of_flood x there

      abbrev first : ℕ → ℕ
      first = clocks flood.origin.node

      first_drifts : IsClock first
      first_drifts = origin_drifts s clocks air run x flood

      begins : Good s.profile (budget_of s.profile) host first flood.zero w.frame (starting_offset s.profile (slot_of_sending x))
      begins =
          subst (λ (r : ℕ). Good s.profile (budget_of s.profile) (clocks (slice_index s.hosts r)) first flood.zero w.frame
          (starting_offset s.profile (slot_of_sending x))) channel
          (subst (λ (f : ℕ). Good s.profile (budget_of s.profile) (clocks (slice_index s.hosts x.rank)) first flood.zero f
          (starting_offset s.profile (slot_of_sending x))) frame (zero_good s clocks air run x flood))

      bounds : (x.start + airtime s.profile (length x.packet) ≤ tick_at_offset first flood.zero (starting_offset s.profile (slot_of_sending x)) + span s.profile
          (length x.packet) + 11) × (tick_at_offset first flood.zero (starting_offset s.profile (slot_of_sending x)) ≤ x.start)
      bounds =
          let inside = in_flood s clocks air run x flood in
          let some = packets_last p b fits (length x.packet) in
          flood_end p (length x.packet) (counter_of_sending x) x.start (tick_at_offset first flood.zero (starting_offset p (slot_of_sending x)))
          (omega arith) inside.few inside.near

      lasts : x.end ≡ x.start + airtime s.profile (length x.packet)
      lasts = flood.lasts

      short : length x.packet ≤ b.packet
      short = packet_short s clocks air run x flood

      -- a transmission of a later slot starts when the window has closed
      not_later : w.slot < slot_of_sending x → closing_of s clocks air v w < x.start
      not_later less =
          let starts = closes_before_next_starts p b fits host
          (clocks v) first w.after.zero flood.zero w.frame host_is_clock own_drifts first_drifts w.slot (slot_of_sending x) less
          (slot_in_round s clocks air run x flood) closes_good begins in
          let begun = bounds in
          omega (arith, starts, begun)

      -- one of an earlier slot has ended before the window opens
      pub ends_before : (by : Bool) → OpensInTime s clocks air v by w → slot_of_sending x < w.slot → x.end < w.opened
      ends_before true opens less =
          let before = relays_before_next_opens p b fits host first (clocks v) flood.zero w.after.zero w.frame host_is_clock first_drifts own_drifts
          (slot_of_sending x) w.slot (length x.packet) less
          is.in_round short begins opens.good in
          let ends = bounds in
          let end = lasts in
          let here : tick_at_offset (clocks v) w.before.zero (opening_offset p w.slot) ≡ tick_at_offset (clocks v) w.after.zero (opening_offset p w.slot) =
          ap (λ (z : ℕ). tick_at_offset (clocks v) z (opening_offset p w.slot)) opens.zero in
          elim opens.at [
            | inl now ↦ omega (arith, before, ends, end, here, now)
            | inr late ↦ (let past = late.late in omega (arith, before, ends, end, here, past))
          ]
      ends_before false opens less =
          let y = opens.heard in
          let sent = (run.heedful.heard v y opens.there).sent in
          let other = of_flood y sent in
          let apart : x.start + airtime p (length x.packet) < y.start =
          slots_apart p b fits host first (clocks other.origin.node) flood.zero other.zero w.frame (slot_of_sending x) (slot_of_sending y) (length x.packet)
          (length y.packet) (counter_of_sending x) (counter_of_sending y)
          x.start y.start host_is_clock first_drifts (origin_drifts s clocks air run y other)
          (let same = opens.of_slot.slot in omega (arith, less, same)) (slot_in_round s clocks air run y other) short begins
          (subst (λ (r : ℕ). Good s.profile (budget_of s.profile) (clocks (slice_index s.hosts r)) (clocks other.origin.node) other.zero w.frame
          (starting_offset s.profile (slot_of_sending y))) opens.of_slot.channel
          (subst (λ (f : ℕ). Good s.profile (budget_of s.profile) (clocks (slice_index s.hosts y.rank)) (clocks other.origin.node) other.zero f
          (starting_offset s.profile (slot_of_sending y))) opens.of_slot.frame
          (zero_good s clocks air run y other)))
          (in_flood s clocks air run x flood) (in_flood s clocks air run y other) in
          let end = lasts in
          let ends = opens.end in
          let lasting = other.lasts in
          omega (arith, apart, end, ends, lasting)

      pub of_slot : w.opened ≤ x.end → x.end ≤ closing_of s clocks air v w → slot_of_sending x ≡ w.slot
      of_slot after before = elim (cases_order (slot_of_sending x) w.slot) [
        | inl at ↦ at
        | inr (inl less) ↦ absurd (let early = ends_before w.by_alarm is.by less in omega (arith, early, after))
        | inr (inr more) ↦ absurd (let late = not_later more in let end = lasts in omega (arith, late, end, before))
      ]

      -- what is of the slot lies in the window
      module _ (at : slot_of_sending x ≡ w.slot) where
        begins_here : Good s.profile (budget_of s.profile) host first flood.zero w.frame (starting_offset s.profile w.slot)
        begins_here = subst (λ (i : ℕ). Good s.profile (budget_of s.profile) host first flood.zero w.frame (starting_offset s.profile i)) at begins

        from_start : tick_at_offset first flood.zero (starting_offset s.profile w.slot) ≤ x.start
        from_start = subst (λ (i : ℕ). tick_at_offset first flood.zero (starting_offset s.profile i) ≤ x.start) at bounds.1

        pub ends_early : x.end < closing_of s clocks air v w
        ends_early =
            let ends =
            ends_in_slot p b fits host first (clocks v) flood.zero w.after.zero w.frame (slot_of_sending x) (length x.packet) (counter_of_sending x) x.start
            host_is_clock first_drifts own_drifts (slot_in_round s clocks air run x flood) short begins
            (subst (λ (i : ℕ). Good s.profile (budget_of s.profile) host (clocks v) w.after.zero w.frame (closing_offset s.profile i)) (sym at) closes_good)
            (in_flood s clocks air run x flood) in
            let end = lasts in
            let same : tick_at_offset (clocks v) w.after.zero (closing_offset p (slot_of_sending x)) ≡ closing_of s clocks air v w =
            ap (λ (i : ℕ). tick_at_offset (clocks v) w.after.zero (closing_offset p i)) at in
            omega (arith, ends, end, same)

        starts_by : (by : Bool) → by ≡ true → OpensInTime s clocks air v by w → w.opened < x.start
        starts_by true alarm opens =
            let from = from_start in
            elim opens.at [
              | inl now ↦ (
                  let here : tick_at_offset (clocks v) w.before.zero (opening_offset p w.slot) ≡ tick_at_offset (clocks v) w.after.zero (opening_offset p
                  w.slot) =
                  ap (λ (z : ℕ). tick_at_offset (clocks v) z (opening_offset p w.slot)) opens.zero in
                  let starts = opens_before_starts p b fits host
                  (clocks v) first w.after.zero flood.zero w.frame host_is_clock own_drifts first_drifts w.slot is.in_round opens.good begins_here in
                  omega (arith, starts, from, here, now)
                  )
              | inr late ↦ (
                  let less : late.before < w.slot = (let next = late.next in omega (arith, next)) in
                  let starts =
                  closes_before_next_starts p b fits host
                  (clocks v) first late.zero flood.zero w.frame host_is_clock own_drifts first_drifts late.before w.slot less is.in_round
                  (before_good late) begins_here in
                  let set = late.at in
                  omega (arith, starts, from, set)
                  )
            ]
        starts_by false alarm opens = absurd (true≢false (sym alarm))

    pub ends_in_slot_of : EndsInSlot s clocks air v w
    ends_in_slot_of x there channel frame after before = of_slot x there channel frame after before

    pub lies_in_window : LiesInWindow s clocks air v w
    lies_in_window x there at =
        (ends_early x there at.channel at.frame at.slot, λ alarm. starts_by x there at.channel at.frame at.slot w.by_alarm alarm is.by)
