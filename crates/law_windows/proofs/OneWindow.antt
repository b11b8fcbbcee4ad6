-- A node has one window of a slot at most.
use Rattle.std.proofs.Common.{◌≡◌, ℕ, ◌<◌, ◌⊎◌, inl, inr, List, [], ◌∷◌, Bool, true, false, Option, IfSome, Contains, sym, ◌∙◌, ap, subst, arith}
use Rattle.std.specs.Prelude.{slice_index}
use Rattle.tick_clock.specs.Clocks.{IsClock}
use Rattle.time_reference.specs.Budgets.{Fits, budget_of}
use Rattle.time_reference.specs.Zeros.{Good, opening_offset, starting_offset, closing_offset, tick_at_offset}
use Rattle.time_reference.proofs.Points.{good_later, opens_before_starts, closes_before_next_starts, closes_after_relays}
use Rattle.scenario_text.specs.ScenarioParts.{ScenarioParts}
use Rattle.scenario_text.specs.FloodParts.{knows}
use Rattle.air_log.specs.declared.entry.Entry.{Entry}
use Rattle.air_log.specs.WindowLogs.{WindowLog, Closing}
use Rattle.lwb_base.proofs.Elements.{not_in_none, contains_cases}
use Rattle.law_safety.specs.RoundZeros.{GoodFor}
use Rattle.law_safety.specs.Invariant.{IsObedientRun}
use Rattle.law_safety.specs.Rows.{AllRows}
use Rattle.law_safety.proofs.RunFacts.{run_fits, host_clock}
use Rattle.law_windows.specs.OpenWindows.{CloseBeforeNext, HasClosedBy, SameWindowSlot}
use Rattle.law_windows.specs.WindowRows.{IsOpened}
use Rattle.law_windows.specs.WindowTimes.{IsOfSlot, OpensInTime, IsInTime, ClosesInTime, closing_of}
use Rattle.law_windows.proofs.SlotTimes.{before_good, closes_good, lies_in_window}

-- of two that are apart one has closed before the other opened
pub apart_so : (logs : List WindowLog) (x y : WindowLog) → CloseBeforeNext logs → Contains logs x → Contains logs y
    → (x ≡ y) ⊎ (HasClosedBy x.opened y ⊎ HasClosedBy y.opened x)
apart_so [] x y apart first second = absurd (not_in_none x first)
apart_so (z ∷ logs) x y apart first second = elim (contains_cases z logs x first) [
  | inl same ↦ elim (contains_cases z logs y second) [
    | inl too ↦ inl (sym same ∙ too)
    | inr old ↦ inr (inl (subst (λ (w : WindowLog). HasClosedBy w.opened y) same (apart.0 y old)))
  ]
  | inr older ↦ elim (contains_cases z logs y second) [
    | inl same ↦ inr (inr (subst (λ (w : WindowLog). HasClosedBy w.opened x) same (apart.0 x older)))
    | inr old ↦ apart_so logs x y apart.1 older old
  ]
]

module _ (rows : AllRows) (s : ScenarioParts) (clocks : ℕ → ℕ → ℕ) (air : List Entry) (run : IsObedientRun s clocks air) (v : ℕ)
    (known : knows s.nodes v ≡ true) where
  fits : Fits s.profile (budget_of s.profile)
  fits = run_fits s run.driven.sound

  own_drifts : IsClock (clocks v)
  own_drifts = run.driven.drift v known

  -- a window of the same slot is open while another one opens
  module _ (x y : WindowLog) (same : SameWindowSlot x y) (x_row : IsOpened s clocks v x) (x_time : IsInTime s clocks air v x)
      (y_row : IsOpened s clocks v y) (y_time : IsInTime s clocks air v y) where
    abbrev host : ℕ → ℕ
    host = clocks (slice_index s.hosts y.rank)

    host_drifts : IsClock host
    host_drifts = host_clock s clocks run.driven y.rank y_time.hosted

    good : Good s.profile (budget_of s.profile) host (clocks v) x.after.zero y.frame (closing_offset s.profile y.slot)
    good =
        subst (λ (r : ℕ). GoodFor s clocks r v x.after.zero y.frame (closing_offset s.profile y.slot)) same.rank
        (subst (λ (f : ℕ). GoodFor s clocks x.rank v x.after.zero f (closing_offset s.profile y.slot)) same.frame
        (subst (λ (i : ℕ). GoodFor s clocks x.rank v x.after.zero x.frame (closing_offset s.profile i)) same.slot
        (closes_good rows s clocks air run v known x x_row x_time)))

    closing_same : closing_of s clocks air v x ≡ tick_at_offset (clocks v) x.after.zero (closing_offset s.profile y.slot)
    closing_same = ap (λ (i : ℕ). tick_at_offset (clocks v) x.after.zero (closing_offset s.profile i)) same.slot

    opens_by : (by : Bool) → OpensInTime s clocks air v by y → y.opened < closing_of s clocks air v x
    opens_by true opens =
        let p = s.profile in
        let b = budget_of s.profile in
        let j = y.slot in
        let begins = good_later p b fits host (clocks v) y.after.zero y.frame (opening_offset p j) (starting_offset p j) (omega arith) opens.good in
        let closes = closes_after_relays p b fits host (clocks v)
        (clocks v) y.after.zero x.after.zero y.frame host_drifts own_drifts own_drifts j 0 y_time.in_round (omega arith) begins good in
        let end = closing_same in
        elim opens.at [
          | inl now ↦ (
              let here : tick_at_offset (clocks v) y.before.zero (opening_offset p j) ≡ tick_at_offset (clocks v) y.after.zero (opening_offset p j) =
              ap (λ (z : ℕ). tick_at_offset (clocks v) z (opening_offset p j)) opens.zero in
              let starts = opens_before_starts p b fits host (clocks v)
              (clocks v) y.after.zero y.after.zero y.frame host_drifts own_drifts own_drifts j y_time.in_round opens.good begins in
              omega (arith, now, here, starts, closes, end)
              )
          | inr late ↦ (
              let less : late.before < j = (let next = late.next in omega (arith, next)) in
              let starts = closes_before_next_starts p b fits host (clocks v)
              (clocks v) late.zero y.after.zero y.frame host_drifts own_drifts own_drifts late.before j less y_time.in_round
              (before_good rows s clocks air run v known y y_row y_time late) begins in
              let set = late.at in
              omega (arith, set, starts, closes, end)
              )
        ]
    opens_by false opens =
        let of_x : IsOfSlot s x opens.heard = record {
          channel = opens.of_slot.channel ∙ sym same.rank;
          frame = opens.of_slot.frame ∙ sym same.frame;
          slot = opens.of_slot.slot ∙ sym same.slot;
        } in
        let ends = (lies_in_window rows s clocks air run v known x x_row x_time opens.heard (run.heedful.heard v opens.heard opens.there).sent of_x).0 in
        let end = opens.end in
        omega (arith, ends, end)

    pub opens_within : y.opened < closing_of s clocks air v x
    opens_within = opens_by y.by_alarm y_time.by

  -- so two windows of a slot are one
  pub one_window : (logs : List WindowLog) → CloseBeforeNext logs
      → ((w : WindowLog) → Contains logs w → IsOpened s clocks v w) → ((w : WindowLog) → Contains logs w → IsInTime s clocks air v w)
      → ((w : WindowLog) → Contains logs w → IfSome w.closed (ClosesInTime s clocks air v w))
      → (x y : WindowLog) → Contains logs x → Contains logs y → SameWindowSlot x y → x ≡ y
  one_window logs apart row time closes x y first second same = elim (apart_so logs x y apart first second) [
    | inl is ↦ is
    | inr (inl before) ↦ absurd (not_before y x second first (record { rank = sym same.rank; frame = sym same.frame; slot = sym same.slot }) before)
    | inr (inr before) ↦ absurd (not_before x y first second same before)
  ]
    where
      not_before : (x y : WindowLog) → Contains logs x → Contains logs y → SameWindowSlot x y → HasClosedBy y.opened x → ⊥
      not_before x y first second same before =
          let within = opens_within x y same (row x first) (time x first) (row y second) (time y second) in
          let then_ = subst (λ (c : Option Closing). IfSome c (ClosesInTime s clocks air v x)) before.is (closes x first) in
          let by = before.by in
          omega (arith, within, then_, by)
