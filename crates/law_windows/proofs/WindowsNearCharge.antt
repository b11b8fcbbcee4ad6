-- In each window the radio is on for nearly as long as the window is charged.
use Rattle.std.proofs.Common.{◌≡◌, ◌≢◌, ℕ, ◌+◌, ◌-◌, ◌*◌, ◌<◌, ◌≤◌, ◌⊎◌, inl, inr, List, Bool, true, false, ◌==◌, if◌then◌else◌, Some, None, Option}
use Rattle.std.proofs.Common.{IfSome, length, Contains, refl, sym, ◌∙◌, ap, subst, arith, eq-eqb}
use Rattle.std.specs.Prelude.{slice_index}
use Rattle.std.specs.List.{last_or}
use Rattle.std.proofs.lemmas.Bool.{cases_eq, ne_eqb}
use Rattle.lwb_base.specs.Profile.{step}
use Rattle.tick_clock.specs.Clocks.{Near, IsClock}
use Rattle.time_reference.specs.Budgets.{Budget, Fits, budget_of}
use Rattle.time_reference.specs.Zeros.{Good, opening_offset, starting_offset, closing_offset, tick_at_offset, apart}
use Rattle.time_reference.proofs.BudgetRoom.{window_order}
use Rattle.time_reference.proofs.ProfileSizes.{sizes}
use Rattle.bus_rules.specs.Charges.{last_if_all_sent}
use Rattle.scenario_text.specs.FloodParts.{knows}
use Rattle.scenario_text.specs.ScenarioParts.{ScenarioParts}
use Rattle.radio_model.specs.declared.sending.Sending.{Sending}
use Rattle.radio_model.specs.Hearing.{counter_of_sending, frame_of_sending}
use Rattle.air_log.specs.declared.entry.Entry.{Entry}
use Rattle.air_log.specs.Charges.{charge_of_window, charge_by_last, sent_packets}
use Rattle.air_log.specs.Lawful.{Lawful}
use Rattle.air_log.specs.Trails.{run_end}
use Rattle.air_log.specs.WindowLogs.{WindowLog, Closing, SentAt}
use Rattle.law_trails.specs.TrailLinks.{device_in}
use Rattle.law_trails.proofs.HeedfulLogs.{lawful_is_heedful}
use Rattle.law_trails.proofs.SentInTrails.{sent_lasts}
use Rattle.law_safety.specs.FloodSendings.{IsOfFlood}
use Rattle.law_safety.specs.Invariant.{IsObedientRun}
use Rattle.law_safety.specs.RoundZeros.{GoodFor}
use Rattle.law_safety.specs.SetAlarms.{OpensLate, rank_at}
use Rattle.law_safety.proofs.FloodTimes.{in_flood, origin_drifts, zero_good}
use Rattle.law_safety.proofs.InvariantHolds.{all_rows, holds_throughout}
use Rattle.law_safety.proofs.RunFacts.{host_clock, run_fits}
use Rattle.law_windows.specs.WindowHistory.{HasHappened, SentThen}
use Rattle.law_windows.specs.WindowRadios.{sendings_by, IsOpenAt, IsTunedThen}
use Rattle.law_windows.specs.WindowRows.{IsOpened}
use Rattle.law_windows.specs.WindowTimes.{IsInTime, ClosesInTime, OpensInSlot, OpensInTime, closing_of}
use Rattle.law_windows.proofs.TimedWindows.{IsTimed, times_steps}
use Rattle.law_windows.proofs.WindowFacts.{close_in_time, history_on_air, open_by_rows, open_in_time, radios_on, slot_covered}
use Rattle.law_windows.proofs.WindowWalk.{windows_before}
use Rattle.law_windows.specs.ChargeLaws.{WindowsCostByBudget, WindowsCostTheirCharge}
use Rattle.law_windows.specs.RadioTimes.{on_within}
use Rattle.law_windows.proofs.FewSendings.{few_sent}
use Rattle.law_windows.proofs.SendingsEnded.{all_by, few_by, fewer_before, has_last, HasLast}
use Rattle.law_windows.proofs.TimesInLogs.{on_until}
use Rattle.law_windows.proofs.WindowLengths.{OpenedLate, open_for, sent_for}

module _ (s : ScenarioParts) (clocks : ℕ → ℕ → ℕ) (air : List Entry) (run : IsObedientRun s clocks air) (lawful : Lawful s clocks air)
    (v : ℕ) (known : knows s.nodes v ≡ true) (w : WindowLog) (there : Contains (device_in s clocks air v (run_end s)).made.windows w)
    (alarm : w.by_alarm ≡ true) (c : Closing) (shut : w.closed ≡ Some c) where
  abbrev b : Budget
  b = budget_of s.profile

  within : run_end s ≤ run_end s
  within = omega arith

  fits : Fits s.profile (budget_of s.profile)
  fits = run_fits s run.driven.sound

  row : IsOpened s clocks v w
  row = open_by_rows s clocks air run v known (run_end s) within w there

  timed : IsInTime s clocks air v w
  timed = open_in_time s clocks air run v known (run_end s) within w there

  opens : OpensInSlot s clocks air v w
  opens = subst (λ (by : Bool). OpensInTime s clocks air v by w) alarm timed.by

  closing_tick : c.tick ≡ closing_of s clocks air v w
  closing_tick =
      subst (λ (o : Option Closing). IfSome o (ClosesInTime s clocks air v w)) shut (close_in_time s clocks air run v known (run_end s) within w there)

  in_run : c.tick ≤ run_end s
  in_run = subst (λ (o : Option Closing). IfSome o (λ c. c.tick ≤ run_end s)) shut
      ((windows_before s clocks air v (λ now taken x. IsTimed s clocks air v x) all_rows run known (λ u at. times_steps s clocks air v u at)
      (run_end s) within).past w there)

  history : HasHappened s air v w
  history = history_on_air s clocks air run v known (run_end s) within w there

  radio : IsTunedThen s air v (run_end s) w
  radio = radios_on s clocks air run v known (run_end s) within w there

  abbrev host : ℕ → ℕ
  host = clocks (slice_index s.hosts w.rank)

  host_drifts : IsClock host
  host_drifts = host_clock s clocks run.driven w.rank timed.hosted

  own_drifts : IsClock (clocks v)
  own_drifts = run.driven.drift v known

  abbrev zero : ℕ
  zero = w.after.zero

  abbrev Late : Type 0
  Late = OpenedLate s.profile b fits host (clocks v) host_drifts own_drifts zero w.frame w.slot w.opened timed.in_round opens.good

  opened_late : OpensLate s clocks v w.before w.slot w.opened → Late
  opened_late is = record {
    before = is.before;
    next = is.next;
    zero = is.zero;
    old =
        subst (λ (r : ℕ). GoodFor s clocks r v is.zero w.frame (closing_offset s.profile is.before)) row.rank_before
        (subst (λ (f : ℕ). GoodFor s clocks (rank_at w.before) v is.zero f (closing_offset s.profile is.before)) row.frame_before is.good);
    at = is.at;
    late = subst (λ (z : ℕ). tick_at_offset (clocks v) z (opening_offset s.profile w.slot) ≤ w.opened) opens.zero is.late;
  }

  at : (w.opened ≡ tick_at_offset (clocks v) zero (opening_offset s.profile w.slot)) ⊎ Late
  at = elim opens.at [
    | inl now ↦ inl (now ∙ ap (λ (z : ℕ). tick_at_offset (clocks v) z (opening_offset s.profile w.slot)) opens.zero)
    | inr late ↦ inr (opened_late late)
  ]

  open_at : (k : ℕ) → w.opened ≤ k → k < c.tick → IsOpenAt w k
  open_at k from until = record { since = from; until = subst (λ (o : Option Closing). IfSome o (λ c. k < c.tick)) (sym shut) until }

  charge_is : charge_of_window s w ≡ charge_by_last s.profile (last_if_all_sent s.sends (sent_packets w))
  charge_is = ap (λ (by : Bool). if by then charge_by_last s.profile (last_if_all_sent s.sends (sent_packets w)) else 0) alarm

  last_is : (x : Bool) → (length (sent_packets w) == s.sends) ≡ x
      → last_if_all_sent s.sends (sent_packets w) ≡ (if x then last_or None (sent_packets w) else None)
  last_is x is = ap (λ (y : Bool). if y then last_or None (sent_packets w) else None) is

  -- ---- it sent less often than it may

  open_all : length (sent_packets w) ≢ s.sends → Near (on_within air v w.opened c.tick) (charge_of_window s w) (apart b + 11)
  open_all less =
      let few = few_sent s clocks air run v known (run_end s) within w there in
      let early = timed.early in
      let tick = closing_tick in
      let all : on_within air v w.opened c.tick + w.opened ≡ c.tick =
      on_until s clocks air lawful v known w.opened c.tick c.tick w.rank (omega (arith, early, tick)) (omega arith)
      (λ k from until.
      (let ended = few_by k w.happenings in
      let last = in_run in
      radio.tuned k (omega (arith, until, last)) (open_at k from until) (omega (arith, ended, few, less))))
      (λ k from until. absurd (omega (arith, from, until))) in
      let long = open_for s.profile b fits host (clocks v) host_drifts own_drifts zero w.frame w.slot w.opened timed.in_round opens.good at in
      let charged : charge_of_window s w ≡ s.profile.close =
      charge_is ∙ ap (charge_by_last s.profile) (last_is false (ne_eqb (length (sent_packets w)) s.sends less)) in
      omega (arith, all, long, charged, tick)

  -- ---- it sent as often as it may

  module _ (full : length (sent_packets w) ≡ s.sends) where
    last : HasLast w.happenings
    last = has_last w.happenings history.in_turn (let some = run.driven.sound.some_sends in omega (arith, full, some))

    sent : SentThen s air v w last.tick last.packet
    sent = history.then_ (SentAt last.tick last.packet) last.there

    abbrev x : Sending
    x = sent.sent

    flood : IsOfFlood s clocks air x
    flood = (holds_throughout s clocks air run (run_end s) within).sendings x sent.there (sent_lasts s clocks air run.heedful.trails x sent.there).0

    abbrev first : ℕ → ℕ
    first = clocks flood.origin.node

    begins : Good s.profile b host first flood.zero w.frame (starting_offset s.profile w.slot)
    begins =
        subst (λ (r : ℕ). Good s.profile b (clocks (slice_index s.hosts r)) first flood.zero w.frame (starting_offset s.profile w.slot)) sent.of_slot.channel
        (subst (λ (f : ℕ). Good s.profile b (clocks (slice_index s.hosts x.rank)) first flood.zero f (starting_offset s.profile w.slot)) sent.of_slot.frame
        (subst (λ (j : ℕ). Good s.profile b (clocks (slice_index s.hosts x.rank)) first flood.zero (frame_of_sending s.profile x) (starting_offset s.profile j))
        sent.of_slot.slot
        (zero_good s clocks air run x flood)))

    near : Near x.start (tick_at_offset first flood.zero (starting_offset s.profile w.slot) + counter_of_sending x * step s.profile (length x.packet))
        (counter_of_sending x)
    near =
        subst (λ (j : ℕ). Near x.start
        (tick_at_offset first flood.zero (starting_offset s.profile j) + counter_of_sending x * step s.profile (length x.packet)) (counter_of_sending x))
        sent.of_slot.slot
        (in_flood s clocks air run x flood).near

    charged : charge_of_window s w ≡ s.profile.listen + (counter_of_sending x + 1) * step s.profile (length x.packet) - s.profile.turn
    charged =
        charge_is
        ∙ ap (charge_by_last s.profile) (last_is true (eq-eqb (length (sent_packets w)) s.sends full) ∙ last.is)
        ∙ ap (λ (q : List ℕ). charge_by_last s.profile (Some q)) (sym sent.packet_is)

    off_after : (k : ℕ) → last.tick ≤ k → sendings_by k w ≡ length (sent_packets w)
    off_after k from = all_by k w.happenings (λ t q in_it. (let ends = last.last t q in_it in omega (arith, ends, from)))

    sent_all : Near (on_within air v w.opened c.tick) (charge_of_window s w) (apart b + 11)
    sent_all =
        let since = history.since (SentAt last.tick last.packet) last.there in
        let lies = (slot_covered s clocks air run v known (run_end s) within w there x sent.there sent.of_slot).0 in
        let tick = closing_tick in
        let end = sent.end in
        let on : on_within air v w.opened c.tick + w.opened ≡ last.tick =
        on_until s clocks air lawful v known w.opened last.tick c.tick w.rank since (omega (arith, lies, tick, end))
        (λ k from until.
        (let fewer = fewer_before k w.happenings last.tick last.packet last.there until in
        let until_run = in_run in
        radio.tuned k (omega (arith, until, lies, tick, end, until_run)) (open_at k from (omega (arith, until, lies, tick, end))) (omega (arith, fewer, full))))
        (λ k from until r tuned.
        (let all = off_after k from in
        let until_run = in_run in
        let few = (radio.only k r (omega (arith, until, until_run)) (open_at k (omega (arith, since, from)) until) tuned).1 in
        omega (arith, all, few, full))) in
        let long =
        sent_for s.profile b fits host (clocks v) host_drifts own_drifts zero w.frame w.slot w.opened timed.in_round opens.good at
        first flood.zero (counter_of_sending x) (length x.packet) x.start (origin_drifts s clocks air run x flood) begins near in
        let lasts = flood.lasts in
        let few = flood.few in
        let is = charged in
        omega (arith, on, long, lasts, few, is, end)

  near_charge : Near (on_within air v w.opened c.tick) (charge_of_window s w) (apart b + 11)
  near_charge = elim (cases_eq (length (sent_packets w)) s.sends) [ inl full ↦ sent_all full | inr less ↦ open_all less ]

  pub by_budget : Near (on_within air v w.opened c.tick) (charge_of_window s w) ((budget_of s.profile).zeros)
  by_budget =
      let near = near_charge in
      let window = window_order s.profile b fits in
      omega (arith, near, window)

  pub by_listen : Near (on_within air v w.opened c.tick) (charge_of_window s w) 64000
  by_listen =
      let near = near_charge in
      let window = window_order s.profile b fits in
      let listen = (sizes s.profile run.driven.sound.profile).listen in
      omega (arith, near, window, listen)

-- whether it has closed
by_closed : (P : Closing → Type 0) (o : Option Closing) → ((c : Closing) → o ≡ Some c → P c) → IfSome o P
by_closed P None known = tt
by_closed P (Some c) known = known c refl

pub near_charge_by_budget : WindowsCostByBudget
near_charge_by_budget s clocks air driven lawful v known w there alarm =
    by_closed (λ c. Near (on_within air v w.opened c.tick) (charge_of_window s w) ((budget_of s.profile).zeros)) w.closed
    (λ c shut. by_budget s clocks air (record { driven = driven; heedful = lawful_is_heedful s clocks air lawful }) lawful v known w there alarm c shut)

pub near_charge_always : WindowsCostTheirCharge
near_charge_always s clocks air driven lawful v known w there alarm =
    by_closed (λ c. Near (on_within air v w.opened c.tick) (charge_of_window s w) 64000) w.closed
    (λ c shut. by_listen s clocks air (record { driven = driven; heedful = lawful_is_heedful s clocks air lawful }) lawful v known w there alarm c shut)
