-- A reference is of the frame itself or of one of the four before it, so its stamp is close.
use Rattle.std.proofs.Common.{◌≡◌, ℕ, ◌+◌, ◌-◌, ◌*◌, ◌<◌, ◌≤◌, inl, inr, List, Bool, true, false, ◌==◌, if◌then◌else◌, Some}
use Rattle.std.proofs.Common.{refl, sym, ◌∙◌, ap, subst, arith}
use Rattle.std.specs.Prelude.{slice_index}
use Rattle.std.proofs.Math.Nat.{add-mul, mul-le-mul_right}
use Rattle.std.proofs.lemmas.Bool.{cases_lt}
use Rattle.lwb_base.specs.Profile.{Numbers}
use Rattle.lwb_base.specs.Messages.{Schedule}
use Rattle.tick_clock.specs.Clocks.{Near, IsClock, due}
use Rattle.tick_clock.proofs.Readings.{rounded}
use Rattle.time_reference.specs.Budgets.{Budget, Fits, budget_of, budget_one, budget_two}
use Rattle.time_reference.specs.Reference.{host_zero}
use Rattle.time_reference.specs.Zeros.{Good, apart, opening_offset, tick_at_offset, start_tick, starting_offset}
use Rattle.time_reference.proofs.BudgetRoom.{ages_end, window_order, window_room}
use Rattle.time_reference.proofs.Points.{good_later, host_good}
use Rattle.time_reference.proofs.Rounds.{start, spread}
use Rattle.bus_rules.specs.Slots.{ScheduleOf}
use Rattle.lwb_member.specs.Said.{message_of}
use Rattle.radio_model.specs.declared.sending.Sending.{Sending}
use Rattle.radio_model.specs.Hearing.{frame_of_sending, slot_of_sending}
use Rattle.scenario_text.specs.ScenarioParts.{ScenarioParts}
use Rattle.air_log.specs.declared.entry.Entry.{Entry}
use Rattle.law_trails.proofs.ProfilePackets.{in_slot}
use Rattle.law_safety.specs.Endings.{EndsInOrder}
use Rattle.law_safety.specs.FloodSendings.{BeginsFlood, IsOfFlood}
use Rattle.law_safety.specs.SentPlans.{IsHostOf}
use Rattle.law_safety.proofs.FloodTimes.{frame_of_run, slot_in_round}
use Rattle.law_safety.proofs.RunFacts.{frame_begins, frame_ends, host_is, run_fits}
use Rattle.law_safety.proofs.RunSendings.{begins_flood, of_flood}
use Rattle.law_safety.proofs.InvariantHolds.{whole_run}
use Rattle.bus_time.specs.Stamps.{IsReference, tick_by}
use Rattle.law_safety.specs.AgreeingNodes.{DifferByLess}
use Rattle.bus_time.specs.StampErrors.{BeganFlood, StampsStayClose, drifted, never_reached, slack}
use Rattle.bus_time.specs.StampLaws.{BeginsData}
use Rattle.bus_time.proofs.StampErrors.{before, clock, errs, flood, host_clock, later_frame, slot_short, starts}

-- ---- by the numbers of a budget

module _ (p : Numbers) (b : Budget) (fits : Fits p b) where
  -- what starts in slot j of frame f by a good zero starts near the host's start of that slot
  near_host : (H L : ℕ → ℕ) (z f j : ℕ) → IsClock H → IsClock L → 2 ≤ f → f ≤ 4095 → j ≤ b.last → Good p b H L z f (starting_offset p j)
      → Near (tick_at_offset L z (starting_offset p j)) (start_tick p H f j) (apart b)
  near_host H L z f j host clock late within slot good =
      let slots = mul-le-mul_right p.slot slot in
      let window = window_order p b fits in
      let low : starting_offset p j ≤ b.last * p.slot + p.close = omega (arith, slots, window) in
      let own = good_later p b fits H H (host_zero p f) f 0 (starting_offset p j) (omega arith) (host_good p b fits H f host late (omega (arith, within))) in
      let near = spread p b fits H L H z (host_zero p f) f (starting_offset p j) (starting_offset p j) host clock host good own low low in
      let same : due H (host_zero p f + starting_offset p j) ≡ start_tick p H f j = ap (due H) (omega arith) in
      omega (arith, near, same)

  -- the host starts a slot of one of the next four frames within the age of a reference, with room for what starts near it
  within_age : (H : ℕ → ℕ) (g d f i j : ℕ) → IsClock H → 1 ≤ g → g + d ≡ f → d ≤ 4 → f ≤ 4095 → i ≤ b.last → j ≤ b.last
      → start_tick p H f j + apart b ≤ start_tick p H g i + b.age
  within_age H g d f i j clock first is few within i_low j_low =
      let from = start p b fits H g i clock first (omega (arith, is, within)) i_low in
      let to = start p b fits H f j clock (omega (arith, is, first)) within j_low in
      let frames : f * p.frame ≡ g * p.frame + d * p.frame = ap (λ (n : ℕ). n * p.frame) (sym is) ∙ add-mul g d p.frame in
      let four = mul-le-mul_right p.frame few in
      let slots = mul-le-mul_right p.slot j_low in
      let window = window_order p b fits in
      let room = window_room p b fits in
      let age = fits.age in
      let end = ages_end p b fits in
      let t0 : ℕ = start_tick p H g i in
      let t : ℕ = start_tick p H f j in
      elim (cases_lt t0 t) [
        | inr before ↦ omega (arith, before, window, age)
        | inl late ↦ (
            let d0 : ℕ = t - t0 in
            let long : t ≡ t0 + d0 = omega (arith, late) in
            let in_it = to.in_run in
            let leg = (rounded H t0 d0 t clock long (omega (arith, in_it, end))).above in
            let reads = to.reads.below in
            let least = from.at_least in
            omega (arith, long, leg, reads, least, frames, four, slots, window, room, age)
            )
      ]

  -- an error by age is below the greatest difference of two zeros
  below_zeros : (D e : ℕ) → D ≤ b.age → e ≤ 58 → e + drifted D < b.zeros
  below_zeros D e young small = let zeros = fits.zeros in omega (arith, young, small, zeros)

zeros_by : (c : Bool) → (if c then budget_one else budget_two).zeros ≡ (if c then 44960 else 58300)
zeros_by true = refl
zeros_by false = refl

zeros_are : (p : Numbers) → (budget_of p).zeros ≡ never_reached p
zeros_are p = zeros_by (p.seconds == 4)

slack_by : (c : Bool) → (if c then 51 else 58) ≤ 58
slack_by true = omega arith
slack_by false = omega arith

-- ---- by the run

-- what a reference says
pub reference_says : (s : ScenarioParts) (air : List Entry) (x : Sending) (d : ℕ) (h : Sending) → IsReference s air x d h
    → (y : Schedule) × (message_of h.packet ≡ Some (ScheduleOf y))
reference_says s air x d h reference = elim reference.by [
  | inl now ↦ (now.1.is.heard.schedule, now.1.is.heard.says)
  | inr ahead ↦ (ahead.1.is.heard.schedule, ahead.1.is.heard.says)
]

few_ahead : (s : ScenarioParts) (air : List Entry) (x : Sending) (d : ℕ) (h : Sending) → IsReference s air x d h → d ≤ 4
few_ahead s air x d h reference = elim reference.by [
  | inl now ↦ (let none = now.0 in omega (arith, none))
  | inr ahead ↦ (
      let z = ahead.1.is.heard.schedule in
      let gap = ahead.1.is.heard.gap_is in
      let few = (in_slot h.packet z ahead.1.is.heard.says).gap in
      omega (arith, gap, few)
      )
]

module _ (s : ScenarioParts) (clocks : ℕ → ℕ → ℕ) (air : List Entry) (whole : EndsInOrder s clocks air) (x : Sending) (begun : BeginsData air x)
    (d : ℕ) (h : Sending) (reference : IsReference s air x d h) (y : Schedule) (says : message_of h.packet ≡ Some (ScheduleOf y))
    (o : Sending) (began : BeganFlood s air h o) (host : ℕ) (named : IsHostOf s x.rank host) where
  abbrev own_flood : IsOfFlood s clocks air x
  own_flood = of_flood s clocks air whole x begun.there

  begins : BeginsFlood s clocks air own_flood.zero x
  begins = begins_flood s clocks air whole x begun.there begun.first

  fits : Fits s.profile (budget_of s.profile)
  fits = run_fits s whole.run.driven.sound

  within : frame_of_sending s.profile x ≤ 4095
  within = frame_of_run s clocks air whole.run x own_flood begun.there

  j_low : slot_of_sending x ≤ (budget_of s.profile).last
  j_low = slot_in_round s clocks air whole.run x own_flood

  good : Good s.profile (budget_of s.profile) (clocks host) (clocks x.node) own_flood.zero (frame_of_sending s.profile x)
      (starting_offset s.profile (slot_of_sending x))
  good =
      let p = s.profile in
      let L = clocks x.node in
      let H = clocks (slice_index s.hosts x.rank) in
      let j = slot_of_sending x in
      subst (λ (u : ℕ). Good p (budget_of p) (clocks u) L own_flood.zero (frame_of_sending p x) (starting_offset p j)) (host_is s x.rank host named)
      (good_later p (budget_of p) fits H L own_flood.zero (frame_of_sending p x) (opening_offset p j) (starting_offset p j) (omega arith) begins.start.good)

  -- one frame at most
  same_frame : d ≡ 0 → x.start ≤ o.start + (budget_of s.profile).age
  same_frame none =
      let p = s.profile in
      let sound = whole.run.driven.sound in
      let frames = (before s clocks air whole x begun d h reference y says).frames in
      let same : frame_of_sending p o ≡ frame_of_sending p x = sym began.same.frame ∙ omega (arith, none, frames) in
      let from = frame_begins s sound o.start in
      let until = frame_ends s sound x.start in
      let one : (frame_of_sending p x + 1) * p.frame ≡ frame_of_sending p x * p.frame + p.frame = omega arith in
      let product : frame_of_sending p o * p.frame ≡ frame_of_sending p x * p.frame = ap (λ (f : ℕ). f * p.frame) same in
      let age = fits.age in
      omega (arith, from, until, one, product, age)

  later_round : 1 ≤ d → x.start ≤ o.start + (budget_of s.profile).age
  later_round some =
      let p = s.profile in
      let b = budget_of p in
      let H = clocks host in
      let L = clocks x.node in
      let f = frame_of_sending p x in
      let g = frame_of_sending p h in
      let frames = (before s clocks air whole x begun d h reference y says).frames in
      let first = later_frame s clocks air whole x begun d h reference y says o began host named in
      let i_low = slot_short s clocks air whole x begun d h reference y says o began host named in
      let host_drifts = host_clock s clocks air whole x begun d h reference y says o began host named in
      let drifts = clock s clocks air whole x begun d h reference y says o began host named in
      let begins_at : x.start ≡ tick_at_offset L own_flood.zero (starting_offset p (slot_of_sending x)) = begins.at in
      let near = near_host p b fits H L own_flood.zero f (slot_of_sending x) host_drifts drifts (omega (arith, frames, first, some)) within j_low good in
      let few = few_ahead s air x d h reference in
      let young = within_age p b fits H g d f (slot_of_sending h) (slot_of_sending x) host_drifts first frames few within i_low j_low in
      let at = starts s clocks air whole x begun d h reference y says o began host named in
      let below = near.below in
      omega (arith, begins_at, below, young, at)

  young : x.start ≤ o.start + (budget_of s.profile).age
  young = elim (cases_lt 0 d) [ inl some ↦ later_round some | inr none ↦ same_frame (omega (arith, none)) ]

  pub close : DifferByLess (tick_by s air x clocks d h) (clocks host x.start) (never_reached s.profile)
  close =
      let p = s.profile in
      let near = errs s clocks air whole x begun d h reference y says o began host named in
      let below = near.below in
      let above = near.above in
      let old = young in
      let less : slack y + drifted (x.start - o.start) < (budget_of p).zeros =
      below_zeros p (budget_of p) fits (x.start - o.start) (slack y) (omega (arith, old)) (slack_by (y.plan.contend == 0)) in
      let most = zeros_are p in
      record { below = omega (arith, below, less, most); above = omega (arith, above, less, most) }

-- the flood of h has a beginning
pub began_by : (s : ScenarioParts) (clocks : ℕ → ℕ → ℕ) (air : List Entry) (h : Sending) (is : IsOfFlood s clocks air h) → BeganFlood s air h is.origin
began_by s clocks air h is = record { there = is.begins.sent; same = is.slot; first = is.begins.start.first }

pub stamps_stay_close : StampsStayClose
stamps_stay_close s clocks air driven lawful x begun d h reference host named =
    let whole = whole_run s clocks air driven lawful in
    let told = reference_says s air x d h reference in
    let is = flood s clocks air whole x begun d h reference told.0 told.1 in
    close s clocks air whole x begun d h reference told.0 told.1 is.origin (began_by s clocks air h is) host named
