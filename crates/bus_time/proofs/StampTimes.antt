-- What is stamped lies in the run, and so do the readings by which it is.
use Rattle.std.proofs.Common.{◌≡◌, ℕ, ◌+◌, ◌-◌, ◌*◌, ◌^◌, ◌<◌, ◌≤◌, inl, inr, List, Bool, true, false, Some, refl, sym, ◌∙◌, ap, arith}
use Rattle.std.specs.Prelude.{slice_get}
use Rattle.std.proofs.Math.Nat.{mul-le-mul_right}
use Rattle.lwb_base.specs.declared.limits.TheConstants.{MOST_FRAMES}
use Rattle.lwb_base.specs.Profile.{airtime}
use Rattle.tick_clock.specs.Clocks.{IsClock}
use Rattle.time_reference.specs.Budgets.{budget_of}
use Rattle.time_reference.specs.Reference.{heard_zero}
use Rattle.time_reference.proofs.Run.{no_stop_reading}
use Rattle.node_core.specs.Nodes.{zero_from}
use Rattle.scenario_text.specs.ScenarioFacts.{IsSoundScenario}
use Rattle.scenario_text.specs.ScenarioParts.{ScenarioParts}
use Rattle.scenario_text.specs.FloodParts.{knows}
use Rattle.radio_model.specs.declared.sending.Sending.{Sending}
use Rattle.radio_model.specs.Hearing.{frame_of_sending}
use Rattle.air_log.specs.declared.entry.Entry.{Entry}
use Rattle.air_log.specs.Entries.{HasHeardEntry}
use Rattle.air_log.specs.Safe.{sender_hosts}
use Rattle.air_log.specs.Trails.{run_end}
use Rattle.air_log.proofs.AlarmLoop.{early_in_run}
use Rattle.law_trails.proofs.SentInTrails.{sent_known, sent_lasts}
use Rattle.law_safety.specs.SentPlans.{IsHostOf}
use Rattle.law_safety.proofs.RunFacts.{run_fits, frame_begins, frame_in_run}
use Rattle.law_safety.proofs.InvariantHolds.{whole_run}
use Rattle.bus_time.specs.Stamps.{IsReference, HasReference}
use Rattle.bus_time.specs.Stamping.{MayStamp, IsWordFor}
use Rattle.bus_time.specs.declared.words.Word.{Word}
use Rattle.bus_time.specs.declared.words.Words.{Words}
use Rattle.bus_time.specs.declared.beginning.Beginning.{Beginning}
use Rattle.bus_time.proofs.DataHosts.{hosts_named}
use Rattle.bus_time.proofs.GivenWords.{begun_data}

-- a reference is received
pub reference_heard : (s : ScenarioParts) (air : List Entry) (x : Sending) (d : ℕ) (h : Sending) → IsReference s air x d h → HasHeardEntry air x.node h
reference_heard s air x d h reference = elim reference.by [
  | inl now ↦ now.1.is.heard.there
  | inr ahead ↦ ahead.1.is.heard.there
]

module _ (s : ScenarioParts) (clocks : ℕ → ℕ → ℕ) (now ahead : Words) (b : Beginning) (air : List Entry) (x : Sending)
    (may : MayStamp s clocks now ahead b air x) where
  pub known : knows s.nodes x.node ≡ true
  known = sent_known s clocks air may.lawful.trails x may.there

  pub in_run : x.start < run_end s
  in_run = (sent_lasts s clocks air may.lawful.trails x may.there).0

  ticks : run_end s ≤ MOST_FRAMES * s.profile.frame
  ticks = mul-le-mul_right s.profile.frame may.driven.sound.few_frames

  clock : IsClock (clocks x.node)
  clock = may.driven.drift x.node known

  pub small_tick : (t : ℕ) → t < run_end s → t ≤ 2 ^ 45
  small_tick t in_it = early_in_run s t may.driven.sound (omega (arith, in_it))

  pub small_reading : (t : ℕ) → t < run_end s → clocks x.node t < 2 ^ 45
  small_reading t in_it =
      let most = ticks in
      let room = no_stop_reading s.profile (budget_of s.profile) (run_fits s may.driven.sound) (clocks x.node) clock t (omega (arith, in_it, most)) in
      let sum = room.1 in
      omega (arith, sum)

  pub starts : b.start ≡ x.start
  starts = ap (λ (c : Beginning). c.start) may.is

  pub frames : b.frame ≡ frame_of_sending s.profile x
  frames = ap (λ (c : Beginning). c.frame) may.is

  pub small_frame : frame_of_sending s.profile x ≤ 4095
  small_frame = frame_in_run s may.driven.sound x.start in_run

  pub frame_begun : frame_of_sending s.profile x * s.profile.frame ≤ x.start
  frame_begun = frame_begins s may.driven.sound x.start

  pub named : sender_hosts s clocks air x ≡ true → slice_get s.hosts b.rank ≡ Some b.node
  named host =
      let is : IsHostOf s x.rank x.node =
      (hosts_named s clocks air (whole_run s clocks air may.driven may.lawful) x (begun_data air x may.there may.begins)).0 host in
      ap (λ (c : Beginning). slice_get s.hosts c.rank) may.is ∙ is ∙ ap (λ (c : Beginning). Some c.node) (sym may.is)

  pub hosting : slice_get s.hosts b.rank ≡ Some b.node → sender_hosts s clocks air x ≡ true
  hosting is =
      (hosts_named s clocks air (whole_run s clocks air may.driven may.lawful) x (begun_data air x may.there may.begins)).1
      (sym (ap (λ (c : Beginning). slice_get s.hosts c.rank) may.is) ∙ is ∙ ap (λ (c : Beginning). Some c.node) may.is)

  guest_by : (c : Bool) → sender_hosts s clocks air x ≡ c → (slice_get s.hosts b.rank ≡ Some b.node → ⊥) → sender_hosts s clocks air x ≡ false
  guest_by true host other = absurd (other (named host))
  guest_by false guest other = guest

  pub guest : (slice_get s.hosts b.rank ≡ Some b.node → ⊥) → sender_hosts s clocks air x ≡ false
  guest other = guest_by (sender_hosts s clocks air x) refl other

  pub word_in_run : (w : Word) → IsWordFor s air x w → w.end < run_end s
  word_in_run w is =
      let h = is.heard in
      let ends : h.end < run_end s = ((may.lawful.hearing.heard x.node h).0 (reference_heard s air x w.ahead h is.reference)).0 in
      let end : w.end ≡ h.end = ap (λ (u : Word). u.end) is.is in
      omega (arith, ends, end)

  abbrev zero_of : Word → ℕ
  zero_of w = heard_zero s.profile (clocks x.node w.end - airtime s.profile w.length) w.counter w.length w.slot

  pub has_reference : (w : Word) (is : IsWordFor s air x w) (local from_zero tick : ℕ) → local ≡ clocks x.node x.start → from_zero ≡ zero_of w
      → tick ≡ b.frame * s.profile.frame + s.profile.lead + local - (from_zero + w.ahead * s.profile.frame) → HasReference s air x clocks tick
  has_reference w is local from_zero tick local_is zero_is tick_is =
      let from : from_zero ≡ zero_from s.profile (clocks x.node is.heard.end) is.heard.packet = zero_is ∙ ap zero_of is.is in
      record {
        ahead = w.ahead;
        heard = is.heard;
        reference = is.reference;
        is = tick_is
            ∙ ap (λ (f : ℕ). f * s.profile.frame + s.profile.lead + local - (from_zero + w.ahead * s.profile.frame)) frames
            ∙ ap (λ (l : ℕ). frame_of_sending s.profile x * s.profile.frame + s.profile.lead + l - (from_zero + w.ahead * s.profile.frame)) local_is
            ∙ ap (λ (z : ℕ). frame_of_sending s.profile x * s.profile.frame + s.profile.lead + clocks x.node x.start - (z + w.ahead * s.profile.frame)) from;
      }

-- the sum by the numbers of the profile
pub summed : (f frame lead local from_zero ahead again g l a : ℕ) → frame ≡ g → lead ≡ l → again ≡ g → ahead ≡ a
    → f * frame + lead + local - (from_zero + ahead * again) ≡ f * g + l + local - (from_zero + a * g)
summed f frame lead local from_zero ahead again g l a is_frame is_lead is_again is_ahead = rw (is_frame, is_lead, is_again, is_ahead) refl

-- a host's zero is early
pub small_nominal : (s : ScenarioParts) → IsSoundScenario s → s.profile.lead < 2 ^ 45
small_nominal s sound =
    let fits = run_fits s sound in
    let round = fits.round in
    let alarm = fits.alarm in
    let run = fits.run in
    omega (arith, round, alarm, run)
