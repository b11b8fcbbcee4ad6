-- Who begins the flood of data hosts if and only if it is the host that the scenario names.
use Rattle.std.proofs.Common.{◌≡◌, ℕ, suc, ◌<◌, ◌≤◌, inl, inr, List, Contains, Bool, true, false, Some, refl, sym, ◌∙◌, subst, arith, true≢false}
use Rattle.std.proofs.Math.Nat.{mul-le-mul_right}
use Rattle.lwb_base.specs.Messages.{Schedule}
use Rattle.bus_rules.specs.Slots.{ScheduleOf}
use Rattle.lwb_member.specs.Said.{message_of}
use Rattle.scenario_text.specs.ScenarioParts.{ScenarioParts}
use Rattle.scenario_text.specs.FloodParts.{knows}
use Rattle.radio_model.specs.declared.sending.Sending.{Sending}
use Rattle.radio_model.specs.Hearing.{frame_of_sending, slot_of_sending, counter_of_sending}
use Rattle.air_log.specs.declared.entry.Entry.{Entry}
use Rattle.air_log.specs.Devices.{Power, PowerOff, PowerOn}
use Rattle.air_log.specs.Lawful.{heard_by}
use Rattle.air_log.specs.Safe.{sender_hosts, is_hosting}
use Rattle.air_log.specs.Trails.{run_end, frame_start, tune_of}
use Rattle.law_trails.specs.Phases.{Start, device_at}
use Rattle.law_trails.specs.TrailLinks.{device_in}
use Rattle.law_trails.proofs.SentInTrails.{sent_below, sent_known, sent_lasts}
use Rattle.law_safety.specs.Beginnings.{MaySay, SaysData}
use Rattle.law_safety.specs.Endings.{EndsInOrder}
use Rattle.law_safety.specs.SentPlans.{IsHostOf, HasHeardPlan, StaysOnUntil}
use Rattle.law_safety.proofs.FloodPackets.{says_as_origin}
use Rattle.law_safety.proofs.InvariantHolds.{whole_run}
use Rattle.law_safety.proofs.RunFacts.{frame_from, host_is}
use Rattle.law_safety.proofs.RunSendings.{of_flood, begins_flood, in_trail}
use Rattle.law_safety.proofs.SentPlans.{began_by_host}
use Rattle.bus_time.specs.StampLaws.{BeginsData, DataHostsLaw}
use Rattle.bus_time.proofs.HostingRuns.{hosting_before, hosting_then}
use Rattle.bus_time.proofs.HostingWalk.{HostsBy, IsHosting}
use Rattle.bus_time.proofs.HeardWords.{over_before, origin_before}

hosting_is : (p : Power) → HostsBy p → is_hosting (tune_of p) ≡ true
hosting_is (PowerOff count) host = absurd host
hosting_is (PowerOn n) host = host

module _ (s : ScenarioParts) (clocks : ℕ → ℕ → ℕ) (air : List Entry) (whole : EndsInOrder s clocks air) (x : Sending) (begins : BeginsData air x) where
  known : knows s.nodes x.node ≡ true
  known = sent_known s clocks air whole.run.heedful.trails x begins.there

  in_run : x.start < run_end s
  in_run = (sent_lasts s clocks air whole.run.heedful.trails x begins.there).0

  named : sender_hosts s clocks air x ≡ true → IsHostOf s x.rank x.node
  named host = (hosting_before s clocks air x.node whole.run known (run_end s) (omega arith)).own x (in_trail s clocks air whole x begins.there) host

  pub word : sender_hosts s clocks air x ≡ false
      → (plan : _) × HasHeardPlan s air x.node x.rank (frame_of_sending s.profile x) plan (suc (frame_start s (frame_of_sending s.profile x)))
  word guest =
      let z = (of_flood s clocks air whole x begins.there).zero in
      let may : SaysData s clocks air x.node x.rank (frame_of_sending s.profile x) z (slot_of_sending x) (sender_hosts s clocks air x) begins.data_ =
      subst (MaySay s clocks air x.node x.rank (frame_of_sending s.profile x) z (slot_of_sending x) (sender_hosts s clocks air x)) begins.says
      (begins_flood s clocks air whole x begins.there begins.first).start.says in
      elim may.word [ inl host ↦ absurd (true≢false (sym host ∙ guest)) | inr heard ↦ (may.plan, heard) ]

  -- it would have received its own schedule
  own_word : IsHostOf s x.rank x.node → sender_hosts s clocks air x ≡ false → sender_hosts s clocks air x ≡ true
  own_word is guest =
      let v = x.node in
      let told = word guest in
      let heard = told.1 in
      let h = heard.heard in
      let y : Schedule = record { plan = told.0; gap = heard.gap } in
      let sent = (whole.run.heedful.heard v h heard.schedule.there).sent in
      let flood = of_flood s clocks air whole h sent in
      let o = flood.origin in
      let says : message_of o.packet ≡ Some (ScheduleOf y) = sym (says_as_origin s clocks air h flood) ∙ heard.schedule.says in
      let first : counter_of_sending o ≡ 0 = flood.begins.start.first in
      let host : IsHostOf s o.rank o.node = began_by_host s clocks air whole o y flood.begins.sent first says in
      let rank : o.rank ≡ x.rank = sym flood.slot.channel ∙ heard.schedule.channel in
      let node : o.node ≡ v = sym (host_is s x.rank o.node (subst (λ (r : ℕ). IsHostOf s r o.node) rank host)) ∙ host_is s x.rank v is in
      let over = over_before s clocks air whole v h x y begins.data_ heard.schedule.there begins.there heard.schedule.channel heard.schedule.says
      begins.says heard.due in
      let began = origin_before s clocks air whole h flood in
      let lasts = flood.lasts in
      let before : o.start < x.start = omega (arith, over, began, lasts) in
      let in_trail_then : Contains (device_in s clocks air v x.start).made.sent o =
      (sent_below s clocks air whole.run.heedful.trails v known x.start (let early = in_run in omega (arith, early)) o).0
      (record { there = flood.begins.sent; node = node; below = before }) in
      let now : IsHosting s clocks air v x.start (device_at s v (clocks v) (heard_by air v) x.start Start) =
      hosting_then s clocks air v whole.run known x.start in_run in
      let stays : StaysOnUntil s v (frame_of_sending s.profile o) (suc x.start) = λ l there of_node later line. (
      let frame : l.frame ≤ frame_of_sending s.profile x = frame_from s whole.run.driven.sound l.frame x.start (omega (arith, line)) in
      let starts = mul-le-mul_right s.profile.frame frame in
      let same : frame_of_sending s.profile h ≡ frame_of_sending s.profile o = flood.slot.frame in
      heard.stays l there of_node (omega (arith, later, same)) (omega (arith, starts))
      ) in
      hosting_is (device_at s v (clocks v) (heard_by air v) x.start Start).power
      (now.on o (now.grows o in_trail_then) (record { first = first; schedule = y; says = says }) stays)

  hosting : (b : Bool) → sender_hosts s clocks air x ≡ b → IsHostOf s x.rank x.node → sender_hosts s clocks air x ≡ true
  hosting true host is = host
  hosting false guest is = own_word is guest

  pub hosts_named : (sender_hosts s clocks air x ≡ true → IsHostOf s x.rank x.node) × (IsHostOf s x.rank x.node → sender_hosts s clocks air x ≡ true)
  hosts_named = (named, hosting (sender_hosts s clocks air x) refl)

pub data_hosts : DataHostsLaw
data_hosts s clocks air driven lawful x begins = hosts_named s clocks air (whole_run s clocks air driven lawful) x begins
