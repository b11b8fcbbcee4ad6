-- One of the first packets of an agreed stream that wait is delivered within its bound: the host keeps the stream until the end, if it is not before.
use Rattle.std.proofs.Common.{◌≡◌, ◌<◌, ◌≤◌, ◌+◌, ◌-◌, ◌*◌, ◌/◌, ℕ, List, inl, inr, min, refl, sym, ◌∙◌, ap, subst, arith}
use Rattle.law_times.proofs.Words.{div-mul-le_self, mul-le-mul_left, cases_lt, code, IsOverScenario, ScenarioParts, Host, Core, State, StateOn, stream_at}
use Rattle.law_times.proofs.Words.{TableEntry, state_at, HasEntry, HasSlowStreams, IsOnPace, latency_bound, AgreedPacketsComeWithin, AwaitsSlot, IsDelivered}
use Rattle.law_times.proofs.Words.{IsServed, StreamPacket}
use Rattle.law_times.proofs.AgreedFrames.{Holding, all_steps}
use Rattle.law_times.proofs.AgreedRounds.{GoodState}
use Rattle.law_times.proofs.ContendingFrames.{HasBoot}
use Rattle.law_times.proofs.CountedSlots.{some}
use Rattle.law_times.proofs.GrownTables.{entries_at}
use Rattle.law_times.proofs.KeptEntries.{HasStream}
use Rattle.law_times.proofs.KeptMembers.{Members, to_members, host_core}
use Rattle.law_times.proofs.LatentPackets.{packets_come, some_frames}
use Rattle.law_times.proofs.LatentSlots.{keep_pace, spread}
use Rattle.law_times.proofs.QueuedPackets.{waits_queued}
use Rattle.law_times.proofs.QueuedRounds.{code_of_packet}

module _ (queue interval seconds : ℕ) (s : ScenarioParts) (accepted : IsOverScenario s) (slow : HasSlowStreams s) (same : s.profile.seconds ≡ seconds)
    (rank host f : ℕ) (among : List ℕ) (w : StreamPacket) (ahead : ℕ)
    (awaits : AwaitsSlot s rank host f (f + latency_bound queue interval seconds) among w ahead) (less : ahead < queue) (due : ℕ) (e : TableEntry)
    (has_entry : HasEntry s host f due e) (of_packet : e.code ≡ code w.node w.stream) (long : e.interval ≡ interval) (early : e.accepted < f)
    (served : IsServed s rank host f (f + latency_bound queue interval seconds) among awaits.members.plan w e) where
  abbrev end : ℕ
  end = f + latency_bound queue interval seconds

  abbrev boot : ℕ
  boot = has_entry.core.boot

  pace : IsOnPace s.profile.seconds due e
  pace = keep_pace s accepted slow f host has_entry.rank due has_entry.core has_entry.on has_entry.tune e has_entry.there

  some_seconds_now : 0 < s.profile.seconds
  some_seconds_now = some s accepted slow

  positive : 0 < e.interval
  positive = (let least = pace.slow in let first = some_seconds_now in omega (arith, least, first))

  frame_each : 1 ≤ (queue * interval + seconds - 1) / seconds
  frame_each =
      (let least = pace.slow in
      let first = some_seconds_now in
      some_frames queue interval seconds (omega (arith, less)) (omega (arith, first, same)) (omega (arith, least, same, long)))

  abbrev Now : ℕ → Type 0
  Now = Holding s accepted slow rank host f end among w ahead awaits served.guest served.reach served.keeps e.interval e.accepted boot positive early

  start : Now f
  start = record {
    m = m;
    ahead_now = ahead;
    waits = waits_queued w ahead (state_at s f w.node) awaits.queued;
    table = subst (λ (y : State). HasStream (code_of_packet w) e.interval e.accepted (entries_at y)) (sym has_entry.on)
        (record { entry = e; there = has_entry.there; code_is = of_packet; interval_is = refl; accepted_is = refl });
    low = low;
    late = omega arith;
    good = subst (GoodState w.node w.stream e.interval awaits.stream positive low) (sym served.agreed.on)
        (record { wish = served.agreed.wish; agreed = served.agreed.agreed; last = omega arith });
    lately = lately;
    acks = λ a there of_code. served.agreed.acks a there (of_code ∙ sym of_packet);
    plan = (served.agreed.of_rank, served.agreed.of_boot has_entry.core has_entry.on);
    boot = subst (HasBoot boot) (sym has_entry.on) refl;
  }
    where
      m : Members s rank f host among
      m = to_members s accepted rank host f end among awaits.group f awaits.members

      last : ℕ
      last = (stream_at served.agreed.core.streams w.stream).last

      -- a schedule of a later frame is none yet
      low : ℕ
      low = min last f

      lately : s.profile.seconds * (m.due - e.accepted) / e.interval * e.interval + s.profile.seconds * e.accepted ≤ s.profile.seconds * (low + 4)
      lately = elim (cases_lt last f) [
        | inl before ↦
            (let given = served.agreed.lately in
            let low_is : s.profile.seconds * (low + 4) ≡ s.profile.seconds * (last + 4) =
            ap (λ (n : ℕ). s.profile.seconds * (n + 4)) (let least : min last f ≡ last = omega (arith, before) in least) in
            let granted : e.granted * e.interval ≡ s.profile.seconds * (m.due - e.accepted) / e.interval * e.interval =
            ap (λ (n : ℕ). n * e.interval) (pace.granted
            ∙ ap (λ (d : ℕ). s.profile.seconds * (d - e.accepted) / e.interval) due_is) in
            omega (arith, given, low_is, granted))
        | inr later ↦
            (let low_is : s.profile.seconds * (low + 4) ≡ s.profile.seconds * (f + 4) =
            ap (λ (n : ℕ). s.profile.seconds * (n + 4)) (let least : min last f ≡ f = omega (arith, later) in least) in
            let range = m.range in
            let most = div-mul-le_self (s.profile.seconds * (m.due - e.accepted)) e.interval in
            let whole : s.profile.seconds * m.due ≡ s.profile.seconds * (m.due - e.accepted) + s.profile.seconds * e.accepted =
            ap (λ (d : ℕ). s.profile.seconds * d) (let sum : m.due ≡ (m.due - e.accepted) + e.accepted = omega (arith, range, early) in sum)
            ∙ spread s.profile.seconds (m.due - e.accepted) e.accepted in
            let far : s.profile.seconds * m.due ≤ s.profile.seconds * (f + 4) = mul-le-mul_left s.profile.seconds (omega (arith, range)) in
            omega (arith, low_is, most, whole, far))
      ]
        where
          host_due : (r d q n : ℕ) → Host r d ≡ Host q n → d ≡ n
          host_due r d q n is = cc

          due_is : due ≡ m.due
          due_is =
              (let host_now = host_core s rank f host among m in
              let same : StateOn has_entry.core ≡ StateOn host_now.0 = sym has_entry.on ∙ host_now.1 in
              let core : has_entry.core ≡ host_now.0 = cc in
              host_due has_entry.rank due rank m.due (sym has_entry.tune ∙ ap (λ (k : Core). k.tune) core ∙ host_now.2))

  at_end : Now (end - 3) → (g : ℕ) × (f ≤ g) × (g ≤ end) × IsDelivered s rank g among w
  at_end is =
      let host = host_core s rank (end - 3) host among is.m in
      let stream = subst (λ (y : State). HasStream (code_of_packet w) e.interval e.accepted (entries_at y)) host.1 is.table in
      packets_come queue interval seconds s accepted slow same rank _ f among w ahead awaits less is.m.due stream.entry
      (record { core = host.0; rank = rank; on = host.1; tune = host.2; there = stream.there }) stream.code_is (stream.interval_is ∙ long)
      (let since = stream.accepted_is in omega (arith, since, early))

  comes : (g : ℕ) × (f ≤ g) × (g ≤ end) × IsDelivered s rank g among w
  comes =
      (let first = frame_each in
      let k : ℕ = end - 3 - f in
      let is : f + k ≡ end - 3 = omega (arith, first) in
      elim (all_steps s accepted slow rank host f end among w ahead awaits served.guest served.reach served.keeps e.interval e.accepted boot positive early
      k f (omega arith) (omega (arith, is)) start) [
        | inl found ↦ (let below = found.2 in (found.0, found.1, omega (arith, below, is), found.3))
        | inr last ↦ at_end (subst Now is last)
      ])

pub agreed_come : (queue interval seconds : ℕ) → AgreedPacketsComeWithin queue interval seconds (latency_bound queue interval seconds)
agreed_come queue interval seconds s accepted slow same rank host f among w ahead awaits less due e has_entry of_packet long early served =
    comes queue interval seconds s accepted slow same rank host f among w ahead awaits less due e has_entry of_packet long early served
