-- Within how many frames a packet that waits is delivered: by each round its stream has been granted what has come due, and each slot takes
-- one of the packets before it.
use Rattle.std.proofs.Common.{◌≡◌, ◌<◌, ◌≤◌, ◌+◌, ◌-◌, ◌*◌, ◌/◌, ℕ, zero, suc, List, true, inl, inr, refl, sym, ◌∙◌, ap, subst, arith, Contains}
use Rattle.law_times.proofs.Words.{mul-le-mul_right, cases_eq, le-div, Plan, code, IsOverScenario, ScenarioParts, over_sound, Host, Core, count_of, StateOn}
use Rattle.law_times.proofs.Words.{TableEntry}
use Rattle.law_times.proofs.Words.{hosts, state_at, HasEntry, HasSlowStreams, IsOnPace, latency_bound, AwaitsSlot, IsDelivered, PacketsComeWithin, StreamPacket}
use Rattle.law_times.proofs.CountedSlots.{some, counted}
use Rattle.law_times.proofs.GrownTables.{IsGrown, NewOr}
use Rattle.law_times.proofs.HostFrames.{HostBefore, host_before}
use Rattle.law_times.proofs.KeptMembers.{Members, members_stay, quiet, step, to_members, host_core}
use Rattle.law_times.proofs.LatentSlots.{come_due, keep_pace, spread}
use Rattle.law_times.proofs.PacketFrames.{due_frame, idle_frame, next_frame}
use Rattle.law_times.proofs.QueuedPackets.{Waits, waits_queued}
use Rattle.law_times.proofs.QueuedRounds.{code_of_packet}

-- the members and the packet, from frame f to frame e
module _ (s : ScenarioParts) (accepted : IsOverScenario s) (slow : HasSlowStreams s) (rank host f e : ℕ) (among : List ℕ) (w : StreamPacket) (ahead : ℕ)
    (awaits : AwaitsSlot s rank host f e among w ahead) where
  abbrev M : ℕ → Type 0
  M x = Members s rank x host among

  abbrev slots : {x : ℕ} → M x → ℕ
  slots m = count_of (code_of_packet w) m.plan.owners

  abbrev Arrives : ℕ → Type 0
  Arrives last = (g : ℕ) × (f ≤ g) × (g ≤ last) × IsDelivered s rank g among w

  frame_of : (x : ℕ) → x ≤ e → x < s.frames
  frame_of x within = (let ends = awaits.ends in omega (arith, within, ends))

  -- by its plan the next round has a slot for it
  in_next : (more x k : ℕ) → f ≤ x → (m : M x) → x + more ≡ m.due → m.due ≤ e → k < slots m → Waits w k (state_at s x w.node)
      → IsDelivered s rank m.due among w
  in_next zero x k after m at within less is =
      let now : m.due ≡ x = omega (arith, at) in
      elim (due_frame s accepted rank host f e among awaits.group w awaits.stream awaits.there awaits.stays x k
      (frame_of x (omega (arith, within, now))) (awaits.lossless x after (omega (arith, within, now))) m now is) [
        | inl delivered ↦ subst (λ (g : ℕ). IsDelivered s rank g among w) (sym now) delivered
        | inr up ↦ (let moved = up.moved in absurd (omega (arith, moved, less)))
      ]
  in_next (suc more) x k after m at within less is =
      let later : x < m.due = omega (arith, at) in
      let next = quiet s accepted rank host f e among awaits.group x after (omega (arith, later, within)) m later in
      let still = idle_frame s accepted rank host f e among awaits.group w awaits.stream awaits.there awaits.stays x k after
      (omega (arith, later, within)) m later is in
      subst (λ (g : ℕ). IsDelivered s rank g among w) next.1
      (in_next more (suc x) k (omega (arith, after)) next.0 (let same = next.1 in omega (arith, at, same)) (let same = next.1 in omega (arith, within, same))
      (subst (λ (p : Plan). k < count_of (code_of_packet w) p.owners) (sym next.2) less) still)

  -- the host of members by its core
  known_host : (x : ℕ) (m : M x) (c : Core) → state_at s x host ≡ StateOn c → (c.tune ≡ Host rank m.due) × (c.plan ≡ m.plan)
  known_host x m c on =
      let d = host_core s rank x host among m in
      let same : StateOn c ≡ StateOn d.0 = sym on ∙ d.1 in
      let core : c ≡ d.0 = cc in
      (ap (λ (k : Core). k.tune) core ∙ d.2, ap (λ (k : Core). k.plan) core ∙ d.3)

  same_due : (r d q n : ℕ) → Host r d ≡ Host q n → d ≡ n
  same_due r d q n is = cc

  -- from an entry of the host's table in frame x on: where not more is to be granted than this, the packet arrives in time
  module _ (bound last : ℕ) (within : last ≤ e) (target : TableEntry) (early : target.accepted < f) (of_packet : target.code ≡ code_of_packet w) where
    pub record FromHere (x : ℕ) : Type 0 where
      pub core : Core
      pub on : state_at s x host ≡ StateOn core
      pub host_tune : hosts core.tune ≡ true
      pub entry : TableEntry
      pub there : Contains core.table.entries entry
      pub code_is : entry.code ≡ target.code
      pub interval_is : entry.interval ≡ target.interval
      pub accepted_is : entry.accepted ≡ target.accepted
      pub arrives : (m : M x) (k : ℕ) → Waits w k (state_at s x w.node) → k + entry.granted ≤ bound + slots m → Arrives last

    back : (x : ℕ) → f ≤ x → suc x ≤ last → FromHere (suc x) → FromHere x
    back x after soon here = elim (cases_eq before.due x) [ inl now ↦ in_round now (before.grown now here.entry here.there) | inr other ↦ quietly other ]
      where
        before : HostBefore s x host here.core
        before = host_before s (over_sound s accepted) slow (some s accepted slow) x host here.core here.on here.host_tune here.entry here.there

        due_is : (m : M x) → before.due ≡ m.due
        due_is m = same_due before.rank before.due rank m.due (sym before.tune ∙ (known_host x m before.core before.on).0)

        quietly : (before.due ≡ x → ⊥) → FromHere x
        quietly other = record {
          core = before.core;
          on = before.on;
          host_tune = ap hosts before.tune;
          entry = here.entry;
          there = subst (λ (l : List TableEntry). Contains l here.entry) (before.idle later).0 here.there;
          code_is = here.code_is;
          interval_is = here.interval_is;
          accepted_is = here.accepted_is;
          arrives = λ m k is few. go m k is few;
        }
          where
            later : x < before.due
            later = (let low = before.low in omega (arith, low, other))

            go : (m : M x) (k : ℕ) → Waits w k (state_at s x w.node) → k + here.entry.granted ≤ bound + slots m → Arrives last
            go m k is few =
                let due = due_is m in
                let behind : x < m.due = omega (arith, later, due) in
                let next = quiet s accepted rank host f e among awaits.group x after (omega (arith, soon, within)) m behind in
                let still = idle_frame s accepted rank host f e among awaits.group w awaits.stream awaits.there awaits.stays x k after
                (omega (arith, soon, within)) m behind is in
                here.arrives next.0 k still
                (subst (λ (p : Plan). k + here.entry.granted ≤ bound + count_of (code_of_packet w) p.owners) (sym next.2) few)

        in_round : before.due ≡ x → IsGrown x before.core.table.entries here.core.plan.owners here.entry → FromHere x
        in_round now grown = by_age grown.was
          where
            go : (m : M x) (k : ℕ) → Waits w k (state_at s x w.node) → k + grown.before.granted ≤ bound + slots m → Arrives last
            go m k is few =
                let due = due_is m in
                let at : m.due ≡ x = omega (arith, due, now) in
                let lossless = awaits.lossless x after (omega (arith, soon, within)) in
                elim (due_frame s accepted rank host f e among awaits.group w awaits.stream awaits.there awaits.stays x k
                (frame_of x (omega (arith, soon, within))) lossless m at is) [
                  | inl delivered ↦ (x, after, omega (arith, soon), delivered)
                  | inr up ↦
                      (let next = step s accepted rank host f e among awaits.group x after (omega (arith, soon, within)) lossless m in
                      let still = next_frame s accepted rank host f e among awaits.group w awaits.stream awaits.there awaits.stays x up.left after
                      (omega (arith, soon, within)) up.waits in
                      let moved = up.moved in
                      let granted = grown.granted in
                      let count : count_of here.entry.code here.core.plan.owners ≡ slots next =
                      ap (λ (c : ℕ). count_of c here.core.plan.owners) (here.code_is ∙ of_packet)
                      ∙ ap (λ (p : Plan). count_of (code_of_packet w) p.owners) (known_host (suc x) next here.core here.on).1 in
                      here.arrives next up.left still (omega (arith, moved, granted, count, few)))
                ]

            by_age : NewOr x before.core.table.entries grown.before → FromHere x
            by_age (inl new) = (let at = grown.accepted in let same = here.accepted_is in absurd (omega (arith, new.0, at, same, early, after)))
            by_age (inr among_then) = record {
              core = before.core;
              on = before.on;
              host_tune = ap hosts before.tune;
              entry = grown.before;
              there = among_then;
              code_is = grown.code ∙ here.code_is;
              interval_is = grown.interval ∙ here.interval_is;
              accepted_is = grown.accepted ∙ here.accepted_is;
              arrives = go;
            }

    pub far_back : (n x : ℕ) → f ≤ x → n + x ≤ last → FromHere (n + x) → FromHere x
    far_back zero x after soon here = subst FromHere (omega arith) here
    far_back (suc n) x after soon here =
        far_back n x after (omega (arith, soon)) (back (n + x) (omega (arith, after)) (omega (arith, soon)) (subst FromHere (omega arith) here))

-- each slot needs a frame at least
pub some_frames : (queue interval seconds : ℕ) → 0 < queue → 0 < seconds → seconds ≤ interval → 1 ≤ (queue * interval + seconds - 1) / seconds
some_frames queue interval seconds first some slow =
    let one : 1 * interval ≤ queue * interval = mul-le-mul_right interval first in
    le-div 1 (queue * interval + seconds - 1) seconds some (omega (arith, one, some, slow))

module _ (queue interval seconds : ℕ) (s : ScenarioParts) (accepted : IsOverScenario s) (slow : HasSlowStreams s) (at : s.profile.seconds ≡ seconds)
    (rank host f : ℕ) (among : List ℕ) (w : StreamPacket) (ahead : ℕ)
    (awaits : AwaitsSlot s rank host f (f + latency_bound queue interval seconds) among w ahead) (first : ahead < queue) (due : ℕ) (e : TableEntry)
    (has_entry : HasEntry s host (f + latency_bound queue interval seconds - 3) due e) (of_packet : e.code ≡ code w.node w.stream)
    (long : e.interval ≡ interval) (early : e.accepted < f) where
  abbrev sec : ℕ
  sec = s.profile.seconds

  positive : 0 < sec
  positive = some s accepted slow

  abbrev end : ℕ
  end = f + latency_bound queue interval seconds

  -- the frame in which the stream must still be in the table
  abbrev x : ℕ
  x = end - 3

  abbrev slots_frames : ℕ
  slots_frames = (queue * interval + seconds - 1) / seconds

  pace : IsOnPace sec due e
  pace = keep_pace s accepted slow x host has_entry.rank due has_entry.core has_entry.on has_entry.tune e has_entry.there

  frame_each : 1 ≤ slots_frames
  frame_each = (let slow_enough = pace.slow in
      some_frames queue interval seconds (omega (arith, first)) (omega (arith, positive, at)) (omega (arith, slow_enough, at, long)))

  placed : x + 1 ≡ f + slots_frames
  placed = omega (arith, frame_each)

  members : Members s rank x host among
  members =
      (let n : ℕ = x - f in
      let is : n + f ≡ x = omega (arith, placed, frame_each) in
      subst (λ (g : ℕ). Members s rank g host among) is
      (members_stay s accepted rank host f end among awaits.group f (omega arith)
      (to_members s accepted rank host f end among awaits.group f awaits.members) n (omega (arith, is))
      (λ g low high. awaits.lossless g low (omega (arith, high, is)))))

  in_time : members.due ≤ end
  in_time = (let range = members.range in omega (arith, range))

  same_due_is : due ≡ members.due
  same_due_is = same_due s accepted slow rank host f end among w ahead awaits has_entry.rank due rank members.due
      (sym has_entry.tune ∙ (known_host s accepted slow rank host f end among w ahead awaits x members has_entry.core has_entry.on).0)

  abbrev before : ℕ
  before = sec * (f - 1 - e.accepted) / e.interval

  -- what has come due by then is more by so many slots
  more : before + queue ≤ e.granted
  more =
      (let range = members.range in
      let frames : ℕ = due - (f - 1) in
      let apart : due - e.accepted ≡ f - 1 - e.accepted + frames = omega (arith, early, range, same_due_is, placed, frame_each) in
      let enough : (queue * e.interval + sec - 1) / sec ≤ frames =
      (let same : (queue * e.interval + sec - 1) / sec ≡ slots_frames =
      ap (λ (i : ℕ). (queue * i + sec - 1) / sec) long ∙ ap (λ (n : ℕ). (queue * interval + n - 1) / n) at in
      omega (arith, same, range, same_due_is, placed, early)) in
      let comes = come_due queue e.interval sec frames positive (let slow_enough = pace.slow in omega (arith, positive, slow_enough)) enough
      (sec * (f - 1 - e.accepted)) in
      let whole : sec * (due - e.accepted) / e.interval ≡ (sec * (f - 1 - e.accepted) + sec * frames) / e.interval =
      ap (λ (n : ℕ). n / e.interval) (ap (λ (n : ℕ). sec * n) apart ∙ spread sec (f - 1 - e.accepted) frames) in
      let granted = pace.granted in
      omega (arith, comes, whole, granted))

  abbrev Here : ℕ → Type 0
  Here = FromHere s accepted slow rank host f end among w ahead awaits (ahead + before) members.due in_time e early of_packet

  there : Here x
  there = record {
    core = has_entry.core;
    on = has_entry.on;
    host_tune = ap hosts has_entry.tune;
    entry = e;
    there = has_entry.there;
    code_is = refl;
    interval_is = refl;
    accepted_is = refl;
    arrives = comes;
  }
    where
      comes : (m : Members s rank x host among) (k : ℕ) → Waits w k (state_at s x w.node)
          → k + e.granted ≤ ahead + before + count_of (code_of_packet w) m.plan.owners
          → (g : ℕ) × (f ≤ g) × (g ≤ members.due) × IsDelivered s rank g among w
      comes m k is few =
          let due_now : m.due ≡ members.due =
          same_due s accepted slow rank host f end among w ahead awaits rank m.due rank members.due
          (sym (known_host s accepted slow rank host f end among w ahead awaits x m has_entry.core has_entry.on).0
          ∙ (known_host s accepted slow rank host f end among w ahead awaits x members has_entry.core has_entry.on).0) in
          let range = m.range in
          let gap : ℕ = m.due - x in
          let least = more in
          let delivered = in_next s accepted slow rank host f end among w ahead awaits gap x k (omega (arith, placed, frame_each)) m (omega (arith, range))
          (omega (arith, due_now, in_time)) (omega (arith, few, least, first)) is in
          (m.due, omega (arith, range, placed, frame_each), omega (arith, due_now), delivered)

  answer : (g : ℕ) × (f ≤ g) × (g ≤ members.due) × IsDelivered s rank g among w
  answer =
      (let n : ℕ = x - f in
      let is : n + f ≡ x = omega (arith, placed, frame_each) in
      let range = members.range in
      let back : Here f =
      far_back s accepted slow rank host f end among w ahead awaits (ahead + before) members.due in_time e early of_packet n f (omega arith)
      (omega (arith, is, range)) (subst Here (sym is) there) in
      let m = to_members s accepted rank host f end among awaits.group f awaits.members in
      let owners = (known_host s accepted slow rank host f end among w ahead awaits f m back.core back.on).1 in
      let counted_now = counted s accepted slow f host back.core back.on back.host_tune back.entry back.there in
      let few = counted_now.few in
      let count : count_of back.entry.code back.core.plan.owners ≡ count_of (code_of_packet w) m.plan.owners =
      ap (λ (c : ℕ). count_of c back.core.plan.owners) (back.code_is ∙ of_packet) ∙ ap (λ (p : Plan). count_of (code_of_packet w) p.owners) owners in
      let due_then : sec * (f - 1 - back.entry.accepted) / back.entry.interval ≡ before =
      ap (λ (a : ℕ). sec * (f - 1 - a) / back.entry.interval) back.accepted_is ∙ ap (λ (i : ℕ). sec * (f - 1 - e.accepted) / i) back.interval_is in
      back.arrives m ahead (waits_queued w ahead (state_at s f w.node) awaits.queued) (omega (arith, few, count, due_then)))

  arrives : (g : ℕ) × (f ≤ g) × (g ≤ end) × IsDelivered s rank g among w
  arrives = (let g = answer in let soon = g.2 in (g.0, g.1, omega (arith, soon, in_time), g.3))

pub packets_come : (queue interval seconds : ℕ) → PacketsComeWithin queue interval seconds (latency_bound queue interval seconds)
packets_come queue interval seconds s accepted slow at rank host f among w ahead awaits first due e has_entry of_packet long early =
    arrives queue interval seconds s accepted slow at rank host f among w ahead awaits first due e has_entry of_packet long early
