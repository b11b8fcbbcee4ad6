-- A packet of an agreed stream: frame by frame it is delivered, or the host keeps the stream, and its node does not give it up.
use Rattle.std.proofs.Common.{◌≡◌, ◌≢◌, ◌<◌, ◌≤◌, ◌+◌, ◌-◌, ◌*◌, ◌/◌, ℕ, zero, suc, List, true, false, inl, inr, Some, refl, sym, ◌∙◌, ap, subst, arith, ◌⊎◌}
use Rattle.std.proofs.Common.{Contains}
use Rattle.law_times.proofs.Words.{div-mul-le_self, mul-le-mul_left, mul-le-mul_right, cases_eq, Ask, Plan, code_of, IsOverScenario, ScenarioParts, over_sound}
use Rattle.law_times.proofs.Words.{Host, Core, own_rank, count_of, HostPlan, last_slot, RequestOf, host_closes, State, StateOn, is_host, rank_of, state_at, has}
use Rattle.law_times.proofs.Words.{IsHosted, slot_in, before_slot, message_said, rank_in, rounds, setup_of, Hosting, kept_of, IsWithin, LosesNothing, TakesPart}
use Rattle.law_times.proofs.Words.{lose_nothing, closings, openings, HasSlowStreams, AwaitsSlot, IsDelivered, StreamPacket, resets, IsReached, has_line, Hold}
use Rattle.law_times.proofs.AgreedRounds.{GoodState, IsGoodAfter, IsGoodAt, good_closing, good_opening, next_good, unasked}
use Rattle.law_times.proofs.AgreedStreams.{Good}
use Rattle.law_times.proofs.ContendingFrames.{HasBoot, next_boot}
use Rattle.law_times.proofs.CountedSlots.{some}
use Rattle.law_times.proofs.GrantedStreams.{plan_acks, counted_there, named_soon, granted_before, granted_is}
use Rattle.law_times.proofs.HostedFrames.{rounds_are}
use Rattle.law_times.proofs.JoinedNodes.{no_lines}
use Rattle.law_times.proofs.KeptEntries.{HasStream}
use Rattle.law_times.proofs.KeptMembers.{Members, host_own, not_due, quiet, step, host_core}
use Rattle.law_times.proofs.KeptStreams.{Has, idle_table, kept_others, next_table, round_table}
use Rattle.law_times.proofs.KnownHosts.{Knows, knows}
use Rattle.law_times.proofs.LatentSlots.{spread}
use Rattle.law_times.proofs.MemberSlots.{idle_rounds}
use Rattle.law_times.proofs.PacketFrames.{due_frame, hosted_now, idle_frame, is_due, member_tune, next_frame}
use Rattle.law_times.proofs.PlannedRounds.{lead, planned, next_plan, some_gap, planned_of_rank, planned_of_boot, host_after}
use Rattle.law_times.proofs.QueuedPackets.{Waits}
use Rattle.law_times.proofs.QueuedRounds.{code_of_packet}
use Rattle.law_times.proofs.QuietFrames.{goes_rank}
use Rattle.law_times.proofs.QuietRounds.{NobodyHosts, nobody_else, quiet_rounds}
use Rattle.law_times.proofs.ReachedNodes.{reached_in}
use Rattle.law_times.proofs.SentPackets.{takes}
use Rattle.law_times.proofs.Settings.{Setting, core_at, core_tune, idle, setting}
use Rattle.law_times.proofs.TuneSteps.{goes_idle}

module _ (s : ScenarioParts) (accepted : IsOverScenario s) (slow : HasSlowStreams s) (rank host f e : ℕ) (among : List ℕ) (w : StreamPacket) (ahead : ℕ)
    (awaits : AwaitsSlot s rank host f e among w ahead) (guest : w.node ≢ host) (reach : IsReached s among w.node host)
    (keeps : has_line (resets w.stream) s f e w.node ≡ false) (interval since host_boot : ℕ) (positive : 0 < interval) (early : since < f) where
  abbrev sec : ℕ
  sec = s.profile.seconds

  abbrev c : ℕ
  c = code_of_packet w

  abbrev M : ℕ → Type 0
  M x = Members s rank x host among

  abbrev HasIt : State → Type 0
  HasIt = Has s accepted rank host f e among awaits.group w awaits.stream awaits.there guest reach interval since

  abbrev GoodNode : ℕ → State → Type 0
  GoodNode = GoodState w.node w.stream interval awaits.stream positive

  -- what holds before a frame until the packet is delivered
  pub record Holding (x : ℕ) : Type 0 where
    pub m : M x
    pub ahead_now : ℕ
    pub waits : Waits w ahead_now (state_at s x w.node)
    pub table : HasIt (state_at s x host)
    pub low : ℕ
    pub late : low ≤ x
    pub good : GoodNode low (state_at s x w.node)
    pub lately : sec * (m.due - since) / interval * interval + sec * since ≤ sec * (low + 4)
    pub acks : (a : Ask) → Contains m.plan.acks a → code_of a ≡ c → a.interval ≡ interval
    pub plan : (m.plan.rank ≡ rank) × (m.plan.boot ≡ host_boot)
    pub boot : HasBoot host_boot (state_at s x host)

  node_core : (x low : ℕ) (m : M x) → GoodNode low (state_at s x w.node)
      → (d : Core) × (state_at s x w.node ≡ StateOn d) × (d.tune ≡ Hold rank m.due) × (d.plan ≡ m.plan)
      × Good w.node w.stream interval awaits.stream positive low d.streams
  node_core x low m good =
      let d = core_at (state_at s x w.node) (idle (Hold rank m.due) m.plan) (m.hold w.node awaits.there guest) in
      (d.0, d.1, ap (λ (k : Setting). k.tune) d.2, ap (λ (k : Setting). k.plan) d.2, subst (GoodNode low) d.1 good)

  idle_step : (x : ℕ) → f ≤ x → suc x ≤ e → (is : Holding x) → x < is.m.due → Holding (suc x)
  idle_step x after within is later = record {
    m = next.0;
    ahead_now = is.ahead_now;
    waits = idle_frame s accepted rank host f e among awaits.group w awaits.stream awaits.there awaits.stays x is.ahead_now after within is.m later is.waits;
    table = idle_table s accepted rank host f e among awaits.group w awaits.stream awaits.there guest reach interval since x rank is.m.due
        host_now.0 after within host_now.1 host_now.2 later still.0 still.1 is.m.due (core_tune still.0 (Host rank is.m.due) is.m.plan still.2) is.table;
    low = is.low;
    late = (let late = is.late in omega (arith, late));
    good = next_good w.node w.stream interval awaits.stream positive is.low s f e x node.0 rank is.m.due (awaits.group.stay w.node awaits.there) keeps
        after within (idle_rounds s rank x w.node is.m.due node.0 node.1 node.2 later) node.2 node.4;
    lately = subst (λ (d : ℕ). sec * (d - since) / interval * interval + sec * since ≤ sec * (is.low + 4)) (sym next.1) is.lately;
    acks = subst (λ (p : Plan). (a : Ask) → Contains p.acks a → code_of a ≡ c → a.interval ≡ interval) (sym next.2) is.acks;
    plan = (ap (λ (p : Plan). p.rank) next.2 ∙ is.plan.0, ap (λ (p : Plan). p.boot) next.2 ∙ is.plan.1);
    boot = next_boot s x host_boot host is.boot f e (awaits.group.stay host awaits.group.led) after within;
  }
    where
      next : (n : M (suc x)) × (n.due ≡ is.m.due) × (n.plan ≡ is.m.plan)
      next = quiet s accepted rank host f e among awaits.group x after within is.m later

      host_now : (d : Core) × (state_at s x host ≡ StateOn d) × (d.tune ≡ Host rank is.m.due) × (d.plan ≡ is.m.plan)
      host_now = host_core s rank x host among is.m

      own : own_rank host s.hosts ≡ Some rank
      own = host_own s rank x host is.m.due is.m.plan is.m.hosts

      nobody : NobodyHosts s rank x
      nobody = nobody_else s rank x host own (goes_idle s rank x host (Host rank is.m.due) is.m.plan is.m.hosts (not_due rank x is.m.due later))

      still : (d : Core) × (rounds s x (state_at s x) host ≡ StateOn d) × (setting (StateOn d) ≡ Some (idle (Host rank is.m.due) is.m.plan))
      still =
          (let goes : setting (rounds s x (state_at s x) host) ≡ Some (idle (Host rank is.m.due) is.m.plan) =
          quiet_rounds s x host (subst (λ (r : ℕ). NobodyHosts s r x) (sym (goes_rank s x host (Host rank is.m.due) is.m.plan is.m.hosts)) nobody)
          ∙ is.m.hosts in
          let d = core_at (rounds s x (state_at s x) host) (idle (Host rank is.m.due) is.m.plan) goes in
          (d.0, d.1, ap (λ (k : Setting). Some k) d.2))

      node : (d : Core) × (state_at s x w.node ≡ StateOn d) × (d.tune ≡ Hold rank is.m.due) × (d.plan ≡ is.m.plan)
          × Good w.node w.stream interval awaits.stream positive is.low d.streams
      node = node_core x is.low is.m is.good

  -- a frame with a round
  module _ (x : ℕ) (after : f ≤ x) (within : suc x ≤ e) (is : Holding x) (now : is.m.due ≡ x) where
    abbrev p : Plan
    p = is.m.plan

    lossless : (j : ℕ) → LosesNothing s (slot_in s rank x p j)
    lossless j = lose_nothing s rank x p (state_at s x) j (no_lines s x j (awaits.lossless x after (omega (arith, within))))

    at : IsHosted s rank x p host
    at = hosted_now s accepted rank x host among is.m now

    node : (d : Core) × (state_at s x w.node ≡ StateOn d) × (d.tune ≡ Hold rank is.m.due) × (d.plan ≡ is.m.plan)
        × Good w.node w.stream interval awaits.stream positive is.low d.streams
    node = node_core x is.low is.m is.good

    holds : node.0.tune ≡ Hold rank x
    holds = node.2 ∙ ap (λ (d : ℕ). Hold rank d) now

    part_takes : (j : ℕ) → j ≤ last_slot p → (z : ℕ) → has among z ≡ true → TakesPart (slot_in s rank x p j) z
    part_takes j soon z there =
        takes s rank x p among awaits.group.known
        (λ y among_them. (let t = member_tune s rank x host among is.m y among_them in (t.0, t.1, is_due rank x is.m.due t.0 t.2 now))) j z soon there

    near : (j : ℕ) → j ≤ last_slot p → (k : ℕ) × IsWithin s (slot_in s rank x p j) host (suc k) w.node
    near j soon =
        reached_in s (slot_in s rank x p j) among host w.node (part_takes j soon) awaits.there guest (awaits.group.reached w.node awaits.there guest)

    known : is_host node.0.streams.host p.rank p.boot ≡ true
    known =
        (let by_plan = subst Knows node.1 (knows s x w.node) rank is.m.due node.2 in
        ap (λ (q : Plan). is_host node.0.streams.host q.rank q.boot) (sym node.3) ∙ by_plan)

    abbrev host_now : (d : Core) × (state_at s x host ≡ StateOn d) × (d.tune ≡ Host rank is.m.due) × (d.plan ≡ p)
    host_now = host_core s rank x host among is.m

    lately_now : sec * (x - since) / interval * interval + sec * since ≤ sec * (is.low + 4)
    lately_now = subst (λ (d : ℕ). sec * (d - since) / interval * interval + sec * since ≤ sec * (is.low + 4)) now is.lately

    soon : x ≤ is.low + interval + 8
    soon = named_soon sec interval since is.low x (some s accepted slow) positive (omega (arith, after, early)) lately_now

    abbrev GoodAt : ℕ → Type 0
    GoodAt = IsGoodAt s rank x p host at w.node w.stream interval awaits.stream positive is.low is.late soon

    first : GoodAt 1
    first =
        (let k = near 0 (omega arith) in
        good_opening s rank x p host at w.node w.stream interval awaits.stream positive is.low is.late soon node.0 node.1 holds node.4 known is.acks k.0
        (openings s accepted rank x p host at (lossless 0) k.0 w.node k.1).accepts)

    asked : (j v : ℕ) (a : Ask) → message_said ((slot_in s rank x p j).window v) ≡ Some (RequestOf a) → code_of a ≢ c
    asked = unasked s rank x p host at w.node w.stream interval awaits.stream positive is.low is.late soon first

    frame : x < s.frames
    frame = (let ends = awaits.ends in omega (arith, within, ends))

    abbrev led : Hosting rank x p (before_slot s rank x p (state_at s x) (last_slot p) host)
    led = lead s accepted rank host f e among awaits.group x is.m after within at

    abbrev plan_now : HostPlan
    plan_now = planned s accepted rank host f e among awaits.group x is.m after within at

    of_rank : plan_now.plan.rank ≡ p.rank
    of_rank = planned_of_rank s accepted rank host f e among awaits.group x is.m after within at ∙ sym is.plan.0

    of_boot : plan_now.plan.boot ≡ p.boot
    of_boot = planned_of_boot s accepted rank host f e among awaits.group x is.m after within at host_boot is.boot ∙ sym is.plan.1

    -- nothing of the stream is acknowledged
    next_acks : (a : Ask) → Contains plan_now.plan.acks a → code_of a ≡ c → a.interval ≡ interval
    next_acks a there same =
        (let kept = plan_acks s.profile host led.core.boot (rank_of led.core.tune) x led.core.kept led.core.table led.core.streams a there in
        absurd (kept_others s accepted rank host f e among awaits.group w awaits.stream awaits.there guest reach interval since x frame
        (awaits.lossless x after (omega (arith, within))) is.m now asked (last_slot p) (omega arith) a
        (subst (λ (y : State). Contains (kept_of y) a) (sym led.on) kept) same))

    gone : IsGoodAfter s rank x p host at w.node w.stream interval awaits.stream positive is.low is.late soon
    gone =
        (let k = near (last_slot p) (omega arith) in
        good_closing s rank x p host at w.node w.stream interval awaits.stream positive is.low is.late soon first k.0
        (closings s accepted rank x p host at (lossless (last_slot p)) k.0 w.node k.1).accepts
        (some_gap s accepted rank host f e among awaits.group x is.m after within at) of_rank of_boot next_acks)

    host_later : rounds s x (state_at s x) host ≡ StateOn (host_closes (setup_of s host) x led.core).core
    host_later = host_after s accepted rank host f e among awaits.group x is.m after within at

    n : M (suc x)
    n = step s accepted rank host f e among awaits.group x after within (awaits.lossless x after (omega (arith, within))) is.m

    -- the plan of the next round
    plan_is_next : plan_now.plan ≡ n.plan
    plan_is_next = next_plan s accepted rank host f e among awaits.group x is.m after within at n

    -- with the stream still in the table
    module _ (left : ℕ) (waits : Waits w left (rounds s x (state_at s x) w.node)) (has_it : HasIt (rounds s x (state_at s x) host)) where
      table : HasIt (state_at s (suc x) host)
      table =
          next_table s accepted rank host f e among awaits.group w awaits.stream awaits.there guest reach interval since x (rank_of led.core.tune)
          (x + plan_now.gap) (host_closes (setup_of s host) x led.core).core after within host_later refl (subst HasIt host_later has_it)

      abbrev next_host : (d : Core) × (state_at s (suc x) host ≡ StateOn d) × (d.tune ≡ Host rank n.due) × (d.plan ≡ n.plan)
      next_host = host_core s rank (suc x) host among n

      stream : HasStream c interval since next_host.0.table.entries
      stream = subst HasIt next_host.1 table

      granted_now : stream.entry.granted ≤ sec * (x - since) / interval + count_of c plan_now.plan.owners
      granted_now =
          (let few = granted_before s accepted slow x host rank host_now.0 host_now.1 (host_now.2 ∙ ap (λ (d : ℕ). Host rank d) now) n.due
          next_host.0 next_host.1 next_host.2 c interval since stream (omega (arith, early, after)) in
          subst (λ (q : Plan). stream.entry.granted ≤ sec * (x - since) / interval + count_of c q.owners) (next_host.3 ∙ sym plan_is_next) few)

      granted_next : stream.entry.granted ≡ sec * (n.due - since) / interval
      granted_next = granted_is s accepted slow x host rank host_now.0 host_now.1 (host_now.2 ∙ ap (λ (d : ℕ). Host rank d) now) n.due
          next_host.0 next_host.1 next_host.2 c interval since stream (omega (arith, early, after))

      good_next : (low : ℕ) → Good w.node w.stream interval awaits.stream positive low gone.core.streams → GoodNode low (state_at s (suc x) w.node)
      good_next low good =
          next_good w.node w.stream interval awaits.stream positive low s f e x gone.core gone.tune.0 gone.tune.1
          (awaits.group.stay w.node awaits.there) keeps after within
          (rounds_are s (over_sound s accepted) w.node rank x p (ap rank_in node.1 ∙ ap rank_of node.2) at.plan ∙ gone.on) gone.tune.2 good

      hold_on : (low : ℕ) → low ≤ suc x → GoodNode low (state_at s (suc x) w.node)
          → sec * (n.due - since) / interval * interval + sec * since ≤ sec * (low + 4) → Holding (suc x)
      hold_on low late good lately = record {
        m = n;
        ahead_now = left;
        waits = next_frame s accepted rank host f e among awaits.group w awaits.stream awaits.there awaits.stays x left after within waits;
        table = table;
        low = low;
        late = late;
        good = good;
        lately = lately;
        acks = subst (λ (q : Plan). (a : Ask) → Contains q.acks a → code_of a ≡ c → a.interval ≡ interval) plan_is_next next_acks;
        plan = (
          ap (λ (q : Plan). q.rank) (sym plan_is_next) ∙ of_rank ∙ is.plan.0,
          ap (λ (q : Plan). q.boot) (sym plan_is_next) ∙ of_boot ∙ is.plan.1,
        );
        boot = next_boot s x host_boot host is.boot f e (awaits.group.stay host awaits.group.led) after within;
      }

      holds_on : Holding (suc x)
      holds_on = elim (counted_there c plan_now.plan.owners) [
        | inl none ↦
            (let late = is.late in
            let few = granted_now in
            let granted = granted_next in
            let most : sec * (n.due - since) / interval * interval ≤ sec * (x - since) / interval * interval =
            mul-le-mul_right interval (omega (arith, few, none, granted)) in
            let lately = lately_now in
            hold_on is.low (omega (arith, late)) (good_next is.low gone.good) (omega (arith, most, lately)))
        | inr there ↦
            (let range = n.range in
            let most = div-mul-le_self (sec * (n.due - since)) interval in
            let whole : sec * n.due ≡ sec * (n.due - since) + sec * since =
            ap (λ (d : ℕ). sec * d) (let sum : n.due ≡ (n.due - since) + since = omega (arith, range, after, early) in sum)
            ∙ spread sec (n.due - since) since in
            let far : sec * n.due ≤ sec * (x + 4) = mul-le-mul_left sec (omega (arith, range)) in
            hold_on x (omega arith) (good_next x (gone.named there)) (omega (arith, most, whole, far)))
      ]

    round_step : IsDelivered s rank x among w ⊎ Holding (suc x)
    round_step =
        elim (due_frame s accepted rank host f e among awaits.group w awaits.stream awaits.there awaits.stays x is.ahead_now frame
        (awaits.lossless x after (omega (arith, within))) is.m now is.waits) [
          | inl delivered ↦ inl delivered
          | inr up ↦ elim (round_table s accepted rank host f e among awaits.group w awaits.stream awaits.there guest reach interval since x frame
              (awaits.lossless x after (omega (arith, within))) is.m now asked is.ahead_now is.waits is.table) [
                | inl delivered ↦ inl delivered
                | inr has_it ↦ inr (holds_on up.left up.waits has_it)
              ]
        ]

  -- any frame, and all frames
  any_step : (x : ℕ) → f ≤ x → suc x ≤ e → Holding x → IsDelivered s rank x among w ⊎ Holding (suc x)
  any_step x after within is = elim (cases_eq is.m.due x) [
    | inl now ↦ round_step x after within is now
    | inr other ↦ inr (idle_step x after within is (let range = is.m.range in omega (arith, range, other)))
  ]

  pub all_steps : (k x : ℕ) → f ≤ x → x + k ≤ e → Holding x → ((g : ℕ) × (f ≤ g) × (g < x + k) × IsDelivered s rank g among w) ⊎ Holding (x + k)
  all_steps zero x after within is = inr (subst Holding (omega arith) is)
  all_steps (suc k) x after within is = elim (any_step x after (omega (arith, within)) is) [
    | inl delivered ↦ inl (x, after, omega arith, delivered)
    | inr next ↦ elim (all_steps k (suc x) (omega (arith, after)) (omega (arith, within)) next) [
      | inl found ↦ (let below = found.2 in inl (found.0, found.1, omega (arith, below), found.3))
      | inr last ↦ inr (subst Holding (omega arith) last)
    ]
  ]
