-- A member that asks in contention slots, from frame to frame, as long as nothing is lost and the host's plans pass it over.
use Rattle.std.proofs.Common.{◌≡◌, ◌≢◌, ◌<◌, ◌≤◌, ◌+◌, ◌==◌, ℕ, suc, List, true, false, inl, inr, Option, Some, length, refl, sym, ◌∙◌, ap, subst, arith}
use Rattle.std.proofs.Common.{is_some, ◌⊎◌}
use Rattle.law_times.proofs.Words.{list_any, cases_Bool, Plan, node_of, IsOverScenario, ScenarioParts, IsSoundScenario, over_sound, Hold, Host, Core, last_slot}
use Rattle.law_times.proofs.Words.{slots_named, Message, host_closes, State, StateOff, StateOn, names, is_scan, rank_of, state_at, has, IsHosted, slot_in}
use Rattle.law_times.proofs.Words.{state_after_round, message_said, rank_in, setup_of, has_planned, leads, IsRightfulState, rightful, IsWithin, LosesNothing}
use Rattle.law_times.proofs.Words.{TakesPart, closings, openings, lose_nothing, IsHeardAlone, IsNamed, PassesOver, changes_wish, own_number, IsGroup}
use Rattle.law_times.proofs.Words.{IsLossless, IsReached, has_line}
use Rattle.law_times.proofs.Backoffs.{Backoff, later, spot, turn, asks}
use Rattle.law_times.proofs.ContendingFrames.{Asking, HasBoot, next_asks}
use Rattle.law_times.proofs.ContendingRounds.{HasGoneOn, IsFreshAt, after_closing, after_opening, own_few, says_at, turn_request}
use Rattle.law_times.proofs.HostedFrames.{rounds_are}
use Rattle.law_times.proofs.JoinedNodes.{no_lines}
use Rattle.law_times.proofs.KeptMembers.{Members}
use Rattle.law_times.proofs.MemberSlots.{idle_rounds, lead_last}
use Rattle.law_times.proofs.NewStreams.{AsksCore}
use Rattle.law_times.proofs.PacketFrames.{is_due, member_tune}
use Rattle.law_times.proofs.PlannedRounds.{next_plan, some_gap, planned_of_rank, planned_of_boot}
use Rattle.law_times.proofs.ReachedNodes.{reached_in}
use Rattle.law_times.proofs.SentPackets.{takes}
use Rattle.law_times.proofs.Settings.{Setting, core_at, core_tune, idle, setting}

module _ (s : ScenarioParts) (accepted : IsOverScenario s) (rank host f e : ℕ) (among : List ℕ) (slots host_boot : ℕ)
    (group : IsGroup s host f e among) (lossless : (g : ℕ) → f ≤ g → g ≤ e → IsLossless s g) (contends : slots_named s.profile.contend ≡ slots) where
  abbrev scenario : IsSoundScenario s
  scenario = over_sound s accepted

  abbrev pub M : ℕ → Type 0
  M x = Members s rank x host among

  -- the contention slots of a plan of theirs
  pub slots_of : (x : ℕ) (m : M x) → slots_named m.plan.contend ≡ slots
  slots_of x m =
      let c = core_at (state_at s x host) (idle (Host rank m.due) m.plan) m.hosts in
      let is = subst (IsRightfulState (setup_of s host)) c.1 (rightful s x host) in
      let serves : is_scan c.0.tune ≡ false = ap (λ (k : Setting). is_scan k.tune) c.2 in
      ap slots_named (ap (λ (k : Setting). k.plan.contend) (sym c.2) ∙ is.contend serves) ∙ contends

  -- one of them
  module _ (w boot i : ℕ) (there : has among w ≡ true) (guest : w ≢ host) (lines : has_line changes_wish s f e w ≡ false) where
    core_of : (x : ℕ) (b : Backoff) (m : M x) → Asking boot i rank host_boot b (state_at s x w)
        → (c : Core) × (state_at s x w ≡ StateOn c) × (c.tune ≡ Hold rank m.due) × AsksCore boot i rank host_boot b c
    core_of x b m asking = by_state (state_at s x w) refl (m.hold w there guest) asking
      where
        by_state : (y : State) → state_at s x w ≡ y → setting y ≡ Some (idle (Hold rank m.due) m.plan) → Asking boot i rank host_boot b y
            → (c : Core) × (state_at s x w ≡ StateOn c) × (c.tune ≡ Hold rank m.due) × AsksCore boot i rank host_boot b c
        by_state (StateOff boots) at goes asking = absurd asking
        by_state (StateOn c) at goes asking = (c, at, core_tune c (Hold rank m.due) m.plan goes, asking)

    -- a frame without a round
    pub idle_asks : (x : ℕ) (b : Backoff) → f ≤ x → suc x ≤ e → (m : M x) → x < m.due → Asking boot i rank host_boot b (state_at s x w)
        → Asking boot i rank host_boot b (state_at s (suc x) w)
    idle_asks x b after within m later asking =
        next_asks boot i rank host_boot b s f e x w c.0 rank m.due (group.stay w there) lines after within
        (idle_rounds s rank x w m.due c.0 c.1 c.2 later) c.2 c.3
      where
        c : (c : Core) × (state_at s x w ≡ StateOn c) × (c.tune ≡ Hold rank m.due) × AsksCore boot i rank host_boot b c
        c = core_of x b m asking

    -- and one with a round
    module _ (x : ℕ) (b : Backoff) (m : M x) (now : m.due ≡ x) (after : f ≤ x) (soon : suc x ≤ e)
        (asking : Asking boot i rank host_boot b (state_at s x w)) (hosted : IsHosted s rank x m.plan host) (of_rank : m.plan.rank ≡ rank)
        (of_boot : m.plan.boot ≡ host_boot) (unnamed : list_any (names w boot) m.plan.acks ≡ false)
        (no_slots : list_any (λ c. node_of c == w) m.plan.owners ≡ false) where
      abbrev p : Plan
      p = m.plan

      abbrev contend : slots_named p.contend ≡ slots
      contend = slots_of x m

      pub nothing_lost : (j : ℕ) → LosesNothing s (slot_in s rank x p j)
      nothing_lost j = lose_nothing s rank x p (state_at s x) j (no_lines s x j (lossless x after (omega (arith, soon))))

      pub part_takes : (j : ℕ) → j ≤ last_slot p → (z : ℕ) → has among z ≡ true → TakesPart (slot_in s rank x p j) z
      part_takes j early z is =
          takes s rank x p among group.known
          (λ y at. (let t = member_tune s rank x host among m y at in (t.0, t.1, is_due rank x m.due t.0 t.2 now))) j z early is

      near : (j : ℕ) → j ≤ last_slot p → (k : ℕ) × IsWithin s (slot_in s rank x p j) host (suc k) w
      near j early = reached_in s (slot_in s rank x p j) among host w (part_takes j early) there guest (group.reached w there guest)

      core : (c : Core) × (state_at s x w ≡ StateOn c) × (c.tune ≡ Hold rank m.due) × AsksCore boot i rank host_boot b c
      core = core_of x b m asking

      holds : core.0.tune ≡ Hold rank x
      holds = core.2 ∙ ap (λ (d : ℕ). Hold rank d) now

      abbrev Fresh : ℕ → Type 0
      Fresh j = IsFreshAt s rank x p host hosted w boot i host_boot b of_rank of_boot unnamed no_slots slots contend j b

      fresh : Fresh 1
      fresh =
          let k = near 0 (omega arith) in
          after_opening s rank x p host hosted w boot i host_boot b of_rank of_boot unnamed no_slots slots contend core.0 core.1 holds core.3 k.0
          (openings s accepted rank x p host hosted (nothing_lost 0) k.0 w k.1).accepts

      named : (n : M (suc x)) → (list_any (names w boot) n.plan.acks ≡ true) ⊎ (list_any (λ c. node_of c == w) n.plan.owners ≡ true)
          → IsNamed s rank x p host w boot
      named n is = record {
        core = (host_closes (setup_of s host) x (lead_last s rank x p host hosted).core).core;
        on = has_planned s rank x p host hosted (lead_last s rank x p host hosted);
        named = elim is [
          | inl acked ↦ inl (ap (λ (q : Plan). list_any (names w boot) q.acks) (next_plan s accepted rank host f e among group x m after soon hosted n) ∙ acked)
          | inr owns ↦ inr (ap (λ (q : Plan). list_any (λ c. node_of c == w) q.owners)
              (next_plan s accepted rank host f e among group x m after soon hosted n) ∙ owns)
        ];
      }

      -- or it passes over it
      pub named_or_not : (n : M (suc x)) → IsNamed s rank x p host w boot ⊎ PassesOver n.plan w boot
      named_or_not n = elim (cases_Bool (list_any (names w boot) n.plan.acks)) [
        | inl acked ↦ inl (named n (inl acked))
        | inr acks ↦ elim (cases_Bool (list_any (λ c. node_of c == w) n.plan.owners)) [
          | inl owns ↦ inl (named n (inr owns))
          | inr owners ↦ inr (record { acks = acks; owners = owners })
        ]
      ]

      pub goes_on : (n : M (suc x)) → HasBoot host_boot (state_at s x host) → list_any (names w boot) n.plan.acks ≡ false
          → list_any (λ c. node_of c == w) n.plan.owners ≡ false → Asking boot i rank host_boot (turn w b) (state_at s (suc x) w)
      goes_on n has acks owners =
          let k = near (last_slot p) (omega arith) in
          let same = next_plan s accepted rank host f e among group x m after soon hosted n in
          let gone : HasGoneOn s rank x p host hosted w boot i host_boot b of_rank of_boot unnamed no_slots slots contend (state_after_round s rank x p w) =
          after_closing s rank x p host hosted w boot i host_boot b of_rank of_boot unnamed no_slots slots contend
          fresh k.0
          (closings s accepted rank x p host hosted (nothing_lost (last_slot p)) k.0 w k.1).accepts
          (some_gap s accepted rank host f e among group x m after soon hosted) (planned_of_rank s accepted rank host f e among group x m after soon hosted)
          (planned_of_boot s accepted rank host f e among group x m after soon hosted host_boot has)
          (ap (λ (q : Plan). list_any (names w boot) q.acks) same ∙ acks) (ap (λ (q : Plan). list_any (λ c. node_of c == w) q.owners) same ∙ owners) in
          next_asks boot i rank host_boot (turn w b) s f e x w gone.core gone.tune.0 gone.tune.1 (group.stay w there) lines after soon
          (rounds_are s scenario w rank x p (ap rank_in core.1 ∙ ap rank_of holds) hosted.plan ∙ gone.on) gone.tune.2 gone.asks

      -- in which contention slot it says something
      pub says : (k : ℕ) → 1 ≤ k → k ≤ slots → is_some (message_said ((slot_in s rank x p (length p.owners + k)).window w)) ≡ true → spot slots w b ≡ Some k
      says k some few = says_at s rank x p host hosted w boot i host_boot b of_rank of_boot unnamed no_slots slots contend k some few fresh

      -- the slot of its own
      abbrev pub mine : ℕ
      mine = own_number w b.0 slots

      pub mine_few : mine ≤ slots
      mine_few = own_few s rank x p host hosted w boot i host_boot b of_rank of_boot unnamed no_slots slots contend

      -- in which it requests if it skips no more slots
      pub says_if : asks b ≡ true → is_some (message_said ((slot_in s rank x p (length p.owners + mine)).window w)) ≡ true
      says_if asks_now =
          (let request = turn_request s rank x p host hosted w boot i host_boot b of_rank of_boot unnamed no_slots slots contend fresh asks_now in
          ap (λ (m : Option Message). is_some m) request.1)

      -- where it alone requests, its request reaches the host
      pub heard_alone : IsReached s among w host → asks b ≡ true
          → ((z : ℕ) → is_some (message_said ((slot_in s rank x p (length p.owners + mine)).window z)) ≡ true → z ≡ w) → IsHeardAlone s rank x p host w
      heard_alone reach asks_now alone =
          let j : ℕ = length p.owners + mine in
          let last : j < last_slot p = (let slots_are = contend in let few = mine_few in omega (arith, slots_are, few)) in
          let request = turn_request s rank x p host hosted w boot i host_boot b of_rank of_boot unnamed no_slots slots contend fresh asks_now in
          let here = leads s rank x p host hosted j (omega (arith, last)) in
          let way = reached_in s (slot_in s rank x p j) among w host (part_takes j (omega (arith, last))) group.led (λ same. guest (sym same)) reach in
          record {
            slot = j;
            ask = request.0;
            core = here.core;
            reaches = record {
              hosted = hosted;
              request = record {
                after_data = omega arith;
                before_last = last;
                member = part_takes j (omega (arith, last)) w there;
                says = request.1;
                alone = alone;
              };
              lossless = nothing_lost j;
              step = way.0;
              within = way.1;
              on = here.on;
            };
          }
