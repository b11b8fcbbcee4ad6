-- As long as nothing is lost and a packet waits, a host keeps the stream of a member in its table: each data slot of the stream carries a packet.
use Rattle.std.proofs.Common.{◌≡◌, ◌≢◌, ◌<◌, ◌≤◌, ℕ, zero, suc, List, [], ◌∷◌, true, false, inl, inr, Option, Some, None, is_some, option_and_then, option_map}
use Rattle.std.proofs.Common.{slice_get, refl, sym, ◌∙◌, ap, subst, arith, ◌⊎◌, Contains}
use Rattle.law_times.proofs.Words.{contains_cases, not_in_none, Ask, Plan, code, code_of, node_of, stream_of, IsOverScenario, ScenarioParts, IsSoundScenario}
use Rattle.law_times.proofs.Words.{over_sound}
use Rattle.law_times.proofs.Words.{Part, Tune, Host, Core, Setup, frame_ended, is_member, last_slot, Delivery, Closed, Data, Message, delivery_of, Opened}
use Rattle.law_times.proofs.Words.{RequestOf, closed_slot, host_closes, hosts_now, opened_slot, part_of, State, StateOff, StateOn, at_core, WaitingPacket}
use Rattle.law_times.proofs.Words.{first_waiting, stream_at, hosts_in, rank_of, state_at, accepted, has, IsHosted, slot_in, accepted_at, before_slot}
use Rattle.law_times.proofs.Words.{closed_slot_of, delivery_in_slot, message_said, rank_in, rounds, setup_of, is_on_and, Hosting, before_closing, has_planned}
use Rattle.law_times.proofs.Words.{host_member, leads, keeps_nothing, kept_of, HasData, delivery, IsWithin, LosesNothing, TakesPart, delivered_within}
use Rattle.law_times.proofs.Words.{lose_nothing, IsDelivered, StreamPacket, IsGroup, IsLossless, IsReached, turns_off}
use Rattle.law_times.proofs.GrownTables.{entries_at}
use Rattle.law_times.proofs.HostFrames.{KeepsTable, in_rounds}
use Rattle.law_times.proofs.HostedFrames.{rank_below, rounds_are}
use Rattle.law_times.proofs.JoinedNodes.{no_lines}
use Rattle.law_times.proofs.KeptCores.{OnWith, next_keeps}
use Rattle.law_times.proofs.KeptEntries.{HasStream, kept_in_slot, plan_keeps, slot_keeps}
use Rattle.law_times.proofs.KeptMembers.{Members, host_own, not_due}
use Rattle.law_times.proofs.MemberSlots.{after_member}
use Rattle.law_times.proofs.PacketFrames.{IsMemberTune, hosted_now, is_due, member_tune}
use Rattle.law_times.proofs.QueuedPackets.{Waits, is_slot_of, parts_of_code}
use Rattle.law_times.proofs.QueuedRounds.{IsTurn, code_of_packet, longer, slots}
use Rattle.law_times.proofs.ReachedNodes.{reached_in}
use Rattle.law_times.proofs.SentPackets.{delivers, member_at, slot_is, takes}
use Rattle.law_times.proofs.Settings.{Setting, core_at, idle, setting, tune_of}

-- who accepts nothing delivers nothing
none_delivered : (s : ScenarioParts) (f : ℕ) (part : Part) (v : ℕ) (w : Option Opened) (x : State)
    → option_and_then (λ (c : Closed). c.delivered) (closed_slot_of s f part v w None x) ≡ None
none_delivered s f part v None x = refl
none_delivered s f part v (Some o) x = refl

-- the first packet of a queue in which one waits
first_of_queue : (xs : List WaitingPacket) (k : ℕ) (y : WaitingPacket) → slice_get xs k ≡ Some y → (z : WaitingPacket) × (slice_get xs 0 ≡ Some z)
first_of_queue [] k y is = absurd (cc)
first_of_queue (z ∷ zs) k y is = (z, refl)

-- who hosts keeps its table to the next frame
end_keeps : (q : Setup) (f : ℕ) (c : Core) (r d : ℕ) → c.tune ≡ Host r d → (frame_ended q f c).table.entries ≡ c.table.entries
end_keeps q f c r d tune = subst (λ (k : Core). (frame_ended q f k).table.entries ≡ k.table.entries) (record_is c r d tune) refl
  where
    record_is : (c : Core) (r d : ℕ) → c.tune ≡ Host r d → record c { tune = Host r d } ≡ c
    record_is c r d tune = ap (λ (t : Tune). record c { tune = t }) (sym tune)

module _ (s : ScenarioParts) (accepted_text : IsOverScenario s) (rank host b e : ℕ) (among : List ℕ) (group : IsGroup s host b e among) (w : StreamPacket)
    (few : w.stream ≤ 3) (there : has among w.node ≡ true) (guest : w.node ≢ host) (reach : IsReached s among w.node host) (interval since : ℕ) where
  abbrev scenario : IsSoundScenario s
  scenario = over_sound s accepted_text

  abbrev c : ℕ
  c = code_of_packet w

  abbrev pub Has : State → Type 0
  Has x = HasStream c interval since (entries_at x)

  -- from the rounds of a frame to the next frame
  pub next_table : (f r d : ℕ) (core : Core) → b ≤ f → suc f ≤ e → rounds s f (state_at s f) host ≡ StateOn core → core.tune ≡ Host r d
      → HasStream c interval since core.table.entries → Has (state_at s (suc f) host)
  next_table f r d core after within on tune is =
      of_kept (state_at s (suc f) host)
      (next_keeps (λ k. k.table.entries ≡ core.table.entries) turns_off (λ a k same kept. kept) s b e host f (group.stay host group.led)
      (group.stay host group.led) after within (subst (λ (x : State). Kept (at_core (frame_ended (setup_of s host) f) x)) (sym on)
      (end_keeps (setup_of s host) f core r d tune)))
    where
      Kept : State → Type 0
      Kept = OnWith (λ k. k.table.entries ≡ core.table.entries)

      of_kept : (x : State) → Kept x → Has x
      of_kept (StateOff boots) kept = absurd kept
      of_kept (StateOn k) kept = subst (λ (l : List _). HasStream c interval since l) (sym kept) is

  -- a frame without a round of the host
  pub idle_table : (f r d : ℕ) (core : Core) → b ≤ f → suc f ≤ e → state_at s f host ≡ StateOn core → core.tune ≡ Host r d → f < d
      → (next : Core) → rounds s f (state_at s f) host ≡ StateOn next → (m : ℕ) → next.tune ≡ Host r m → Has (state_at s f host)
      → Has (state_at s (suc f) host)
  idle_table f r d core after within on tune later next next_on m next_tune is =
      next_table f r m next after within next_on next_tune
      (subst (λ (l : List _). HasStream c interval since l) (sym (kept.0 not_now).1) is)
    where
      kept : KeepsTable f (state_at s f host) (StateOn next)
      kept = subst (KeepsTable f (state_at s f host)) next_on (in_rounds s f host)

      not_now : is_on_and (λ d. hosts_now f d) (state_at s f host) ≡ false
      not_now = ap (is_on_and (λ d. hosts_now f d)) on ∙ ap (λ (t : Tune). hosts_in (rank_of t) f t) tune
          ∙ not_due r f d later

  -- and one with a round
  module _ (f : ℕ) (frame : f < s.frames) (lossless : IsLossless s f) (m : Members s rank f host among) (now : m.due ≡ f)
      (unasked : (j v : ℕ) (a : Ask) → message_said ((slot_in s rank f m.plan j).window v) ≡ Some (RequestOf a) → code_of a ≢ c) where
    abbrev p : Plan
    p = m.plan

    pub hosted : IsHosted s rank f p host
    hosted = hosted_now s accepted_text rank f host among m now

    abbrev before : ℕ → ℕ → State
    before j = before_slot s rank f p (state_at s f) j

    pub nothing_lost : (j : ℕ) → LosesNothing s (slot_in s rank f p j)
    nothing_lost j = lose_nothing s rank f p (state_at s f) j (no_lines s f j lossless)

    pub members : (v : ℕ) → has among v ≡ true → (t : Tune) × (tune_of (state_at s f v) ≡ Some t) × ((d : Core) → d.tune ≡ t → is_member rank f d ≡ true)
    members v at =
        let u = member_tune s rank f host among m v at in
        (u.0, u.1, is_due rank f m.due u.0 u.2 now)

    t : (t : Tune) × (tune_of (state_at s f w.node) ≡ Some t) × IsMemberTune rank m.due t
    t = member_tune s rank f host among m w.node there

    lead : (j : ℕ) → j ≤ last_slot p → Hosting rank f p (before j host)
    lead = leads s rank f p host hosted

    -- in a slot of the stream the host receives a packet
    receives : (j k : ℕ) → j ≤ last_slot p → is_slot_of c (part_of p j) ≡ true → Waits w k (before j w.node)
        → accepted_at (slot_in s rank f p j) host ≡ None → ⊥
    receives j k early own waits none =
        never (sym (ap (λ (h : Option Message). option_map (delivery_of host f rank j) (option_and_then (λ (c : Closed). c.delivered)
        (closed_slot_of s f (part_of p j) host ((slot_in s rank f p j).window host) h (before j host)))) none
        ∙ ap (λ (d : Option Data). option_map (delivery_of host f rank j) d)
        (none_delivered s f (part_of p j) host ((slot_in s rank f p j).window host) (before j host))) ∙ comes)
      where
        parts : (node_of (code w.node w.stream) ≡ w.node) × (stream_of (code w.node w.stream) ≡ w.stream)
        parts = parts_of_code w.node w.stream few

        d : (d : Core) × (before j w.node ≡ StateOn d) × (is_member rank f d ≡ true)
        d = member_at s rank f p among group.known members j w.node early there

        queued : Waits w k (StateOn d.0)
        queued = subst (Waits w k) d.1 waits

        first : (z : WaitingPacket) × (slice_get (stream_at d.0.streams w.stream).queue 0 ≡ Some z)
        first = first_of_queue (stream_at d.0.streams w.stream).queue k w.packet queued.1

        has_data : HasData s rank f p (state_at s f) j (code w.node w.stream) d.0 first.0
        has_data = record {
          slot = slot_is (code w.node w.stream) (part_of p j) own;
          on = ap (λ (u : ℕ). before j u) parts.0 ∙ d.1;
          member = subst (λ (u : ℕ). TakesPart (slot_in s rank f p j) u) (sym parts.0) (takes s rank f p among group.known members j w.node early there);
          waits = ap (λ (i : ℕ). first_waiting d.0.streams i) parts.1 ∙ first.1;
        }

        within : (k : ℕ) × IsWithin s (slot_in s rank f p j) w.node (suc k) host
        within = reached_in s (slot_in s rank f p j) among w.node host (λ u is. takes s rank f p among group.known members j u early is) group.led
            (λ same. guest (sym same)) reach

        comes : delivery_in_slot s rank f p (state_at s f) j host ≡ Some (delivery rank f j (code w.node w.stream) d.0 first.0 host)
        comes =
            (delivered_within s accepted_text rank f p (state_at s f) j (code w.node w.stream) d.0 first.0 has_data (nothing_lost j) within.0 host
            (subst (λ (u : ℕ). IsWithin s (slot_in s rank f p j) u (suc within.0) host) (sym parts.0) within.1)).0

        never : {x : Delivery} → None ≡ Some x → ⊥
        never is = cc

    -- the host from slot to slot
    host_next : (j : ℕ) → (early : j ≤ last_slot p) → before (suc j) host
        ≡ StateOn (closed_slot (setup_of s host) f (part_of p j) (is_some (opened_slot (setup_of s host) f (part_of p j) (lead j early).core).message)
        (opened_slot (setup_of s host) f (part_of p j) (lead j early).core).core (accepted_at (slot_in s rank f p j) host)).core
    host_next j early =
        let is = lead j early in
        after_member s rank f p host hosted host j (part_of p j) refl is.core is.on (host_member rank f is.core is.due)
        (accepted_at (slot_in s rank f p j) host) refl

    -- a request that is received was said
    said_by_one : (j : ℕ) (a : Ask) → accepted_at (slot_in s rank f p j) host ≡ Some (RequestOf a) → code_of a ≢ c
    said_by_one j a is = by_answer (accepted (slot_in s rank f p j).flood host) is
      where
        by_answer : (o : Option (ℕ × ℕ)) → option_and_then (λ (x : ℕ × ℕ). message_said ((slot_in s rank f p j).window x.0)) o ≡ Some (RequestOf a)
            → code_of a ≢ c
        by_answer None is = absurd (cc)
        by_answer (Some x) is = unasked j x.0 a is

    pub kept_others : (j : ℕ) → j ≤ last_slot p → (r : Ask) → Contains (kept_of (before j host)) r → code_of r ≢ c
    unfolding before_slot
    kept_others zero early r kept =
        absurd (not_in_none r (subst (λ (l : List Ask). Contains l r) (keeps_nothing s host (group.known host group.led) f) kept))
    kept_others (suc j) early r kept =
        let is = lead j (omega (arith, early)) in
        elim (kept_in_slot (setup_of s host) f (part_of p j) is.core (accepted_at (slot_in s rank f p j) host)
        (is_some (opened_slot (setup_of s host) f (part_of p j) is.core).message) (before_closing p j early) r
        (subst (λ (x : State). Contains (kept_of x) r) (host_next j (omega (arith, early))) kept)) [
          | inl was ↦ kept_others j (omega (arith, early)) r (subst (λ (x : State). Contains (kept_of x) r) (sym is.on) was)
          | inr heard ↦ said_by_one j r heard
        ]

    -- its table, or the packet had its turn
    module _ (k : ℕ) (waits : Waits w k (state_at s f w.node)) (is : Has (state_at s f host)) where
      abbrev Turn : ℕ → Type 0
      Turn = IsTurn s rank f p w few t.0 t.1

      walk : (j : ℕ) → j ≤ last_slot p → Turn j ⊎ Has (before j host)
      unfolding before_slot
      walk zero early = inr is
      walk (suc j) early = elim (walk j (omega (arith, early))) [
        | inl turn ↦ inl (longer s rank f p w few t.0 t.1 j turn)
        | inr has ↦ elim (slots s rank f p w few t.0 t.1 (is_due rank f m.due t.0 t.2 now) k waits j (omega (arith, early))) [
          | inl turn ↦ inl (longer s rank f p w few t.0 t.1 j turn)
          | inr behind ↦
              (let l = lead j (omega (arith, early)) in
              inr (subst Has (sym (host_next j (omega (arith, early))))
              (slot_keeps c interval since (setup_of s host) f (part_of p j) l.core (accepted_at (slot_in s rank f p j) host)
              (is_some (opened_slot (setup_of s host) f (part_of p j) l.core).message) (before_closing p j early)
              (λ own none. receives j behind.left (omega (arith, early)) own behind.waits none) (subst Has l.on has))))
        ]
      ]

      own_codes : (n : ℕ) → Contains (0 ∷ 1 ∷ 2 ∷ 3 ∷ []) n → code host n ≢ c
      own_codes n among_four same =
          (let small : n ≤ 3 = few_of n among_four in
          guest (sym (parts_of_code w.node w.stream few).0 ∙ ap node_of (sym same) ∙ (parts_of_code host n small).0))
        where
          few_of : (n : ℕ) → Contains (0 ∷ 1 ∷ 2 ∷ 3 ∷ []) n → n ≤ 3
          few_of n is = elim (contains_cases 0 (1 ∷ 2 ∷ 3 ∷ []) n is) [
            | inl same ↦ omega (arith, same)
            | inr more ↦ elim (contains_cases 1 (2 ∷ 3 ∷ []) n more) [
              | inl same ↦ omega (arith, same)
              | inr more ↦ elim (contains_cases 2 (3 ∷ []) n more) [
                | inl same ↦ omega (arith, same)
                | inr more ↦ elim (contains_cases 3 [] n more) [ inl same ↦ omega (arith, same) | inr none ↦ absurd (not_in_none n none) ]
              ]
            ]
          ]

      pub round_table : IsDelivered s rank f among w ⊎ Has (rounds s f (state_at s f) host)
      round_table = elim (walk (last_slot p) (omega arith)) [
        | inl turn ↦
            inl (delivers s rank f p among group.known members accepted_text hosted.plan
            (rank_below s host rank (host_own s rank f host m.due m.plan m.hosts)) frame nothing_lost w few t.0 t.1 there (last_slot p) turn)
        | inr has ↦
            (let l = lead (last_slot p) (omega arith) in
            let after : rounds s f (state_at s f) host ≡ StateOn (host_closes (setup_of s host) f l.core).core =
            rounds_are s scenario host rank f p (rank_host m.hosts) hosted.plan ∙ has_planned s rank f p host hosted l in
            inr (subst Has (sym after)
            (plan_keeps c interval since s.profile host l.core.boot (rank_of l.core.tune) f l.core.kept l.core.table l.core.streams
            (λ r kept. kept_others (last_slot p) (omega arith) r (subst (λ (x : State). Contains (kept_of x) r) (sym l.on) kept))
            own_codes (subst Has l.on has))))
      ]
        where
          rank_host : setting (state_at s f host) ≡ Some (idle (Host rank m.due) m.plan) → rank_in (state_at s f host) ≡ rank
          rank_host goes =
              (let k = core_at (state_at s f host) (idle (Host rank m.due) m.plan) goes in
              ap rank_in k.1 ∙ ap (λ (x : Setting). rank_of x.tune) k.2)
