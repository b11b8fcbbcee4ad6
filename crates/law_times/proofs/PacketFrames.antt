-- A frame at a member with packets waiting, as long as nothing is lost: in the round of its rank each data slot of the stream takes one,
-- and in any other frame all stay.
use Rattle.std.proofs.Common.{◌≡◌, ◌<◌, ◌≤◌, ◌+◌, ◌==◌, ◌&&◌, ◌||◌, ℕ, suc, List, Bool, true, false, Option, Some, None, inl, inr, refl, sym, ◌∙◌, ap, subst}
use Rattle.std.proofs.Common.{arith, ◌⊎◌}
use Rattle.law_times.proofs.Words.{cases_eq, eq-eqb, ne_eqb, Plan, IsOverScenario, ScenarioParts, IsSoundScenario, over_sound, Tune, Hold, Host, Core, is_fresh}
use Rattle.law_times.proofs.Words.{is_member, count_of, last_slot, State, StateOff, StateOn, hosts_in, holds_in, rank_of, scans, state_at, has, IsHosted}
use Rattle.law_times.proofs.Words.{state_after_round, after_round, rank_in, round_plan, rounds, Hosting, begins, lose_nothing, IsDelivered, StreamPacket}
use Rattle.law_times.proofs.Words.{leaves, IsGroup, IsLossless, has_line}
use Rattle.law_times.proofs.HostedFrames.{is_hosted, rank_below, rounds_are}
use Rattle.law_times.proofs.JoinedNodes.{no_lines}
use Rattle.law_times.proofs.KeptMembers.{Members, due_host, host_own}
use Rattle.law_times.proofs.QueuedPackets.{Waits, next_waits}
use Rattle.law_times.proofs.QueuedRounds.{all_slots, closing_same, code_of_packet, round_idle, whole_round}
use Rattle.law_times.proofs.QuietRounds.{by_setting, hosts_round, set_to_host}
use Rattle.law_times.proofs.SentPackets.{delivers}
use Rattle.law_times.proofs.Settings.{Setting, core_at, idle, setting_tune, tune_of}

-- the tunes of members
abbrev pub IsMemberTune : ℕ → ℕ → Tune → Type 0
IsMemberTune rank due t = (t ≡ Host rank due) ⊎ (t ≡ Hold rank due)

pub member_tune : (s : ScenarioParts) (rank f host : ℕ) (among : List ℕ) (m : Members s rank f host among) (v : ℕ) → has among v ≡ true
    → (t : Tune) × (tune_of (state_at s f v) ≡ Some t) × IsMemberTune rank m.due t
member_tune s rank f host among m v there = elim (cases_eq v host) [
  | inl same ↦ (
    Host rank m.due,
    ap (λ (u : ℕ). tune_of (state_at s f u)) same ∙ setting_tune (state_at s f host) (Host rank m.due) m.plan m.hosts,
    inl refl,
  )
  | inr other ↦ (Hold rank m.due, setting_tune (state_at s f v) (Hold rank m.due) m.plan (m.hold v there other), inr refl)
]

member_by : (rank f due : ℕ) (t : Tune) → IsMemberTune rank due t → (d : Core) → d.tune ≡ t → is_member rank f d ≡ (due == f)
member_by rank f due t is d at = elim is [
  | inl host ↦
      ap (λ (t : Tune). hosts_in rank f t || holds_in rank f t || (scans rank t && is_fresh d)) (at ∙ host)
      ∙ rw (eq-eqb rank rank refl) (as_host (due == f) (is_fresh d))
  | inr hold ↦
      ap (λ (t : Tune). hosts_in rank f t || holds_in rank f t || (scans rank t && is_fresh d)) (at ∙ hold)
      ∙ rw (eq-eqb rank rank refl) (as_member (due == f) (is_fresh d))
]
  where
    as_host : (b x : Bool) → (b || false || (false && x)) ≡ b
    as_host true x = refl
    as_host false x = refl

    as_member : (b x : Bool) → (false || b || (false && x)) ≡ b
    as_member true x = refl
    as_member false x = refl

pub is_due : (rank f due : ℕ) (t : Tune) → IsMemberTune rank due t → due ≡ f → (d : Core) → d.tune ≡ t → is_member rank f d ≡ true
is_due rank f due t member now d is = member_by rank f due t member d is ∙ eq-eqb due f now

pub is_idle : (rank f due : ℕ) (t : Tune) → IsMemberTune rank due t → f < due → (d : Core) → d.tune ≡ t → is_member rank f d ≡ false
is_idle rank f due t member later d is = member_by rank f due t member d is ∙ ne_eqb due f (λ same. absurd (omega (arith, later, same)))

rank_of_tune : (rank due : ℕ) (x : State) (t : Tune) → tune_of x ≡ Some t → IsMemberTune rank due t → rank_in x ≡ rank
rank_of_tune rank due (StateOff boots) t is member = absurd (cc)
rank_of_tune rank due (StateOn c) t is (inl host) = let at : c.tune ≡ Host rank due = (let same : c.tune ≡ t = cc in same ∙ host) in ap rank_of at
rank_of_tune rank due (StateOn c) t is (inr hold) = let at : c.tune ≡ Hold rank due = (let same : c.tune ≡ t = cc in same ∙ hold) in ap rank_of at

-- in the frame of its round the host of members hosts it, by their plan
pub hosted_now : (s : ScenarioParts) → IsOverScenario s → (rank f host : ℕ) (among : List ℕ) (m : Members s rank f host among) → m.due ≡ f
    → IsHosted s rank f m.plan host
hosted_now s accepted rank f host among m now =
    let found = is_hosted s (over_sound s accepted) host rank f due in
    subst (λ (p : Plan). IsHosted s rank f p host) (same_plan found.0 found.1) found.1
  where
    due : hosts_round rank f (state_at s f host) ≡ true
    due = by_setting rank f (state_at s f host) ∙ ap (set_to_host rank f) m.hosts ∙ ap (λ (d : ℕ). hosts_in rank f (Host rank d)) now
        ∙ due_host rank f

    same_plan : (p : Plan) → IsHosted s rank f p host → p ≡ m.plan
    same_plan p hosted =
        let first : Hosting rank f p (state_at s f host) = begins s rank f p host hosted in
        let c = core_at (state_at s f host) (idle (Host rank m.due) m.plan) m.hosts in
        let same : StateOn first.core ≡ StateOn c.0 = sym first.on ∙ c.1 in
        let core : first.core ≡ c.0 = cc in
        sym first.plan ∙ ap (λ (d : Core). d.plan) core ∙ ap (λ (k : Setting). k.plan) c.2

module _ (s : ScenarioParts) (accepted : IsOverScenario s) (rank host b e : ℕ) (among : List ℕ) (group : IsGroup s host b e among) (w : StreamPacket)
    (few : w.stream ≤ 3) (there : has among w.node ≡ true) (stays : has_line (leaves w.stream) s b e w.node ≡ false) where
  abbrev scenario : IsSoundScenario s
  scenario = over_sound s accepted

  -- up to the script lines of the next frame
  pub next_frame : (f k : ℕ) → b ≤ f → suc f ≤ e → Waits w k (rounds s f (state_at s f) w.node) → Waits w k (state_at s (suc f) w.node)
  next_frame f k after within is = next_waits w k s b e f (group.stay w.node there) stays after within is

  -- a frame without a round of the rank
  pub idle_frame : (f k : ℕ) → b ≤ f → suc f ≤ e → (m : Members s rank f host among) → f < m.due → Waits w k (state_at s f w.node)
      → Waits w k (state_at s (suc f) w.node)
  idle_frame f k after within m later is = next_frame f k after within (by_plan (round_plan s r f (state_at s f)))
    where
      r : ℕ
      r = rank_in (state_at s f w.node)

      t : (t : Tune) × (tune_of (state_at s f w.node) ≡ Some t) × IsMemberTune rank m.due t
      t = member_tune s rank f host among m w.node there

      of_rank : r ≡ rank
      of_rank = rank_of_tune rank m.due (state_at s f w.node) t.0 t.1 t.2

      idles : (d : Core) → d.tune ≡ t.0 → is_member r f d ≡ false
      idles d at = ap (λ (n : ℕ). is_member n f d) of_rank ∙ is_idle rank f m.due t.0 t.2 later d at

      by_plan : (o : Option Plan) → Waits w k (after_round s r f (state_at s f) o w.node)
      by_plan None = is
      by_plan (Some p) =
          closing_same s r f p w few t.0 t.1 k
          (round_idle s r f p w few t.0 t.1 idles k is (last_slot p) (omega arith))

  -- a frame with one
  pub record MovesUp (f k slots : ℕ) : Type 0 where
    pub left : ℕ
    pub moved : left + slots ≡ k
    pub waits : Waits w left (rounds s f (state_at s f) w.node)

  pub due_frame : (f k : ℕ) → f < s.frames → IsLossless s f → (m : Members s rank f host among) → m.due ≡ f
      → Waits w k (state_at s f w.node) → IsDelivered s rank f among w ⊎ MovesUp f k (count_of (code_of_packet w) m.plan.owners)
  due_frame f k frame lossless m now is = by_plan m.plan (hosted_now s accepted rank f host among m now)
    where
      t : (t : Tune) × (tune_of (state_at s f w.node) ≡ Some t) × IsMemberTune rank m.due t
      t = member_tune s rank f host among m w.node there

      members : (v : ℕ) → has among v ≡ true → (t : Tune) × (tune_of (state_at s f v) ≡ Some t) × ((d : Core) → d.tune ≡ t → is_member rank f d ≡ true)
      members v at =
          let u = member_tune s rank f host among m v at in
          (u.0, u.1, is_due rank f m.due u.0 u.2 now)

      by_plan : (p : Plan) → IsHosted s rank f p host → IsDelivered s rank f among w ⊎ MovesUp f k (count_of (code_of_packet w) p.owners)
      by_plan p hosted = elim (whole_round s rank f p w few t.0 t.1 (is_due rank f m.due t.0 t.2 now) k is) [
        | inl turn ↦
            inl (delivers s rank f p among group.known members accepted hosted.plan (rank_below s host rank (host_own s rank f host m.due m.plan m.hosts)) frame
            (λ j. lose_nothing s rank f p (state_at s f) j (no_lines s f j lossless)) w few t.0 t.1 there (last_slot p + 1) turn)
        | inr behind ↦
            (let moved = behind.moved in
            let all = all_slots p (code_of_packet w) in
            let round : rounds s f (state_at s f) w.node ≡ state_after_round s rank f p w.node =
            rounds_are s scenario w.node rank f p (rank_of_tune rank m.due (state_at s f w.node) t.0 t.1 t.2) hosted.plan in
            inr (record {
              left = behind.left;
              moved = omega (arith, moved, all);
              waits = subst (Waits w behind.left) (sym round) behind.waits;
            }))
      ]
