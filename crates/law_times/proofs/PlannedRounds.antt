-- What the host of members plans in its round: it is of its rank and boot, and the members of the next frame go by it.
use Rattle.std.proofs.Common.{◌≡◌, ◌<◌, ◌≤◌, ℕ, suc, List, Option, Some, None, sym, ◌∙◌, ap, subst, arith}
use Rattle.law_times.proofs.Words.{Plan, ScenarioParts, IsOverScenario, over_sound, Host, Hosting, HostPlan, StateOn, before_slot, due_rank, has_planned}
use Rattle.law_times.proofs.Words.{host_closes}
use Rattle.law_times.proofs.Words.{last_slot, planned_rank, rank_in, rank_of, rounds, setup_of, state_at, IsHosted, IsGroup}
use Rattle.law_times.proofs.ContendingFrames.{HasBoot, boot_in_slots, planned_boot}
use Rattle.law_times.proofs.HostedFrames.{plan_gap, rounds_are}
use Rattle.law_times.proofs.JoinedNodes.{host_next, next as next_round, same_round}
use Rattle.law_times.proofs.KeptMembers.{Members}
use Rattle.law_times.proofs.MemberSlots.{lead_last, plans}
use Rattle.law_times.proofs.QuietFrames.{script_same}
use Rattle.law_times.proofs.Settings.{Setting, core_at, idle, setting}

module _ (s : ScenarioParts) (accepted : IsOverScenario s) (rank host f e : ℕ) (among : List ℕ) (group : IsGroup s host f e among) (x : ℕ)
    (m : Members s rank x host among) (after : f ≤ x) (soon : suc x ≤ e) (hosted : IsHosted s rank x m.plan host) where
  abbrev pub lead : Hosting rank x m.plan (before_slot s rank x m.plan (state_at s x) (last_slot m.plan) host)
  lead = lead_last s rank x m.plan host hosted

  abbrev pub planned : HostPlan
  planned = plans s rank x m.plan host hosted

  pub some_gap : 0 < planned.gap
  some_gap = (plan_gap s.profile host lead.core.boot (rank_of lead.core.tune) x lead.core.kept lead.core.table lead.core.streams).0

  pub planned_of_rank : planned.plan.rank ≡ rank
  planned_of_rank =
      planned_rank s.profile host lead.core.boot (rank_of lead.core.tune) x lead.core.kept lead.core.table lead.core.streams
      ∙ due_rank rank x lead.core.tune lead.due

  pub planned_of_boot : (boot : ℕ) → HasBoot boot (state_at s x host) → planned.plan.boot ≡ boot
  planned_of_boot boot has =
      planned_boot s.profile host lead.core.boot (rank_of lead.core.tune) x lead.core.kept lead.core.table lead.core.streams
      ∙ subst (HasBoot boot) lead.on (boot_in_slots s x boot host has rank m.plan (last_slot m.plan))

  pub host_after : rounds s x (state_at s x) host ≡ StateOn (host_closes (setup_of s host) x lead.core).core
  host_after =
      (let c = core_at (state_at s x host) (idle (Host rank m.due) m.plan) m.hosts in
      rounds_are s (over_sound s accepted) host rank x m.plan (ap rank_in c.1 ∙ ap (λ (k : Setting). rank_of k.tune) c.2) hosted.plan
      ∙ has_planned s rank x m.plan host hosted lead)

  pub next_plan : (n : Members s rank (suc x) host among) → planned.plan ≡ n.plan
  next_plan n =
      let coming = next_round s accepted rank x host hosted.due in
      let same = same_round rank n.due coming.due None None n.plan coming.plan (sym n.hosts
      ∙ script_same s f e (suc x) host (idle (Host rank coming.due) coming.plan) (group.stay host group.led) (omega (arith, after)) soon
      (host_next s accepted rank x host hosted.due)) in
      ap plan_or (sym (ap setting host_after) ∙ coming.goes) ∙ sym same.1
    where
      plan_or : Option Setting → Plan
      plan_or None = m.plan
      plan_or (Some k) = k.plan
