-- Nodes that wait for the next round of their host, over frames with and without losses: each holds it, or scans the rank and has
-- done so for few enough frames.
use Rattle.std.proofs.Common.{◌≡◌, ◌≢◌, ◌<◌, ◌≤◌, ◌+◌, ◌-◌, ℕ, suc, List, true, false, Some, inl, inr, refl, subst, arith}
use Rattle.law_times.proofs.Words.{Plan, IsOverScenario, ScenarioParts, Tune, Scan, Hold, Host, Core, frame_ended, own_rank, State, StateOff, StateOn, at_core}
use Rattle.law_times.proofs.Words.{hosts_in, before_frame, state_at, has, rounds, setup_of, IsGroup}
use Rattle.law_times.proofs.FrameEnds.{fallen_end, held_end, scan_end}
use Rattle.law_times.proofs.HostedFrames.{Planned}
use Rattle.law_times.proofs.JoinedNodes.{next, host_next}
use Rattle.law_times.proofs.KeptMembers.{Waiting, Waits, waiting_due, not_own, holding, scanning}
use Rattle.law_times.proofs.LossyRounds.{IsLeft, left_after}
use Rattle.law_times.proofs.QuietFrames.{Goes, script_same}
use Rattle.law_times.proofs.QuietRounds.{hosts_round}
use Rattle.law_times.proofs.ReachedNodes.{IsThere, in_round}
use Rattle.law_times.proofs.Settings.{setting, idle, tune_of, setting_tune}

-- the same in another spelling of the numbers
pub same_waiting : (s : ScenarioParts) (rank host : ℕ) (among : List ℕ) (f g most more : ℕ) → f ≡ g → most ≡ more → (w : Waiting s rank f host among most)
    → (x : Waiting s rank g host among more) × (x.due ≡ w.due)
same_waiting s rank host among f g most more at same w = (
  record {
    due = w.due;
    range = subst (λ (n : ℕ). (n ≤ w.due) × (w.due < n + 4)) at w.range;
    plan = w.plan;
    hosts = subst (λ (n : ℕ). Goes s n host (Host rank w.due) w.plan) at w.hosts;
    wait = λ v there other. subst (λ (k : ℕ). Waits s rank g w.due w.plan k v) same
        (subst (λ (n : ℕ). Waits s rank n w.due w.plan most v) at (w.wait v there other));
  },
  refl,
)

module _ (s : ScenarioParts) (accepted : IsOverScenario s) (rank host b e : ℕ) (among : List ℕ) (group : IsGroup s host b e among) where
  module _ (f most : ℕ) (after : b ≤ f) (within : suc f ≤ e) (few : most ≤ 12) (waiting : Waiting s rank f host among most) where
    module _ (now : waiting.due ≡ f) where
      due : hosts_round rank f (state_at s f host) ≡ true
      due = waiting_due s accepted rank host b e among group f most after within few waiting now

      abbrev plan : Planned (rounds s f (state_at s f) host) rank f
      plan = next s accepted rank f host due

      pub lossy : most ≤ 8 → Waiting s rank (suc f) host among (most + 4)
      unfolding before_frame
      lossy fewer = record {
        due = plan.due;
        range = (let later = plan.later in let soon = plan.soon in (omega (arith, later), omega (arith, soon)));
        plan = plan.plan;
        hosts = script_same s b e (suc f) host (idle (Host rank plan.due) plan.plan) (group.stay host group.led) (omega (arith, after)) within
            (host_next s accepted rank f host due);
        wait = λ v there other. waits v there other (waiting.wait v there other);
      }
        where
          low : f < plan.due
          low = plan.later

          high : plan.due ≤ f + 4
          high = plan.soon

          goes_on : (v : ℕ) → has among v ≡ true → (t : Tune) (p : Plan) → setting (before_frame s (suc f) v) ≡ Some (idle t p) → Goes s (suc f) v t p
          goes_on v there t p is = script_same s b e (suc f) v (idle t p) (group.stay v there) (omega (arith, after)) within is

          at_end : (v : ℕ) → has among v ≡ true → (t : Tune) (p : Plan)
              → setting (at_core (frame_ended (setup_of s v) f) (rounds s f (state_at s f) v)) ≡ Some (idle t p)
              → Goes s (suc f) v t p
          at_end v there t p is = goes_on v there t p is

          here : (v : ℕ) → has among v ≡ true → (t : Tune) → tune_of (state_at s f v) ≡ Some t → in_round rank f t ≡ true → IsThere s rank f v
          here v there t on takes = record { known = group.known v there; tune = t; on = on; takes = takes }

          -- a node that took the closing schedule
          joined : (v : ℕ) → has among v ≡ true → (c : Core) → rounds s f (state_at s f) v ≡ StateOn c → c.tune ≡ Hold rank plan.due → c.plan ≡ plan.plan
              → Waits s rank (suc f) plan.due plan.plan (most + 4) v
          joined v there c on tune planned =
              inl (at_end v there (Hold rank plan.due) plan.plan
              (held_end (setup_of s v) f (rounds s f (state_at s f) v) c on rank plan.due plan.plan tune planned low))

          of_hold : (v : ℕ) → has among v ≡ true → (x : State) → rounds s f (state_at s f) v ≡ x → IsLeft (Hold rank waiting.due) rank plan.due plan.plan x
              → Waits s rank (suc f) plan.due plan.plan (most + 4) v
          of_hold v there (StateOff boots) on left = absurd left
          of_hold v there (StateOn c) on (inl same) =
              inr (
                0,
                c.plan,
                at_end v there (Scan rank 0) c.plan
                    (fallen_end (setup_of s v) f (rounds s f (state_at s f) v) c on rank waiting.due same (omega (arith, now))),
                omega (arith, high),
              )
          of_hold v there (StateOn c) on (inr (tune, planned)) = joined v there c on tune planned

          of_scan : (v : ℕ) → has among v ≡ true → (own_rank v s.hosts ≡ Some rank → ⊥) → (w : ℕ) → w + (waiting.due - f) + 1 ≤ most → (x : State)
              → rounds s f (state_at s f) v ≡ x → IsLeft (Scan rank w) rank plan.due plan.plan x → Waits s rank (suc f) plan.due plan.plan (most + 4) v
          of_scan v there other w soon (StateOff boots) on left = absurd left
          of_scan v there other w soon (StateOn c) on (inl same) =
              let end = scan_end (setup_of s v) f (rounds s f (state_at s f) v) c on rank w same other (omega (arith, soon, fewer)) in
              let more = end.2 in
              inr (end.0, end.1, at_end v there (Scan rank end.0) end.1 end.3, omega (arith, high, soon, more))
          of_scan v there other w soon (StateOn c) on (inr (tune, planned)) = joined v there c on tune planned

          waits : (v : ℕ) → has among v ≡ true → v ≢ host → Waits s rank f waiting.due waiting.plan most v
              → Waits s rank (suc f) plan.due plan.plan (most + 4) v
          waits v there other (inl holds) =
              let on = setting_tune (state_at s f v) (Hold rank waiting.due) waiting.plan holds in
              let idles : hosts_in rank f (Hold rank waiting.due) ≡ false = refl in
              of_hold v there (rounds s f (state_at s f) v) refl
              (left_after s accepted rank f host due v (here v there (Hold rank waiting.due) on
              (holding s accepted rank host b e among group f most after within few waiting now)) idles)
          waits v there other (inr (w, p, goes, soon)) =
              let on = setting_tune (state_at s f v) (Scan rank w) p goes in
              of_scan v there (not_own s accepted rank host b e among group f most after within few waiting v other) w soon (rounds s f (state_at s f) v) refl
              (left_after s accepted rank f host due v (here v there (Scan rank w) on
              (scanning s accepted rank host b e among group f most after within few waiting now w)) refl)
