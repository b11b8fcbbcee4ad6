-- The end of a frame at a node whose tune after the rounds is known.
use Rattle.std.proofs.Common.{◌≡◌, ◌<◌, ◌≤◌, ◌+◌, ℕ, false, Option, Some, None, refl, ◌∙◌, ap, arith}
use Rattle.law_times.proofs.Words.{Plan, Tune, Scan, Hold, Core, Setup, begins_host, frame_ended, State, StateOn, at_core, next_tune}
use Rattle.law_times.proofs.QuietFrames.{ended, plan_of}
use Rattle.law_times.proofs.Settings.{Setting, idle, setting}
use Rattle.law_times.proofs.TuneSteps.{hold_falls, holds_on, scans_on}

module _ (q : Setup) (f : ℕ) (x : State) (c : Core) (on : x ≡ StateOn c) where
  abbrev with_tune : Tune → Setting
  with_tune t = record { tune = t; own_slot = c.own_slot; plan = c.plan }

  has_setting : (t : Tune) → c.tune ≡ t → setting x ≡ Some (with_tune t)
  has_setting t is = ap setting on ∙ ap (λ (u : Tune). Some (with_tune u)) is

  -- a later round is still held
  pub held_end : (r d : ℕ) (p : Plan) → c.tune ≡ Hold r d → c.plan ≡ p → f < d → setting (at_core (frame_ended q f) x) ≡ Some (idle (Hold r d) p)
  held_end r d p is planned later =
      (ended q f x (with_tune (Hold r d)) (has_setting (Hold r d) is)).1 ∙ ap (λ (t : Tune). Some (idle t c.plan)) (holds_on q.own r d f q.ranks later)
      ∙ ap (λ (plan : Plan). Some (idle (Hold r d) plan)) planned

  -- one that is over is not
  pub fallen_end : (r d : ℕ) → c.tune ≡ Hold r d → d ≤ f → setting (at_core (frame_ended q f) x) ≡ Some (idle (Scan r 0) c.plan)
  fallen_end r d is past =
      (ended q f x (with_tune (Hold r d)) (has_setting (Hold r d) is)).1 ∙ ap (λ (t : Tune). Some (idle t c.plan)) (hold_falls q.own r d f q.ranks past)

  -- and who scans a rank that is not its own scans it a frame more, or anew
  pub scan_end : (r w : ℕ) → c.tune ≡ Scan r w → (q.own ≡ Some r → ⊥) → w + 1 < 12
      → (v : ℕ) × (p : Plan) × (v ≤ w + 1) × (setting (at_core (frame_ended q f) x) ≡ Some (idle (Scan r v) p))
  scan_end r w is other few = by_slot c.own_slot refl
    where
      by_slot : (o : Option ℕ) → c.own_slot ≡ o
          → (v : ℕ) × (p : Plan) × (v ≤ w + 1) × (setting (at_core (frame_ended q f) x) ≡ Some (idle (Scan r v) p))
      by_slot None at =
          let k : Setting = record { tune = Scan r w; own_slot = None; plan = c.plan } in
          let has : setting x ≡ Some k =
          has_setting (Scan r w) is ∙ ap (λ (o : Option ℕ). Some (record { tune = Scan r w; own_slot = o; plan = c.plan })) at in
          let end = ended q f x k has in
          let t = next_tune (Scan r w) f false q.own q.ranks in
          let p = plan_of q.profile end.0 (begins_host (Scan r w) t) c.plan in
          (w + 1, p, omega arith, end.1 ∙ ap (λ (u : Tune). Some (idle u p)) (scans_on q.own r w f q.ranks (λ own. absurd (other own)) few))
      by_slot (Some i) at =
          let k : Setting = record { tune = Scan r w; own_slot = Some i; plan = c.plan } in
          let has : setting x ≡ Some k =
          has_setting (Scan r w) is ∙ ap (λ (o : Option ℕ). Some (record { tune = Scan r w; own_slot = o; plan = c.plan })) at in
          let end = ended q f x k has in
          (0, c.plan, omega arith, end.1)
