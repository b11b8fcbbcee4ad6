-- For a frame a quiet host has one plan.
use Rattle.std.proofs.Common.{◌≡◌, ℕ, inl, inr, refl, sym, ap, arith}
use Rattle.std.proofs.lemmas.Bool.{cases_order}
use Rattle.lwb_base.specs.Messages.{Plan}
use Rattle.law_trails.specs.Lives.{Life, ClosingMade, Quiet, ClosedFor, PlansFor, OnePlan}

module _ (rank : ℕ) (l : Life) (quiet : Quiet rank l) (frame : ℕ) (p q : Plan) where
  two_closings : ClosedFor l frame p → ClosedFor l frame q → p ≡ q
  two_closings a b =
      let c : ClosingMade = record { frame = a.before; gap = a.gap; plan = p } in
      let d : ClosingMade = record { frame = b.before; gap = b.gap; plan = q } in
      let gap_c = quiet.gaps c a.there in
      let gap_d = quiet.gaps d b.there in
      let due_a = a.due in
      let due_b = b.due in
      elim (cases_order a.before b.before) [
        | inl is ↦ ap (λ (x : ClosingMade). x.plan) (quiet.one_closing c d a.there b.there is)
        | inr (inl less) ↦ absurd (let over = quiet.apart c d a.there b.there less in omega (arith, over, gap_c.0, gap_d.0, due_a, due_b))
        | inr (inr more) ↦ absurd (let over = quiet.apart d c b.there a.there more in omega (arith, over, gap_c.0, gap_d.0, due_a, due_b))
      ]

  one_plan_by : PlansFor l frame p → PlansFor l frame q → p ≡ q
  one_plan_by (inl a) (inl b) = two_closings a b
  one_plan_by (inl a) (inr o) = quiet.kept (record { frame = a.before; gap = a.gap; plan = p }) (record { frame = frame; plan = q }) a.there o a.due
  one_plan_by (inr o) (inl b) = sym (quiet.kept (record { frame = b.before; gap = b.gap; plan = q }) (record { frame = frame; plan = p }) b.there o b.due)
  one_plan_by (inr o) (inr e) = quiet.one_opening (record { frame = frame; plan = p }) (record { frame = frame; plan = q }) o e refl

pub one_plan : OnePlan
one_plan rank l quiet frame p q = one_plan_by rank l quiet frame p q
