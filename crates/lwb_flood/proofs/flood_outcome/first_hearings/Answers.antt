use Rattle.std.proofs.Common.{◌≡◌, ℕ, ◌+◌, List, Option, Some, None, ◌∙◌, sym, ap, subst, arith, take}
use Rattle.lwb_flood.specs.declared.flood_outcome.FirstHearing.{FirstHearing}
use Rattle.lwb_flood.specs.LogReading.{AreFirst, with_earlier}
use Rattle.lwb_flood.proofs.LogReading.{firsts_more, none_first}
use Rattle.lwb_flood.proofs.flood_outcome.first_hearings.Goals as goal
use Rattle.lwb_flood.proofs.flood_outcome.first_hearings.Goals.{in-Some, in_default}

pub loop-i-init : goal.loop-i-init
loop-i-init c = none_first

pub loop-i-preserved : goal.loop-i-preserved
loop-i-preserved c =
    let air = c.args.air.now in
    let i = c.loop-i.i in
    let firsts = c.loop-i.firsts in
    let o = c.hearing_at.result in
    let more = firsts_more air i firsts o (omega arith) c.loop-i.invariant c.hearing_at.ensures in
    elim c.match-hearing_at.branch [
      | in-Some w ↦
          (let kept : c.match-hearing_at.firsts ≡ with_earlier firsts o = w.firsts-is ∙ w.keep_earlier.ensures.kept
          ∙ ap (λ (p : Option (ℕ × FirstHearing)). with_earlier firsts p) (sym w.in-Some.is) in
          let few = w.keep_earlier.ensures.range in
          subst (λ (l : List (Option FirstHearing)). AreFirst (take (i + 1) air) l) (sym kept)
          (more (λ h at. let same = some_node _ h (sym w.in-Some.is ∙ at) in omega (arith, few, same))))
      | in_default w ↦
          (let kept : c.match-hearing_at.firsts ≡ with_earlier firsts o = w.firsts-is
          ∙ ap (λ (p : Option (ℕ × FirstHearing)). with_earlier firsts p) (sym w.in_default.is) in
          subst (λ (l : List (Option FirstHearing)). AreFirst (take (i + 1) air) l) (sym kept) (more (λ h at. absurd (no_some h (sym w.in_default.is ∙ at)))))
    ]
  where
    some_node : (g h : ℕ × FirstHearing) → ◌≡◌ {A = Option (ℕ × FirstHearing)} (Some g) (Some h) → g.0 ≡ h.0
    some_node g h is = let same : g ≡ h = cc in ap (λ (p : ℕ × FirstHearing). p.0) same

    no_some : (h : ℕ × FirstHearing) → ◌≡◌ {A = Option (ℕ × FirstHearing)} None (Some h) → ⊥
    no_some h is = cc
