-- The nodes of a run after the script lines of a frame: a member of a round awaits its slot 0.
use Rattle.std.proofs.Common.{◌≡◌, ℕ, ◌<◌, List, Bool, true, false, ◌==◌, ◌&&◌, ◌||◌, Option, is_some, inl, inr, refl, ◌∙◌, ap, eq-eqb}
use Rattle.std.specs.Prelude.{◌⊎◌}
use Rattle.std.proofs.lemmas.Bool.{cases_eq, cond-true}
use Rattle.bus_rules.specs.declared.tune.Tune.{Tune}
use Rattle.bus_rules.specs.declared.tune.Tune.TheVariants.{Scan, Hold, Host}
use Rattle.bus_rules.specs.Cores.{is_fresh, is_member}
use Rattle.node_core.specs.declared.stage.Stage.TheVariants.{AwaitFrame, AwaitSlot}
use Rattle.node_core.specs.Nodes.{Node}
use Rattle.node_core.specs.Rows.{stage_for}
use Rattle.scenario_text.specs.ScenarioParts.{ScenarioParts}
use Rattle.scenario_text.specs.FloodParts.{knows}
use Rattle.air_log.specs.declared.entry.Entry.{Entry}
use Rattle.air_log.specs.Devices.{PowerOn}
use Rattle.law_terms.specs.LawfulRuns.{IsLawfulRun}
use Rattle.law_terms.specs.FrameCourses.{power_at}
use Rattle.law_windows.proofs.FramePlaces.{places}
use Rattle.law_bus.proofs.MembersByTune.{takes_by, holder_takes, host_takes}
use Rattle.law_bus.proofs.RunsOfLogs.{course_on}

-- it awaits slot 0, or takes part in no round of this frame
abbrev StartsAt : ℕ → Tune → Bool → Type 0
StartsAt f t fresh = (stage_for t f ≡ AwaitSlot 0) ⊎ ((rank : ℕ) → takes_by rank f t fresh ≡ false)

starts_by : (f : ℕ) (t : Tune) → StartsAt f t false
starts_by f (Scan r w) = inr (λ rank. not_fresh (r == rank))
  where
    not_fresh : (b : Bool) → (false || false || (b && false)) ≡ false
    not_fresh true = refl
    not_fresh false = refl
starts_by f (Hold r due) =
    elim (cases_eq due f) [
      | inl now ↦ inl (cond-true (due == f) (AwaitSlot 0) AwaitFrame (eq-eqb due f now))
      | inr other ↦ inr (λ rank. holder_takes rank f r due false other)
    ]
starts_by f (Host r due) =
    elim (cases_eq due f) [
      | inl now ↦ inl (cond-true (due == f) (AwaitSlot 0) AwaitFrame (eq-eqb due f now))
      | inr other ↦ inr (λ rank. host_takes rank f r due false other)
    ]

pub starts_frame : (s : ScenarioParts) (clocks : ℕ → ℕ → ℕ) (air : List Entry) → IsLawfulRun s clocks air → (v f : ℕ) → knows s.nodes v ≡ true
    → f < s.frames → (n : Node) → power_at s clocks air v f ≡ PowerOn n
    → (n.stage ≡ AwaitSlot 0) ⊎ ((rank : ℕ) → is_member rank f n.core ≡ false)
starts_frame s clocks air lawful v f known in_run n on =
    let stands = places s clocks air lawful v f known in_run n on in
    let counts = (course_on s clocks air lawful v f n known in_run on).frame in
    let place : n.stage ≡ stage_for n.core.tune f = stands.place ∙ ap (stage_for n.core.tune) counts in
    let fresh : is_fresh n.core ≡ false = ap (λ (o : Option ℕ). is_some o) stands.fresh in
    elim (starts_by f n.core.tune) [
      | inl awaits ↦ inl (place ∙ awaits)
      | inr none ↦ inr (λ rank. ap (takes_by rank f n.core.tune) fresh ∙ none rank)
    ]
