-- The window in which a scanning node received its first schedule.
use Rattle.std.proofs.Common.{◌≡◌, ℕ, ◌^◌, ◌<◌, ◌==◌, List, Some, Bool, true, false, if◌then◌else◌, inl, refl, sym, subst, arith}
use Rattle.std.proofs.lemmas.Bool.{cond_both, eqb-true}
use Rattle.lwb_base.specs.Messages.{Schedule}
use Rattle.lwb_packets.specs.declared.kind.Kind.{Kind}
use Rattle.lwb_packets.specs.declared.kind.Kind.TheVariants as Kinds
use Rattle.schedule_codec.specs.Spelling.{slot_fits}
use Rattle.glossy_relay.specs.FloodState.{FloodState, listening}
use Rattle.glossy_relay.specs.Relaying.{after_heard}
use Rattle.bus_rules.specs.declared.part.Part.{Part}
use Rattle.bus_rules.specs.declared.part.Part.TheVariants.{Opening, Closing}
use Rattle.bus_rules.specs.Plans.{last_slot}
use Rattle.bus_rules.specs.Cores.{Core}
use Rattle.lwb_member.specs.Places.{kind_for}
use Rattle.node_core.specs.Rows.{last_by, part_by}
use Rattle.node_core.specs.Standing.{IsInside, IsWindow}
use Rattle.node_core.proofs.KeptWindows.{Carries, carried}

-- an opening is in slot 0, and nothing follows a closing
first_slot : (opens other : Bool) (j last : ℕ) → (if opens then (j == 0) else other) ≡ true → j < (if opens then last else j) → j ≡ 0
first_slot true other j last fits less = eqb-true j 0 fits
first_slot false other j last fits less = omega arith

of_schedules : (x : Schedule) → Kinds.Schedule ≡ kind_for (part_by x)
of_schedules x = cond_both (x.gap == 0) Opening Closing (λ (q : Part). Kinds.Schedule ≡ kind_for q) (λ opens. refl) (λ closes. refl)

pub joined_stands : (c : Core) (x : Schedule) (p : List ℕ) (j n last z : ℕ) (part : Part) (flood : FloodState) → part ≡ part_by x → last ≡ last_by x j
    → flood ≡ after_heard (listening Kinds.Schedule j n) p → slot_fits x.gap x.plan.contend j ≡ true → z < 2 ^ 47
    → IsWindow c j (record { part = part; last = last; flood = flood; reference = Some z })
joined_stands c x p j n last z part flood part_is last_is flood_is fits early =
    let kind = of_schedules x in
    let heard : Carries Kinds.Schedule flood =
    subst (λ (f : FloodState). Carries Kinds.Schedule f) (sym flood_is) (carried Kinds.Schedule (listening Kinds.Schedule j n) p (refl, tt)) in
    let own : Carries (kind_for part) flood =
    subst (λ (q : Part). Carries (kind_for q) flood) (sym part_is) (subst (λ (k : Kind). Carries k flood) kind heard) in
    record {
      next = λ less. inl (first_slot (x.gap == 0) _ j (last_slot x.plan) fits (subst (λ (l : ℕ). j < l) last_is less));
      kind = own.0;
      carried = own.1;
      reference = early;
      inside = subst (IsInside c.plan j last) (sym part_is)
          (cond_both (x.gap == 0) Opening Closing (IsInside c.plan j last) (λ opens. tt) (λ closes. tt));
    }
