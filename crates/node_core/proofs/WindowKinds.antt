-- The kind of packet that a window of schedules takes, and the zero that a window leaves in which nothing was accepted.
use Rattle.std.proofs.Common.{◌≡◌, ℕ, ◌==◌, Option, Some, None, refl}
use Rattle.std.proofs.lemmas.Bool.{cond_both}
use Rattle.lwb_base.specs.Messages.{Schedule}
use Rattle.lwb_base.specs.Profile.{Numbers}
use Rattle.lwb_packets.specs.declared.kind.Kind as Kind
use Rattle.bus_rules.specs.declared.part.Part.{Part}
use Rattle.bus_rules.specs.declared.part.Part.TheVariants.{Opening, Closing}
use Rattle.lwb_member.specs.Places.{kind_for}
use Rattle.node_core.specs.Rows.{part_by, zero_by}

pub schedule_kind : (y : Schedule) → Kind.TheVariants.Schedule ≡ kind_for (part_by y)
schedule_kind y = cond_both (y.gap == 0) Opening Closing (λ (p : Part). Kind.TheVariants.Schedule ≡ kind_for p) (λ is. refl) (λ is. refl)

pub zero_stays : (p : Numbers) (z : ℕ) (reference : Option ℕ) → zero_by p z reference None ≡ z
zero_stays p z None = refl
zero_stays p z (Some r) = refl
