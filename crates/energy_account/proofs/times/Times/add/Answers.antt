use Rattle.std.proofs.Common.{ℕ, ◌-◌, ◌∷◌, [], ◌++◌, refl, sym, subst}
use Rattle.air_log.specs.declared.entry.Entry.{Entry}
use Rattle.energy_account.specs.Times.{TimesState, HasTimes, IsRaised}
use Rattle.energy_account.proofs.SummedTimes.{sent_added, tuned_added, heard_added}
use Rattle.energy_account.proofs.times.Times.add.Goals as goal

pub returns-in-Sent-clause-times : goal.returns-in-Sent-clause-times
returns-in-Sent-clause-times c = λ air has.
    let x = c.in-Sent.x in
    let old : TimesState = record { sent = c.self.inside.sent.items; on = c.self.inside.on.items } in
    let new : TimesState = record { sent = c.raise.new.times.items; on = c.self.inside.on.items } in
    let raised : IsRaised x.node (x.end - x.start) old.sent new.sent = subst (λ (n : ℕ). IsRaised x.node n old.sent new.sent) c.saturating_sub.ensures
    c.raise.ensures in
    subst (λ (e : Entry). HasTimes (air ++ e ∷ []) new) (sym c.in-Sent.is)
    (sent_added air old new (subst (HasTimes air) (sym c.self.view_is) has) x raised refl)

pub returns-in-Tuned-clause-times : goal.returns-in-Tuned-clause-times
returns-in-Tuned-clause-times c = λ air has.
    let x = c.in-Tuned.t in
    let old : TimesState = record { sent = c.self.inside.sent.items; on = c.self.inside.on.items } in
    let new : TimesState = record { sent = c.self.inside.sent.items; on = c.raise-in-Tuned.new.times.items } in
    let raised : IsRaised x.node (x.end - x.start) old.on new.on = subst (λ (n : ℕ). IsRaised x.node n old.on new.on) c.saturating_sub-in-Tuned.ensures
    c.raise-in-Tuned.ensures in
    subst (λ (e : Entry). HasTimes (air ++ e ∷ []) new) (sym c.in-Tuned.is)
    (tuned_added air old new (subst (HasTimes air) (sym c.self.view_is) has) x raised refl)

pub returns-in-Heard-clause-times : goal.returns-in-Heard-clause-times
returns-in-Heard-clause-times c = λ air has.
    subst (λ (e : Entry). HasTimes (air ++ e ∷ []) c.args.self.now) (sym c.in-Heard.is)
    (heard_added air c.args.self.now c.args.self.now has c.in-Heard.field-0 refl)
