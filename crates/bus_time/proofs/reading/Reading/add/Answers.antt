use Rattle.std.proofs.Common.{◌∷◌, ◌++◌, [], refl, sym, subst}
use Rattle.air_log.specs.declared.entry.Entry.{Entry}
use Rattle.air_log.specs.declared.entry.Entry.TheVariants.{Tuned}
use Rattle.bus_time.specs.Reading.{IsRead}
use Rattle.bus_time.proofs.ReadMore.{none_read}
use Rattle.bus_time.proofs.reading.Reading.add.Goals as goal

pub returns-in-Tuned : goal.returns-in-Tuned
returns-in-Tuned c = λ air is.
    let old = c.args.self.now in
    subst (λ (e : Entry). IsRead c.args.profile.now (air ++ e ∷ []) old.present old.ahead old.beginnings.items) (sym c.in-Tuned.is)
    (none_read c.args.profile.now air (Tuned c.in-Tuned.field-0) old.present old.ahead old.beginnings.items is refl refl refl)
