use Rattle.std.proofs.Common.{refl, sym, ◌∙◌}
use Rattle.air_log.specs.declared.entry.Entry.TheVariants.{Sent}
use Rattle.bus_time.proofs.ReadMore.{none_read, beginning_read}
use Rattle.bus_time.proofs.reading.Reading.add_sent.Goals as goal

pub returns-in_ok-push : goal.returns-in_ok-push
returns-in_ok-push c = λ air is.
    let old = c.args.self.now in
    beginning_read c.args.profile.now air (Sent c.args.sent.now) old.present old.ahead old.beginnings.items is refl refl c.in-Some.beginning
    (sym c.begun_by.ensures ∙ c.in-Some.is) c.push.new.self.items c.in_ok-push.ensures.items

pub returns-in_default : goal.returns-in_default
returns-in_default c = λ air is.
    let old = c.args.self.now in
    none_read c.args.profile.now air (Sent c.args.sent.now) old.present old.ahead old.beginnings.items is refl refl (sym c.begun_by.ensures ∙ c.in_default.is)
