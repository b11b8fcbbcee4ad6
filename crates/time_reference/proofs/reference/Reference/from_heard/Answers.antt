use Rattle.std.proofs.Common.{◌≡◌, ◌+◌, sym, subst, rules}
use Rattle.tick_clock.specs.Clocks.{Near}
use Rattle.time_reference.specs.Reference.{RoundTimes, heard_zero, slot_time, times_of}
use Rattle.time_reference.proofs.HeardZeros.{errs_48, errs_55}
use Rattle.time_reference.proofs.reference.Reference.from_heard.Goals as goal

pub returns-clause-within_48 : goal.returns-clause-within_48
returns-clause-within_48 c =
    let p = c.args.profile.now in
    let is : c.beginning.result ≡ times_of p (heard_zero p c.args.local_start c.args.counter c.args.length c.args.slot) = search rules in
    λ own origin heard short. subst (λ (r : RoundTimes). Near (slot_time r c.args.slot + p.listen) (own origin) 48) (sym is)
    (errs_48 p own origin c.args.local_start c.args.counter c.args.length c.args.slot c.beginning.ensures.made c.requires heard short)

pub returns-clause-within_55 : goal.returns-clause-within_55
returns-clause-within_55 c =
    let p = c.args.profile.now in
    let is : c.beginning.result ≡ times_of p (heard_zero p c.args.local_start c.args.counter c.args.length c.args.slot) = search rules in
    λ own origin heard short. subst (λ (r : RoundTimes). Near (slot_time r c.args.slot + p.listen) (own origin) 55) (sym is)
    (errs_55 p own origin c.args.local_start c.args.counter c.args.length c.args.slot c.beginning.ensures.made c.requires heard short)
