use Rattle.std.proofs.Common.{rules, ◌≡◌, true}
use Rattle.schedule_codec.specs.Reading.{is_schedule as is_schedule_of}
use Rattle.host_return.specs.Probes.{IsOfFrame}
use Rattle.host_return.proofs.transmissions.Search.brings.Goals as goal

pub returns : goal.returns
returns c =
    λ air sent.
    let s = c.args.s.now in
    let r = c.args.r.now in
    let x = c.args.x.now in
    let channel : x.rank ≡ r.rank = search rules in
    let says : is_schedule_of x.packet ≡ true = search rules in
    let starts : IsOfFrame s r.frame x.start = c.is_in_frame.ensures.0 c.if-not-is_in_frame.false in
    let ends : IsOfFrame s r.frame x.end = c.is_in_frame-2.ensures.0 c.if-not-is_in_frame-2.false in
    let both = c.comes_through.ensures air sent channel starts ends in (
      λ so. record { sent = sent.back x c.requires.there; channel = channel; says = says; starts = starts; ends = ends; hears = both.0 so },
      λ brings. both.1 brings.hears,
    )
