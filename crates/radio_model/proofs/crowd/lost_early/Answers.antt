use Rattle.std.proofs.Common.{◌≡◌, ◌<◌, ℕ, ◌∙◌, get_or, length, sym, subst, arith}
use Rattle.std.proofs.lemmas.List.{get_or_default}
use Rattle.std.specs.List.{list_any}
use Rattle.link_trace.specs.Masks.{IsMaskAmong}
use Rattle.radio_model.specs.Meetings.{key_of, passes_at, rivals_in, spoils}
use Rattle.radio_model.specs.declared.rivals.Key.{Key}
use Rattle.radio_model.proofs.Early.{early_comes}
use Rattle.radio_model.proofs.EndingPlaces.{alike_at}
use Rattle.link_trace.proofs.MaskBits.{set_among}
use Rattle.radio_model.proofs.Gathered.{from_one}
use Rattle.radio_model.proofs.crowd.lost_early.Goals as goal

pub returns : goal.returns
returns g c =
    let lines = g.M.Links.lines c.args.links.now in
    let nodes = g.M.Links.nodes c.args.links.now in
    let e = c.args.ending.now in
    let is = c.requires.ending in
    let p = e.profile.now in
    let x = e.x.now in
    let sts = e.stations.now in
    let k = c.from-first.result in
    let st = get_or sts k c.index-ending-first.result in
    let mk = get_or e.marks.now k c.index-ending-first-2.result in
    let below : k < length sts = omega (arith, c.if-first-ending.false) in
    let at : st ≡ get_or sts k st = get_or_default sts k c.index-ending-first.result st below in
    let placed = is.placed k c.index-ending-first.result below in
    let marked = is.marks.each k c.index-ending-first.result c.index-ending-first-2.result below in
    let alike = alike_at nodes e is k c.index-ending-first.result c.index-ending-first-2.result below in
    let crowd = early_comes p x st mk e.origin e.opens marked alike is.opens (sym c.is_aside.ensures ∙ c.if-is_aside.false)
    (sym c.comes_early.ensures ∙ c.if-not-comes_early.false) lines nodes c.args.among c.reach_of.result
    (subst (λ (n : ℕ). IsMaskAmong (λ v. passes_at lines (key_of p x) n v) nodes c.args.among c.reach_of.result) placed.there
    (subst (λ (q : Key). IsMaskAmong (λ v. passes_at lines q (get_or nodes st.place 0) v) nodes c.args.among c.reach_of.result) is.key c.reach_of.ensures)) in
    λ i one. from_one lines nodes p x sts k st (spoils lines (get_or nodes i 0)) below at
    (set_among nodes (λ v. list_any (spoils lines v) (rivals_in p x st)) c.args.among c.reach_of.result crowd.spoiled i one)
