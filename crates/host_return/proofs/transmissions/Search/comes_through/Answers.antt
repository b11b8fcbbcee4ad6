use Rattle.std.proofs.Common.{◌≡◌, ◌↔◌, ℕ, List, true, refl, sym, ◌∙◌, subst}
use Rattle.lwb_base.specs.Profile.{Numbers}
use Rattle.link_trace.specs.Masks.{AreNodes}
use Rattle.link_trace.specs.Passes.{Lines}
use Rattle.radio_model.specs.Reaches.{AreSearchable, IsAmong, IsReceivedBy}
use Rattle.air_log.specs.HearsAir.{scene_of}
use Rattle.air_check.proofs.ReceiverMasks.{ids_seal, hears, is_in_mask}
use Rattle.host_return.specs.Probes.{with_probe}
use Rattle.host_return.proofs.Heard.{tuned_through, same_sent}
use Rattle.host_return.proofs.transmissions.Search.comes_through.Goals as goal

pub receivers-mask-requires-clause-nodes : goal.receivers-mask-requires-clause-nodes
receivers-mask-requires-clause-nodes c =
    let is = c.requires.searchable in
    subst AreNodes (sym c.deref.ensures.value) (ids_seal c.args.s.now c.args.self.now.nodes.items is.said is.ids)

pub receivers-mask-requires-clause-sealed : goal.receivers-mask-requires-clause-sealed
receivers-mask-requires-clause-sealed c = c.deref.ensures.value ∙ c.requires.searchable.ids ∙ sym c.trace.ensures.sealed

pub receivers-mask-requires-clause-searchable : goal.receivers-mask-requires-clause-searchable
receivers-mask-requires-clause-searchable c =
    let s = c.args.s.now in
    let t = c.args.self.now.sent in
    subst (λ (ns : List ℕ). AreSearchable c.profile.result c.trace.result.now.lines ns t) (sym c.deref.ensures.value)
    (subst (λ (l : Lines). AreSearchable c.profile.result l c.args.self.now.nodes.items t) (sym c.trace.ensures.value)
    (subst (λ (p : Numbers). AreSearchable p s.trace c.args.self.now.nodes.items t) (sym c.profile.ensures.value) c.requires.searchable.sent))

pub is_among-requires : goal.is_among-requires
is_among-requires c =
    let is = c.requires.searchable in
    subst AreNodes (sym c.deref-2.ensures.value) (ids_seal c.args.s.now c.args.self.now.nodes.items is.said is.ids)

pub returns : goal.returns
returns c =
    λ air same channel starts ends.
    let s = c.args.s.now in
    let r = c.args.r.now in
    let x = c.args.x.now in
    let nodes = c.args.self.now.nodes.items in
    let sent = c.args.self.now.sent.sent in
    let m = c.receivers-mask.result in
    let is = c.requires.searchable in
    let a = scene_of s.profile s.trace (with_probe s air r.frame r.node r.rank) in
    let mask = subst (λ (ns : List ℕ). IsReceivedBy s.profile s.trace ns sent x m) c.deref.ensures.value
    (subst (λ (l : Lines). IsReceivedBy s.profile l c.deref.result.now sent x m) c.trace.ensures.value
    (subst (λ (p : Numbers). IsReceivedBy p c.trace.result.now.lines c.deref.result.now sent x m) c.profile.ensures.value c.receivers-mask.ensures)) in
    let among = subst (λ (ns : List ℕ). (c.is_among.result ≡ true) ↔ IsAmong ns m r.node) c.deref-2.ensures.value c.is_among.ensures in
    let probed = same_sent s air r.frame r.node r.rank sent same in (
      λ so. hears s nodes is.said is.ids sent x r.node m mask c.is_among.result among a refl refl probed so
          (tuned_through s air r.frame r.node r.rank x channel starts ends),
      λ heard. is_in_mask s nodes is.said is.ids sent x r.node m mask c.is_among.result among a refl refl probed heard,
    )
