use Rattle.std.proofs.Common.{◌≡◌, ◌↔◌, ℕ, List, true, get_or, sym, ◌∙◌, subst}
use Rattle.std.proofs.lemmas.Bool.{false≢true}
use Rattle.std.proofs.lemmas.List.{get_or_default}
use Rattle.link_trace.specs.Masks.{AreNodes}
use Rattle.radio_model.specs.Hearing.{TunedThrough}
use Rattle.radio_model.specs.OnAir.{Sending}
use Rattle.radio_model.specs.Reaches.{IsAmong}
use Rattle.air_check.specs.Tunings.{AreTuned}
use Rattle.air_check.specs.declared.tunings.Tuned.{Tuned}
use Rattle.air_check.proofs.ReceiverMasks.{ids_seal, hears, is_in_mask, mask_at}
use Rattle.air_check.proofs.receives.receives.Goals as goal

pub is_among-requires : goal.is_among-requires
is_among-requires c =
    let i = c.args.index.now in
    subst AreNodes (sym c.deref.ensures.value) (ids_seal c.args.s.now i.nodes.items c.requires.searchable.said c.requires.searchable.ids)

pub returns-then-is_among : goal.returns-then-is_among
returns-then-is_among c =
    λ a d numbers lines same tuned.
    let s = c.args.s.now in
    let i = c.args.index.now in
    let is = c.requires.searchable in
    let v = c.args.node in
    let m = c.index-mask.result.now in
    let y = c.index-x.result.now in
    let at : y ≡ get_or i.sent.items c.args.place d = c.index-x.ensures ∙ get_or_default i.sent.items c.args.place y d c.requires.place in
    let through = subst (λ (x : Sending). (c.is_tuned_through.result ≡ true) ↔ TunedThrough a v x) at
    (c.is_tuned_through.ensures a (subst (λ (es : List Tuned). AreTuned a.tunings es) (sym c.deref-then-is_among.ensures.value) tuned)) in
    let among = subst (λ (ns : List ℕ). (c.is_among.result ≡ true) ↔ IsAmong ns m v) c.deref.ensures.value c.is_among.ensures in (
      λ so. hears s i.nodes.items is.said is.ids i.sent.items (get_or i.sent.items c.args.place d) v m
          (mask_at s i is c.args.place c.requires.place d m c.index-mask.ensures) c.is_among.result among a numbers lines same
          c.if-is_among.true (through.0 so),
      λ heard. through.1 heard.tuned,
    )

pub returns-else-is_among : goal.returns-else-is_among
returns-else-is_among c =
    λ a d numbers lines same tuned.
    let s = c.args.s.now in
    let i = c.args.index.now in
    let is = c.requires.searchable in
    let v = c.args.node in
    let m = c.index-mask.result.now in
    let among = subst (λ (ns : List ℕ). (c.is_among.result ≡ true) ↔ IsAmong ns m v) c.deref.ensures.value c.is_among.ensures in (
      λ so. absurd (false≢true (sym c.if-is_among.false ∙ so)),
      λ heard.
          is_in_mask s i.nodes.items is.said is.ids i.sent.items (get_or i.sent.items c.args.place d) v m
          (mask_at s i is c.args.place c.requires.place d m c.index-mask.ensures) c.is_among.result among a numbers lines same heard,
    )
