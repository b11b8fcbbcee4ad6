use Rattle.std.proofs.Common.{◌≡◌, ◌-◌, ◌<◌, List, true, length, slice_get, ap, sym, ◌∙◌, arith}
use Rattle.std.proofs.lemmas.Bool.{and_parts, and_from, lt-ltb, leb-true, eqb-false}
use Rattle.lwb_base.specs.Messages.{Ask}
use Rattle.schedule_codec.specs.AckLists.{are_acks, may_follow}
use Rattle.schedule_codec.proofs.Lists.{are_acks_push}
use Rattle.schedule_codec.proofs.acks.Acks.add.Goals as goal

pub invariant_of-self : goal.invariant_of-self
invariant_of-self c =
    let acks = c.self.inside.places.items in
    let few = leb-true (length acks) 4 (and_parts _ _ c.self.invariant).0 in
    let other = eqb-false (length acks) 4 (sym c.is_full.ensures.value ∙ c.if-is_full.false) in
    let room : length acks < 4 = omega arith in
    let last : may_follow (slice_get acks (length acks - 1)) c.args.a ≡ true =
    ap (λ (l : List Ask). may_follow (slice_get l (length l - 1)) c.args.a) (sym c.as_slice.ensures.value)
    ∙ ap (λ o. may_follow o c.args.a) (sym c.last.ensures.value) ∙ sym c.follows.ensures ∙ c.if-not-follows.false in
    ap (λ l. are_acks l) c.push.ensures.items ∙ are_acks_push acks c.args.a c.self.invariant (and_from _ _ (lt-ltb (length acks) 4 room) last)
