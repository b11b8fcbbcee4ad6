use Rattle.std.proofs.Common.{◌≡◌, ℕ, ◌-◌, ◌<◌, List, true, length, slice_get, ap, sym, ◌∙◌, arith}
use Rattle.std.proofs.lemmas.Bool.{and_parts, and_from, lt-ltb, leb-true, eqb-false}
use Rattle.schedule_codec.specs.OwnerLists.{are_owners, may_follow}
use Rattle.schedule_codec.proofs.Lists.{are_owners_push}
use Rattle.schedule_codec.proofs.owners.Owners.add.Goals as goal

pub invariant_of-self : goal.invariant_of-self
invariant_of-self c =
    let codes = c.self.inside.codes.items in
    let code = c.code-code.result in
    let few = leb-true (length codes) 40 (and_parts _ _ (and_parts _ _ c.self.invariant).0).0 in
    let other = eqb-false (length codes) 40 (sym c.is_full.ensures.value ∙ c.if-is_full.false) in
    let room : length codes < 40 = omega arith in
    let last : may_follow (slice_get codes (length codes - 1)) code ≡ true =
    ap (λ (l : List ℕ). may_follow (slice_get l (length l - 1)) code) (sym c.as_slice.ensures.value)
    ∙ ap (λ o. may_follow o code) (sym c.last.ensures.value) ∙ sym c.follows.ensures ∙ c.if-not-follows.false in
    ap (λ l. are_owners l) c.push.ensures.items ∙ are_owners_push codes code c.self.invariant (omega arith) (omega arith)
    (and_from _ _ (lt-ltb (length codes) 40 room) last)
