use Rattle.std.proofs.Common.{ℕ, Option, inl, inr, is_some, ◌∙◌, sym, ap, subst}
use Rattle.std.specs.Option.{option_and_then}
use Rattle.std.proofs.lemmas.Bool.{false≢true}
use Rattle.bus_terms.specs.Flooding.{offer}
use Rattle.plain_bus.specs.FloodMasks.{IsOffer, AllOffer}
use Rattle.bus_terms.proofs.Options.{inspect}
use Rattle.plain_bus.proofs.Picks.{nothing_picked, only_picked, named_picked, alone}
use Rattle.plain_bus.proofs.offers.picked.Goals as goal
use Rattle.plain_bus.proofs.offers.picked.Goals.{then-is_some-via-then-is_some, then-is_some-via-else-is_some+then-all_send}

pub returns-in_default : goal.returns-in_default
returns-in_default g c s m flood known are =
    sym (nothing_picked s m c.args.step c.args.at known
    (subst (IsOffer (offer s m c.args.step c.args.at)) c.in_default.is (c.first_sent.ensures (offer s m c.args.step c.args.at) are)))

pub returns-then-is_some : goal.returns-then-is_some
returns-then-is_some g c s m flood known are =
    let k = c.args.step in
    let v = c.args.at in
    let give : ℕ → Option ℕ = offer s m k v in
    let o = c.in-Some.first in
    let first = subst (IsOffer give) c.in-Some.is (c.first_sent.ensures give are) in
    sym (only_picked s m k v known first.0 o first.1 (elim c.then-is_some.branch [
      | then-is_some-via-then-is_some w ↦
          elim (inspect c.args.flood.now.lone) [
            | inl none ↦ absurd (false≢true (sym (ap (λ (l : Option ℕ). is_some l) none) ∙ sym c.is_some.ensures ∙ w.if-is_some.true))
            | inr some ↦ alone s m k v known some.0 o (λ u there. flood.lone some.0 u some.1 there) first.0 first.1
          ]
      | then-is_some-via-else-is_some+then-all_send w ↦ subst (AllOffer give o) w.if-all_send.true (w.all_send.ensures give are)
    ]))

pub returns-in_default-captured : goal.returns-in_default-captured
returns-in_default-captured g c s m flood known are =
    let k = c.args.step in
    let v = c.args.at in
    let give : ℕ → Option ℕ = offer s m k v in
    let first = subst (IsOffer give) c.in-Some.is (c.first_sent.ensures give are) in
    let other = subst (AllOffer give c.in-Some.first) c.if-all_send.false (c.all_send.ensures give are) in
    let named = flood.captures k v ∙ sym c.captured.ensures ∙ c.in_default-captured.is in
    sym (named_picked s m k v known first.0 c.in-Some.first other.0 other.1 first.1 other.2 other.3 ∙ ap (λ (u : Option ℕ). option_and_then give u) named)

pub returns : goal.returns
returns g c s m flood known are =
    let k = c.args.step in
    let v = c.args.at in
    let give : ℕ → Option ℕ = offer s m k v in
    let first = subst (IsOffer give) c.in-Some.is (c.first_sent.ensures give are) in
    let other = subst (AllOffer give c.in-Some.first) c.if-all_send.false (c.all_send.ensures give are) in
    let named = flood.captures k v ∙ sym c.captured.ensures ∙ c.in-Some-captured.is in
    c.sent_by.ensures give are
    ∙ sym (named_picked s m k v known first.0 c.in-Some.first other.0 other.1 first.1 other.2 other.3 ∙ ap (λ (u : Option ℕ). option_and_then give u) named)
