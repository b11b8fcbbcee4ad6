use Rattle.std.proofs.Common.{◌≡◌, ℕ, ◌∙◌, inl, inr, sym, ap, subst, arith}
use Rattle.std.proofs.lemmas.Bool.{cases_eq}
use Rattle.std.proofs.lemmas.Nat.Bits.{bit_at-zero}
use Rattle.std.specs.Int.{bit_at}
use Rattle.radio_model.specs.Meetings.{IsNear}
use Rattle.radio_model.proofs.Gathered.{near_more}
use Rattle.radio_model.proofs.Those.{is_none}
use Rattle.radio_model.proofs.crowd.near_of.Goals as goal

pub may_reach-from-requires : goal.may_reach-from-requires
may_reach-from-requires g c =
    c.requires.within c.lowest-place.result (c.loop-key.invariant.left c.lowest-place.result c.lowest-place.ensures.set)

pub loop-key-init : goal.loop-key-init
loop-key-init g c = record {
  near = λ i k to inside none. absurd (omega (arith, to.0, to.1));
  left = λ k one. one;
}

pub loop-key-preserved : goal.loop-key-preserved
loop-key-preserved g c =
    let place = c.lowest-place.result in
    let new = c.without-rest.result in
    record {
      near = subst (λ (n : ℕ). IsNear (g.M.Links.lines c.args.links.now) c.args.key (g.M.Links.nodes c.args.links.now)
          (λ i. (bit_at c.args.ready i ≡ 1) × (bit_at new i ≡ 0)) n)
          (sym c.or-near.ensures)
          (near_more (g.M.Links.lines c.args.links.now) c.args.key (g.M.Links.nodes c.args.links.now) c.args.ready c.loop-key.rest new place
          c.loop-key.near c.may_reach-from.result c.loop-key.invariant.near c.without-rest.ensures.others c.may_reach-from.ensures);
      left = λ j one. elim (cases_eq j place) [
        | inl here ↦ absurd (omega (arith, one, c.without-rest.ensures.cleared, ap (bit_at new) here))
        | inr other ↦ c.loop-key.invariant.left j (sym (c.without-rest.ensures.others j other) ∙ one)
      ];
    }

pub returns : goal.returns
returns g c =
    let over : c.loop-key.rest ≡ 0 = is_none c.loop-key.rest c.is_empty.result c.is_empty.ensures c.loop-key-test.false in
    λ i k one inside none. c.loop-key.invariant.near i k (one, ap (λ (n : ℕ). bit_at n i) over ∙ bit_at-zero i) inside none
